use Rattle.std.proofs.Common.{◌∙◌, ℕ, suc, true, refl, sym, subst, inr, arith, ◌≡◌, false}
use Rattle.ks_history.specs.Due.{NoneFree}
use Rattle.ks_node.specs.Body.{Body}
use Rattle.ks_node.specs.Laws.Spans.{length_edges}
use Rattle.ks_node.specs.Laws.Ways.{next_leads}
use Rattle.ks_arena.specs.Clauses.{seen_of}
use Rattle.ks_shape.specs.Stretches.{Stretches}
use Rattle.ks_shape.specs.Laws.Stretches.{stretches_as, stretches_both}
use Rattle.ks_put.specs.Deeper.{IsDownPath}
use Rattle.ks_put.specs.Parts.{GrowAll}
use Rattle.ks_put.specs.Tries.{StepOrCause}
use Rattle.ks_put.proofs.Going.{on_was}
use Rattle.ks_put.proofs.Trying.{refused_not, refused_now, eased_down, nearer_down, no_leaf}
use Rattle.ks_arena.specs.Sound.{sort_of}
use Rattle.ks_shape.specs.Laws.Does.{fills_search, searched_fills}
use Rattle.ks_put.proofs.try_room.try_go_on.Goals as goal

pub returns-in-Split-clause-down : goal.returns-in-Split-clause-down
returns-in-Split-clause-down g c = λ start down. c.in-Split.ensures.down start (suc c.args.depth) 2 c.args.depth down

pub returns-in-Refused-clause-refused : goal.returns-in-Refused-clause-refused
returns-in-Refused-clause-refused g c = let me : ℕ = c.args.pass.now.caller in let n : ℕ = c.args.arena.now.nodes in let h = seen_of c.args.pass.now in let h₁ = seen_of c.split.new.pass in let h₂ = seen_of c.try_down-in-Refused.new.pass in
    let on : Stretches me h₁ h₂ = stretches_as me c.split.new.pass.caller h₁ h₂ c.split.ensures.caller c.try_down-in-Refused.ensures.stretch in
    refused_now (NoneFree g.N.Node.layout n me c.args.place h h₂) c.try_down-in-Refused.result (on_was g.N.Node.layout n c.args.place me me h h₁ h₂ refl on c.in-Refused.ensures.part.2)

pub returns-in-Refused-clause-down : goal.returns-in-Refused-clause-down
returns-in-Refused-clause-down g c = λ start down. let n : ℕ = c.args.arena.now.nodes in let h₁ = seen_of c.split.new.pass in let h₂ = seen_of c.try_down-in-Refused.new.pass in let e = c.split.ensures.caller in let depth : ℕ = c.args.depth in
    subst (λ (z : ℕ). StepOrCause n z c.args.place start h₂ c.try_down-in-Refused.result) e
    (c.try_down-in-Refused.ensures.down start (subst (λ (z : ℕ). IsDownPath n z start h₁ (suc depth) 2 depth c.in-Refused.whole) (sym e) (c.in-Refused.ensures.down start (suc depth) 2 depth down)))

pub returns-in-Refused-clause-stretch : goal.returns-in-Refused-clause-stretch
returns-in-Refused-clause-stretch g c = let me : ℕ = c.args.pass.now.caller in let h = seen_of c.args.pass.now in let h₁ = seen_of c.split.new.pass in let h₂ = seen_of c.try_down-in-Refused.new.pass in
    stretches_both me h h₁ h₂ c.split.ensures.stretch (stretches_as me c.split.new.pass.caller h₁ h₂ c.split.ensures.caller c.try_down-in-Refused.ensures.stretch)

pub returns-in-Shut-clause-down : goal.returns-in-Shut-clause-down
returns-in-Shut-clause-down g c = λ start down. let n : ℕ = c.args.arena.now.nodes in let h₁ = seen_of c.split.new.pass in let h₂ = seen_of c.try_down-in-Shut.new.pass in let e = c.split.ensures.caller in let depth : ℕ = c.args.depth in
    subst (λ (z : ℕ). StepOrCause n z c.args.place start h₂ c.try_down-in-Shut.result) e
    (c.try_down-in-Shut.ensures.down start (subst (λ (z : ℕ). IsDownPath n z start h₁ (suc depth) 2 depth c.in-Shut.whole) (sym e) (c.in-Shut.ensures.down start (suc depth) 2 depth down)))

pub returns-in-Shut-clause-stretch : goal.returns-in-Shut-clause-stretch
returns-in-Shut-clause-stretch g c = let me : ℕ = c.args.pass.now.caller in let h = seen_of c.args.pass.now in let h₁ = seen_of c.split.new.pass in let h₂ = seen_of c.try_down-in-Shut.new.pass in
    stretches_both me h h₁ h₂ c.split.ensures.stretch (stretches_as me c.split.new.pass.caller h₁ h₂ c.split.ensures.caller c.try_down-in-Shut.ensures.stretch)

-- the other facts, from what the step down ensures

pub returns-then-not-is_branch-clause-refused : goal.returns-then-not-is_branch-clause-refused
returns-then-not-is_branch-clause-refused g c = refused_not c.args.path.node c.args.depth (NoneFree g.N.Node.layout c.args.arena.now.nodes c.args.pass.now.caller c.args.place (seen_of c.args.pass.now) (seen_of c.try_down.new.pass)) c.try_down.result c.try_down.ensures.went

pub returns-then-not-is_branch-clause-eased : goal.returns-then-not-is_branch-clause-eased
returns-then-not-is_branch-clause-eased g c = λ eased. let b : Body = g.N.Node.body c.args.path.node.body in
    eased_down g.N.Node.layout g.N.Node.body c.args.path.node c.args.depth false (GrowAll g.N.Node.grows_at g.N.Node.body g.N.Node.branches_adopt g.N.Node.halves_have_room) c.try_down.result c.try_down.ensures.went
    (λ r grow. absurd (no_leaf b c.args.place c.args.child (next_leads b c.args.place c.args.child c.node_law.ensures.sound (omega (arith, c.ranges.place)) c.requires.goes)
    (length_edges b c.node_law.ensures.sound c.node_law.ensures.framed (c.unlinked_law.ensures.no_link c.args.path.node.body))
    ((c.unlinked_law.ensures.adopting grow.1 c.args.path.node.body).bare (sym c.is_branch.ensures ∙ c.if-not-is_branch.true))))

pub returns-then-not-is_branch-clause-nearer : goal.returns-then-not-is_branch-clause-nearer
returns-then-not-is_branch-clause-nearer g c = nearer_down g.N.Node.layout g.N.Node.body c.args.place c.args.path.node c.args.depth false c.args.path c.try_down.result c.try_down.ensures.went

pub returns-then-not-is_full-clause-refused : goal.returns-then-not-is_full-clause-refused
returns-then-not-is_full-clause-refused g c = refused_not c.args.path.node c.args.depth (NoneFree g.N.Node.layout c.args.arena.now.nodes c.args.pass.now.caller c.args.place (seen_of c.args.pass.now) (seen_of c.try_down-then-not-is_full.new.pass)) c.try_down-then-not-is_full.result c.try_down-then-not-is_full.ensures.went

pub returns-then-not-is_full-clause-eased : goal.returns-then-not-is_full-clause-eased
returns-then-not-is_full-clause-eased g c = λ eased. eased_down g.N.Node.layout g.N.Node.body c.args.path.node c.args.depth false (GrowAll g.N.Node.grows_at g.N.Node.body g.N.Node.branches_adopt g.N.Node.halves_have_room) c.try_down-then-not-is_full.result c.try_down-then-not-is_full.ensures.went
    (λ r grow. sym c.is_full.ensures ∙ c.if-not-is_full.true)

pub returns-then-not-is_full-clause-nearer : goal.returns-then-not-is_full-clause-nearer
returns-then-not-is_full-clause-nearer g c = nearer_down g.N.Node.layout g.N.Node.body c.args.place c.args.path.node c.args.depth false c.args.path c.try_down-then-not-is_full.result c.try_down-then-not-is_full.ensures.went

pub returns-in-Split-clause-eased : goal.returns-in-Split-clause-eased
returns-in-Split-clause-eased g c = λ eased r grow full. absurd (let q : true ≡ false = sym full ∙ c.in-Split.ensures.halves grow.2 in let z : ⊥ = cc in z)

pub returns-in-Split-clause-nearer : goal.returns-in-Split-clause-nearer
returns-in-Split-clause-nearer g c = inr (refl, c.in-Split.ensures.narrows)

pub returns-in-Refused-clause-eased : goal.returns-in-Refused-clause-eased
returns-in-Refused-clause-eased g c = λ eased. eased_down g.N.Node.layout g.N.Node.body c.in-Refused.whole.node c.args.depth true (GrowAll g.N.Node.grows_at g.N.Node.body g.N.Node.branches_adopt g.N.Node.halves_have_room) c.try_down-in-Refused.result c.try_down-in-Refused.ensures.went
    (λ r grow. absurd (let z : ⊥ = cc in z))

pub returns-in-Refused-clause-nearer : goal.returns-in-Refused-clause-nearer
returns-in-Refused-clause-nearer g c = nearer_down g.N.Node.layout g.N.Node.body c.args.place c.in-Refused.whole.node c.args.depth true c.args.path c.try_down-in-Refused.result c.try_down-in-Refused.ensures.went

pub returns-in-Shut-clause-refused : goal.returns-in-Shut-clause-refused
returns-in-Shut-clause-refused g c = refused_not c.in-Shut.whole.node c.args.depth (NoneFree g.N.Node.layout c.args.arena.now.nodes c.args.pass.now.caller c.args.place (seen_of c.args.pass.now) (seen_of c.try_down-in-Shut.new.pass)) c.try_down-in-Shut.result c.try_down-in-Shut.ensures.went

pub returns-in-Shut-clause-eased : goal.returns-in-Shut-clause-eased
returns-in-Shut-clause-eased g c = λ eased. eased_down g.N.Node.layout g.N.Node.body c.in-Shut.whole.node c.args.depth false (GrowAll g.N.Node.grows_at g.N.Node.body g.N.Node.branches_adopt g.N.Node.halves_have_room) c.try_down-in-Shut.result c.try_down-in-Shut.ensures.went
    (λ r grow. absurd (c.in-Shut.ensures.open (λ branch. grow) (λ all. eased all (sym c.is_full.ensures ∙ c.if-not-is_full.false)) tt))

pub returns-in-Shut-clause-nearer : goal.returns-in-Shut-clause-nearer
returns-in-Shut-clause-nearer g c = nearer_down g.N.Node.layout g.N.Node.body c.args.place c.in-Shut.whole.node c.args.depth false c.args.path c.try_down-in-Shut.result c.try_down-in-Shut.ensures.went

-- the kinds of its events

pub returns-then-not-is_branch-clause-fills : goal.returns-then-not-is_branch-clause-fills
returns-then-not-is_branch-clause-fills g c = searched_fills (sort_of g.N.Node.layout g.N.Node.ranged) c.args.place c.args.pass.now.caller (seen_of c.args.pass.now) (seen_of c.try_down.new.pass) c.try_down.ensures.leaves

pub returns-then-not-is_full-clause-fills : goal.returns-then-not-is_full-clause-fills
returns-then-not-is_full-clause-fills g c = searched_fills (sort_of g.N.Node.layout g.N.Node.ranged) c.args.place c.args.pass.now.caller (seen_of c.args.pass.now) (seen_of c.try_down-then-not-is_full.new.pass) c.try_down-then-not-is_full.ensures.leaves

pub returns-in-Split-clause-fills : goal.returns-in-Split-clause-fills
returns-in-Split-clause-fills g c = c.split.ensures.fills (sym c.is_full.ensures ∙ c.if-not-is_full.false, λ leaf. absurd (let q : true ≡ false = sym (sym c.is_branch.ensures ∙ c.if-not-is_branch.false) ∙ leaf in let z : ⊥ = cc in z))

pub returns-in-Refused-clause-fills : goal.returns-in-Refused-clause-fills
returns-in-Refused-clause-fills g c = fills_search (sort_of g.N.Node.layout g.N.Node.ranged) c.args.place c.args.pass.now.caller c.split.new.pass.caller (seen_of c.args.pass.now) (seen_of c.split.new.pass) (seen_of c.try_down-in-Refused.new.pass) c.split.ensures.caller (c.split.ensures.fills (sym c.is_full.ensures ∙ c.if-not-is_full.false, λ leaf. absurd (let q : true ≡ false = sym (sym c.is_branch.ensures ∙ c.if-not-is_branch.false) ∙ leaf in let z : ⊥ = cc in z))) c.try_down-in-Refused.ensures.leaves

pub returns-in-Shut-clause-fills : goal.returns-in-Shut-clause-fills
returns-in-Shut-clause-fills g c = fills_search (sort_of g.N.Node.layout g.N.Node.ranged) c.args.place c.args.pass.now.caller c.split.new.pass.caller (seen_of c.args.pass.now) (seen_of c.split.new.pass) (seen_of c.try_down-in-Shut.new.pass) c.split.ensures.caller (c.split.ensures.fills (sym c.is_full.ensures ∙ c.if-not-is_full.false, λ leaf. absurd (let q : true ≡ false = sym (sym c.is_branch.ensures ∙ c.if-not-is_branch.false) ∙ leaf in let z : ⊥ = cc in z))) c.try_down-in-Shut.ensures.leaves
