use Rattle.std.proofs.Common.{ℕ, refl, ◌≡◌, ◌∙◌, true, false, sym, arith}
use Rattle.std.specs.Prelude.{Some}
use Rattle.ks_node.specs.Body.{Body}
use Rattle.ks_node.specs.Laws.Spans.{length_edges}
use Rattle.ks_node.specs.Laws.Ways.{next_leads}
use Rattle.ks_arena.specs.Clauses.{seen_of}
use Rattle.ks_shape.specs.Stretches.{Stretches}
use Rattle.ks_shape.specs.Laws.Stretches.{stretches_as, stretches_both}
use Rattle.ks_put.proofs.Going.{on_was}
use Rattle.ks_put.proofs.Trying.{no_leaf, room_above}
use Rattle.ks_arena.specs.Sound.{sort_of}
use Rattle.ks_shape.specs.Laws.Does.{fills_search, searched_fills}
use Rattle.ks_put.proofs.room.go_on.Goals as goal

pub returns-in-Refused-clause-stretch : goal.returns-in-Refused-clause-stretch
returns-in-Refused-clause-stretch g c = let me : ℕ = c.args.pass.now.caller in let h = seen_of c.args.pass.now in let h₁ = seen_of c.split.new.pass in let h₂ = seen_of c.down-in-Refused.new.pass in
    stretches_both me h h₁ h₂ c.split.ensures.stretch (stretches_as me c.split.new.pass.caller h₁ h₂ c.split.ensures.caller c.down-in-Refused.ensures.stretch)

pub returns-in-Refused-clause-refused : goal.returns-in-Refused-clause-refused
returns-in-Refused-clause-refused g c = λ t. let me : ℕ = c.args.pass.now.caller in let h = seen_of c.args.pass.now in let h₁ = seen_of c.split.new.pass in let h₂ = seen_of c.down-in-Refused.new.pass in
    let on : Stretches me h₁ h₂ = stretches_as me c.split.new.pass.caller h₁ h₂ c.split.ensures.caller c.down-in-Refused.ensures.stretch in
    on_was g.N.Node.layout c.args.arena.now.nodes c.args.place me me h h₁ h₂ refl on c.in-Refused.ensures.part.2

pub returns-in-Shut-clause-stretch : goal.returns-in-Shut-clause-stretch
returns-in-Shut-clause-stretch g c = let me : ℕ = c.args.pass.now.caller in let h = seen_of c.args.pass.now in let h₁ = seen_of c.split.new.pass in let h₂ = seen_of c.down-in-Shut.new.pass in
    stretches_both me h h₁ h₂ c.split.ensures.stretch (stretches_as me c.split.new.pass.caller h₁ h₂ c.split.ensures.caller c.down-in-Shut.ensures.stretch)

-- the kinds of its events

pub returns-then-not-is_branch-clause-fills : goal.returns-then-not-is_branch-clause-fills
returns-then-not-is_branch-clause-fills g c = searched_fills (sort_of g.N.Node.layout g.N.Node.ranged) c.args.place c.args.pass.now.caller (seen_of c.args.pass.now) (seen_of c.down.new.pass) c.down.ensures.leaves

pub returns-then-not-is_full-clause-fills : goal.returns-then-not-is_full-clause-fills
returns-then-not-is_full-clause-fills g c = searched_fills (sort_of g.N.Node.layout g.N.Node.ranged) c.args.place c.args.pass.now.caller (seen_of c.args.pass.now) (seen_of c.down-then-not-is_full.new.pass) c.down-then-not-is_full.ensures.leaves

pub returns-in-Split-clause-fills : goal.returns-in-Split-clause-fills
returns-in-Split-clause-fills g c = c.split.ensures.fills (sym c.is_full.ensures ∙ c.if-not-is_full.false, λ leaf. absurd (let q : true ≡ false = sym (sym c.is_branch.ensures ∙ c.if-not-is_branch.false) ∙ leaf in let z : ⊥ = cc in z))

pub returns-in-Refused-clause-fills : goal.returns-in-Refused-clause-fills
returns-in-Refused-clause-fills g c = fills_search (sort_of g.N.Node.layout g.N.Node.ranged) c.args.place c.args.pass.now.caller c.split.new.pass.caller (seen_of c.args.pass.now) (seen_of c.split.new.pass) (seen_of c.down-in-Refused.new.pass) c.split.ensures.caller (c.split.ensures.fills (sym c.is_full.ensures ∙ c.if-not-is_full.false, λ leaf. absurd (let q : true ≡ false = sym (sym c.is_branch.ensures ∙ c.if-not-is_branch.false) ∙ leaf in let z : ⊥ = cc in z))) c.down-in-Refused.ensures.leaves

pub returns-in-Shut-clause-fills : goal.returns-in-Shut-clause-fills
returns-in-Shut-clause-fills g c = fills_search (sort_of g.N.Node.layout g.N.Node.ranged) c.args.place c.args.pass.now.caller c.split.new.pass.caller (seen_of c.args.pass.now) (seen_of c.split.new.pass) (seen_of c.down-in-Shut.new.pass) c.split.ensures.caller (c.split.ensures.fills (sym c.is_full.ensures ∙ c.if-not-is_full.false, λ leaf. absurd (let q : true ≡ false = sym (sym c.is_branch.ensures ∙ c.if-not-is_branch.false) ∙ leaf in let z : ⊥ = cc in z))) c.down-in-Shut.ensures.leaves

-- the parent of the node has room, if all nodes grow and no claim was refused

pub returns-then-not-is_branch-clause-eased : goal.returns-then-not-is_branch-clause-eased
returns-then-not-is_branch-clause-eased g c = λ none eased grow. let b : Body = g.N.Node.body c.args.path.node.body in
    absurd (no_leaf b c.args.place c.args.child (next_leads b c.args.place c.args.child c.node_law.ensures.sound (omega (arith, c.ranges.place)) c.requires.goes)
    (length_edges b c.node_law.ensures.sound c.node_law.ensures.framed (c.unlinked_law.ensures.no_link c.args.path.node.body))
    ((c.unlinked_law.ensures.adopting grow.1 c.args.path.node.body).bare (sym c.is_branch.ensures ∙ c.if-not-is_branch.true)))

pub returns-then-not-is_full-clause-eased : goal.returns-then-not-is_full-clause-eased
returns-then-not-is_full-clause-eased g c = λ none eased grow full. room_above g.N.Node.layout g.N.Node.body c.down-then-not-is_full.result.parent (Some c.args.path.node) c.down-then-not-is_full.ensures.above (sym c.is_full.ensures ∙ c.if-not-is_full.true)

pub returns-in-Split-clause-eased : goal.returns-in-Split-clause-eased
returns-in-Split-clause-eased g c = λ none eased grow full. absurd (let q : true ≡ false = sym full ∙ c.in-Split.ensures.halves grow.2 in let z : ⊥ = cc in z)

pub returns-in-Refused-clause-eased : goal.returns-in-Refused-clause-eased
returns-in-Refused-clause-eased g c = λ none eased grow. absurd (let z : ⊥ = cc in z)

pub returns-in-Shut-clause-eased : goal.returns-in-Shut-clause-eased
returns-in-Shut-clause-eased g c = λ none eased grow. absurd (c.in-Shut.ensures.open (λ branch. grow) (λ all. eased all (sym c.is_full.ensures ∙ c.if-not-is_full.false)) tt)
