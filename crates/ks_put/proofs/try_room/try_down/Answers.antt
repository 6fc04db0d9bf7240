use Rattle.std.proofs.Common.{◌≡◌, ◌+◌, ◌≤◌, ℕ, suc, List, ◌∷◌, sym, subst, arith}
use Rattle.std.specs.Prelude.{Option}
use Rattle.ks_history.specs.declared.Event.{Event}
use Rattle.ks_history.specs.declared.Event.TheVariants.{Give, Take}
use Rattle.ks_history.specs.Done.{coupling}
use Rattle.ks_history.specs.Passes.{GrowsWith}
use Rattle.ks_history.specs.Laws.Descent.{far_later}
use Rattle.ks_arena.specs.declared.held.Held.{Held as Hand}
use Rattle.ks_arena.specs.Sound.{sort_of}
use Rattle.ks_arena.specs.Clauses.{seen_of}
use Rattle.ks_shape.specs.Laws.Stretches.{stretches_as, stretches_both}
use Rattle.ks_shape.specs.Down.{IsDown}
use Rattle.ks_shape.specs.Laws.Down.{down_far, down_take, gave_no_take}
use Rattle.ks_shape.specs.Descents.{IsCauseAt}
use Rattle.ks_put.specs.Deeper.{IsDownPath, StandsDown}
use Rattle.ks_put.proofs.Deepening.{down_quiet, path_down, quiet_gave}
use Rattle.ks_shape.specs.Does.{MaySearch}
use Rattle.ks_shape.specs.Laws.Does.{does_on}
use Rattle.ks_put.proofs.try_room.try_down.Given.{Over}
use Rattle.ks_put.proofs.try_room.try_down.Goals as goal
use Rattle.ks_put.proofs.try_room.try_down.Goals.{After-let_go-held}

-- the node that is kept is as many steps down as the path was
stands : (g : Over) (c : After-let_go-held g) (start : List Event) → IsDownPath c.args.arena.now.nodes c.args.pass.now.caller start (seen_of c.args.pass.now) (suc c.args.depth) 2 c.args.depth c.args.path → IsDown c.args.arena.now.nodes c.args.pass.now.caller start (seen_of c.let_go-held.new.pass) (suc c.args.depth) 2 c.args.depth c.let_go-held.result.node
stands g c start down = let sort = sort_of g.N.Node.layout g.N.Node.ranged in let slots : ℕ = c.args.arena.now.table.shared.table_id.slots in let n : ℕ = c.args.arena.now.nodes in let me : ℕ = c.args.pass.now.caller in let h = seen_of c.args.pass.now in let k = seen_of c.let_go-held.new.pass in let e = c.let_go-held.ensures in let law = c.search_law.ensures sort slots in let depth : ℕ = c.args.depth in
    subst (λ (x : Hand g.row.N.Denot). IsDown n me start k (suc depth) 2 depth x.node) (sym e.node)
    (down_quiet n me start h k (suc depth) 2 depth c.args.path.node.node (quiet_gave me c.args.path.parent h k e.gave) (law.turns k e.pass.sound)
    (path_down sort g.N.Node.body slots me law n c.args.place start h (suc depth) 2 depth c.args.path.node c.args.path.parent c.requires.path.under down))

pub returns-then-depth-nodes-clause-down : goal.returns-then-depth-nodes-clause-down
returns-then-depth-nodes-clause-down g c = λ start down op touched. let at = (goal.at.returns-then-depth-nodes-clause-down g c).After-let_go-held in let n : ℕ = c.args.arena.now.nodes in let me : ℕ = c.args.pass.now.caller in let h₁ = seen_of c.let_go-held.new.pass in let k = seen_of c.give_last.new.pass in let i : ℕ = c.let_go-held.result.node in let depth : ℕ = c.args.depth in let next = c.child_law.ensures in
    let gave : GrowsWith me (Give me i) h₁ k = subst (λ (z : ℕ). GrowsWith z (Give z i) h₁ k) c.let_go-held.ensures.caller c.give_last.ensures.gave in
    let all : n ≤ suc depth = omega (arith, c.if-depth-nodes.true) in (
      tt,
      far_later n me start h₁ k (record { rest = Give me i ∷ gave.rest; is = gave.is }) (gave_no_take me i h₁ k gave)
          (down_far n me start h₁ (suc depth) 2 depth i c.args.child next.node (omega arith) all (omega arith) next.parents next.few next.is next.among next.live (stands g at start down)),
    )

pub returns-in-Ok-clause-down : goal.returns-in-Ok-clause-down
returns-in-Ok-clause-down g c = λ start down. let at = (goal.at.returns-in-Ok-clause-down g c).After-let_go-held in let slots : ℕ = c.args.arena.now.table.shared.table_id.slots in let n : ℕ = c.args.arena.now.nodes in let me : ℕ = c.args.pass.now.caller in let h₁ = seen_of c.let_go-held.new.pass in let k = seen_of c.try_step_down.new.pass in let e = c.let_go-held.ensures.caller in let o = c.in-Ok.ensures in let j : ℕ = c.args.child in let x = c.let_go-held.result in let depth : ℕ = c.args.depth in let more : suc depth ≡ depth + 1 = omega arith in
    let took : GrowsWith me (Take me j) h₁ k = subst (λ (z : ℕ). GrowsWith z (Take z j) h₁ k) e o.took.1 in
    let law = c.search_law.ensures (sort_of g.N.Node.layout g.N.Node.ranged) slots in
    let below : IsDown n me start k (suc (suc depth)) 2 depth x.node = down_take n me start h₁ k (suc depth) 2 depth x.node j c.child_law.ensures.below took (law.turns k c.try_step_down.ensures.pass.sound) (stands g at start down) in
    subst (λ (z : ℕ). IsDownPath n me start k (suc z) 2 z c.in-Ok.path) more
    (subst (λ (y : Option (Hand g.row.N.Denot)). StandsDown n me start k (suc (suc depth)) 2 (suc depth) c.in-Ok.path.node y) (sym o.parent) (depth, omega arith, below))

pub returns-in-Ok-clause-stretch : goal.returns-in-Ok-clause-stretch
returns-in-Ok-clause-stretch g c = let me : ℕ = c.args.pass.now.caller in let h = seen_of c.args.pass.now in let h₁ = seen_of c.let_go-held.new.pass in let h₂ = seen_of c.try_step_down.new.pass in
    stretches_both me h h₁ h₂ c.let_go-held.ensures.stretch (stretches_as me c.let_go-held.new.pass.caller h₁ h₂ c.let_go-held.ensures.caller c.try_step_down.ensures.stretch)

pub returns-in-Err-clause-down : goal.returns-in-Err-clause-down
returns-in-Err-clause-down g c = λ start down. let at = (goal.at.returns-in-Err-clause-down g c).After-let_go-held in let n : ℕ = c.args.arena.now.nodes in let k = seen_of c.try_step_down.new.pass in
    subst (λ (z : ℕ). IsCauseAt coupling n z c.args.place start k c.in-Err.later) c.let_go-held.ensures.caller (c.in-Err.ensures.busy start (stands g at start down).took.grows)

pub returns-in-Err-clause-stretch : goal.returns-in-Err-clause-stretch
returns-in-Err-clause-stretch g c = let me : ℕ = c.args.pass.now.caller in let h = seen_of c.args.pass.now in let h₁ = seen_of c.let_go-held.new.pass in let h₂ = seen_of c.try_step_down.new.pass in
    stretches_both me h h₁ h₂ c.let_go-held.ensures.stretch (stretches_as me c.let_go-held.new.pass.caller h₁ h₂ c.let_go-held.ensures.caller c.try_step_down.ensures.stretch)

pub returns-then-depth-nodes-clause-leaves : goal.returns-then-depth-nodes-clause-leaves
returns-then-depth-nodes-clause-leaves g c = does_on MaySearch c.args.pass.now.caller c.let_go-held.new.pass.caller (seen_of c.args.pass.now) (seen_of c.let_go-held.new.pass) (seen_of c.give_last.new.pass) (c.let_go-held.ensures.caller) c.let_go-held.ensures.leaves c.give_last.ensures.leaves

pub returns-in-Ok-clause-leaves : goal.returns-in-Ok-clause-leaves
returns-in-Ok-clause-leaves g c = does_on MaySearch c.args.pass.now.caller c.let_go-held.new.pass.caller (seen_of c.args.pass.now) (seen_of c.let_go-held.new.pass) (seen_of c.try_step_down.new.pass) (c.let_go-held.ensures.caller) c.let_go-held.ensures.leaves c.try_step_down.ensures.leaves

pub returns-in-Err-clause-leaves : goal.returns-in-Err-clause-leaves
returns-in-Err-clause-leaves g c = does_on MaySearch c.args.pass.now.caller c.let_go-held.new.pass.caller (seen_of c.args.pass.now) (seen_of c.let_go-held.new.pass) (seen_of c.try_step_down.new.pass) (c.let_go-held.ensures.caller) c.let_go-held.ensures.leaves c.try_step_down.ensures.leaves
