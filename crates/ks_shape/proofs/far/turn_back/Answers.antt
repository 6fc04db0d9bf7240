use Rattle.std.proofs.Common.{ℕ, suc, ◌∷◌, arith}
use Rattle.ks_history.specs.declared.Event.TheVariants.{Give}
use Rattle.ks_history.specs.Laws.Descent.{far_later}
use Rattle.ks_arena.specs.Clauses.{seen_of}
use Rattle.ks_shape.specs.Laws.Down.{down_far, gave_no_take}
use Rattle.ks_shape.proofs.far.turn_back.Goals as goal

pub returns-clause-far : goal.returns-clause-far
returns-clause-far g c = λ start steps all down. let n : ℕ = c.args.arena.now.nodes in let me : ℕ = c.args.pass.now.caller in let h = seen_of c.args.pass.now in let k = seen_of c.give_last.new.pass in let i : ℕ = c.args.held.node in let next = c.child_law.ensures in let gave = c.give_last.ensures.gave in
    far_later n me start h k (record { rest = Give me i ∷ gave.rest; is = gave.is }) (gave_no_take me i h k gave)
    (down_far n me start h (suc steps) 1 steps i c.args.child next.node (omega arith) all (omega arith) next.parents next.few next.is next.among next.live down)
