use Rattle.std.proofs.Common.{◌≡◌, ℕ, List, subst}
use Rattle.std.specs.Prelude.{Option, Some, None}
use Rattle.ks_history.specs.declared.Event.{Event}
use Rattle.ks_node.specs.Body.{Body}
use Rattle.ks_arena.specs.declared.held.Held.{Held as Hand}
use Rattle.ks_arena.specs.Clauses.{seen_of, Matches}
use Rattle.ks_arena.specs.Sound.{Sort, sort_of}
use Rattle.ks_shape.specs.OnPath.{IsUnder}
use Rattle.ks_shape.proofs.path.let_go.Goals as goal

parent_matches : {N : Type 0} (sort : Sort) (shows : N → Body) (place : ℕ) (x : Hand N) (h : List Event) (o : Option (Hand N)) → IsUnder sort shows place x h o → (y : Hand N) → o ≡ Some y → Matches sort shows h y
parent_matches sort shows place x h None under y e = absurd (let q : ⊥ = cc in q)
parent_matches sort shows place x h (Some z) under y e = let same : z ≡ y = cc in subst (Matches sort shows h) same under.matches

pub keep_alone-requires-clause-other : goal.keep_alone-requires-clause-other
keep_alone-requires-clause-other g c = λ y e. parent_matches (sort_of g.N.Node.layout g.N.Node.ranged) g.N.Node.body c.args.place c.args.path.node (seen_of c.args.pass.now) c.args.path.parent c.requires.path.under y e

pub keep_alone-requires-clause-node : goal.keep_alone-requires-clause-node
keep_alone-requires-clause-node g c = (c.requires.path.live, c.requires.path.matches)
