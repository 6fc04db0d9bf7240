-- Stretches in which a caller takes no node and makes no Shape.
use Rattle.std.specs.Prelude.{ℕ, ◌≡◌, List, [], ◌∷◌}
use Rattle.ks_history.specs.declared.Event.{Event}
use Rattle.ks_history.specs.Refusals.{takes_by}
use Rattle.ks_history.specs.Laws.Far.{IsNoShape}
use Rattle.ks_history.specs.Trace.{◌⊑◌, caller_of}
use Rattle.ks_arena.specs.declared.held.Pass.{Pass}
use Rattle.ks_arena.specs.Clauses.{seen_of}

-- no event of c among these is a Shape
abbrev pub NoShapeBy : ℕ → List Event → Type 0
NoShapeBy c [] = Unit {0}
NoShapeBy c (e ∷ es) = (caller_of e ≡ c → IsNoShape e) × NoShapeBy c es

-- k continues h, and c takes no node and makes no Shape between
pub record IsQuiet (c : ℕ) (h k : List Event) : Type 0 where
  pub grows : h ⊑ k
  pub takes : takes_by c grows.rest ≡ []
  pub shapes : NoShapeBy c grows.rest

module _ {N D : Type 0} where
  -- the caller takes no node and makes no Shape from p to q
  abbrev pub KeepsQuiet : Pass N D → Pass N D → Type 0
  KeepsQuiet p q = IsQuiet p.caller (seen_of p) (seen_of q)
