-- What callers have seen of a trace that grows.
use Rattle.std.specs.Prelude.{ℕ, ◌≡◌, ◌≢◌, ◌⊎◌, List, [], ◌∷◌, ◌++◌, Some, None}
use Rattle.ks_history.specs.declared.Event.{Event}
use Rattle.ks_history.specs.Callers.{NoneBy}
use Rattle.ks_history.specs.Trace.{caller_of, call_in}

-- c is one of the numbers
abbrev pub Has : List ℕ → ℕ → Type 0
Has [] c = ⊥
Has (x ∷ xs) c = (x ≡ c) ⊎ Has xs c

-- no event of these callers
abbrev pub NoneOf : List ℕ → List Event → Type 0
NoneOf cs [] = Unit {0}
NoneOf cs (e ∷ es) = (¬ Has cs (caller_of e)) × NoneOf cs es

-- no call of caller c
abbrev pub NoCallBy : ℕ → List Event → Type 0
NoCallBy c [] = Unit {0}
NoCallBy c (e ∷ es) = elim (call_in e) [ None ↦ NoCallBy c es | Some call ↦ (call.caller ≢ c) × NoCallBy c es ]

-- the trace h continues what c had seen by events of others only: so it is with what the pass of c has seen at any moment,
-- and with what it had seen before a look and has seen after it
pub record GrowsByOthers (c : ℕ) (seen h : List Event) : Type 0 where
  pub rest : List Event
  pub is : h ≡ rest ++ seen
  pub others : NoneBy c rest

-- the trace h continues what c had seen by events of others, and then by this one event
pub record GrowsWith (c : ℕ) (e : Event) (seen h : List Event) : Type 0 where
  pub rest : List Event
  pub is : h ≡ e ∷ (rest ++ seen)
  pub others : NoneBy c rest
