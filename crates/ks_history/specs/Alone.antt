-- While no other caller acts: if no other holds a node at first, none does later, and no refusal of the caller is due.
use Rattle.std.proofs.Common.{◌≡◌, ℕ, List, [], ◌∷◌, ◌++◌}
use Rattle.ks_history.specs.declared.Event.{Event}
use Rattle.ks_history.specs.Trace.{caller_of, held, turn_after}

-- each event is of caller c
abbrev pub AllBy : ℕ → List Event → Type 0
AllBy c [] = Unit {0}
AllBy c (e ∷ es) = (caller_of e ≡ c) × AllBy c es

-- the trace k continues h by events of c only: between the two no other caller acts
pub record ActsAlone (c : ℕ) (h k : List Event) : Type 0 where
  pub rest : List Event
  pub is : k ≡ rest ++ h
  pub own : AllBy c rest

-- no other caller holds a node after h
abbrev pub HoldsAlone : ℕ → List Event → Type 0
HoldsAlone c h = (d i : ℕ) → turn_after h i ≡ held d → d ≡ c
