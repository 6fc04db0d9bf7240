-- Where the places of a node go that is merged with another.
use Rattle.std.specs.Prelude.{ℕ}
use Rattle.ks_keysets.specs.declared.NodeState.{NodeState}
use Rattle.ks_keysets.specs.Keyset.{InInset, InKeyset}

-- node m has after k each place that node n had after g: in its inset, and in its keyset
pub record HasPlacesOf (g k : ℕ → NodeState) (n m : ℕ) : Type 0 where
  pub inset : (p : ℕ) → InInset g n p → InInset k m p
  pub keyset : (p : ℕ) → InKeyset g n p → InKeyset k m p
