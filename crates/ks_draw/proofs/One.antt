-- A list of which the only element is replaced, and two graphs that have the same nodes.
use Rattle.std.proofs.Common.{ℕ, zero, suc, ◌<◌, ◌≡◌, List, [], ◌∷◌, length, arith, ap, sym, ◌∙◌}
use Rattle.std.specs.Prelude.{slice_index_or, slice_set}
use Rattle.ks_keysets.specs.declared.NodeState.{NodeState}
use Rattle.ks_keysets.specs.Keyset.{AreApart, live_record}

module _ {X : Type 0} where
  pub set_long : (xs : List X) (y : X) → length (slice_set xs 0 y) ≡ length xs
  set_long [] y = λ i. 0
  set_long (x ∷ xs) y = λ i. length (x ∷ xs)

  -- what holds of the one element and of the one in its place holds of each
  pub one_set : (P : X → X → Type 0) (xs : List X) (y : X) → length xs ≡ 1 → ((d : X) → P (slice_index_or xs 0 d) y)
      → (i : ℕ) (d : X) → i < length xs → P (slice_index_or xs i d) (slice_index_or (slice_set xs 0 y) i d)
  one_set P [] y one holds i d lt = absurd (omega (arith, lt))
  one_set P (x ∷ xs) y one holds zero d lt = holds d
  one_set P (x ∷ xs) y one holds (suc i) d lt = absurd (omega (arith, one, lt))

-- the edges of each node are disjoint in both, or in neither
pub apart_alike : (g h : ℕ → NodeState) → ((n : ℕ) → g n ≡ h n) → AreApart h → AreApart g
apart_alike g h same apart n r is = apart n r (sym (ap live_record (same n)) ∙ is)
