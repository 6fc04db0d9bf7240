-- A set of places as spans.
use Rattle.std.specs.Prelude.{ℕ, ◌<◌, ◌≤◌, ◌+◌, ◌↔◌, List, Any, All, AllPairs, [], ◌∷◌, ◌++◌, Bool, if◌then◌else◌}
use Rattle.ks_keysets.specs.declared.Span.{Span}
use Rattle.ks_keysets.specs.declared.Edge.{Edge}
use Rattle.ks_keysets.specs.declared.Record.{Record}
use Rattle.ks_keysets.specs.Record.{IsPlace, Holds, Carries}

-- the spans hold the places at which P holds, and no others. They ascend, and no two are adjacent
pub record AreSpansOf (spans : List Span) (P : ℕ → Type 0) : Type 0 where
  pub exact : (p : ℕ) → IsPlace p → Any (λ s. Holds s p) spans ↔ P p
  pub filled : All (λ s. s.low ≤ s.last) spans
  pub separate : AllPairs (λ s t. s.last + 1 < t.low) spans

-- the edge carries both places or neither
pub record CarriesAlike (e : Edge) (p q : ℕ) : Type 0 where
  pub forth : Carries e p → Carries e q
  pub back : Carries e q → Carries e p

-- so does each edge of the record
abbrev pub AllCarryAlike : Record → ℕ → ℕ → Type 0
AllCarryAlike r p q = All (λ e. CarriesAlike e p q) r.edges

-- the spans, with one from low to last if it is inside
abbrev pub with_run : List Span → Bool → ℕ → ℕ → List Span
with_run spans inside low last = if inside then spans ++ record { low = low; last = last } ∷ [] else spans
