-- Places, records and what a record holds at a place.
use Rattle.std.specs.Prelude.{ℕ, ◌≡◌, ◌≤◌, ◌==◌, List, [], ◌∷◌, Option, Some, None, Any, if◌then◌else◌}
use Rattle.ks_keysets.specs.declared.Span.{Span}
use Rattle.ks_keysets.specs.declared.Edge.{Edge}
use Rattle.ks_keysets.specs.declared.Pair.{Pair}
use Rattle.ks_keysets.specs.declared.Record.{Record}

-- the last place
abbrev pub top : ℕ
top = 18446744073709551615

-- places are the numbers from 0 to top
abbrev pub IsPlace : ℕ → Type 0
IsPlace p = p ≤ top

-- the span holds the place
abbrev pub Holds : Span → ℕ → Type 0
Holds span p = (span.low ≤ p) × (p ≤ span.last)

-- the edge carries the place
abbrev pub Carries : Edge → ℕ → Type 0
Carries edge p = Holds edge.span p

-- the value of the first of the pairs with this place
abbrev pub first_value : List Pair → ℕ → Option ℕ
first_value [] p = None
first_value (x ∷ xs) p = if x.place == p then Some x.value else first_value xs p

-- an edge of the record that leads to this node carries the place
abbrev pub LeadsTo : Record → ℕ → ℕ → Type 0
LeadsTo r p node = Any (λ e. Carries e p × (e.node ≡ node)) r.edges

-- an edge of the record carries the place
abbrev pub LeadsOn : Record → ℕ → Type 0
LeadsOn r p = Any (λ e. Carries e p) r.edges
