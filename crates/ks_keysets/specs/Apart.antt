-- Disjoint edges of one record.
use Rattle.std.specs.Prelude.{ℕ, List, AllPairs}
use Rattle.ks_keysets.specs.declared.Edge.{Edge}
use Rattle.ks_keysets.specs.Record.{Carries}

-- no place is carried by both edges
abbrev pub AreTwoApart : Edge → Edge → Type 0
AreTwoApart e f = (p : ℕ) → Carries e p → Carries f p → ⊥

-- nor by any two of the list
abbrev pub AreEdgesApart : List Edge → Type 0
AreEdgesApart edges = AllPairs AreTwoApart edges
