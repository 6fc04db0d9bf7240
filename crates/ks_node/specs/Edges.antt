-- The record of a body: its edges as spans, and its pairs.
use Rattle.std.specs.Prelude.{ℕ, suc, ◌-◌, cond, nat_le, List, [], ◌∷◌, ◌++◌, Option, Some, None, max, min}
use Rattle.ks_keysets.specs.declared.Edge.{Edge}
use Rattle.ks_keysets.specs.declared.Record.{Record}
use Rattle.ks_keysets.specs.Record.{top}
use Rattle.ks_node.specs.declared.start.Start.{Start}
use Rattle.ks_node.specs.Body.{Body, first_of, last_of}

-- one more edge before others, if its span is not empty
abbrev pub add_edge : ℕ → ℕ → ℕ → List Edge → List Edge
add_edge low last node es = cond (nat_le low last) (record { span = record { low = low; last = last }; node = node } ∷ es) es

-- each edge runs from its start to the next one, the last to the last place; all are cut to the places from the first to
-- the last, and an edge that the cut makes empty is left out
abbrev pub edges_from : ℕ → ℕ → List Start → List Edge
edges_from first last [] = []
edges_from first last (s ∷ []) = add_edge (max first s.low) last s.node []
edges_from first last (s ∷ t ∷ ts) = add_edge (max first s.low) (min last (t.low - 1)) s.node (edges_from first last (t ∷ ts))

-- the edge of a link carries all places above the range
abbrev pub link_edge : ℕ → Option ℕ → List Edge
link_edge last None = []
link_edge last (Some m) = record { span = record { low = suc last; last = top }; node = m } ∷ []

abbrev pub edges_of : Body → List Edge
edges_of b = edges_from (first_of b.range) (last_of b.range) b.starts ++ link_edge (last_of b.range) b.link

abbrev pub record_of : Body → Record
record_of b = record { edges = edges_of b; pairs = b.pairs }
