-- The edges of a body that is in order, one by one: none is cut away.
use Rattle.std.specs.Prelude.{ℕ, ◌-◌, ◌<◌, ◌≤◌, Bool, cond, List, [], ◌∷◌, max, All, drop}
use Rattle.ks_keysets.specs.declared.Span.{Span}
use Rattle.ks_keysets.specs.declared.Edge.{Edge}
use Rattle.ks_node.specs.declared.start.Start.{Start}
use Rattle.ks_node.specs.Keyed.{Ascends}

-- the edges as they are if the cut to the places from the first to the last leaves each of them
abbrev pub plain_edges : ℕ → ℕ → List Start → List Edge
plain_edges first last [] = []
plain_edges first last (s ∷ []) = record { span = record { low = max first s.low; last = last }; node = s.node } ∷ []
plain_edges first last (s ∷ t ∷ ts) = record { span = record { low = max first s.low; last = t.low - 1 }; node = s.node } ∷ plain_edges first last (t ∷ ts)

-- the starts ascend, none is above the last place, and all but the first are above the first place
pub record AreWithin (first last : ℕ) (ss : List Start) : Type 0 where
  pub ordered : first ≤ last
  pub ascend : Ascends (λ s. s.low) ss
  pub upto : All (λ s. s.low ≤ last) ss
  pub above : All (λ s. first < s.low) (drop 1 ss)

-- an edge with another range: it begins in it, and the last edge runs to its end
abbrev pub cut_one : Span → Bool → Edge → Edge
cut_one r is_last e = record { span = record { low = max r.low e.span.low; last = cond is_last r.last e.span.last }; node = e.node }
