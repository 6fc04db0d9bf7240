-- What a low, an edge of its own and a block of pairs mean as the body of a list node.
use Rattle.std.specs.Prelude.{◌≡◌, ℕ, ◌≤◌, Bool, not, List, [], ◌∷◌, map, length, Option, None, Some, slice_index_or}
use Rattle.ks_keysets.specs.declared.Span.{Span}
use Rattle.ks_keysets.specs.declared.Pair.{Pair}
use Rattle.ks_keysets.specs.declared.Kind.TheVariants.{NoBranch}
use Rattle.ks_node.specs.declared.start.Start.{Start}
use Rattle.ks_node.specs.Body.{Body, Content, begins}
use Rattle.ks_node.specs.Sound.{Sound}

-- a pair of a block, and all of them
abbrev pub pair_of : ℕ × ℕ → Pair
pair_of x = record { place = x.0; value = x.1 }

abbrev pub pairs_of : List (ℕ × ℕ) → List Pair
pairs_of xs = map pair_of xs

-- the edge of its own that a list node may have
abbrev pub starts_of : Option Start → List Start
starts_of None = []
starts_of (Some s) = s ∷ []

abbrev pub list_content : ℕ → Option Start → List (ℕ × ℕ) → Content
list_content low own pairs = record { starts = starts_of own; pairs = pairs_of pairs; low = low; kind = NoBranch }

abbrev pub list_body : ℕ → Option Start → List (ℕ × ℕ) → Body
list_body low own pairs = record {
  starts = starts_of own;
  pairs = pairs_of pairs;
  low = low;
  kind = NoBranch;
  range = None;
  level = 0;
  link = None;
}

-- any cut but the one at which its own edge starts can be adopted
abbrev pub list_can_adopt : Content → ℕ → Bool
list_can_adopt c cut = not (begins cut c.starts)

-- the place of the fifth pair
abbrev pub list_cut : Content → Option Span → ℕ
list_cut c span = (slice_index_or c.pairs 4 (record { place = 0; value = 0 })).place

-- the order of a list node, and its room
pub record Fit (low : ℕ) (own : Option Start) (pairs : List (ℕ × ℕ)) (room : ℕ) : Type 0 where
  pub sound : Sound (list_content low own pairs)
  pub held : length pairs ≤ 8
  pub room_is : room ≡ 8
