-- What the two lists of a wide node mean, whose leaves are full with L pairs, and its branches with F children.
use Rattle.std.specs.Prelude.{◌≡◌, ℕ, ◌/◌, ◌-◌, ◌^◌, ◌<◌, ◌≤◌, Bool, true, false, not, cond, ◌&&◌, nat_lt, List, length, Option, None, slice_index_or, [], ◌∷◌, ◌++◌}
use Rattle.ks_keysets.specs.declared.Pair.{Pair}
use Rattle.ks_keysets.specs.declared.Span.{Span}
use Rattle.ks_keysets.specs.declared.Kind.{Kind}
use Rattle.ks_keysets.specs.declared.Kind.TheVariants.{NoBranch, Inner}
use Rattle.ks_node.specs.declared.start.Start.{Start}
use Rattle.ks_node.specs.Body.{Body, Content, begins, is_branch_kind, starts_below, starts_from}
use Rattle.ks_node.specs.Sound.{Sound}

-- an inner node is a branch, a leaf is none
abbrev pub kind_of : Bool → Kind
kind_of false = NoBranch
kind_of true = Inner

abbrev pub wide_content : ℕ → Bool → List Pair → List Start → Content
wide_content low is_inner pairs starts = record { starts = starts; pairs = pairs; low = low; kind = kind_of is_inner }

-- the meaning of a node with this low, these pairs and these children
abbrev pub wide_body : ℕ → Bool → List Pair → List Start → Body
wide_body low is_inner pairs starts = record {
  starts = starts;
  pairs = pairs;
  low = low;
  kind = kind_of is_inner;
  range = None;
  level = 0;
  link = None;
}

-- a leaf adopts nothing; a branch has room for another child
abbrev pub wide_can_adopt : ℕ → Content → ℕ → Bool
wide_can_adopt F c cut = is_branch_kind c.kind && (not (begins cut c.starts) && nat_lt (length c.starts) F)

-- the start of the child, or the place of the pair, at the middle
abbrev pub wide_cut : ℕ → ℕ → Content → Option Span → ℕ
wide_cut L F c span = cond (is_branch_kind c.kind) (slice_index_or c.starts (F / 2) (record { low = 0; node = 0 })).low (slice_index_or c.pairs (L / 2) (record { place = 0; value = 0 })).place

-- two children, and a child that begins at a place among others
abbrev pub two_children : ℕ → ℕ → ℕ → List Start
two_children left cut right = record { low = 0; node = left } ∷ record { low = cut; node = right } ∷ []

abbrev pub with_child : ℕ → ℕ → List Start → List Start
with_child low node ss = starts_below low ss ++ record { low = low; node = node } ∷ starts_from low ss

-- the order, the shape and the room of a node
pub record Fit (L F low : ℕ) (is_inner : Bool) (pairs : List Pair) (starts : List Start) : Type 0 where
  pub sound : Sound (wide_content low is_inner pairs starts)
  pub leaf : is_inner ≡ false → length starts ≡ 0
  pub pairs_fit : length pairs ≤ L
  pub starts_fit : length starts ≤ F
  pub two_pairs : 2 ≤ L
  pub four_children : 4 ≤ F
  pub few_pairs : L < 2 ^ 32
  pub few_children : F < 2 ^ 32 - 1
