-- What the two lists of a node of a binary search tree mean.
use Rattle.std.specs.Prelude.{◌≡◌, ℕ, ◌≤◌, Bool, true, false, List, length, Option, None, slice_index_or, [], ◌∷◌}
use Rattle.ks_keysets.specs.declared.Pair.{Pair}
use Rattle.ks_keysets.specs.declared.Span.{Span}
use Rattle.ks_keysets.specs.declared.Kind.{Kind}
use Rattle.ks_keysets.specs.declared.Kind.TheVariants.{NoBranch, Inner}
use Rattle.ks_node.specs.declared.start.Start.{Start}
use Rattle.ks_node.specs.Body.{Body, Content}
use Rattle.ks_node.specs.Sound.{Sound}

-- an inner node is a branch, a leaf is none
abbrev pub kind_of : Bool → Kind
kind_of false = NoBranch
kind_of true = Inner

abbrev pub bst_content : ℕ → Bool → List Pair → List Start → Content
bst_content low is_inner pairs starts = record { starts = starts; pairs = pairs; low = low; kind = kind_of is_inner }

-- the meaning of a node with this low, these pairs and these children
abbrev pub bst_body : ℕ → Bool → List Pair → List Start → Body
bst_body low is_inner pairs starts = record {
  starts = starts;
  pairs = pairs;
  low = low;
  kind = kind_of is_inner;
  range = None;
  level = 0;
  link = None;
}

-- no node adopts
abbrev pub bst_can_adopt : Content → ℕ → Bool
bst_can_adopt c cut = false

-- the place of the second pair
abbrev pub bst_cut : Content → Option Span → ℕ
bst_cut c span = (slice_index_or c.pairs 1 (record { place = 0; value = 0 })).place

-- two children, the right one from the cut on, and one child
abbrev pub two_children : ℕ → ℕ → ℕ → List Start
two_children left cut right = record { low = 0; node = left } ∷ record { low = cut; node = right } ∷ []

abbrev pub one_child : ℕ → List Start
one_child child = record { low = 0; node = child } ∷ []

-- the order, the shape and the room of a node
pub record Fit (low : ℕ) (is_inner : Bool) (pairs : List Pair) (starts : List Start) : Type 0 where
  pub sound : Sound (bst_content low is_inner pairs starts)
  pub leaf : is_inner ≡ false → length starts ≡ 0
  pub pairs_fit : length pairs ≤ 2
