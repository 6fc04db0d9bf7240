-- What the calls require, and what a cut must be.
use Rattle.std.specs.Prelude.{◌≡◌, ℕ, suc, ◌<◌, ◌≤◌, Bool, false, IsTrue, List, All, Any, Option, length, max, drop}
use Rattle.std.specs.Option.{ForSome}
use Rattle.ks_keysets.specs.declared.Span.{Span}
use Rattle.ks_keysets.specs.declared.Kind.TheVariants.{NoBranch, Inner}
use Rattle.ks_keysets.specs.Layout.{Layout}
use Rattle.ks_keysets.specs.Record.{Carries, top}
use Rattle.ks_node.specs.declared.start.Start.{Start}
use Rattle.ks_node.specs.Body.{Body, Content, content_of, is_branch, begins, first_of, last_of}
use Rattle.ks_node.specs.Room.{is_full}
use Rattle.ks_node.specs.Effect.{split_left, split_right}
use Rattle.ks_node.specs.Edges.{edges_from}

-- the place is above the low and not above the range
abbrev pub IsCut : Body → ℕ → Type 0
IsCut b cut = (b.low < cut) × ForSome b.range (λ r. cut ≤ r.last)

-- the place is below the edge of its own that a node may have
abbrev pub IsBelowOwn : Body → ℕ → Type 0
IsBelowOwn b p = All (λ s. p < s.low) b.starts

-- a split requires that an inner node's cut starts an edge, and that an edge of another node's own starts at the cut or above
abbrev pub CanSplitAt : Body → ℕ → Type 0
CanSplitAt b cut = IsCut b cut × (b.kind ≡ Inner → IsTrue (begins cut b.starts)) × (b.kind ≡ NoBranch → All (λ s. cut ≤ s.low) b.starts)

-- a span that begins at the low of a body and holds its pairs and the starts of its edges, except the first; if the body has
-- a range, it is that
pub record Suits (b : Body) (span : Span) : Type 0 where
  pub begins_low : span.low ≡ b.low
  pub pairs : All (λ x. (span.low ≤ x.place) × (x.place ≤ span.last)) b.pairs
  pub starts : All (λ s. (span.low ≤ s.low) × (s.low ≤ span.last)) (drop 1 b.starts)
  pub is_range : ForSome b.range (λ r. r ≡ span)

-- no span is passed, or this one
abbrev pub IsNoneOr : Option Span → Span → Type 0
IsNoneOr o span = ForSome o (λ r. r ≡ span)

-- the cut is in the span, and the body may be split there
pub record IsGoodCut (b : Body) (span : Span) (cut : ℕ) : Type 0 where
  pub above : span.low < cut
  pub within : cut ≤ span.last
  pub splits : CanSplitAt b cut

-- the span is that of an edge that carries the place, with no regard to a range
abbrev pub IsSpanOf : List Start → ℕ → Span → Type 0
IsSpanOf ss p span = Any (λ e. Carries e p × (e.span ≡ span)) (edges_from 0 top ss)

-- the range of one ends just below that of the other
abbrev pub AreNext : Body → Body → Type 0
AreNext b right = ForSome b.range (λ r. ForSome right.range (λ q. suc r.last ≡ q.low))

-- what `absorb` requires beside that the two fit
pub record Absorbs (b right : Body) : Type 0 where
  pub lows : b.low ≤ right.low
  pub above_pairs : All (λ x. x.place < right.low) b.pairs
  pub above_edges : IsTrue (is_branch b) → All (λ s. max (first_of b.range) s.low < right.low) b.starts
  pub right_pairs : All (λ x. right.low ≤ x.place) right.pairs
  pub right_own : is_branch right ≡ false → All (λ s. right.low ≤ s.low) right.starts
  pub right_edges : IsTrue (is_branch right) → All (λ s. right.low < s.low) (drop 1 right.starts)
  pub ends : last_of b.range ≤ last_of right.range

-- a branch that is not full adopts each cut in its range at which no edge starts
abbrev pub AdoptsInside : (Content → ℕ → Bool) → Layout → Body → Type 0
AdoptsInside can layout b = (cut : ℕ) → IsTrue (is_branch b) → is_full layout b ≡ false → IsCut b cut → begins cut b.starts ≡ false → IsTrue (can (content_of b) cut)

-- only branches have edges, and one that is not full adopts each cut in its range at which no edge starts
pub record BranchesAdopt (can : Content → ℕ → Bool) (layout : Layout) (b : Body) : Type 0 where
  pub bare : is_branch b ≡ false → length b.starts ≡ 0
  pub inside : AdoptsInside can layout b

-- the body grows, and has no edge if it is no branch
pub record GrowsBare (grows : Content → Bool) (b : Body) : Type 0 where
  pub can : IsTrue (grows (content_of b))
  pub bare : is_branch b ≡ false → length b.starts ≡ 0

-- a full body can adopt its cut, if that is a good one
abbrev pub AdoptsItsCut : (Content → ℕ → Bool) → (Content → Option Span → ℕ) → Layout → Body → Type 0
AdoptsItsCut can cut_at layout b =
    (span : Span) (o : Option Span) → IsTrue (is_full layout b) → Suits b span → IsNoneOr o span → IsGoodCut b span (cut_at (content_of b) o) →
    IsTrue (can (content_of b) (cut_at (content_of b) o))

-- neither half of a split at the cut is full
abbrev pub HalvesHaveRoom : Layout → ℕ → Body → Type 0
HalvesHaveRoom layout cut b = (is_full layout (split_left cut b) ≡ false) × (is_full layout (split_right cut b) ≡ false)
