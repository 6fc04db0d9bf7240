-- The meaning of a node's body, and what is read from it.
use Rattle.std.specs.Prelude.{◌≡◌, ℕ, suc, ◌-◌, Bool, true, false, cond, ◌&&◌, nat_lt, nat_le, nat_eq, List, [], ◌∷◌, length, Option, Some, None, is_some, slice_get}
use Rattle.std.specs.List.{list_all}
use Rattle.std.specs.Option.{option_map}
use Rattle.ks_keysets.specs.declared.Span.{Span}
use Rattle.ks_keysets.specs.declared.Pair.{Pair}
use Rattle.ks_keysets.specs.declared.Frame.{Frame}
use Rattle.ks_keysets.specs.declared.Kind.{Kind}
use Rattle.ks_keysets.specs.declared.Kind.TheVariants.{NoBranch, Inner, Directory}
use Rattle.ks_keysets.specs.Record.{top}
use Rattle.ks_node.specs.Keyed.{below, from, at}
use Rattle.ks_node.specs.declared.start.Start.{Start}
use Rattle.ks_node.specs.declared.start.Next.{Next}
use Rattle.ks_node.specs.declared.start.Next.TheVariants.{Here, Go}

-- what a body means: its edges by where each starts, its pairs, and its frame
pub record Body : Type 0 where
  pub starts : List Start
  pub pairs : List Pair
  pub low : ℕ
  pub kind : Kind
  pub range : Option Span
  pub level : ℕ
  pub link : Option ℕ

-- what a body holds, without what a wrapper adds
pub record Content : Type 0 where
  pub starts : List Start
  pub pairs : List Pair
  pub low : ℕ
  pub kind : Kind

abbrev pub content_of : Body → Content
content_of b = record { starts = b.starts; pairs = b.pairs; low = b.low; kind = b.kind }

-- the frame of a body
abbrev pub frame_of : Body → Frame
frame_of b = record { low = b.low; kind = b.kind; range = b.range; level = b.level; link = b.link }

-- inner nodes and directories are branches
abbrev pub is_branch_kind : Kind → Bool
is_branch_kind NoBranch = false
is_branch_kind Inner = true
is_branch_kind Directory = true

abbrev pub is_branch : Body → Bool
is_branch b = is_branch_kind b.kind

-- all places
abbrev pub all_places : Span
all_places = record { low = 0; last = top }

-- the body with no edge and no pair
abbrev pub blank_body : Bool → Body
blank_body ranged = record {
  starts = [];
  pairs = [];
  low = 0;
  kind = NoBranch;
  range = cond ranged (Some all_places) None;
  level = 0;
  link = None;
}

abbrev pub IsBlank : Body → Type 0
IsBlank b = b ≡ blank_body (is_some b.range)

-- the first and the last place of the range, or of all places
abbrev pub first_of : Option Span → ℕ
first_of None = 0
first_of (Some r) = r.low

abbrev pub last_of : Option Span → ℕ
last_of None = top
last_of (Some r) = r.last

-- whether the range holds the place
abbrev pub holds : Option Span → ℕ → Bool
holds r p = nat_le (first_of r) p && nat_le p (last_of r)

-- the parts of a list below a place, and from it on
abbrev pub pairs_below : ℕ → List Pair → List Pair
pairs_below cut = below (λ x. x.place) cut

abbrev pub pairs_from : ℕ → List Pair → List Pair
pairs_from cut = from (λ x. x.place) cut

abbrev pub starts_below : ℕ → List Start → List Start
starts_below cut = below (λ s. s.low) cut

abbrev pub starts_from : ℕ → List Start → List Start
starts_from cut = from (λ s. s.low) cut

-- the targets of the last and of the first of some edges
abbrev pub last_node : List Start → Option ℕ
last_node ss = option_map (λ s. s.node) (slice_get ss (length ss - 1))

abbrev pub first_node : List Start → Option ℕ
first_node [] = None
first_node (s ∷ ss) = Some s.node

-- the target of the last edge that starts at the place or below
abbrev pub led_to : List Start → ℕ → Option ℕ
led_to ss p = last_node (starts_below (suc p) ss)

abbrev pub go_to : Option ℕ → Next
go_to None = Here
go_to (Some m) = Go m

-- where a search for the place continues
abbrev pub next_at : Body → ℕ → Next
next_at b p = go_to (cond (holds b.range p) (led_to b.starts p) (cond (nat_lt (last_of b.range) p) b.link None))

-- the value at a place
abbrev pub value_at : List Pair → ℕ → Option ℕ
value_at ps p = option_map (λ x. x.value) (at (λ x. x.place) p ps)

-- whether an edge starts at the place
abbrev pub begins : ℕ → List Start → Bool
begins cut ss = is_some (at (λ s. s.low) cut ss)

-- the node to which all of some edges lead
abbrev pub sole : List Start → Option ℕ
sole [] = None
sole (s ∷ ss) = cond (list_all (λ t. nat_eq t.node s.node) ss) (Some s.node) None

-- the child of a branch all of whose edges lead to it
abbrev pub only_child_of : Body → Option ℕ
only_child_of b = cond (is_branch b) (sole b.starts) None

-- the target of the edge that a node has though it is no branch
abbrev pub chained_of : Body → Option ℕ
chained_of b = cond (is_branch b) None (first_node b.starts)

-- in a branch the target of the edge after the one that carries the place
abbrev pub right_child : Body → ℕ → Option ℕ
right_child b p = cond (is_branch b) (first_node (starts_from (suc p) b.starts)) None
