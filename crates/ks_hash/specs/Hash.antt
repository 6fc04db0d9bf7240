-- What the parts of a hash node mean.
use Rattle.std.specs.Prelude.{◌≡◌, ℕ, suc, ◌+◌, ◌-◌, ◌*◌, ◌/◌, ◌%◌, ◌^◌, ◌≤◌, Bool, true, false, not, cond, ◌&&◌, ◌||◌, nat_eq, nat_le, nat_lt, IsTrue, List, [], ◌∷◌, length, Option, Some, None, slice_get, slice_index_or}
use Rattle.std.specs.Option.{option_map}
use Rattle.std.specs.List.{list_all}
use Rattle.ks_keysets.specs.declared.Pair.{Pair}
use Rattle.ks_keysets.specs.declared.Span.{Span}
use Rattle.ks_keysets.specs.declared.Kind.{Kind}
use Rattle.ks_keysets.specs.declared.Kind.TheVariants.{NoBranch, Directory}
use Rattle.ks_keysets.specs.Record.{top}
use Rattle.ks_node.specs.declared.start.Start.{Start}
use Rattle.ks_node.specs.Body.{Body, Content, begins, is_branch_kind, starts_below, starts_from}
use Rattle.ks_node.specs.Sound.{Sound}
use Rattle.ks_hash.specs.Slices.{is_size, smallest, starts_of}

-- a directory is a branch, a bucket is none
abbrev pub kind_of : Bool → Kind
kind_of false = NoBranch
kind_of true = Directory

-- a bucket may have an edge of its own
abbrev pub own_starts : Option Start → List Start
own_starts None = []
own_starts (Some s) = s ∷ []

abbrev pub hash_starts : Bool → Option Start → List ℕ → List Start
hash_starts is_directory own slices = cond is_directory (starts_of slices) (own_starts own)

abbrev pub hash_content : ℕ → Bool → List Pair → Option Start → List ℕ → Content
hash_content low is_directory pairs own slices = record {
  starts = hash_starts is_directory own slices;
  pairs = pairs;
  low = low;
  kind = kind_of is_directory;
}

-- the meaning of a node with this low, these pairs, this own edge and these slices
abbrev pub hash_body : ℕ → Bool → List Pair → Option Start → List ℕ → Body
hash_body low is_directory pairs own slices = record {
  starts = hash_starts is_directory own slices;
  pairs = pairs;
  low = low;
  kind = kind_of is_directory;
  range = None;
  level = 0;
  link = None;
}

-- an edge can be added where none starts, to a directory where a smallest slice begins
abbrev pub hash_can_adopt : Content → ℕ → Bool
hash_can_adopt c cut = not (begins cut c.starts) && (not (is_branch_kind c.kind) || nat_eq (cut % smallest) 0)

-- the middle of all places
abbrev pub middle : ℕ
middle = 2 ^ 63

-- a bucket grows if its own edge does not start at the middle or below
abbrev pub hash_grows : Content → Bool
hash_grows c = is_branch_kind c.kind || list_all (λ s. nat_lt middle s.low) c.starts

abbrev pub hash_can_grow : Content → ℕ → Bool
hash_can_grow c cut = nat_eq cut middle

-- how many smallest slices a span has places for, and whether it is two or more whole ones
abbrev pub slices_in : Span → ℕ
slices_in span = (suc span.last - span.low) / smallest

abbrev pub is_whole : Span → Bool
is_whole span = nat_eq (span.low % smallest) 0 && (nat_eq (suc span.last % smallest) 0 && nat_le 2 (slices_in span))

-- where the slice in the middle of a span begins
abbrev pub middle_of : Span → ℕ
middle_of span = (span.low / smallest + slices_in span / 2) * smallest

-- the place of the fifth pair
abbrev pub fifth : List Pair → ℕ
fifth pairs = (slice_index_or pairs 4 (record { place = 0; value = 0 })).place

-- a bucket with a span of whole smallest slices, whose own edge does not start at the middle one or below, is cut there; else four pairs stay
abbrev pub hash_cut : Content → Option Span → ℕ
hash_cut c None = fifth c.pairs
hash_cut c (Some span) = cond (is_whole span && list_all (λ s. nat_lt (middle_of span) s.low) c.starts) (middle_of span) (fifth c.pairs)

-- from the last start at or below the place to just below the first above it
abbrev pub last_before : List Start → ℕ
last_before [] = top
last_before (s ∷ ss) = s.low - 1

abbrev pub run_span : List Start → ℕ → Option Span
run_span ss p = option_map (λ s. record { low = s.low; last = last_before (starts_from (suc p) ss) }) (slice_get (starts_below (suc p) ss) (length (starts_below (suc p) ss) - 1))

-- the middle of a span if an own edge does not start there or below, else the other place
abbrev pub cut_above : Span → Option Start → ℕ → ℕ
cut_above span own other = cond (is_whole span && list_all (λ s. nat_lt (middle_of span) s.low) (own_starts own)) (middle_of span) other

-- the run of slices of the place's child in a directory
abbrev pub hash_span : Content → ℕ → Option Span
hash_span c p = cond (is_branch_kind c.kind) (run_span c.starts p) None

-- the order, the shape and the room of a node
pub record Fit (low : ℕ) (is_directory : Bool) (pairs : List Pair) (own : Option Start) (slices : List ℕ) : Type 0 where
  pub sound : Sound (hash_content low is_directory pairs own slices)
  pub size : is_directory ≡ true → IsTrue (is_size (length slices))
  pub pairs_fit : length pairs ≤ 8
