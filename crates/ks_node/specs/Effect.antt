-- What each call does to a body.
use Rattle.std.specs.Prelude.{ℕ, suc, ◌-◌, cond, nat_eq, List, [], ◌∷◌, ◌++◌, Option, Some, None, is_some, remove, position}
use Rattle.std.specs.Option.{option_map}
use Rattle.ks_keysets.specs.declared.Span.{Span}
use Rattle.ks_keysets.specs.declared.Pair.{Pair}
use Rattle.ks_keysets.specs.declared.Kind.{Kind}
use Rattle.ks_keysets.specs.declared.Kind.TheVariants.{NoBranch, Inner, Directory}
use Rattle.ks_node.specs.declared.start.Start.{Start}
use Rattle.ks_node.specs.Body.{Body, blank_body, is_branch, last_of, pairs_below, pairs_from, starts_below, starts_from}

-- the pairs with a value put at a place, and with the place deleted
abbrev pub pairs_put : ℕ → ℕ → List Pair → List Pair
pairs_put p v ps = pairs_below p ps ++ record { place = p; value = v } ∷ pairs_from (suc p) ps

abbrev pub pairs_del : ℕ → List Pair → List Pair
pairs_del p ps = pairs_below p ps ++ pairs_from (suc p) ps

-- the pairs from low to last, both included
abbrev pub pairs_within : ℕ → ℕ → List Pair → List Pair
pairs_within low last ps = pairs_from low (pairs_below (suc last) ps)

abbrev pub with_pairs : Body → List Pair → Body
with_pairs b ps = record b { pairs = ps }

abbrev pub with_starts : Body → List Start → Body
with_starts b ss = record b { starts = ss }

abbrev pub with_range : Span → Body → Body
with_range r b = record b { range = Some r }

abbrev pub with_link : Option ℕ → Body → Body
with_link m b = record b { link = m }

abbrev pub with_level : ℕ → Body → Body
with_level n b = record b { level = n }

-- a range with another end, and with another start
abbrev pub ends_at : ℕ → Option Span → Option Span
ends_at last = option_map (λ r. record { low = r.low; last = last })

abbrev pub begins_at : ℕ → Option Span → Option Span
begins_at low = option_map (λ r. record { low = low; last = r.last })

-- the first edge starts at the low instead of where it started
abbrev pub first_from : ℕ → List Start → List Start
first_from low [] = []
first_from low (s ∷ ss) = record { low = low; node = s.node } ∷ ss

-- in a directory an edge that leads to the same node as the one before it is part of that one
abbrev pub runs_after : ℕ → List Start → List Start
runs_after m [] = []
runs_after m (s ∷ ss) = cond (nat_eq s.node m) (runs_after m ss) (s ∷ runs_after s.node ss)

abbrev pub runs : List Start → List Start
runs [] = []
runs (s ∷ ss) = s ∷ runs_after s.node ss

abbrev pub settled : Kind → List Start → List Start
settled NoBranch ss = ss
settled Inner ss = ss
settled Directory ss = runs ss

-- a split at the cut leaves the left body, and makes the right one
abbrev pub split_left : ℕ → Body → Body
split_left cut b = record b {
  starts = starts_below cut b.starts;
  pairs = pairs_below cut b.pairs;
  range = ends_at (cut - 1) b.range;
}

abbrev pub split_right : ℕ → Body → Body
split_right cut b = record b {
  starts = cond (is_branch b) (first_from 0 (starts_from cut b.starts)) (starts_from cut b.starts);
  pairs = pairs_from cut b.pairs;
  low = cut;
  range = begins_at cut b.range;
}

-- the range to the end of that of the right body
abbrev pub reached : Body → Body → Body
reached b right = record b { range = ends_at (last_of right.range) b.range }

-- a branch over the left and right nodes that a grow made
abbrev pub grown : Kind → ℕ → ℕ → ℕ → Body → Body
grown kind cut left right b = record b {
  starts = settled kind (record { low = 0; node = left } ∷ record { low = cut; node = right } ∷ []);
  pairs = [];
  kind = kind;
}

-- an edge from the cut on: in a branch to the end of the edge that carries the cut, else the only one
abbrev pub adopted : ℕ → ℕ → Body → Body
adopted cut id b = with_starts b (cond (is_branch b) (settled b.kind (starts_below cut b.starts ++ record { low = cut; node = id } ∷ starts_from cut b.starts)) (record { low = cut; node = id } ∷ []))

-- what the right body holds after the node's own; the seam of two branches is the low of the right one
abbrev pub absorbed : Body → Body → Body
absorbed b right = record b {
  starts = cond (is_branch b) (b.starts ++ first_from right.low right.starts) right.starts;
  pairs = b.pairs ++ right.pairs;
  range = ends_at (last_of right.range) b.range;
}

-- the edges without the first that leads to the node
abbrev pub without_at : Option ℕ → List Start → List Start
without_at None ss = ss
without_at (Some i) ss = remove ss i

abbrev pub without : ℕ → List Start → List Start
without id ss = without_at (position (λ s. nat_eq s.node id) ss) ss

abbrev pub forgot : ℕ → Body → Body
forgot id b = with_starts b (settled b.kind (without id b.starts))

-- all that the child has, in the node's own range
abbrev pub collapsed : Body → Body → Body
collapsed b child = record child { range = b.range }

-- the blank body that is left when all was moved out of one
abbrev pub emptied : Body → Body
emptied b = blank_body (is_some b.range)
