-- Histories of calls: the map after them, and which are legal.
use Rattle.std.specs.Prelude.{ℕ, ◌≡◌, ◌<◌, ◌≤◌, ◌⊎◌, List, fold, take, slice_get, Option, Some, None, All, AllPairs}
use Rattle.ks_keysets.specs.declared.Pair.{Pair}
use Rattle.ks_keysets.specs.Record.{first_value}
use Rattle.ks_history.specs.declared.Op.{Op}
use Rattle.ks_history.specs.declared.Op.TheVariants.{Get, Put, Del, Add, Swap, Part, Move}
use Rattle.ks_history.specs.declared.Reply.{Reply}
use Rattle.ks_history.specs.declared.Reply.TheVariants.{Nothing, Value, Full, Listed, Kept}
use Rattle.ks_history.specs.declared.Answered.{Answered}
use Rattle.ks_history.specs.Write.{Map, written, map_with}

-- the reply for what was there
abbrev pub told : Option ℕ → Reply
told None = Nothing
told (Some v) = Value v

-- the reply of a move, for what was at the place from which it moves and at the one to which it moves: nothing to move, the
-- value that it moved, or that both have a value, which it leaves there
abbrev pub moved : Option ℕ → Option ℕ → Reply
moved None there = Nothing
moved (Some v) None = Value v
moved (Some v) (Some w) = Kept

-- the pairs are those that the map has from low to last, in order of place
pub record ListsSpan (m : Map) (low last : ℕ) (pairs : List Pair) : Type 0 where
  pub ascend : AllPairs (λ x y. x.place < y.place) pairs
  pub within : All (λ x. (low ≤ x.place) × (x.place ≤ last)) pairs
  pub exact : (p : ℕ) → low ≤ p → p ≤ last → first_value pairs p ≡ m p

-- the reply is what the map has at the places of the operation, or, only for a Put, an Add or a Move, Full
abbrev pub IsAnswer : Map → Op → Reply → Type 0
IsAnswer m (Get p) reply = reply ≡ told (m p)
IsAnswer m (Put p v) reply = (reply ≡ told (m p)) ⊎ (reply ≡ Full)
IsAnswer m (Del p) reply = reply ≡ told (m p)
IsAnswer m (Add p v) reply = (reply ≡ told (m p)) ⊎ (reply ≡ Full)
IsAnswer m (Swap p old new) reply = reply ≡ told (m p)
IsAnswer m (Part low last) reply = (pairs : List Pair) × (reply ≡ Listed pairs) × ListsSpan m low last pairs
IsAnswer m (Move from to) reply = (reply ≡ moved (m from) (m to)) ⊎ (reply ≡ Full)

-- p is a place of the operation
abbrev pub Touches : Op → ℕ → Type 0
Touches (Get k) p = p ≡ k
Touches (Put k v) p = p ≡ k
Touches (Del k) p = p ≡ k
Touches (Add k v) p = p ≡ k
Touches (Swap k old new) p = p ≡ k
Touches (Part low last) p = (low ≤ p) × (p ≤ last)
Touches (Move from to) p = (p ≡ from) ⊎ (p ≡ to)

-- the map after a call
abbrev pub map_then : Map → Answered → Map
map_then m a = map_with m (written a.op a.reply)

-- the map that these calls leave, from the empty one on
abbrev pub map_after : List Answered → Map
map_after calls = fold map_then (λ _. None) calls

-- each reply is that of the map after the calls before it
abbrev pub Legal : List Answered → Type 0
Legal calls = (k : ℕ) (a : Answered) → slice_get calls k ≡ Some a → IsAnswer (map_after (take k calls)) a.op a.reply
