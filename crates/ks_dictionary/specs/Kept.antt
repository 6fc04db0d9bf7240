-- What becomes of a value that a call set, in a history of calls.
use Rattle.std.specs.Prelude.{ℕ, ◌≡◌, ◌⊎◌, List, [], ◌∷◌, ◌++◌, Option, Some}
use Rattle.ks_history.specs.declared.Op.{Op}
use Rattle.ks_history.specs.declared.Op.TheVariants.{Add, Get, Put}
use Rattle.ks_history.specs.declared.Reply.{Reply}
use Rattle.ks_history.specs.declared.Reply.TheVariants.{Nothing}
use Rattle.ks_history.specs.declared.Answered.{Answered}
use Rattle.ks_history.specs.Map.{told}
use Rattle.ks_history.specs.Write.{Write, keeps, sets, removes, moves, written}

-- the write leaves something else, or nothing, at the place
abbrev pub WritesAt : Write → ℕ → Type 0
WritesAt keeps p = ⊥
WritesAt (sets q v) p = p ≡ q
WritesAt (removes q) p = p ≡ q
WritesAt (moves q r v) p = (p ≡ q) ⊎ (p ≡ r)

-- the write leaves nothing at the place, or moves its value to another one
abbrev pub Removes : Write → ℕ → Type 0
Removes keeps p = ⊥
Removes (sets q v) p = ⊥
Removes (removes q) p = p ≡ q
Removes (moves q r v) p = p ≡ q

-- some of these calls wrote at the place
abbrev pub Changed : ℕ → List Answered → Type 0
Changed p [] = ⊥
Changed p (a ∷ more) = WritesAt (written a.op a.reply) p ⊎ Changed p more

-- some of these calls removed the value at the place, or moved it to another one
abbrev pub Removed : ℕ → List Answered → Type 0
Removed p [] = ⊥
Removed p (a ∷ more) = Removes (written a.op a.reply) p ⊎ Removed p more

abbrev pub replied : Op → Reply → Answered
replied op reply = record { op = op; reply = reply }

-- one of the calls put v at the place, a later one looked there, and this is what it found: v, or else some call between
-- the two wrote at the place
pub record FindsPut (p v : ℕ) (found : Option ℕ) (calls : List Answered) : Type 0 where
  pub before : List Answered
  pub between : List Answered
  pub after : List Answered
  pub reply : Reply
  pub is : calls ≡ before ++ replied (Put p v) reply ∷ (between ++ replied (Get p) (told found) ∷ after)
  pub kept : (found ≡ Some v) ⊎ Changed p between

-- if two adds at one place both found nothing there, some call between them removed what the first had added, or moved it
abbrev pub AddedOnce : List Answered → Type 0
AddedOnce calls =
    (p v w : ℕ) (before between after : List Answered)
    → calls ≡ before ++ replied (Add p v) Nothing ∷ (between ++ replied (Add p w) Nothing ∷ after)
    → Removed p between
