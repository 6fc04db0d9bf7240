-- Rooms for the scans of a script, reserved from its last line to its first.
use Rattle.std.proofs.Common.{◌≡◌, ℕ, suc, ◌<◌, ◌≤◌, ◌-◌, List, [], ◌∷◌, ◌++◌, length, take, drop, get_or, sym, refl, ap, subst, ◌∙◌, true, false, arith, length-append, drop-cons}
use Rattle.std.specs.Prelude.{All}
use Rattle.std.proofs.lemmas.List.Elements.{All-head, All-tail}
use Rattle.ks_lines.specs.declared.Line.{Line}
use Rattle.ks_lines.specs.declared.Line.TheVariants.{Call, Scan}
use Rattle.ks_lines.specs.Lines.{IsServedLine}
use Rattle.ks_jobs.specs.Rooms.{HaveRooms, IsReserved, IsRoomFor, Room}

last_is : {X : Type 0} (xs : List X) (y d : X) → get_or (xs ++ y ∷ []) (length xs) d ≡ y
last_is [] y d = refl
last_is (x ∷ xs) y d = last_is xs y d

one_less : {X : Type 0} (xs : List X) (y : X) → length (xs ++ y ∷ []) - 1 ≡ length xs
one_less xs y = let e = length-append xs (y ∷ []) in omega arith

take_all : {X : Type 0} (xs : List X) (y : X) → take (length xs) (xs ++ y ∷ []) ≡ xs
take_all [] y = refl
take_all (x ∷ xs) y = ap (λ l. x ∷ l) (take_all xs y)

-- the rooms of the lines, and one for a line before them
one_more : (x : Line) (xs : List Line) (rooms new : List Room) → HaveRooms xs rooms → IsReserved x rooms new → HaveRooms (x ∷ xs) new
one_more (Call op) xs rooms new have reserved = (tt, subst (HaveRooms xs) (sym reserved) have)
one_more (Scan low last most) xs rooms new have reserved =
    let y : Room = reserved.0 in
    let less : length (rooms ++ y ∷ []) - 1 ≡ length rooms = one_less rooms y in
    subst (λ (l : List Room). HaveRooms (Scan low last most ∷ xs) l) (sym reserved.1) (
      (
        let long = length-append rooms (y ∷ []) in omega arith,
        λ d. subst (IsRoomFor most) (sym (ap (λ i. get_or (rooms ++ y ∷ []) i d) less ∙ last_is rooms y d)) reserved.2,
      ),
      subst (HaveRooms xs) (sym (ap (λ i. take i (rooms ++ y ∷ [])) less ∙ take_all rooms y)) have,
    )

pub one_line : (lines : List Line) (n : ℕ) (d : Line) (rooms new : List Room) → 0 < n → n ≤ length lines → HaveRooms (drop n lines) rooms → IsReserved (get_or lines (n - 1) d) rooms new → HaveRooms (drop (n - 1) lines) new
one_line lines n d rooms new some within have reserved =
    let e : n ≡ suc (n - 1) = omega arith in
    subst (λ (l : List Line). HaveRooms l new) (sym (drop-cons lines (n - 1) d (omega arith)))
    (one_more (get_or lines (n - 1) d) (drop (suc (n - 1)) lines) rooms new (subst (λ (m : ℕ). HaveRooms (drop m lines) rooms) e have) reserved)

-- lines among which is no scan have all the rooms that they need
pub none_needed : (lines : List Line) (rooms : List Room) → All (λ line. IsServedLine false true line) lines → HaveRooms lines rooms
none_needed [] rooms served = tt
none_needed (Call op ∷ lines) rooms served = (tt, none_needed lines rooms (All-tail (λ line. IsServedLine false true line) (Call op) lines served))
none_needed (Scan low last most ∷ lines) rooms served = let first : false ≡ true = All-head (λ line. IsServedLine false true line) (Scan low last most) lines served in absurd (let q : ⊥ = cc in q)
