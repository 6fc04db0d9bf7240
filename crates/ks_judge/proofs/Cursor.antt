-- Places of calls among the lines of a caller, and their numbers in its flat list of calls.
use Rattle.std.proofs.Common.{ℕ, zero, suc, ◌≡◌, ◌<◌, ◌≤◌, ◌+◌, ◌⊎◌, inl, inr, Bool, true, false, cond, List, [], ◌∷◌, ◌++◌, length, get_or, drop, refl, sym, ◌∙◌, ap, arith, add-one, drop-cons, length-drop}
use Rattle.std.specs.Prelude.{nat_lt}
use Rattle.std.proofs.lemmas.Bool.Decides.{nat_tests}
use Rattle.std.proofs.lemmas.List.{drop-append-le, drop_all}
use Rattle.ks_history.specs.declared.Op.TheVariants.{Get}
use Rattle.ks_history.specs.declared.Reply.TheVariants.{Nothing}
use Rattle.ks_history.specs.Trace.{NumberedCall}
use Rattle.ks_lines.specs.declared.parts.Part.{Part}
use Rattle.ks_lines.specs.declared.Scanned.{Scanned}
use Rattle.ks_lines.specs.declared.Scanned.TheVariants.{Whole, Until}
use Rattle.ks_lines.specs.declared.Line.{Line}
use Rattle.ks_lines.specs.declared.Line.TheVariants.{Call, Scan}
use Rattle.ks_lines.specs.declared.Said.{Said}
use Rattle.ks_lines.specs.declared.Said.TheVariants as said
use Rattle.ks_lines.specs.Scan.{StopsAt}
use Rattle.ks_lines.specs.Lines.{MayAnswer, AllBoth, calls_of_line, calls_of_lines}
use Rattle.ks_script.specs.PackedReplies.{said_at}
use Rattle.ks_judge.specs.declared.replay.Place.{Place}
use Rattle.ks_judge.specs.Places.{line_in, calls_on, no_call, call_in, IsPlaceIn, place_after}
use Rattle.ks_judge.specs.Laws.Counts.{length-part_calls}
use Rattle.ks_judge.proofs.Flat.{both_long}

-- each line makes a call at least

some_end : (last most : ℕ) (parts : List Part) (stop : Scanned) → StopsAt last most parts stop → 0 < length parts
some_end last most [] Whole stops = absurd cc
some_end last most [] (Until next) stops = let e = stops.2 in absurd cc
some_end last most (p ∷ parts) stop stops = omega arith

some_call : (l : Line) (s : Said) → MayAnswer l s → 0 < length (calls_of_line l s)
some_call (Call op) (said.Call n reply) may = omega arith
some_call (Call op) (said.Scan parts stop) may = absurd may
some_call (Scan low last most) (said.Call n reply) may = absurd may
some_call (Scan low last most) (said.Scan parts stop) may = let some = some_end last most parts stop may.stops in let e = length-part_calls low parts in omega (arith, some, e)

some_on : (ls : List Line) (ss : List Said) (i : ℕ) → AllBoth MayAnswer ls ss → 0 < length (calls_on ls ss i)
some_on [] [] i both = omega arith
some_on [] (s ∷ ss) i both = absurd both
some_on (l ∷ ls) [] i both = absurd both
some_on (l ∷ ls) (s ∷ ss) zero both = some_call l s both.0
some_on (l ∷ ls) (s ∷ ss) (suc i) both = some_on ls ss i both.1

-- the calls from a line on
abbrev pub calls_from : List Line → List Said → ℕ → List NumberedCall
calls_from ls ss l = calls_of_lines (drop l ls) (drop l ss)

-- those of the line, and those of the lines after it
from_line : (ls : List Line) (ss : List Said) (i : ℕ) → AllBoth MayAnswer ls ss → i < length ls → calls_from ls ss i ≡ calls_on ls ss i ++ calls_from ls ss (i + 1)
from_line ls ss i both lt =
    let long : length ss ≡ length ls = both_long ls ss both in
    let a : drop i ls ≡ line_in ls i ∷ drop (suc i) ls = drop-cons ls i (Call (Get 0)) lt in
    let b : drop i ss ≡ said_at ss i ∷ drop (suc i) ss = drop-cons ss i (said.Call 0 Nothing) (omega (arith, long)) in
    ap (λ (xs : List Line). calls_of_lines xs (drop i ss)) a
    ∙ ap (λ (xs : List Said). calls_of_lines (line_in ls i ∷ drop (suc i) ls) xs) b
    ∙ ap (λ (n : ℕ). calls_on ls ss i ++ calls_of_lines (drop n ls) (drop n ss)) (sym (add-one i))

-- the place of the call at a number of the flat list
pub record IsAt (ls : List Line) (ss : List Said) (x : Place) (n : ℕ) : Type 0 where
  pub rest : drop n (calls_of_lines ls ss) ≡ drop x.part (calls_from ls ss x.line)
  pub within : x.part < length (calls_on ls ss x.line)

pub at_start : (ls : List Line) (ss : List Said) → AllBoth MayAnswer ls ss → IsAt ls ss (record { line = 0; part = 0 }) 0
at_start ls ss both = record { rest = refl; within = some_on ls ss 0 both }

module _ (ls : List Line) (ss : List Said) (both : AllBoth MayAnswer ls ss) (x : Place) (n : ℕ) (it : IsAt ls ss x n) (lt : n < length (calls_of_lines ls ss)) where
  all : List NumberedCall
  all = calls_of_lines ls ss

  on : List NumberedCall
  on = calls_on ls ss x.line

  here : x.line < length ls
  here = by_side (side x.line (length ls))
    where
      side : (a b : ℕ) → (a < b) ⊎ (b ≤ a)
      side a b = grind arith

      by_side : (x.line < length ls) ⊎ (length ls ≤ x.line) → x.line < length ls
      by_side (inl in') = in'
      by_side (inr past) =
          let none : drop x.line ls ≡ [] = drop_all x.line ls past in
          let empty : calls_from ls ss x.line ≡ [] = ap (λ (xs : List Line). calls_of_lines xs (drop x.line ss)) none in
          let e : drop n (calls_of_lines ls ss) ≡ [] = it.rest ∙ ap (drop x.part) empty ∙ drop_all x.part [] (omega arith) in
          let l : length (drop n (calls_of_lines ls ss)) ≡ 0 = ap length e in
          absurd (omega (arith, l, length-drop n (calls_of_lines ls ss), lt))

  pub is_place : IsPlaceIn ls ss x
  is_place = let long : length ss ≡ length ls = both_long ls ss both in (here, omega (arith, long, here), it.within)

  -- the call at the number, and what is after it
  cut : get_or (calls_of_lines ls ss) n no_call ∷ drop (suc n) (calls_of_lines ls ss) ≡ call_in ls ss x ∷ drop (suc x.part) (calls_on ls ss x.line) ++ calls_from ls ss (x.line + 1)
  cut =
      let on' : List NumberedCall = calls_on ls ss x.line in
      sym (drop-cons (calls_of_lines ls ss) n no_call lt)
      ∙ it.rest
      ∙ ap (drop x.part) (from_line ls ss x.line both here)
      ∙ drop-append-le x.part on' (calls_from ls ss (x.line + 1)) (omega (arith, it.within))
      ∙ ap (λ (xs : List NumberedCall). xs ++ calls_from ls ss (x.line + 1)) (drop-cons on' x.part no_call it.within)

  pub call_is : get_or (calls_of_lines ls ss) n no_call ≡ call_in ls ss x
  call_is = let e = cut in cc

  after : drop (suc n) (calls_of_lines ls ss) ≡ drop (suc x.part) (calls_on ls ss x.line) ++ calls_from ls ss (x.line + 1)
  after = let e = cut in cc

  pub next_at : IsAt ls ss (place_after ls ss x) (n + 1)
  next_at = by_test (nat_lt (x.part + 1) (length (calls_on ls ss x.line))) refl
    where
      more : drop (n + 1) (calls_of_lines ls ss) ≡ drop (suc x.part) (calls_on ls ss x.line) ++ calls_from ls ss (x.line + 1)
      more = ap (λ (k : ℕ). drop k (calls_of_lines ls ss)) (add-one n) ∙ after

      lt_true : (a b : ℕ) → nat_lt a b ≡ true → a < b
      lt_true a b e = grind (arith, nat_tests)

      lt_false : (a b : ℕ) → nat_lt a b ≡ false → b ≤ a
      lt_false a b e = grind (arith, nat_tests)

      by_test : (b : Bool) → nat_lt (x.part + 1) (length (calls_on ls ss x.line)) ≡ b → IsAt ls ss (cond b (record { line = x.line; part = x.part + 1 }) (record { line = x.line + 1; part = 0 })) (n + 1)
      by_test true e =
          let in' : x.part + 1 < length (calls_on ls ss x.line) = lt_true (x.part + 1) (length (calls_on ls ss x.line)) e in
          record {
            rest =
                more
                ∙ sym (drop-append-le (suc x.part) (calls_on ls ss x.line) (calls_from ls ss (x.line + 1)) (omega (arith, in')))
                ∙ ap (drop (suc x.part)) (sym (from_line ls ss x.line both here))
                ∙ ap (λ (k : ℕ). drop k (calls_from ls ss x.line)) (sym (add-one x.part));
            within = in';
          }
      by_test false e =
          let past : length (calls_on ls ss x.line) ≤ x.part + 1 = lt_false (x.part + 1) (length (calls_on ls ss x.line)) e in
          record {
            rest = more ∙ ap (λ (xs : List NumberedCall). xs ++ calls_from ls ss (x.line + 1)) (drop_all (suc x.part) (calls_on ls ss x.line) (omega (arith, past)));
            within = some_on ls ss (x.line + 1) both;
          }
