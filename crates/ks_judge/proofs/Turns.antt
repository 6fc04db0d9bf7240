-- How many lines of each caller are read, where all numbers so far are right.
use Rattle.std.proofs.Common.{ℕ, zero, suc, ◌≡◌, ◌==◌, ◌<◌, ◌≤◌, ◌+◌, ◌⊎◌, inl, inr, cond, Bool, true, false, List, [], ◌∷◌, ◌++◌, length, get_or, set, replicate, refl, sym, ◌∙◌, ap, subst, arith}
use mathlib.Core.Logic.{dite}
use native.Mathlib.Decide.{ℕ_discrete}
use Rattle.std.proofs.lemmas.Bool.{false≢true}
use Rattle.std.proofs.lemmas.Bool.Decides.{nat_tests}
use Rattle.std.proofs.lemmas.List.{get_or-set_same, get_or-set_other, length-set, get_or-replicate, length-replicate}
use Rattle.ks_history.specs.declared.Op.{Op}
use Rattle.ks_history.specs.declared.Reply.{Reply}
use Rattle.ks_history.specs.declared.Reply.TheVariants.{Nothing}
use Rattle.ks_judge.specs.declared.slots.Slot.{Slot}
use Rattle.ks_judge.specs.declared.slots.Slot.TheVariants.{One}
use Rattle.ks_history.specs.declared.Answered.{Answered}
use Rattle.ks_judge.specs.Judgment.{Lines, line_at, answered_at, IsRight, carriers, carriers_from, carriers_in}
use Rattle.ks_judge.specs.Slots.{Stands, Carries, TellsSlot}
use Rattle.ks_judge.proofs.Numbered.{one_tells}
use Rattle.ks_judge.proofs.Replays.{IsInOrder, RightBelow, IsCallOf}

-- z is one of the list
abbrev Has : List (ℕ × ℕ) → ℕ × ℕ → Type 0
Has [] z = ⊥
Has (x ∷ xs) z = (x ≡ z) ⊎ Has xs z

has_left : (xs ys : List (ℕ × ℕ)) (z : ℕ × ℕ) → Has xs z → Has (xs ++ ys) z
has_left [] ys z h = absurd h
has_left (x ∷ xs) ys z (inl e) = inl e
has_left (x ∷ xs) ys z (inr h) = inr (has_left xs ys z h)

has_right : (xs ys : List (ℕ × ℕ)) (z : ℕ × ℕ) → Has ys z → Has (xs ++ ys) z
has_right [] ys z h = h
has_right (x ∷ xs) ys z h = inr (has_right xs ys z h)

eq_same : (a q : ℕ) → a ≡ q → (a == q) ≡ true
eq_same a q e = grind (arith, nat_tests)

-- a line that carries n is among those that carry it

in_line : (n c j : ℕ) (xs : List (ℕ × Reply)) (i : ℕ) → i < length xs → (get_or xs i (0, Nothing)).0 ≡ n → Has (carriers_in n c j xs) (c, j + i)
in_line n c j [] i lt is = absurd (omega arith)
in_line n c j (x ∷ xs) zero lt is = by_test (x.0 == n) (eq_same x.0 n is)
  where
    by_test : (b : Bool) → b ≡ true → Has (cond b ((c, j) ∷ carriers_in n c (j + 1) xs) (carriers_in n c (j + 1) xs)) (c, j + 0)
    by_test true e = inl (ap (λ (k : ℕ). (c, k)) (omega arith))
    by_test false e = absurd (false≢true e)
in_line n c j (x ∷ xs) (suc i) lt is = by_test (x.0 == n) (subst (λ (k : ℕ). Has (carriers_in n c (j + 1) xs) (c, k)) (omega arith) (in_line n c (j + 1) xs i (omega arith) is))
  where
    by_test : (b : Bool) → Has (carriers_in n c (j + 1) xs) (c, j + suc i) → Has (cond b ((c, j) ∷ carriers_in n c (j + 1) xs) (carriers_in n c (j + 1) xs)) (c, j + suc i)
    by_test true h = inr h
    by_test false h = h

in_lines : (n b : ℕ) (lines : Lines) (c i : ℕ) → c < length lines → i < length (get_or lines c []) → (line_at lines c i).0 ≡ n → Has (carriers_from n b lines) (b + c, i)
in_lines n b [] c i there within is = absurd (omega arith)
in_lines n b (xs ∷ rest) zero i there within is =
    let first : Has (carriers_in n b 0 xs) (b, 0 + i) = in_line n b 0 xs i within is in
    let same : ◌≡◌ {A = ℕ × ℕ} (b, 0 + i) (b + 0, i) = ap (λ (k : ℕ). (b, k)) (omega arith) ∙ ap (λ (k : ℕ). (k, i)) (omega arith) in
    has_left (carriers_in n b 0 xs) (carriers_from n (b + 1) rest) (b + 0, i) (subst (λ (z : ℕ × ℕ). Has (carriers_in n b 0 xs) z) same first)
in_lines n b (xs ∷ rest) (suc c) i there within is =
    has_right (carriers_in n b 0 xs) (carriers_from n (b + 1) rest) (b + suc c, i)
    (subst (λ (k : ℕ). Has (carriers_from n (b + 1) rest) (k, i)) (omega arith) (in_lines n (b + 1) rest c i (omega arith) within is))

-- and if only one line carries n, it is that one
alone : (lines : Lines) (n d k c i : ℕ) → carriers lines n ≡ (d, k) ∷ [] → Carries lines c i n → ◌≡◌ {A = ℕ × ℕ} (d, k) (c, i)
alone lines n d k c i only carries = head (subst (λ (ps : List (ℕ × ℕ)). Has ps (c, i)) only has)
  where
    has : Has (carriers lines n) (c, i)
    has = subst (λ (b : ℕ). Has (carriers lines n) (b, i)) (omega arith) (in_lines n 0 lines c i carries.0.0 carries.0.1 carries.1)

    head : Has ((d, k) ∷ []) (c, i) → ◌≡◌ {A = ℕ × ℕ} (d, k) (c, i)
    head (inl e) = e
    head (inr h) = absurd h

-- the first `made` lines of each caller carry numbers below n, and those that are the only ones to carry
-- one below n are among them
pub record Turns (lines : Lines) (n : ℕ) (made : List ℕ) : Type 0 where
  pub count : length made ≡ length lines
  pub below : (c j : ℕ) → c < length lines → j < get_or made c 0 → (line_at lines c j).0 < n
  pub taken : (k c j : ℕ) → k < n → carriers lines k ≡ (c, j) ∷ [] → j < get_or made c 0

-- before the first number none is read
pub turns_none : (lines : Lines) (m : ℕ) (made : List ℕ) → made ≡ replicate m 0 → m ≡ length lines → Turns lines 0 made
turns_none lines m made is count = record {
  count = ap length is ∙ length-replicate m 0 ∙ count;
  below = λ c j lt less. let none : get_or made c 0 ≡ 0 = ap (λ (xs : List ℕ). get_or xs c 0) is ∙ get_or-replicate m c 0 0 (omega (arith, count)) in absurd (omega (arith, none));
  taken = λ k c j lt only. absurd (omega arith);
}

side : (a b : ℕ) → (a ≤ b) ⊎ (b < a)
side a b = grind arith

parts : (a b : ℕ) → a < b + 1 → (a < b) ⊎ (a ≡ b)
parts a b lt = grind arith

-- the line that carries n is not read yet
pub ahead : (lines : Lines) (n : ℕ) (made : List ℕ) (c j : ℕ) → Turns lines n made → Carries lines c j n → get_or made c 0 ≤ j
ahead lines n made c j turns carries = by_side (side (get_or made c 0) j)
  where
    by_side : (get_or made c 0 ≤ j) ⊎ (j < get_or made c 0) → get_or made c 0 ≤ j
    by_side (inl le) = le
    by_side (inr lt) = let less = turns.below c j carries.0.0 lt in absurd (omega (arith, carries.1))

-- so there is a line to read
pub has_next : (lines : Lines) (n : ℕ) (made : List ℕ) (c j : ℕ) → Turns lines n made → Carries lines c j n → Stands lines c (get_or made c 0)
has_next lines n made c j turns carries = let le = ahead lines n made c j turns carries in let lt = carries.0.1 in (carries.0.0, omega arith)

-- if it carries n it is the one, in order
pub in_turn : (lines : Lines) (n : ℕ) (made : List ℕ) (c j : ℕ) → Turns lines n made → carriers lines n ≡ (c, j) ∷ [] → Carries lines c j n → (line_at lines c (get_or made c 0)).0 ≡ n →
    (carriers lines n ≡ (c, get_or made c 0) ∷ []) × IsInOrder lines c (get_or made c 0) n
in_turn lines n made c j turns only carries is =
    let same : ◌≡◌ {A = ℕ × ℕ} (c, j) (c, get_or made c 0) = alone lines n c j c (get_or made c 0) only (has_next lines n made c j turns carries, is) in
    (only ∙ ap (λ (z : ℕ × ℕ). z ∷ []) same, λ i lt. let less = turns.below c i carries.0.0 lt in omega arith)

-- and else n is wrong
pub out_of_turn : (script : List (List Op)) (lines : Lines) (n : ℕ) (made : List ℕ) (c j : ℕ) → Turns lines n made → RightBelow script lines n → carriers lines n ≡ (c, j) ∷ [] → Carries lines c j n →
    ((line_at lines c (get_or made c 0)).0 ≡ n → ⊥) → IsRight script lines n → ⊥
out_of_turn script lines n made c j turns before only carries other right = by_side (parts p j (omega (arith, ahead lines n made c j turns carries)))
  where
    p : ℕ
    p = get_or made c 0

    same : ◌≡◌ {A = ℕ × ℕ} (right.placed.caller, right.placed.place) (c, j)
    same = alone lines n right.placed.caller right.placed.place c j right.placed.only carries

    ordered : IsInOrder lines c j n
    ordered = subst (λ (z : ℕ × ℕ). IsInOrder lines z.0 z.1 n) same right.placed.ordered

    read : (h : ℕ) → (line_at lines c p).0 ≡ h → h < n → ⊥
    read h is lt =
        let r : IsRight script lines h = before h lt in
        let it : ◌≡◌ {A = ℕ × ℕ} (r.placed.caller, r.placed.place) (c, p) = alone lines h r.placed.caller r.placed.place c p r.placed.only (has_next lines n made c j turns carries, is) in
        let less : p < get_or made c 0 = turns.taken h c p lt (r.placed.only ∙ ap (λ (z : ℕ × ℕ). z ∷ []) it) in
        omega arith

    by_side : (p < j) ⊎ (p ≡ j) → ⊥
    by_side (inl lt) = let le : (line_at lines c p).0 ≤ n = ordered p lt in by_number (parts (line_at lines c p).0 n (omega arith))
      where
        by_number : ((line_at lines c p).0 < n) ⊎ ((line_at lines c p).0 ≡ n) → ⊥
        by_number (inl less) = read (line_at lines c p).0 refl less
        by_number (inr e) = other e
    by_side (inr e) = other (ap (λ (i : ℕ). (line_at lines c i).0) e ∙ carries.1)

-- one number more
turns_more : (lines : Lines) (n : ℕ) (made : List ℕ) (c : ℕ) → c < length lines → Turns lines n made → carriers lines n ≡ (c, get_or made c 0) ∷ [] → (line_at lines c (get_or made c 0)).0 ≡ n →
    Turns lines (n + 1) (set made c (get_or made c 0 + 1))
turns_more lines n made c there turns only is = record { count = length-set made c (p + 1) ∙ turns.count; below = below; taken = taken }
  where
    p : ℕ
    p = get_or made c 0

    here : get_or (set made c (p + 1)) c 0 ≡ p + 1
    here = get_or-set_same made c (p + 1) 0 (omega (arith, turns.count))

    grows : (d : ℕ) → get_or made d 0 ≤ get_or (set made c (p + 1)) d 0
    grows d = dite (ℕ_discrete d c)
        (λ e. subst (λ (k : ℕ). get_or made k 0 ≤ get_or (set made c (p + 1)) k 0) (sym e) (omega (arith, here)))
        (λ e. let same = get_or-set_other made c d (p + 1) 0 e in omega arith)

    below : (d j : ℕ) → d < length lines → j < get_or (set made c (p + 1)) d 0 → (line_at lines d j).0 < n + 1
    below d j lt less = dite (ℕ_discrete d c)
        (λ e. subst (λ (k : ℕ). (line_at lines k j).0 < n + 1) (sym e) (at_caller (parts j p (let less' : j < get_or (set made c (p + 1)) c 0 = subst (λ (k : ℕ). j < get_or (set made c (p + 1)) k 0) e less in omega (arith, here)))))
        (λ e. let same = get_or-set_other made c d (p + 1) 0 e in let a = turns.below d j lt (omega arith) in omega arith)
      where
        at_caller : (j < p) ⊎ (j ≡ p) → (line_at lines c j).0 < n + 1
        at_caller (inl first) = let a = turns.below c j there first in omega arith
        at_caller (inr e) = subst (λ (k : ℕ). (line_at lines c k).0 < n + 1) (sym e) (omega (arith, is))

    taken : (k d j : ℕ) → k < n + 1 → carriers lines k ≡ (d, j) ∷ [] → j < get_or (set made c (p + 1)) d 0
    taken k d j lt carried = by_side (parts k n lt)
      where
        head_same : (x y : ℕ × ℕ) → x ∷ [] ≡ y ∷ [] → x ≡ y
        head_same x y e = cc

        by_side : (k < n) ⊎ (k ≡ n) → j < get_or (set made c (p + 1)) d 0
        by_side (inl less) = let a = turns.taken k d j less carried in let b = grows d in omega arith
        by_side (inr e) =
            let z : ◌≡◌ {A = ℕ × ℕ} (c, p) (d, j) = head_same (c, p) (d, j) (sym only ∙ ap (carriers lines) (sym e) ∙ carried) in
            subst (λ (z : ℕ × ℕ). z.1 < get_or (set made c (p + 1)) z.0 0) z (omega (arith, here))

-- the line of number n that the program is to read: the next of its caller
pub record IsNext (lines : Lines) (n c : ℕ) (made : List ℕ) : Type 0 where
  pub line : ℕ
  pub only : carriers lines n ≡ (c, line) ∷ []
  pub carried : Carries lines c line n
  pub stands : Stands lines c (get_or made c 0)

-- as its slot says
pub next_found : (lines : Lines) (n c : ℕ) (made : List ℕ) (slot : Slot) → Turns lines n made → slot ≡ One c → TellsSlot lines n slot (carriers lines n) → IsNext lines n c made
next_found lines n c made slot turns is_one tells =
    let t = one_tells lines n slot c (carriers lines n) is_one tells in
    record { line = t.0; only = t.1; carried = t.2; stands = has_next lines n made c t.0 turns t.2 }

module _ (script : List (List Op)) (lines : Lines) (n c : ℕ) (made : List ℕ) (turns : Turns lines n made) (next : IsNext lines n c made) where
  -- where it carries another number n is wrong
  pub next_wrong : RightBelow script lines n → ((line_at lines c (get_or made c 0)).0 ≡ n → ⊥) → IsRight script lines n → ⊥
  next_wrong before other = out_of_turn script lines n made c next.line turns before next.only next.carried other

  -- and else one number more is read
  pub next_turns : (line_at lines c (get_or made c 0)).0 ≡ n → Turns lines (n + 1) (set made c (get_or made c 0 + 1))
  next_turns is =
      let it = in_turn lines n made c next.line turns next.only next.carried is in
      turns_more lines n made c next.carried.0.0 turns it.0 is

  -- and it is that of the call of n
  pub next_call : (a : Answered) → answered_at script lines (c, get_or made c 0) ≡ a → (line_at lines c (get_or made c 0)).0 ≡ n → IsCallOf script lines n a
  next_call a call is =
      let it = in_turn lines n made c next.line turns next.only next.carried is in
      record { caller = c; place = get_or made c 0; only = it.0; ordered = it.1; call = call }
