-- The places of the lines that carry a number, with one line and with one caller more.
use Rattle.std.proofs.Common.{ℕ, ◌≡◌, ◌<◌, ◌≤◌, ◌+◌, ◌==◌, cond, Bool, true, false, List, [], ◌∷◌, ◌++◌, length, take, get_or, sym, ◌∙◌, ap, subst, arith, append_assoc}
use Rattle.std.proofs.lemmas.List.{append-nil, take_more, take_all, length-take-le}
use Rattle.ks_history.specs.declared.Reply.{Reply}
use Rattle.ks_history.specs.declared.Reply.TheVariants.{Nothing}
use Rattle.ks_judge.specs.declared.slots.PackedSlot.{PackedSlot}
use Rattle.ks_judge.specs.Judgment.{Lines, line_at, carriers, carriers_from, carriers_in}
use Rattle.ks_judge.specs.Slots.{Carries, TellsSlot, Notes, slot_in, carriers_to, if_carries}

carriers_in-append : (n c j : ℕ) (xs ys : List (ℕ × Reply)) → carriers_in n c j (xs ++ ys) ≡ carriers_in n c j xs ++ carriers_in n c (j + length xs) ys
carriers_in-append n c j [] ys = ap (λ k. carriers_in n c k ys) (omega arith)
carriers_in-append n c j (x ∷ xs) ys = by_test (carriers_in-append n c (j + 1) xs ys ∙ ap (λ k. carriers_in n c (j + 1) xs ++ carriers_in n c k ys) (omega arith)) (x.0 == n)
  where
    by_test : carriers_in n c (j + 1) (xs ++ ys) ≡ carriers_in n c (j + 1) xs ++ carriers_in n c (j + length (x ∷ xs)) ys → (b : Bool) →
        cond b ((c, j) ∷ carriers_in n c (j + 1) (xs ++ ys)) (carriers_in n c (j + 1) (xs ++ ys)) ≡ cond b ((c, j) ∷ carriers_in n c (j + 1) xs) (carriers_in n c (j + 1) xs) ++ carriers_in n c (j + length (x ∷ xs)) ys
    by_test more true = ap (λ ps. (c, j) ∷ ps) more
    by_test more false = more

carriers_from-append : (n c : ℕ) (xs ys : Lines) → carriers_from n c (xs ++ ys) ≡ carriers_from n c xs ++ carriers_from n (c + length xs) ys
carriers_from-append n c [] ys = ap (λ k. carriers_from n k ys) (omega arith)
carriers_from-append n c (x ∷ xs) ys =
    ap (λ ps. carriers_in n c 0 x ++ ps) (carriers_from-append n (c + 1) xs ys ∙ ap (λ k. carriers_from n (c + 1) xs ++ carriers_from n k ys) (omega arith))
    ∙ sym (append_assoc (carriers_in n c 0 x) (carriers_from n (c + 1) xs) (carriers_from n (c + length (x ∷ xs)) ys))

-- one line more
pub carriers_to-line : (lines : Lines) (c j n : ℕ) → j < length (get_or lines c []) → carriers_to lines c (j + 1) n ≡ carriers_to lines c j n ++ if_carries (line_at lines c j).0 n (c, j)
carriers_to-line lines c j n lt =
    let xs : List (ℕ × Reply) = get_or lines c [] in
    let before : List (ℕ × ℕ) = carriers_from n 0 (take c lines) in
    let x : ℕ × Reply = get_or xs j (0, Nothing) in
    let len : 0 + length (take j xs) ≡ j = let e = length-take-le j xs (omega arith) in omega arith in
    let more : carriers_in n c 0 (take (j + 1) xs) ≡ carriers_in n c 0 (take j xs) ++ if_carries x.0 n (c, j) =
    ap (carriers_in n c 0) (take_more xs j (0, Nothing) lt) ∙ carriers_in-append n c 0 (take j xs) (x ∷ []) ∙ ap (λ k. carriers_in n c 0 (take j xs) ++ carriers_in n c k (x ∷ [])) len in
    ap (λ ps. before ++ ps) more ∙ sym (append_assoc before (carriers_in n c 0 (take j xs)) (if_carries x.0 n (c, j)))

-- one caller more
pub carriers_to-caller : (lines : Lines) (c n : ℕ) → c < length lines → carriers_to lines c (length (get_or lines c [])) n ≡ carriers_to lines (c + 1) 0 n
carriers_to-caller lines c n lt =
    let xs : List (ℕ × Reply) = get_or lines c [] in
    let before : List (ℕ × ℕ) = carriers_from n 0 (take c lines) in
    let len : 0 + length (take c lines) ≡ c = let e = length-take-le c lines (omega arith) in omega arith in
    let whole : before ++ carriers_in n c 0 (take (length xs) xs) ≡ before ++ carriers_in n c 0 xs = ap (λ ys. before ++ carriers_in n c 0 ys) (take_all (length xs) xs (omega arith)) in
    let more : carriers_from n 0 (take (c + 1) lines) ≡ before ++ (carriers_in n c 0 xs ++ []) =
    ap (carriers_from n 0) (take_more lines c [] lt) ∙ carriers_from-append n 0 (take c lines) (xs ∷ []) ∙ ap (λ k. before ++ (carriers_in n k 0 xs ++ [])) len in
    whole ∙ ap (λ ps. before ++ ps) (sym (append-nil (carriers_in n c 0 xs))) ∙ sym more ∙ sym (append-nil (carriers_from n 0 (take (c + 1) lines)))

pub carriers_to-all : (lines : Lines) (c n : ℕ) → length lines ≤ c → carriers_to lines c 0 n ≡ carriers lines n
carriers_to-all lines c n le = append-nil (carriers_from n 0 (take c lines)) ∙ ap (carriers_from n 0) (take_all c lines le)

pub notes_along : (lines : Lines) (slots : List PackedSlot) (P Q : ℕ → List (ℕ × ℕ)) → ((n : ℕ) → P n ≡ Q n) → Notes lines slots P → Notes lines slots Q
notes_along lines slots P Q same notes n lt = subst (λ (ps : List (ℕ × ℕ)). TellsSlot lines n (slot_in (get_or slots n (record { code = 0 }))) ps) (same n) (notes n lt)

-- a line noted, as the program notes it: xs are the lines of caller c
pub line_noted : (lines : Lines) (c j number : ℕ) (xs : List (ℕ × Reply)) (slots slots' : List PackedSlot) → get_or lines c [] ≡ xs → c < length lines → j < length xs → number ≡ (get_or xs j (0, Nothing)).0 →
    ((ls : Lines) (i : ℕ) (P : ℕ → List (ℕ × ℕ)) → Carries ls c i number → Notes ls slots P → Notes ls slots' (λ n. P n ++ if_carries number n (c, i))) →
    Notes lines slots (carriers_to lines c j) → Notes lines slots' (carriers_to lines c (j + 1))
line_noted lines c j number xs slots slots' is there lt carried noted notes =
    let same : (line_at lines c j).0 ≡ number = ap (λ (ys : List (ℕ × Reply)). (get_or ys j (0, Nothing)).0) is ∙ sym carried in
    let within : j < length (get_or lines c []) = subst (λ (ys : List (ℕ × Reply)). j < length ys) (sym is) lt in
    notes_along lines slots' (λ n. carriers_to lines c j n ++ if_carries number n (c, j)) (carriers_to lines c (j + 1))
    (λ n. ap (λ (k : ℕ). carriers_to lines c j n ++ if_carries k n (c, j)) (sym same) ∙ sym (carriers_to-line lines c j n within))
    (noted lines j (carriers_to lines c j) ((there, within), same) notes)
