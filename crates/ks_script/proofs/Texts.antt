-- Texts of lines, one after another.
use Rattle.ks_script.proofs.Common.{ℕ, ◌≡◌, ◌+◌, ◌<◌, List, [], ◌∷◌, ◌++◌, length, take, drop, get_or, refl, sym, ap, ◌∙◌, append_assoc, arith, codes, append-nil, take-append-drop, take_more, decimal, Said, Pair, ended, text_of, pair_line, pair_words, said_lines, callers_from, flat_map}

pub text_append : (ls ms : List (List ℕ)) → text_of (ls ++ ms) ≡ text_of ls ++ text_of ms
text_append [] ms = refl
text_append (l ∷ ls) ms = ap (λ (x : List ℕ). ended l ++ x) (text_append ls ms) ∙ sym (append_assoc (ended l) (text_of ls) (text_of ms))

-- the list up to the element at i
pub taken_with : {X : Type 0} (xs : List X) (i : ℕ) (x : X) → i < length xs → x ≡ get_or xs i x → take (i + 1) xs ≡ take i xs ++ x ∷ []
taken_with xs i x h e = take_more xs i x h ∙ ap (λ y. take i xs ++ y ∷ []) (sym e)

-- the list, cut at that element
pub cut_at : {X : Type 0} (xs : List X) (i : ℕ) (x : X) → i < length xs → x ≡ get_or xs i x → xs ≡ take i xs ++ x ∷ drop (i + 1) xs
cut_at xs i x h e = sym (ap (λ ys. ys ++ drop (i + 1) xs) (sym (taken_with xs i x h e)) ∙ take-append-drop (i + 1) xs) ∙ append_assoc (take i xs) (x ∷ []) (drop (i + 1) xs)

-- the lines of one caller
abbrev pub one_caller : ℕ → List Said → List (List ℕ)
one_caller n c = (codes "caller " ++ decimal n) ∷ flat_map said_lines c

pub callers_append : (n : ℕ) (cs ds : List (List Said)) → callers_from n (cs ++ ds) ≡ callers_from n cs ++ callers_from (n + length cs) ds
callers_append n [] ds = ap (λ k. callers_from k ds) (omega arith)
callers_append n (c ∷ cs) ds =
    ap (λ ls. one_caller n c ++ ls) (callers_append (n + 1) cs ds ∙ ap (λ k. callers_from (n + 1) cs ++ callers_from k ds) (omega arith))
    ∙ sym (append_assoc (one_caller n c) (callers_from (n + 1) cs) (callers_from (n + length (c ∷ cs)) ds))

-- callers: one more
pub callers_push : (cs : List (List Said)) (c : List Said) → callers_from 0 (cs ++ c ∷ []) ≡ callers_from 0 cs ++ one_caller (0 + length cs) c
callers_push cs c = callers_append 0 cs (c ∷ []) ∙ ap (λ ls. callers_from 0 cs ++ ls) (append-nil (one_caller (0 + length cs) c))

-- pairs of a part: more of them
pub words_append : (ps qs : List Pair) → pair_words (ps ++ qs) ≡ pair_words ps ++ pair_words qs
words_append [] qs = refl
words_append (p ∷ ps) qs = ap (λ (x : List ℕ). codes " " ++ (pair_line (p.place, p.value) ++ x)) (words_append ps qs) ∙ ap (λ (x : List ℕ). codes " " ++ x) (sym (append_assoc (pair_line (p.place, p.value)) (pair_words ps) (pair_words qs)))

pub words_push : (ps : List Pair) (p : Pair) (rest : List ℕ) → pair_words (ps ++ p ∷ []) ++ rest ≡ pair_words ps ++ (codes " " ++ (pair_line (p.place, p.value) ++ rest))
words_push ps p rest = ap (λ (x : List ℕ). x ++ rest) (words_append ps (p ∷ [])) ∙ simp (append_assoc, append-nil)
