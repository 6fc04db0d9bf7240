-- Lines as texts: a word, and numbers behind it. A text is read back to its line, so that no two kinds are compared.
use Rattle.ks_script.proofs.Common.{rules, ℕ, ◌≡◌, cond, eqb, List, length, drop, get_or, sym, ap, ◌∙◌, arith, Line, Call, Scan, Get, Put, Del, Add, Swap, Part, Move, Version, IsLineOf, HasLine, line_text, pair_line, ◌^◌, ◌<◌, Bool, false, ◌||◌, [], ◌∷◌, ◌++◌, refl, append_assoc, append-nil, append_cancel_left, codes, decimal, AllByRecursion, First, value_limit, NoDigit, EndsLine, subst, lines_of, NoneFirst, IsLineWithin}
use Rattle.ks_script.proofs.Numerals.{wide}
use Rattle.ks_script.proofs.Lined.{number_told, end_free, none_first}

abbrev pub AreSmall : List ℕ → Type 0
AreSmall ns = AllByRecursion (λ (n : ℕ). n < 2 ^ 128) ns

-- numbers, each behind a space
abbrev pub numbers : List ℕ → List ℕ
numbers [] = []
numbers (n ∷ ns) = codes " " ++ (decimal n ++ numbers ns)

-- bytes begin with one list of as many numbers
numbers_told : (a b : List ℕ) (t u : List ℕ) → length a ≡ length b → AreSmall a → AreSmall b → NoDigit t → NoDigit u → numbers a ++ t ≡ numbers b ++ u → (a ≡ b) × (t ≡ u)
numbers_told [] [] t u same h k free end e = (refl, e)
numbers_told [] (n ∷ b) t u same h k free end e = absurd (omega (arith, same))
numbers_told (m ∷ a) [] t u same h k free end e = absurd (omega (arith, same))
numbers_told (m ∷ a) (n ∷ b) t u same h k free end e =
    let g = number_told m n (numbers a ++ t) (numbers b ++ u) h.0 k.0 (no_digit a t free) (no_digit b u end) (sym (append_assoc (decimal m) (numbers a) t) ∙ (ap (λ (x : List ℕ). drop 1 x) e ∙ append_assoc (decimal n) (numbers b) u)) in
    let on = numbers_told a b t u (omega (arith, same)) h.1 k.1 free end g.1 in
    (ap (λ (p : ℕ). p ∷ a) g.0 ∙ ap (λ (ns : List ℕ). n ∷ ns) on.0, on.1)
  where
    no_digit : (ns t : List ℕ) → NoDigit t → NoDigit (numbers ns ++ t)
    no_digit [] t free = free
    no_digit (n ∷ ns) t free = refl

-- or with one pair
pub pair_told : (x y : ℕ × ℕ) (t u : List ℕ) → x.0 < 2 ^ 64 → x.1 < 2 ^ 128 → y.0 < 2 ^ 64 → y.1 < 2 ^ 128 → NoDigit t → NoDigit u → pair_line x ++ t ≡ pair_line y ++ u → (x ≡ y) × (t ≡ u)
pair_told x y t u h i k l free end e =
    let same = numbers_told (x.0 ∷ x.1 ∷ []) (y.0 ∷ y.1 ∷ []) t u refl (wide x.0 h, (i, tt)) (wide y.0 k, (l, tt)) free end (sym (listed x t) ∙ (ap (λ (line : List ℕ). 32 ∷ line) e ∙ listed y u)) in
    (ap (λ (ns : List ℕ). (get_or ns 0 0, get_or ns 1 0)) same.0, same.1)
  where
    listed : (x : ℕ × ℕ) (t : List ℕ) → 32 ∷ (pair_line x ++ t) ≡ numbers (x.0 ∷ x.1 ∷ []) ++ t
    listed x t = simp append_assoc

pub one_pair : (x y : ℕ × ℕ) → x.0 < 2 ^ 64 → x.1 < 2 ^ 128 → y.0 < 2 ^ 64 → y.1 < 2 ^ 128 → pair_line x ≡ pair_line y → x ≡ y
one_pair x y h i k l e = (pair_told x y [] [] h i k l tt tt (ap (λ (line : List ℕ). line ++ []) e)).0

-- the first byte of a line
abbrev pub first : List ℕ → ℕ
first line = get_or line 0 0

-- whether the byte is among the bytes
abbrev pub stands : ℕ → List ℕ → Bool
stands c [] = false
stands c (b ∷ bytes) = eqb b c || stands c bytes

-- by the first byte of a line, and by the fourth where two begin alike, its word, how many numbers it has, and the line that it is with these
abbrev pub kind : List ℕ → List ℕ × ℕ × (List ℕ → Line)
kind text =
    cond (eqb (first text) 103) (codes "get", 1, λ ns. Call (Get (get_or ns 0 0)))
    (cond (eqb (first text) 100) (codes "del", 1, λ ns. Call (Del (get_or ns 0 0)))
    (cond (eqb (first text) 112) (codes "put", 2, λ ns. Call (Put (get_or ns 0 0) (get_or ns 1 0)))
    (cond (eqb (first text) 97) (codes "add", 2, λ ns. Call (Add (get_or ns 0 0) (get_or ns 1 0)))
    (cond (eqb (first text) 109) (codes "move", 2, λ ns. Call (Move (get_or ns 0 0) (get_or ns 1 0)))
    (cond (eqb (get_or text 3 0) 110) (codes "scan", 3, λ ns. Scan (get_or ns 0 0) (get_or ns 1 0) (get_or ns 2 0))
    (codes "swap", 3, λ ns. Call (Swap (get_or ns 0 0) (get_or ns 1 0) (get_or ns 2 0))))))))

-- the numbers of a line
abbrev pub numbers_in : Line → List ℕ
numbers_in (Call (Get k)) = k ∷ []
numbers_in (Call (Put k v)) = k ∷ v ∷ []
numbers_in (Call (Del k)) = k ∷ []
numbers_in (Call (Add k v)) = k ∷ v ∷ []
numbers_in (Call (Swap k old new)) = k ∷ old ∷ new ∷ []
numbers_in (Call (Part low last)) = []
numbers_in (Call (Move from to)) = from ∷ to ∷ []
numbers_in (Scan low last most) = low ∷ last ∷ most ∷ []

abbrev pub IsWide : Line → Type 0
IsWide (Call (Part low last)) = ⊥
IsWide other = AreSmall (numbers_in other)

pub record Spelled (l : Line) : Type 0 where
  pub ns : List ℕ
  pub small : AreSmall ns
  pub line : line_text l ≡ (kind (line_text l)).0 ++ numbers ns
  pub count : length ns ≡ (kind (line_text l)).1
  pub back : (kind (line_text l)).2 ns ≡ l
  pub shown : (tail : List ℕ) → kind (line_text l ++ tail) ≡ kind (line_text l)
  -- the line begins as neither `caller` nor `run`, and its word has no byte 10
  pub apart : (first (line_text l) ≡ 99 → ⊥) × (first (line_text l) ≡ 114 → ⊥)
  pub some : 0 < length (line_text l)
  pub plain : stands 10 (kind (line_text l)).0 ≡ false

pub spelled_wide : (l : Line) → IsWide l → Spelled l
spelled_wide (Call (Part low last)) h = absurd h
spelled_wide other h = record { ns = numbers_in other; small = h; line = search (rules, append_assoc, append-nil); count = refl; back = refl; shown = λ tail. refl; apart = (λ e. omega (arith, e), λ e. omega (arith, e)); some = omega arith; plain = refl }

-- the values of a version have 128 bits
pub value_small : (version : Version) (v : ℕ) → v < value_limit version → v < 2 ^ 128
value_small First v h = wide v h
value_small other v h = h

pub has_line : (version : Version) (l : Line) → IsLineOf version l → HasLine l
has_line version (Scan low last most) h = (omega (arith, h.1, h.2), h.2, omega (arith, h.4))
has_line version other h = search (rules, value_small)

pub is_wide : (l : Line) → HasLine l → IsWide l
is_wide other h = search (rules, wide)

pub wide_line : (version : Version) (l : Line) → IsLineOf version l → IsWide l
wide_line version l h = is_wide l (has_line version l h)

pub spelled : (version : Version) (l : Line) → IsLineOf version l → Spelled l
spelled version l h = spelled_wide l (wide_line version l h)

-- bytes begin with one line
pub one_line : (a b : Line) (t u : List ℕ) → IsWide a → IsWide b → NoDigit t → NoDigit u → line_text a ++ t ≡ line_text b ++ u → (a ≡ b) × (t ≡ u)
one_line a b t u h i free end e =
    let x = spelled_wide a h in
    let y = spelled_wide b i in
    let k : kind (line_text a) ≡ kind (line_text b) = sym (x.shown t) ∙ (ap kind e ∙ y.shown u) in
    let split : (kind (line_text b)).0 ++ (numbers x.ns ++ t) ≡ (kind (line_text b)).0 ++ (numbers y.ns ++ u) = sym (ap (λ (text : List ℕ). text ++ t) x.line ∙ (ap (λ (p : List ℕ × ℕ × (List ℕ → Line)). (p.0 ++ numbers x.ns) ++ t) k ∙ append_assoc (kind (line_text b)).0 (numbers x.ns) t)) ∙ (e ∙ (ap (λ (text : List ℕ). text ++ u) y.line ∙ append_assoc (kind (line_text b)).0 (numbers y.ns) u)) in
    let same = numbers_told x.ns y.ns t u (x.count ∙ (ap (λ (p : List ℕ × ℕ × (List ℕ → Line)). p.1) k ∙ sym y.count)) x.small y.small free end (append_cancel_left (kind (line_text b)).0 (numbers x.ns ++ t) (numbers y.ns ++ u) split) in
    (sym x.back ∙ (ap (λ (p : List ℕ × ℕ × (List ℕ → Line)). p.2 x.ns) k ∙ (ap (kind (line_text b)).2 same.0 ∙ y.back)), same.1)

-- where a line is read that no script may have there, or that does not end, none comes first
pub no_line : (version : Version) (parts : ℕ) (read : Line) (bytes rest : List ℕ) → HasLine read → bytes ≡ line_text read ++ rest → NoDigit rest → (IsLineWithin version parts read → EndsLine rest → ⊥) → NoneFirst (IsLineWithin version parts) line_text (lines_of bytes)
no_line version parts read bytes rest has line free un =
    none_first (IsLineWithin version parts) line_text bytes
    (λ l is tail ends e.
    let same = one_line read l rest tail (is_wide read has) (wide_line version l is.0) free (end_free tail ends) (sym line ∙ e) in
    un (subst (IsLineWithin version parts) (sym same.0) is) (subst EndsLine (sym same.1) ends))
