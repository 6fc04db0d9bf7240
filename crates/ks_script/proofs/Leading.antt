-- The first line of a text that does not fit a grammar, and lists that are read back from their lines.
use Rattle.ks_script.proofs.Common.{ℕ, ◌≡◌, ◌+◌, ◌-◌, ◌<◌, ◌≤◌, ◌⊎◌, List, [], ◌∷◌, ◌++◌, length, map, take, drop, refl, sym, ap, subst, ◌∙◌, append_assoc, append-nil, arith, inl, inr, length-append, take-append-drop, take-take, AllByRecursion, lines_of, Begins, FirstBad, Lines, NotFirst, NoneFirst, Reads}
use Rattle.std.proofs.Math.Seq.{take-append-add}

pub reads_none : (bytes : List ℕ) → Reads [] bytes bytes 0
reads_none bytes = record { lines_are = refl; counted = refl }

pub reads_on : (f g : Lines) (a b c : List ℕ) (m n k : ℕ) → Reads f a b m → Reads g b c n → k ≡ m + n → Reads (f ++ g) a c k
reads_on f g a b c m n k r s sum = record {
  lines_are = r.lines_are ∙ (ap (λ (ls : Lines). f ++ ls) s.lines_are ∙ sym (append_assoc f g (lines_of c)));
  counted = omega (arith, length-append f g, r.counted, s.counted, sum);
}

pub reads_line : (f : Lines) (l : List ℕ) (a b c : List ℕ) (m k : ℕ) → Reads f a b m → lines_of b ≡ l ∷ lines_of c → k ≡ m + 1 → Reads (f ++ l ∷ []) a c k
reads_line f l a b c m k r e sum = reads_on f (l ∷ []) a b c m 1 k r (record { lines_are = e; counted = refl }) sum

pub reads_all : (f : Lines) (a b : List ℕ) (n : ℕ) → Reads f a b n → b ≡ [] → lines_of a ≡ f
reads_all f a b n r end = r.lines_are ∙ (ap (λ (x : List ℕ). f ++ lines_of x) end ∙ append-nil f)

-- behind some lines of a text of G only lines of H come: where line k of the others fits H no more, it is the first bad one
pub bad_behind : (G H : Lines → Type 0) (lines front back : Lines) (n k : ℕ) → lines ≡ front ++ back → n ≡ length front + k → 0 < k → Begins G (front ++ take (k - 1) back) → ((ls : Lines) → G (front ++ ls) → H ls) → ((k ≤ length back) × (Begins H (take k back) → ⊥)) ⊎ ((k ≡ length back + 1) × (H back → ⊥)) → FirstBad G lines n
bad_behind G H lines front back n k e sum some begun only refused =
    let before : take (n - 1) lines ≡ front ++ take (k - 1) back = ap (λ ls. take (n - 1) ls) e ∙ (ap (λ m. take m (front ++ back)) (let s : n - 1 ≡ length front + (k - 1) = omega arith in s) ∙ take-append-add front back (k - 1)) in
    let through : take n lines ≡ front ++ take k back = ap (λ ls. take n ls) e ∙ (ap (λ m. take m (front ++ back)) sum ∙ take-append-add front back k) in
    let all : length lines ≡ length front + length back = ap length e ∙ length-append front back in
    record {
      place = omega arith;
      before = subst (Begins G) (sym before) begun;
      refused =
          elim refused [
            | inl there ↦
                (let le = there.0 in
                inl (omega arith, (λ h. there.1 (h.0, only (take k back ++ h.0) (subst G (ap (λ ls. ls ++ h.0) through ∙ append_assoc front (take k back) h.0) h.1)))))
            | inr end ↦ (let last = end.0 in inr (omega arith, (λ h. end.1 (only back (subst G e h)))))
          ];
    }

-- what depends on the first of some lines, or that there is none
pub first_same : (P : Lines → Type 0) → ((l : List ℕ) (ls more : Lines) → P (l ∷ ls) → P (l ∷ more)) → (a b : Lines) → take 1 a ≡ take 1 b → P b → P a
first_same P on [] [] e h = h
first_same P on [] (m ∷ b) e h = absurd (let no_way : ⊥ = cc in no_way)
first_same P on (l ∷ a) [] e h = absurd (let no_way : ⊥ = cc in no_way)
first_same P on (l ∷ a) (m ∷ b) e h = let same : m ≡ l = cc in on l b a (subst (λ (k : List ℕ). P (k ∷ b)) same h)

pub not_first_same : (word : List ℕ) (a b : Lines) → take 1 a ≡ take 1 b → NotFirst word b → NotFirst word a
not_first_same word a b e h = first_same (NotFirst word) (λ l ls more h. h) a b e h

-- where no text goes on with the first of the other lines, or with none if there are none, it is the first bad one
pub refused_at : (G : Lines → Type 0) (lines front back : Lines) (n : ℕ) → lines ≡ front ++ back → n ≡ length front → Begins G front → ((ls : Lines) → take 1 ls ≡ take 1 back → G (front ++ ls) → ⊥) → FirstBad G lines (n + 1)
refused_at G lines front back n e sum begun odd =
    bad_behind G (λ (ls : Lines). G (front ++ ls)) lines front back (n + 1) 1 e (omega (arith, sum)) (omega arith) (subst (Begins G) (sym (append-nil front)) begun) (λ ls h. h) (by_back back odd)
  where
    by_back : (ls : Lines) → ((more : Lines) → take 1 more ≡ take 1 ls → G (front ++ more) → ⊥) → ((1 ≤ length ls) × (Begins (λ (x : Lines). G (front ++ x)) (take 1 ls) → ⊥)) ⊎ ((1 ≡ length ls + 1) × (G (front ++ ls) → ⊥))
    by_back [] odd = inr (refl, (λ h. odd [] refl h))
    by_back (l ∷ ls) odd = inl (omega arith, (λ h. odd (l ∷ h.0) refl h.1))

-- what is a text has no line that does not fit
pub bad_no_text : (IsText : List (List ℕ) → Type 0) (lines : List (List ℕ)) (n : ℕ) → FirstBad IsText lines n → IsText lines → ⊥
bad_no_text IsText lines n bad text =
    elim bad.refused [
      | inl there ↦ there.1 (drop n lines, subst IsText (sym (take-append-drop n lines)) text)
      | inr end ↦ end.1 text
    ]

begins_front : (IsText : List (List ℕ) → Type 0) (lines : List (List ℕ)) (m n : ℕ) → m ≤ n → Begins IsText (take n lines) → Begins IsText (take m lines)
begins_front IsText lines m n le b =
    let split : take m lines ++ drop m (take n lines) ≡ take n lines = ap (λ ls. ls ++ drop m (take n lines)) (sym (take-take m n lines le)) ∙ take-append-drop m (take n lines) in
    (drop m (take n lines) ++ b.0, subst IsText (ap (λ ls. ls ++ b.0) (sym split) ∙ append_assoc (take m lines) (drop m (take n lines)) b.0) b.1)

bad_not_before : (IsText : List (List ℕ) → Type 0) (lines : List (List ℕ)) (m n : ℕ) → FirstBad IsText lines m → FirstBad IsText lines n → m < n → ⊥
bad_not_before IsText lines m n p q lt =
    elim p.refused [
      | inl there ↦ there.1 (begins_front IsText lines m (n - 1) (omega arith) q.before)
      | inr end ↦ (elim q.refused [ inl there ↦ (let a = end.0 in let b = there.0 in omega arith) | inr last ↦ (let a = end.0 in let b = last.0 in omega arith) ])
    ]

-- there is one such line at most
pub one_bad : (IsText : List (List ℕ) → Type 0) (lines : List (List ℕ)) (m n : ℕ) → FirstBad IsText lines m → FirstBad IsText lines n → m ≡ n
one_bad IsText lines m n p q = omega (arith, bad_not_before IsText lines m n p q, bad_not_before IsText lines n m q p)

-- where lines begin with those of some things, and are those of others up to a line of none, the others begin with the first
pub told_apart : {X : Type 0} (Is : X → Type 0) (line : X → List ℕ) → ((a b : X) → Is a → Is b → line a ≡ line b → a ≡ b) → (xs ys : List X) (u t : Lines) → AllByRecursion Is xs → AllByRecursion Is ys → NoneFirst Is line t → map line xs ++ u ≡ map line ys ++ t →
    (more : List X) × (ys ≡ xs ++ more) × (u ≡ map line more ++ t)
told_apart Is line one [] ys u t h k none e = (ys, refl, e)
told_apart Is line one (x ∷ xs) [] u t h k none e = absurd (subst (NoneFirst Is line) (sym e) none x h.0 refl)
told_apart {X = X} Is line one (x ∷ xs) (y ∷ ys) u t h k none e =
    let same : line x ≡ line y = cc in
    let tails : map line xs ++ u ≡ map line ys ++ t = cc in
    let on = told_apart Is line one xs ys u t h.1 k.1 none tails in
    (on.0, ap (λ (z : X). z ∷ ys) (sym (one x y h.0 k.0 same)) ∙ ap (λ (zs : List X). x ∷ zs) on.1, on.2)
