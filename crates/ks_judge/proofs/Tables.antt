-- Which numbers the lines of a served run carry, and in which order.
use Rattle.std.proofs.Common.{ℕ, zero, suc, ◌≡◌, ◌≢◌, ◌<◌, ◌≤◌, ◌+◌, ◌==◌, cond, List, [], ◌∷◌, ◌++◌, length, get_or, map, Some, refl, sym, ◌∙◌, ap, subst, arith, add-one}
use Rattle.std.specs.Prelude.{slice_get}
use mathlib.Core.Logic.{dite}
use native.Mathlib.Decide.{ℕ_discrete}
use Rattle.std.proofs.lemmas.List.{length-append, get_or_append_left}
use Rattle.std.proofs.Math.Seq.{get_or-append_seam}
use Rattle.ks_history.specs.declared.Op.{Op}
use Rattle.ks_history.specs.declared.Reply.{Reply}
use Rattle.ks_history.specs.declared.Event.{Event}
use Rattle.ks_history.specs.Trace.{calls_by}
use Rattle.ks_history.specs.Served.{at_place}
use Rattle.ks_history.specs.Laws.Stays.{cond_here, cond_else}
use Rattle.ks_judge.specs.Judgment.{carriers_in, carriers_from}

-- the lines of a caller after a trace, and its operations, with keys for places
abbrev pub lines_by : List Event → ℕ → List (ℕ × Reply)
lines_by h c = map (λ x. (x.number, x.call.reply)) (calls_by c h)

abbrev pub ops_by : (ℕ → ℕ) → List Event → ℕ → List Op
ops_by key h c = map (λ x. at_place key x.call.op) (calls_by c h)

-- k rows from row c on
abbrev pub rows : {X : Type 0} → (ℕ → X) → ℕ → ℕ → List X
rows g c zero = []
rows g c (suc k) = g c ∷ rows g (suc c) k

pub rows_are : {X : Type 0} (g : ℕ → X) (c : ℕ) (xs : List X) → ((i : ℕ) (x : X) → slice_get xs i ≡ Some x → g (c + i) ≡ x) → xs ≡ rows g c (length xs)
rows_are g c [] is = refl
rows_are g c (x ∷ xs) is =
    let here : c + 0 ≡ c = omega arith in
    let first : g c ≡ x = subst (λ k. g k ≡ x) here (is 0 x refl) in
    ap (λ y. y ∷ xs) (sym first) ∙ ap (λ l. g c ∷ l) (rows_are g (suc c) xs (λ i y e. let next : c + suc i ≡ suc c + i = omega arith in subst (λ k. g k ≡ y) next (is (suc i) y e)))

pub row_at : {X : Type 0} (g : ℕ → X) (c k i : ℕ) (d : X) → i < k → get_or (rows g c k) i d ≡ g (c + i)
row_at g c zero i d h = absurd (omega arith)
row_at g c (suc k) zero d h = let here : c ≡ c + 0 = omega arith in ap g here
row_at g c (suc k) (suc i) d h = let next : suc c + i ≡ c + suc i = omega arith in row_at g (suc c) k i d (omega arith) ∙ ap g next

-- all numbers of the lines are below n
abbrev pub Below : ℕ → List (ℕ × Reply) → Type 0
Below n [] = Unit {0}
Below n (x ∷ xs) = (x.0 < n) × Below n xs

pub below_more : (n m : ℕ) (xs : List (ℕ × Reply)) → n ≤ m → Below n xs → Below m xs
below_more n m [] le b = tt
below_more n m (x ∷ xs) le b = (omega (arith, b.0), below_more n m xs le b.1)

pub below_push : (n : ℕ) (xs : List (ℕ × Reply)) (x : ℕ × Reply) → Below n xs → x.0 < n → Below n (xs ++ x ∷ [])
below_push n [] x b h = (h, tt)
below_push n (y ∷ ys) x b h = (b.0, below_push n ys x b.1 h)

pub below_at : (n : ℕ) (xs : List (ℕ × Reply)) (i : ℕ) (d : ℕ × Reply) → Below n xs → i < length xs → (get_or xs i d).0 < n
below_at n [] i d b h = absurd (omega arith)
below_at n (x ∷ xs) zero d b h = b.0
below_at n (x ∷ xs) (suc i) d b h = below_at n xs i d b.1 (omega arith)

pub zero_plus : (n : ℕ) → 0 + n ≡ n
zero_plus n = omega arith

-- which lines carry a number

carried_none : (n c j : ℕ) (xs : List (ℕ × Reply)) → Below n xs → carriers_in n c j xs ≡ []
carried_none n c j [] b = refl
carried_none n c j (x ∷ xs) b = cond_else x.0 n ((c, j) ∷ carriers_in n c (j + 1) xs) (carriers_in n c (j + 1) xs) (λ e. omega (arith, b.0)) ∙ carried_none n c (j + 1) xs b.1

carried_other : (n c j : ℕ) (xs : List (ℕ × Reply)) (x : ℕ × Reply) → x.0 ≢ n → carriers_in n c j (xs ++ x ∷ []) ≡ carriers_in n c j xs
carried_other n c j [] x other = cond_else x.0 n ((c, j) ∷ []) [] other
carried_other n c j (y ∷ ys) x other = ap (λ l. cond (y.0 == n) ((c, j) ∷ l) l) (carried_other n c (j + 1) ys x other)

carried_here : (n c j : ℕ) (xs : List (ℕ × Reply)) (x : ℕ × Reply) → Below n xs → x.0 ≡ n → carriers_in n c j (xs ++ x ∷ []) ≡ (c, j + length xs) ∷ []
carried_here n c j [] x b is = let at : j ≡ j + 0 = omega arith in cond_here x.0 n ((c, j) ∷ []) [] is ∙ ap (λ k. (c, k) ∷ []) at
carried_here n c j (y ∷ ys) x b is =
    let at : j + 1 + length ys ≡ j + suc (length ys) = omega arith in
    cond_else y.0 n ((c, j) ∷ carriers_in n c (j + 1) (ys ++ x ∷ [])) (carriers_in n c (j + 1) (ys ++ x ∷ [])) (λ e. omega (arith, b.0))
    ∙ carried_here n c (j + 1) ys x b.1 is
    ∙ ap (λ k. (c, k) ∷ []) at

-- the rows with one line more in row d
abbrev pub pushed : {X : Type 0} → (ℕ → List X) → ℕ → X → ℕ → List X
pushed L d x c = cond (c == d) (L c ++ x ∷ []) (L c)

module _ (L : ℕ → List (ℕ × Reply)) (d : ℕ) (x : ℕ × Reply) where
  row_other : (n c : ℕ) → x.0 ≢ n → carriers_in n c 0 (pushed L d x c) ≡ carriers_in n c 0 (L c)
  row_other n c other = dite (ℕ_discrete c d)
      (λ e. ap (carriers_in n c 0) (cond_here c d (L c ++ x ∷ []) (L c) e) ∙ carried_other n c 0 (L c) x other)
      (λ e. ap (carriers_in n c 0) (cond_else c d (L c ++ x ∷ []) (L c) e))

  pub from_other : (n c k : ℕ) → x.0 ≢ n → carriers_from n c (rows (pushed L d x) c k) ≡ carriers_from n c (rows L c k)
  from_other n c zero other = refl
  from_other n c (suc k) other =
      ap (λ l. l ++ carriers_from n (c + 1) (rows (pushed L d x) (suc c) k)) (row_other n c other)
      ∙ ap (λ l. carriers_in n c 0 (L c) ++ l) (ap (λ b. carriers_from n b (rows (pushed L d x) (suc c) k)) (add-one c) ∙ from_other n (suc c) k other ∙ ap (λ b. carriers_from n b (rows L (suc c) k)) (sym (add-one c)))

  module _ (below : (c : ℕ) → Below x.0 (L c)) where
    from_outside : (c k : ℕ) → d < c → carriers_from x.0 c (rows (pushed L d x) c k) ≡ []
    from_outside c zero out = refl
    from_outside c (suc k) out =
        ap (λ l. l ++ carriers_from x.0 (c + 1) (rows (pushed L d x) (suc c) k)) (ap (carriers_in x.0 c 0) (cond_else c d (L c ++ x ∷ []) (L c) (λ e. omega arith)) ∙ carried_none x.0 c 0 (L c) (below c))
        ∙ ap (λ b. carriers_from x.0 b (rows (pushed L d x) (suc c) k)) (add-one c)
        ∙ from_outside (suc c) k (omega arith)

    pub from_new : (c k : ℕ) → c ≤ d → d < c + k → carriers_from x.0 c (rows (pushed L d x) c k) ≡ (d, length (L d)) ∷ []
    from_new c zero le lt = absurd (omega arith)
    from_new c (suc k) le lt = dite (ℕ_discrete c d)
        (λ e.
        ap (λ l. l ++ carriers_from x.0 (c + 1) (rows (pushed L d x) (suc c) k)) (ap (carriers_in x.0 c 0) (cond_here c d (L c ++ x ∷ []) (L c) e) ∙ carried_here x.0 c 0 (L c) x (below c) refl)
        ∙ ap (λ l. (c, 0 + length (L c)) ∷ l) (ap (λ b. carriers_from x.0 b (rows (pushed L d x) (suc c) k)) (add-one c) ∙ from_outside (suc c) k (omega arith))
        ∙ ap (λ k. (c, k) ∷ []) (zero_plus (length (L c)))
        ∙ ap (λ b. (b, length (L b)) ∷ []) e)
        (λ e.
        ap (λ l. l ++ carriers_from x.0 (c + 1) (rows (pushed L d x) (suc c) k)) (ap (carriers_in x.0 c 0) (cond_else c d (L c ++ x ∷ []) (L c) e) ∙ carried_none x.0 c 0 (L c) (below c))
        ∙ ap (λ b. carriers_from x.0 b (rows (pushed L d x) (suc c) k)) (add-one c)
        ∙ from_new (suc c) k (omega arith) (omega arith))

-- a list with one element more keeps those before
pub pushed_at : {X : Type 0} (L : ℕ → List X) (d : ℕ) (x : X) (c i : ℕ) (z : X) → i < length (L c) → get_or (pushed L d x c) i z ≡ get_or (L c) i z
pushed_at L d x c i z h = dite (ℕ_discrete c d)
    (λ e. ap (λ l. get_or l i z) (cond_here c d (L c ++ x ∷ []) (L c) e) ∙ get_or_append_left (L c) (x ∷ []) z i h)
    (λ e. ap (λ l. get_or l i z) (cond_else c d (L c ++ x ∷ []) (L c) e))

pub pushed_last : {X : Type 0} (L : ℕ → List X) (d : ℕ) (x z : X) → get_or (pushed L d x d) (length (L d)) z ≡ x
pushed_last L d x z = ap (λ l. get_or l (length (L d)) z) (cond_here d d (L d ++ x ∷ []) (L d) refl) ∙ get_or-append_seam (L d) x [] z

pub pushed_long : {X : Type 0} (L : ℕ → List X) (d : ℕ) (x : X) (c : ℕ) → length (L c) ≤ length (pushed L d x c)
pushed_long L d x c = dite (ℕ_discrete c d)
    (λ e. rw (cond_here c d (L c ++ x ∷ []) (L c) e) (omega (arith, length-append (L c) (x ∷ []))))
    (λ e. rw (cond_else c d (L c ++ x ∷ []) (L c) e) (omega arith))

pub pushed_longer : {X : Type 0} (L : ℕ → List X) (d : ℕ) (x : X) → length (L d) < length (pushed L d x d)
pushed_longer L d x = rw (cond_here d d (L d ++ x ∷ []) (L d) refl) (omega (arith, length-append (L d) (x ∷ [])))
