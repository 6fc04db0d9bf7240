-- The first n of the pairs whose places and values are in two arrays.
use Rattle.std.specs.Prelude.{◌≡◌, ℕ, zero, suc, ◌<◌, ◌≤◌, ◌+◌, Bool, true, false, ◌&&◌, nat_eq, List, [], ◌∷◌, ◌++◌, length, take, map, get_or, refl}
use Rattle.std.specs.Cmp.Lexicographic.{pointwise}
use Rattle.std.proofs.Common.{arith, ap, sym, ◌∙◌, set, add-one}
use Rattle.ks_keysets.specs.declared.Pair.{Pair}
use Rattle.ks_keysets.specs.Paired.{paired, same_pairs}

pub length-view : (n : ℕ) (ps vs : List ℕ) → n ≤ length ps → n ≤ length vs → length (take n (paired ps vs)) ≡ n
length-view zero ps vs h k = refl
length-view (suc n) [] vs h k = absurd (omega arith)
length-view (suc n) (p ∷ ps) [] h k = absurd (omega arith)
length-view (suc n) (p ∷ ps) (v ∷ vs) h k = ap suc (length-view n ps vs (omega arith) (omega arith))

pub get-view : (n i : ℕ) (ps vs : List ℕ) (p v : ℕ) (d : Pair) → i < n → n ≤ length ps → n ≤ length vs → record { place = get_or ps i p; value = get_or vs i v } ≡ get_or (take n (paired ps vs)) i d
get-view zero i ps vs p v d l h k = absurd (omega arith)
get-view (suc n) i [] vs p v d l h k = absurd (omega arith)
get-view (suc n) i (q ∷ ps) [] p v d l h k = absurd (omega arith)
get-view (suc n) zero (q ∷ ps) (w ∷ vs) p v d l h k = refl
get-view (suc n) (suc i) (q ∷ ps) (w ∷ vs) p v d l h k = get-view n i ps vs p v d (omega arith) (omega arith) (omega arith)

pub push-view : (n : ℕ) (ps vs : List ℕ) (p v : ℕ) → n < length ps → n < length vs → take (suc n) (paired (set ps n p) (set vs n v)) ≡ take n (paired ps vs) ++ record { place = p; value = v } ∷ []
push-view zero [] vs p v h k = absurd (omega arith)
push-view zero (q ∷ ps) [] p v h k = absurd (omega arith)
push-view zero (q ∷ ps) (w ∷ vs) p v h k = refl
push-view (suc n) [] vs p v h k = absurd (omega arith)
push-view (suc n) (q ∷ ps) [] p v h k = absurd (omega arith)
push-view (suc n) (q ∷ ps) (w ∷ vs) p v h k = ap (λ l. record { place = q; value = w } ∷ l) (push-view n ps vs p v (omega arith) (omega arith))

pub len_is : (n : ℕ) (ps vs : List ℕ) (l : List Pair) → n ≤ 16 → (length vs ≡ 16) × (length ps ≡ 16) → take n (paired ps vs) ≡ l → n ≡ length l
len_is n ps vs l h told e = sym (length-view n ps vs (omega (arith, told.1)) (omega (arith, told.0))) ∙ ap length e

pub push_is : (n : ℕ) (ps vs : List ℕ) (p v : ℕ) (l : List Pair) → length l < 16 → n ≤ 16 → (length vs ≡ 16) × (length ps ≡ 16) → take n (paired ps vs) ≡ l → take (n + 1) (paired (set ps n p) (set vs n v)) ≡ l ++ record { place = p; value = v } ∷ []
push_is n ps vs p v l few h told e =
    let same = len_is n ps vs l h told e in
    rw (add-one n) (push-view n ps vs p v (omega (arith, told.1)) (omega (arith, told.0)) ∙ ap (λ xs. xs ++ record { place = p; value = v } ∷ []) e)

pub pair_is : (n i : ℕ) (ps vs : List ℕ) (l : List Pair) → i < length l → n ≤ 16 → (length vs ≡ 16) × (length ps ≡ 16) → take n (paired ps vs) ≡ l → record { place = get_or ps i 0; value = get_or vs i 0 } ≡ get_or l i (record { place = get_or ps i 0; value = get_or vs i 0 })
pair_is n i ps vs l low h told e =
    let d : Pair = record { place = get_or ps i 0; value = get_or vs i 0 } in
    let same = len_is n ps vs l h told e in
    get-view n i ps vs 0 0 d (omega arith) (omega (arith, told.1)) (omega (arith, told.0)) ∙ ap (λ xs. get_or xs i d) e

pub places_in : (n : ℕ) (ps vs : List ℕ) → n ≤ length ps → n ≤ length vs → map (λ x. x.place) (take n (paired ps vs)) ≡ take n ps
places_in zero ps vs h k = refl
places_in (suc n) [] vs h k = absurd (omega arith)
places_in (suc n) (p ∷ ps) [] h k = absurd (omega arith)
places_in (suc n) (p ∷ ps) (v ∷ vs) h k = ap (λ l. p ∷ l) (places_in n ps vs (omega arith) (omega arith))

pub values_in : (n : ℕ) (ps vs : List ℕ) → n ≤ length ps → n ≤ length vs → map (λ x. x.value) (take n (paired ps vs)) ≡ take n vs
values_in zero ps vs h k = refl
values_in (suc n) [] vs h k = absurd (omega arith)
values_in (suc n) (p ∷ ps) [] h k = absurd (omega arith)
values_in (suc n) (p ∷ ps) (v ∷ vs) h k = ap (λ l. v ∷ l) (values_in n ps vs (omega arith) (omega arith))

pub places_are : (n : ℕ) (ps vs : List ℕ) (l : List Pair) → n ≤ 16 → (length vs ≡ 16) × (length ps ≡ 16) → take n (paired ps vs) ≡ l → take n ps ≡ map (λ x. x.place) l
places_are n ps vs l h told e = sym (places_in n ps vs (omega (arith, told.1)) (omega (arith, told.0))) ∙ ap (map (λ x. x.place)) e

pub values_are : (n : ℕ) (ps vs : List ℕ) (l : List Pair) → n ≤ 16 → (length vs ≡ 16) × (length ps ≡ 16) → take n (paired ps vs) ≡ l → take n vs ≡ map (λ x. x.value) l
values_are n ps vs l h told e = sym (values_in n ps vs (omega (arith, told.1)) (omega (arith, told.0))) ∙ ap (map (λ x. x.value)) e

no : false ≡ true → ⊥
no e = cc

both : (p q b d : Bool) → b ≡ true → b ≡ p → d ≡ q → d ≡ (p && q)
both true q b d bt bp dq = dq
both false q b d bt bp dq = absurd (no (sym bp ∙ bt))

first : (p q b : Bool) → b ≡ false → b ≡ p → b ≡ (p && q)
first true q b bf bp = absurd (no (sym bf ∙ bp))
first false q b bf bp = bf

pub then_is : (ps qs vs ws : List ℕ) (xs ys : List Pair) (t d : Bool) → ps ≡ map (λ x. x.place) xs → qs ≡ map (λ x. x.place) ys → vs ≡ map (λ x. x.value) xs → ws ≡ map (λ x. x.value) ys → t ≡ true → t ≡ pointwise nat_eq ps qs → d ≡ pointwise nat_eq vs ws → d ≡ same_pairs xs ys
then_is ps qs vs ws xs ys t d a b v w at is also = both _ _ _ _ at (is ∙ (λ i. pointwise nat_eq (a i) (b i))) (also ∙ (λ i. pointwise nat_eq (v i) (w i)))

pub else_is : (ps qs : List ℕ) (xs ys : List Pair) (t : Bool) → ps ≡ map (λ x. x.place) xs → qs ≡ map (λ x. x.place) ys → t ≡ false → t ≡ pointwise nat_eq ps qs → t ≡ same_pairs xs ys
else_is ps qs xs ys t a b at is = first _ _ _ at (is ∙ (λ i. pointwise nat_eq (a i) (b i)))
