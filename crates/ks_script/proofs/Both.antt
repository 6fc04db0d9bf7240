-- Two lists, each entry of the one beside that of the other.
use Rattle.ks_script.proofs.Common.{ℕ, suc, ◌≡◌, ◌+◌, List, [], ◌∷◌, ◌++◌, length, map, refl, sym, ap, subst, ◌∙◌, append_assoc, append-nil, arith, AllByRecursion, AllBoth, Lines, take, get_or, ◌<◌}
use Rattle.ks_script.proofs.Texts.{taken_with}

pub both_length : {X Y : Type 0} (Of : X → Y → Type 0) (xs : List X) (ys : List Y) → AllBoth Of xs ys → length xs ≡ length ys
both_length Of [] [] h = omega arith
both_length Of (x ∷ xs) (y ∷ ys) h = ap suc (both_length Of xs ys h.1)
both_length Of xs ys h = absurd h

pub both_append : {X Y : Type 0} (Of : X → Y → Type 0) (a b : List X) (c d : List Y) → AllBoth Of a c → AllBoth Of b d → AllBoth Of (a ++ b) (c ++ d)
both_append Of [] b [] d h k = k
both_append Of (x ∷ a) b (y ∷ c) d h k = (h.0, both_append Of a b c d h.1 k)
both_append Of a b c d h k = absurd h

-- one entry more
pub both_step : {X Y : Type 0} (Of : X → Y → Type 0) (xs : List X) (i : ℕ) (x : X) (ys : List Y) (y : Y) (all : List Y) → i < length xs → x ≡ get_or xs i x → AllBoth Of (take i xs) ys → Of x y → all ≡ ys ++ y ∷ [] → AllBoth Of (take (i + 1) xs) all
both_step {X = X} Of xs i x ys y all there at h k e =
    subst (λ (zs : List X). AllBoth Of zs all) (sym (taken_with xs i x there at)) (subst (AllBoth Of (take i xs ++ x ∷ [])) (sym e) (both_append Of (take i xs) (x ∷ []) ys (y ∷ []) h (k, tt)))

pub both_map : {X Y : Type 0} (P : X → Type 0) (Of : X → Y → Type 0) (f : X → Y) → ((x : X) → P x → Of x (f x)) → (xs : List X) → AllByRecursion P xs → AllBoth Of xs (map f xs)
both_map P Of f of [] h = tt
both_map P Of f of (x ∷ xs) h = (of x h.0, both_map P Of f of xs h.1)

-- what holds of each pair of entries, in two parts
pub both_join : {X Y : Type 0} (Of To : X → Y → Type 0) (P : Y → Type 0) → ((x : X) (y : Y) → Of x y → P y → To x y) → (xs : List X) (ys : List Y) → AllBoth Of xs ys → AllByRecursion P ys → AllBoth To xs ys
both_join Of To P join [] [] h k = tt
both_join Of To P join (x ∷ xs) (y ∷ ys) h k = (join x y h.0 k.0, both_join Of To P join xs ys h.1 k.1)
both_join Of To P join xs ys h k = absurd h

pub both_split : {X Y : Type 0} (To Of : X → Y → Type 0) (P : Y → Type 0) → ((x : X) (y : Y) → To x y → Of x y × P y) → (xs : List X) (ys : List Y) → AllBoth To xs ys → AllBoth Of xs ys × AllByRecursion P ys
both_split To Of P split [] [] h = (tt, tt)
both_split To Of P split (x ∷ xs) (y ∷ ys) h = let one = split x y h.0 in let on = both_split To Of P split xs ys h.1 in ((one.0, on.0), (one.1, on.1))
both_split To Of P split xs ys h = absurd h

-- if the lines of an entry determine it, those of a list determine the list: lines that begin with those of cs continue with those of the others
module _ {X Y : Type 0} (Of : X → Y → Type 0) (one : ℕ → Y → Lines) (all : ℕ → List Y → Lines) (none : (n : ℕ) → all n [] ≡ []) (next : (n : ℕ) (y : Y) (ys : List Y) → all n (y ∷ ys) ≡ one n y ++ all (n + 1) ys) (tells : (n : ℕ) (x : X) (a b : Y) (u t : Lines) → Of x a → Of x b → one n a ++ u ≡ one n b ++ t → (a ≡ b) × (u ≡ t)) where
  told : (n : ℕ) (first more : List X) (cs ds : List Y) (u t : Lines) → AllBoth Of first cs → AllBoth Of (first ++ more) ds → all n cs ++ u ≡ all n ds ++ t → (left : List Y) × (ds ≡ cs ++ left) × AllBoth Of more left × (u ≡ all (n + length cs) left ++ t)
  told n [] more [] ds u t h k e = (ds, refl, k, ap (λ (ls : Lines). ls ++ u) (sym (none n)) ∙ (e ∙ ap (λ (m : ℕ). all m ds ++ t) (omega arith)))
  told n (x ∷ first) more (c ∷ cs) [] u t h k e = absurd k
  told n (x ∷ first) more (c ∷ cs) (d ∷ ds) u t h k e =
      let here = tells n x c d (all (n + 1) cs ++ u) (all (n + 1) ds ++ t) h.0 k.0 (sym (ap (λ (ls : Lines). ls ++ u) (next n c cs) ∙ append_assoc (one n c) (all (n + 1) cs) u) ∙ (e ∙ (ap (λ (ls : Lines). ls ++ t) (next n d ds) ∙ append_assoc (one n d) (all (n + 1) ds) t))) in
      let on = told (n + 1) first more cs ds u t h.1 k.1 here.1 in
      (on.0, (λ i. sym here.0 i ∷ on.1 i), on.2, on.3 ∙ ap (λ (m : ℕ). all m on.0 ++ t) (omega arith))
  told n first more cs ds u t h k e = absurd h

  -- all of them
  pub told_all : (n : ℕ) (xs : List X) (cs ds : List Y) (u t : Lines) → AllBoth Of xs cs → AllBoth Of xs ds → all n cs ++ u ≡ all n ds ++ t → (cs ≡ ds) × (u ≡ t)
  told_all n xs cs ds u t h k e = let on = told n xs [] cs ds u t h (subst (λ (ys : List X). AllBoth Of ys ds) (sym (append-nil xs)) k) e in by_left on.0 on.1 on.2 on.3
    where
      by_left : (left : List Y) → ds ≡ cs ++ left → AllBoth Of [] left → u ≡ all (n + length cs) left ++ t → (cs ≡ ds) × (u ≡ t)
      by_left [] f h g = (sym (f ∙ append-nil cs), g ∙ ap (λ (ls : Lines). ls ++ t) (none (n + length cs)))
      by_left (y ∷ left) f h g = absurd h

  -- or one more
  pub told_next : (n : ℕ) (first : List X) (x : X) (more : List X) (cs ds : List Y) (u t : Lines) → AllBoth Of first cs → AllBoth Of (first ++ x ∷ more) ds → all n cs ++ u ≡ all n ds ++ t → (y : Y) × (behind : Lines) × Of x y × (u ≡ one (n + length cs) y ++ behind)
  told_next n first x more cs ds u t h k e = let on = told n first (x ∷ more) cs ds u t h k e in by_left on.0 on.2 on.3
    where
      by_left : (left : List Y) → AllBoth Of (x ∷ more) left → u ≡ all (n + length cs) left ++ t → (y : Y) × (behind : Lines) × Of x y × (u ≡ one (n + length cs) y ++ behind)
      by_left [] h g = absurd h
      by_left (y ∷ left) h g = (y, all (n + length cs + 1) left ++ t, h.0, g ∙ (ap (λ (ls : Lines). ls ++ t) (next (n + length cs) y left) ∙ append_assoc (one (n + length cs) y) (all (n + length cs + 1) left) t))
