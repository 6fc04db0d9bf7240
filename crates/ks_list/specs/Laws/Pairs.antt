-- The pairs of a block as pairs of a record: what each change of the one is to the other.
use Rattle.std.specs.Prelude.{◌≡◌, ℕ, suc, ◌<◌, List, [], ◌∷◌, length, take, drop, refl, slice_index_or, get_or, Some}
use Rattle.std.specs.Option.{option_map}
use Rattle.std.specs.List.{insert, remove}
use Rattle.std.proofs.Common.{ap, ◌∙◌, sym, subst, inl, inr}
use Rattle.std.proofs.lemmas.Bool.Decides.{eqb_tells}
use Rattle.std.proofs.lemmas.List.{take-map, drop-map, map-append, get_or-map, length-map, set_split}
use Rattle.ks_keysets.specs.declared.Pair.{Pair}
use Rattle.ks_node.specs.Keyed.{IsFound, IsMissing, at}
use Rattle.ks_node.specs.Body.{value_at}
use Rattle.ks_node.specs.Effect.{pairs_put, pairs_del}
use Rattle.ks_block.specs.Contents.{set_value}
use Rattle.ks_list.specs.Listed.{pair_of, pairs_of}

pub pairs_length : (xs : List (ℕ × ℕ)) → length (pairs_of xs) ≡ length xs
pairs_length xs = length-map xs pair_of

pub pair_read : (xs : List (ℕ × ℕ)) (i : ℕ) (x : ℕ × ℕ) (d : Pair) → i < length xs → x ≡ slice_index_or xs i x → pair_of x ≡ slice_index_or (pairs_of xs) i d
pair_read xs i x d h is = ap pair_of is ∙ sym (get_or-map pair_of xs i x d h)

found_key : {X : Type 0} (key : X → ℕ) (p : ℕ) (xs : List X) (x : X) → at key p xs ≡ Some x → key x ≡ p
found_key key p [] x e = cc
found_key key p (y ∷ ys) x e = elim (eqb_tells (key y) p) [
  | inl t ↦ (let same : Some y ≡ Some x = rw t.0 at e in let is : y ≡ x = cc in sym (ap key is) ∙ t.1)
  | inr f ↦ found_key key p ys x (rw f.0 at e)
]

pub value_found : (p : ℕ) (xs : List (ℕ × ℕ)) (i : ℕ) (x : ℕ × ℕ) → IsFound (λ x. x.place) p (pairs_of xs) i → x ≡ slice_index_or xs i x → Some x.1 ≡ value_at (pairs_of xs) p
value_found p xs i x f is =
    let h : i < length xs = subst (λ n. i < n) (pairs_length xs) f.within in
    ap (λ q. Some q.value) (pair_read xs i x (pair_of x) h is) ∙ sym (ap (option_map (λ q. q.value)) (f.element (pair_of x)))

module _ (p v : ℕ) (xs : List (ℕ × ℕ)) (i : ℕ) where
  pub put_found : IsFound (λ x. x.place) p (pairs_of xs) i → pairs_of (set_value xs i v) ≡ pairs_put p v (pairs_of xs)
  put_found f =
      let h : i < length xs = subst (λ n. i < n) (pairs_length xs) f.within in
      let here : (get_or xs i (0, v)).0 ≡ p = sym (ap (λ x. x.place) (get_or-map pair_of xs i (0, v) (pair_of (0, v)) h)) ∙ found_key (λ x. x.place) p (pairs_of xs) (get_or (pairs_of xs) i (pair_of (0, v))) (f.element (pair_of (0, v))) in
      ap pairs_of (set_split xs i ((slice_index_or xs i (0, v)).0, v) h)
      ∙ map-append pair_of (take i xs) (((slice_index_or xs i (0, v)).0, v) ∷ drop (suc i) xs)
      ∙ rw (f.lower, f.higher, take-map pair_of i xs, drop-map pair_of (suc i) xs, here) refl

  pub put_missing : IsMissing (λ x. x.place) p (pairs_of xs) i → pairs_of (insert xs i (p, v)) ≡ pairs_put p v (pairs_of xs)
  put_missing f = map-append pair_of (take i xs) ((p, v) ∷ drop i xs) ∙ rw (f.lower, f.higher, take-map pair_of i xs, drop-map pair_of i xs) refl

  pub del_found : IsFound (λ x. x.place) p (pairs_of xs) i → pairs_of (remove xs i) ≡ pairs_del p (pairs_of xs)
  del_found f = map-append pair_of (take i xs) (drop (suc i) xs) ∙ rw (f.lower, f.higher, take-map pair_of i xs, drop-map pair_of (suc i) xs) refl
