-- Counts and sums with one list, and with one pair, more.
use Rattle.std.proofs.Common.{ℕ, ◌≡◌, ◌<◌, ◌+◌, ◌*◌, ◌%◌, ◌^◌, List, [], ◌∷◌, ◌++◌, length, take, get_or, Bool, true, false, refl, sym, ◌∙◌, ap, arith}
use Rattle.std.specs.Prelude.{count_by}
use Rattle.std.proofs.Math.Nat.{add-mod, mul_comm}
use Rattle.std.proofs.lemmas.Nat.{mul-mod_first}
use Rattle.std.proofs.lemmas.List.{take_more}
use Rattle.std.proofs.lemmas.List.Sums.{count_by_more_yes, count_by_more_no}
use Rattle.ks_lines.specs.declared.Line.{Line}
use Rattle.ks_lines.specs.declared.Said.{Said}
use Rattle.ks_script.specs.Script.{calls_in}
use Rattle.ks_generator.specs.declared.summing.Kind.{Kind}
use Rattle.ks_generator.specs.Summary.{is_some_of, reply_in, replies_of, sum_of}

replies-append : (k : Kind) (xs ys : List (List Said)) → replies_of k (xs ++ ys) ≡ replies_of k xs + replies_of k ys
replies-append k [] ys = omega arith
replies-append k (x ∷ xs) ys = let e = replies-append k xs ys in omega (arith, e)

calls-append : (xs ys : List (List Line)) → calls_in (xs ++ ys) ≡ calls_in xs + calls_in ys
calls-append [] ys = omega arith
calls-append (x ∷ xs) ys = let e = calls-append xs ys in omega (arith, e)

sum-append : (xs ys : List (ℕ × ℕ)) → sum_of (xs ++ ys) ≡ sum_of xs + sum_of ys
sum-append [] ys = omega arith
sum-append (x ∷ xs) ys = let e = sum-append xs ys in omega (arith, e)

plus_none : (n : ℕ) → n ≡ n + 0
plus_none n = omega arith

pub count_more : {X : Type 0} (p : X → Bool) (xs : List X) (i total n : ℕ) (x : X) → i < length xs → x ≡ get_or xs i x → (p x ≡ true → n ≡ 1) → (p x ≡ false → n ≡ 0) → total ≡ count_by p (take i xs) → total + n ≡ count_by p (take (i + 1) xs)
count_more p xs i total n x lt is same other so_far = by_case (p x) refl
  where
    by_case : (b : Bool) → p x ≡ b → total + n ≡ count_by p (take (i + 1) xs)
    by_case true e = omega (arith, same e, so_far, count_by_more_yes p xs i x lt (ap p (sym is) ∙ e))
    by_case false e = omega (arith, other e, so_far, count_by_more_no p xs i x lt (ap p (sym is) ∙ e))

pub replies_more : (k : Kind) (xs : List (List Said)) (i total n : ℕ) (d : List Said) → i < length xs → d ≡ get_or xs i d → n ≡ count_by (λ s. is_some_of k (reply_in s)) d → total ≡ replies_of k (take i xs) → total + n ≡ replies_of k (take (i + 1) xs)
replies_more k xs i total n d lt is is_n so_far =
    let last : List Said = get_or xs i d in
    let e : replies_of k (take (i + 1) xs) ≡ replies_of k (take i xs) + replies_of k (last ∷ []) = ap (replies_of k) (take_more xs i d lt) ∙ replies-append k (take i xs) (last ∷ []) in
    let f : n ≡ replies_of k (last ∷ []) = is_n ∙ ap (λ x. count_by (λ (s : Said). is_some_of k (reply_in s)) x) is ∙ plus_none (count_by (λ (s : Said). is_some_of k (reply_in s)) last) in
    omega (arith, e, f, so_far)

pub calls_more : (xs : List (List Line)) (i total n : ℕ) (d : List Line) → i < length xs → d ≡ get_or xs i d → n ≡ length d → total ≡ calls_in (take i xs) → total + n ≡ calls_in (take (i + 1) xs)
calls_more xs i total n d lt is is_n so_far =
    let last : List Line = get_or xs i d in
    let e : calls_in (take (i + 1) xs) ≡ calls_in (take i xs) + calls_in (last ∷ []) = ap calls_in (take_more xs i d lt) ∙ calls-append (take i xs) (last ∷ []) in
    let f : n ≡ calls_in (last ∷ []) = is_n ∙ ap (λ (x : List Line). length x) is ∙ plus_none (length last) in
    omega (arith, e, f, so_far)

mod_product : (a b : ℕ) → (a * (b % 2 ^ 64)) % 2 ^ 64 ≡ (a * b) % 2 ^ 64
mod_product a b = ap (λ (n : ℕ). n % 2 ^ 64) (mul_comm a (b % 2 ^ 64)) ∙ mul-mod_first b a (2 ^ 64) ∙ ap (λ (n : ℕ). n % 2 ^ 64) (mul_comm b a)

pub sum_more : (xs : List (ℕ × ℕ)) (i sum new : ℕ) → i < length xs → new ≡ (sum + ((get_or xs i (0, 0)).0 * ((get_or xs i (0, 0)).1 % 2 ^ 64)) % 2 ^ 64) % 2 ^ 64 → sum ≡ sum_of (take i xs) % 2 ^ 64 → new ≡ sum_of (take (i + 1) xs) % 2 ^ 64
sum_more xs i sum new lt is so_far =
    let a : ℕ = (get_or xs i (0, 0)).0 in
    let b : ℕ = (get_or xs i (0, 0)).1 in
    let s : ℕ = sum_of (take i xs) in
    let whole : sum_of (take (i + 1) xs) ≡ s + (a * b + 0) = ap sum_of (take_more xs i (0, 0) lt) ∙ sum-append (take i xs) (get_or xs i (0, 0) ∷ []) in
    is
    ∙ ap (λ (n : ℕ). (n + (a * (b % 2 ^ 64)) % 2 ^ 64) % 2 ^ 64) so_far
    ∙ ap (λ (n : ℕ). (s % 2 ^ 64 + n) % 2 ^ 64) (mod_product a b)
    ∙ sym (add-mod s (a * b) (2 ^ 64))
    ∙ ap (λ (n : ℕ). (s + n) % 2 ^ 64) (plus_none (a * b))
    ∙ ap (λ (n : ℕ). n % 2 ^ 64) (sym whole)
