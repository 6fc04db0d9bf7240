-- Small entries that represent entries beside lists of longer ones.
use Rattle.ks_script.proofs.Common.{◌≡◌, ◌++◌, List, [], ◌∷◌, map, refl, ◌∙◌, ap, Result, Ok, Err, OnErr, map_push}
use Rattle.std.specs.Prelude.{All}
use Rattle.std.proofs.lemmas.List.Elements.{All-head, All-tail, All-same, All-push, All-weaker}

-- what is read through two functions that agree where the entries fit
read_along : {X Y : Type 0} (f g : X → Y) (P Q : X → Type 0) (xs : List X) → ((x : X) → P x → Q x × (f x ≡ g x)) → All P xs → map f xs ≡ map g xs
read_along f g P Q [] same fit = refl
read_along f g P Q (x ∷ xs) same fit =
    ap (λ y. y ∷ map f xs) (same x (All-head P x xs fit)).1 ∙ ap (λ ys. g x ∷ ys) (read_along f g P Q xs same (All-tail P x xs fit))

-- what was represented still is, also with one more behind it
module _ {X Y : Type 0} {f g : X → Y} {P Q : X → Type 0} {xs' : List X} (xs : List X) (keeps : (x : X) → P x → Q x × (f x ≡ g x)) (fit : All P xs) where
  pub kept : {ys : List Y} → map g xs ≡ ys → xs' ≡ xs → map f xs' ≡ ys
  kept view same = ap (map f) same ∙ (read_along f g P Q xs keeps fit ∙ view)

  pub one_more : {ys : List Y} {x : X} {y : Y} → map g xs ≡ ys → xs' ≡ xs ++ x ∷ [] → f x ≡ y → map f xs' ≡ ys ++ y ∷ []
  one_more {x = x} view pushed is = ap (map f) pushed ∙ (map_push f xs x ∙ (λ i. (read_along f g P Q xs keeps fit ∙ view) i ++ is i ∷ []))

  pub all_more : {x : X} → xs' ≡ xs ++ x ∷ [] → Q x → All Q xs'
  all_more {x = x} pushed is = All-same Q xs' _ pushed (All-push Q xs x (All-weaker P Q (λ s fits. (keeps s fits).0) xs fit) is)

-- what holds anyhow holds of each result
pub on_err : {T E P : Type 0} (r : Result T E) → P → OnErr r P
on_err (Ok x) p = tt
on_err (Err e) p = p
