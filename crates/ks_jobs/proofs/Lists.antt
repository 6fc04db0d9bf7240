-- Lists that a loop takes apart or puts together.
use Rattle.std.proofs.Common.{◌≡◌, ℕ, ◌⊎◌, List, [], ◌∷◌, ◌++◌, map, length, Option, Some, None, sym, refl, ap, subst, ◌∙◌, arith, inl, inr}
use Rattle.std.specs.Prelude.{All, IfSome, IfNone}
use Rattle.std.proofs.lemmas.List.{map-append, append_assoc, append-nil}
use Rattle.std.proofs.lemmas.List.Elements.{All-head, All-push, All-tail}
use Rattle.ks_lines.specs.Lines.{AllBoth}
use Rattle.ks_tickets.specs.declared.desk.Desk.{Desk}
use Rattle.ks_tickets.specs.declared.desk.Tickets.{Tickets}
use Rattle.ks_tickets.specs.Clauses.{HasEnded, IsBusy}
use Rattle.ks_jobs.specs.Beginning.{HasDrawn}

-- what was made so far and what is left are the whole, and so they are one element later
pub more_of : {X Y : Type 0} (f : X → Y) (made made' : List X) (x : X) (left left' whole : List Y) →
    made' ≡ made ++ x ∷ [] → left ≡ f x ∷ left' → map f made ++ left ≡ whole → map f made' ++ left' ≡ whole
more_of f made made' x left left' whole pushed taken so =
    ap (λ z. map f z ++ left') pushed
    ∙ ap (λ z. z ++ left') (map-append f made (x ∷ []))
    ∙ append_assoc (map f made) (f x ∷ []) left'
    ∙ ap (λ z. map f made ++ z) (sym taken)
    ∙ so

-- the same of what is made of what is left
pub one_from : {X Y : Type 0} (f : X → Y) (made made' : List Y) (x : X) (y : Y) (left left' : List X) (whole : List Y) →
    made' ≡ made ++ y ∷ [] → y ≡ f x → left ≡ x ∷ left' → made ++ map f left ≡ whole → made' ++ map f left' ≡ whole
one_from f made made' x y left left' whole pushed is taken so =
    ap (λ z. z ++ map f left') pushed
    ∙ append_assoc made (y ∷ []) (map f left')
    ∙ ap (λ z. made ++ z ∷ map f left') is
    ∙ ap (λ z. made ++ map f z) (sym taken)
    ∙ so

pub all_made : {Y : Type 0} (made left whole : List Y) → left ≡ [] → made ++ left ≡ whole → made ≡ whole
all_made made left whole none so = sym (append-nil made) ∙ ap (λ z. made ++ z) (sym none) ∙ so

pub all_more : {X : Type 0} (P : X → Type 0) (xs ys : List X) (x : X) → ys ≡ xs ++ x ∷ [] → All P xs → P x → All P ys
all_more P xs ys x pushed all one = subst (All P) (sym pushed) (All-push P xs x all one)

-- what holds of all that is left holds of the first, and of what is left after it
pub all_first : {X : Type 0} (P : X → Type 0) (xs rest : List X) (x : X) → xs ≡ x ∷ rest → All P xs → P x
all_first P xs rest x is all = All-head P x rest (subst (All P) is all)

pub all_after : {X : Type 0} (P : X → Type 0) (xs rest : List X) (x : X) → xs ≡ x ∷ rest → All P xs → All P rest
all_after P xs rest x is all = All-tail P x rest (subst (All P) is all)

-- of two lists of one length both are empty if one is
pub none_left : {X Y : Type 0} (xs : List X) (ys : List Y) → length xs ≡ length ys → (length xs ≡ 0) ⊎ (length ys ≡ 0) → (xs ≡ []) × (ys ≡ [])
none_left [] [] even one = (refl, refl)
none_left [] (y ∷ ys) even one = absurd (omega (arith, even))
none_left (x ∷ xs) [] even one = absurd (omega (arith, even))
none_left (x ∷ xs) (y ∷ ys) even (inl e) = absurd (omega (arith, e))
none_left (x ∷ xs) (y ∷ ys) even (inr e) = absurd (omega (arith, e))

pub ended : {X Y A B : Type 0} {P : A → Type 0} {Q : B → Type 0} (xs : List X) (ys : List Y) (m n : ℕ) → m ≡ length xs → n ≡ length ys → length xs ≡ length ys →
    ((a : A) × ((m ≡ 0) × P a)) ⊎ ((b : B) × ((n ≡ 0) × Q b)) → (xs ≡ []) × (ys ≡ [])
ended xs ys m n is is' even (inl e) = none_left xs ys even (inl (sym is ∙ e.1.0))
ended xs ys m n is is' even (inr e) = none_left xs ys even (inr (sym is' ∙ e.1.0))

both_more : {X Y : Type 0} (Of : X → Y → Type 0) (xs : List X) (ys : List Y) (x : X) (y : Y) → AllBoth Of xs ys → Of x y → AllBoth Of (xs ++ x ∷ []) (ys ++ y ∷ [])
both_more Of [] [] x y all one = (one, tt)
both_more Of [] (z ∷ ys) x y all one = absurd all
both_more Of (w ∷ xs) [] x y all one = absurd all
both_more Of (w ∷ xs) (z ∷ ys) x y all one = (all.0, both_more Of xs ys x y all.1 one)

module _ {X Y Z : Type 0} (Of : X → Z → Type 0) (f : Y → Z) where
  -- of a list all but the rest are done: what was made of each is, seen through f, of it
  pub record Done (whole rest : List X) (made : List Y) : Type 0 where
    pub so_far : List X
    pub are : so_far ++ rest ≡ whole
    pub both : AllBoth Of so_far (map f made)

  pub done_none : (whole rest : List X) (made : List Y) → rest ≡ whole → made ≡ [] → Done whole rest made
  done_none whole rest made all none = record {
    so_far = [];
    are = all;
    both = subst (λ (ys : List Y). AllBoth Of [] (map f ys)) (sym none) tt;
  }

  pub done_more : (whole rest rest' : List X) (made made' : List Y) (x : X) (y : Y) → made' ≡ made ++ y ∷ [] → rest ≡ x ∷ rest' → Of x (f y) → Done whole rest made → Done whole rest' made'
  done_more whole rest rest' made made' x y pushed taken one done = record {
    so_far = done.so_far ++ x ∷ [];
    are = append_assoc done.so_far (x ∷ []) rest' ∙ ap (λ (z : List X). done.so_far ++ z) (sym taken) ∙ done.are;
    both = subst (AllBoth Of (done.so_far ++ x ∷ [])) (sym (ap (map f) pushed ∙ map-append f made (y ∷ []))) (both_more Of done.so_far (map f made) x (f y) done.both one);
  }

  pub done_all : (whole rest : List X) (made : List Y) → rest ≡ [] → Done whole rest made → AllBoth Of whole (map f made)
  done_all whole rest made none done =
      subst (λ (z : List X). AllBoth Of z (map f made)) (sym (append-nil done.so_far) ∙ ap (λ (z : List X). done.so_far ++ z) (sym none) ∙ done.are) done.both

-- a draw, by what it returned
pub has_drawn : {J : Type 0} (waits : J → ℕ → Type 0) (tickets : Tickets J) (desk : Desk J) (drawn : Option (ℕ × J)) → IfSome drawn (λ d. IsBusy tickets d.0 desk) → IfSome drawn (λ d. waits d.1 d.0) → IfNone drawn (HasEnded tickets desk)
    → HasDrawn waits tickets drawn desk
has_drawn waits tickets desk None busy job end = end
has_drawn waits tickets desk (Some d) busy job end = (busy, job)
