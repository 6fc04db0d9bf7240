-- Which reason is said, if callers were served and if not.
use Rattle.std.proofs.Common.{ℕ, ◌≡◌, ◌⊎◌, inl, inr, List, Option, None, sym, ◌∙◌, subst, arith}
use Rattle.ks_script.specs.declared.reasons.Reason.{Reason}
use Rattle.ks_ends.specs.Parts.{ReasonWith}

not_refused : (status : ℕ) → (status ≡ 0) ⊎ ((status ≡ 4) ⊎ (status ≡ 5)) → status ≡ 2 → ⊥
not_refused status (inl e) is = omega (arith, e, is)
not_refused status (inr (inl e)) is = omega (arith, e, is)
not_refused status (inr (inr e)) is = omega (arith, e, is)

-- callers were served, or memory ran out
pub served_reason : (words : List (List ℕ)) (left : Option (List ℕ)) (status line : ℕ) (why : Option Reason) → (status ≡ 0) ⊎ ((status ≡ 4) ⊎ (status ≡ 5)) → ReasonWith words status line why left
served_reason words left status line why known = λ text asks is. absurd (not_refused status known is)

-- the program ended without that
pub ended_reason : (words : List (List ℕ)) (left : Option (List ℕ)) (s t l m : ℕ) (why said : Option Reason) → t ≡ s → m ≡ l → said ≡ why → ReasonWith words s l why left → ReasonWith words t m said left
ended_reason words left s t l m why said st li wh h =
    subst (λ (r : Option Reason). ReasonWith words t m r left) (sym wh) (subst (λ (n : ℕ). ReasonWith words t n why left) (sym li) (subst (λ (n : ℕ). ReasonWith words n l why left) (sym st) h))

pub ended_silent : (s t : ℕ) (why said : Option Reason) → t ≡ s → said ≡ why → ((s ≡ 2 → ⊥) → why ≡ None) → (t ≡ 2 → ⊥) → said ≡ None
ended_silent s t why said st wh h not = wh ∙ h (λ is. not (st ∙ is))
