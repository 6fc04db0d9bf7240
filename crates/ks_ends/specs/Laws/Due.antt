-- When a refusal and when an answer is due: no bytes are both refused and accepted, and none are refused at two lines.
use Rattle.std.proofs.Common.{ℕ, zero, suc, ◌≡◌, ◌≤◌, ◌<◌, ◌+◌, ◌-◌, ◌⊎◌, ◌↔◌, inl, inr, List, ◌++◌, length, take, drop, Option, Some, None, refl, sym, ◌∙◌, ap, subst, arith, append_assoc}
use Rattle.std.specs.Prelude.{IfSome, IsSome}
use Rattle.std.proofs.lemmas.List.{take-append-drop, take-take}
use Rattle.ks_lines.specs.declared.Line.{Line}
use Rattle.ks_history.specs.declared.Event.{Event}
use Rattle.ks_script.specs.Lines.{lines_of, Begins, FirstBad}
use Rattle.ks_script.specs.Script.{AreScript}
use Rattle.ks_script.specs.Checked.{AreChecked}
use Rattle.ks_script.specs.Run.{Run}
use Rattle.ks_judge.specs.declared.judging.Judged.{Judged}
use Rattle.ks_words.specs.declared.pairing.Pairing.{Pairing}
use Rattle.ks_words.specs.declared.words.Text.{Text}
use Rattle.ks_words.specs.declared.words.Text.TheVariants.{Script, Checked}
use Rattle.ks_ends.specs.Serve.{FirstBadOf, RefusedAt, UnfitAt, Accepts, AcceptsChecked, Prints, Judges, IsCheck}

module _ (IsText : List (List ℕ) → Type 0) (lines : List (List ℕ)) where
  -- the first lines of a text begin one
  begins : (n : ℕ) → IsText lines → Begins IsText (take n lines)
  begins n is = (drop n lines, subst IsText (sym (take-append-drop n lines)) is)

  pub text_not_bad : (n : ℕ) → FirstBad IsText lines n → IsText lines → ⊥
  text_not_bad n bad is = by_side bad.refused
    where
      by_side : ((n ≤ length lines) × (Begins IsText (take n lines) → ⊥)) ⊎ ((n ≡ length lines + 1) × (IsText lines → ⊥)) → ⊥
      by_side (inl x) = x.1 (begins n is)
      by_side (inr x) = x.1 is

  -- fewer lines of those that begin a text begin one
  begins_less : (n m : ℕ) → n ≤ m → Begins IsText (take m lines) → Begins IsText (take n lines)
  begins_less n m le (more, is) =
      let parts : take n lines ++ drop n (take m lines) ≡ take m lines = ap (λ xs. xs ++ drop n (take m lines)) (sym (take-take n m lines le)) ∙ take-append-drop n (take m lines) in
      (drop n (take m lines) ++ more, subst IsText (sym (ap (λ xs. xs ++ more) parts) ∙ append_assoc (take n lines) (drop n (take m lines)) more) is)

  pub bad_not_before : (n m : ℕ) → FirstBad IsText lines n → FirstBad IsText lines m → n < m → ⊥
  bad_not_before n m bad bad' lt = by_side bad.refused
    where
      by_side : ((n ≤ length lines) × (Begins IsText (take n lines) → ⊥)) ⊎ ((n ≡ length lines + 1) × (IsText lines → ⊥)) → ⊥
      by_side (inl x) = x.1 (begins_less n (m - 1) (omega arith) bad'.before)
      by_side (inr x) = elim bad'.refused [ inl y ↦ omega (arith, x.0, y.0) | inr y ↦ omega (arith, x.0, y.0) ]

-- the bytes are refused at no line
abbrev pub IsAccepted : Text → List ℕ → Type 0
IsAccepted text bytes = (n : ℕ) → RefusedAt text bytes n → ⊥

pub script_accepted : (bytes : List ℕ) (script : List (List Line)) → Accepts bytes script → IsAccepted Script bytes
script_accepted bytes script a zero bad = let le = a.within in omega (arith, bad)
script_accepted bytes script a (suc n) bad = text_not_bad AreScript (lines_of bytes) (suc n) bad.1 (a.reads.0, script, a.reads.1)

pub checked_accepted : (bytes : List ℕ) (script : List (List Line)) (run : Run) → AcceptsChecked bytes script run → IsAccepted Checked bytes
checked_accepted bytes script run a zero bad = let le = a.within in omega (arith, bad)
checked_accepted bytes script run a (suc n) bad = text_not_bad AreChecked (lines_of bytes) (suc n) bad.1 (a.reads.0, script, run, a.reads.1)

-- two lines are not both the first bad one
first_once : (text : Text) (bytes : List ℕ) (n m : ℕ) → FirstBadOf text bytes n → FirstBadOf text bytes m → n < m → ⊥
first_once Script bytes n m a b lt = bad_not_before AreScript (lines_of bytes) n m a b lt
first_once Checked bytes n m a b lt = bad_not_before AreChecked (lines_of bytes) n m a b lt

refused_once : (text : Text) (bytes : List ℕ) (n m : ℕ) → RefusedAt text bytes n → RefusedAt text bytes m → m ≡ n
refused_once text bytes zero zero a b = refl
refused_once text bytes zero (suc m) a b = let le = b.0 in absurd (omega (arith, a, le))
refused_once text bytes (suc n) zero a b = let le = a.0 in absurd (omega (arith, b, le))
refused_once text bytes (suc n) (suc m) a b = by_side (side (suc n) (suc m))
  where
    side : (x y : ℕ) → (x < y) ⊎ ((y < x) ⊎ (y ≡ x))
    side x y = grind arith

    by_side : (suc n < suc m) ⊎ ((suc m < suc n) ⊎ (suc m ≡ suc n)) → suc m ≡ suc n
    by_side (inl lt) = absurd (first_once text bytes (suc n) (suc m) a.1 b.1 lt)
    by_side (inr (inl lt)) = absurd (first_once text bytes (suc m) (suc n) b.1 a.1 lt)
    by_side (inr (inr e)) = e

-- what is known of an outcome; Unfit says at which line a text is not served
pub record IsOutcome (text : Text) (left : Option (List ℕ)) (rose out_rose : Type 0) (Unfit : List ℕ → ℕ → Type 0) (status line : ℕ) : Type 0 where
  pub known : (status ≡ 1 → ⊥) × (status ≤ 7)
  pub done : status ≡ 0 → IfSome left (IsAccepted text)
  pub cut : status ≡ 4 → IfSome left (IsAccepted text)
  pub wrong : status ≡ 6 → IfSome left (IsAccepted text)
  pub refused : status ≡ 2 → IfSome left (λ bytes. RefusedAt text bytes line)
  pub unfit : status ≡ 7 → IfSome left (λ bytes. Unfit bytes line)
  pub unfit_accepted : (bytes : List ℕ) (n : ℕ) → Unfit bytes n → IsAccepted text bytes
  pub source : status ≡ 3 → rose
  pub output : status ≡ 4 → out_rose

pub due_refusal : (text : Text) (left : Option (List ℕ)) (rose out_rose : Type 0) (Unfit : List ℕ → ℕ → Type 0) (status line : ℕ) → IsOutcome text left rose out_rose Unfit status line →
    (rose → ⊥) → IfSome left (λ bytes. (n : ℕ) → RefusedAt text bytes n → ((status ≡ 2) × (line ≡ n)) ⊎ (status ≡ 5))
due_refusal text None rose out_rose Unfit status line o calm = tt
due_refusal text (Some bytes) rose out_rose Unfit status line o calm = λ n bad. by_status n bad status refl o.known.1
  where
    by_status : (n : ℕ) → RefusedAt text bytes n → (s : ℕ) → status ≡ s → s ≤ 7 → ((status ≡ 2) × (line ≡ n)) ⊎ (status ≡ 5)
    by_status n bad zero is le = absurd (o.done is n bad)
    by_status n bad (suc zero) is le = absurd (o.known.0 is)
    by_status n bad (suc (suc zero)) is le = inl (is, refused_once text bytes n line bad (o.refused is))
    by_status n bad (suc (suc (suc zero))) is le = absurd (calm (o.source is))
    by_status n bad (suc (suc (suc (suc zero)))) is le = absurd (o.cut is n bad)
    by_status n bad (suc (suc (suc (suc (suc zero))))) is le = inr is
    by_status n bad (suc (suc (suc (suc (suc (suc zero)))))) is le = absurd (o.wrong is n bad)
    by_status n bad (suc (suc (suc (suc (suc (suc (suc zero))))))) is le = absurd (o.unfit_accepted bytes line (o.unfit is) n bad)
    by_status n bad (suc (suc (suc (suc (suc (suc (suc (suc s)))))))) is le = absurd (omega arith)

pub due_answer : (text : Text) (left : Option (List ℕ)) (rose out_rose : Type 0) (Unfit : List ℕ → ℕ → Type 0) (status line : ℕ) → IsOutcome text left rose out_rose Unfit status line →
    (rose → ⊥) → (out_rose → ⊥) → IfSome left (λ bytes. IsAccepted text bytes → ((n : ℕ) → Unfit bytes n → ⊥) → (status ≡ 0) ⊎ ((status ≡ 6) ⊎ (status ≡ 5)))
due_answer text None rose out_rose Unfit status line o calm out_calm = tt
due_answer text (Some bytes) rose out_rose Unfit status line o calm out_calm = λ accepted fit. by_status accepted fit status refl o.known.1
  where
    by_status : IsAccepted text bytes → ((n : ℕ) → Unfit bytes n → ⊥) → (s : ℕ) → status ≡ s → s ≤ 7 → (status ≡ 0) ⊎ ((status ≡ 6) ⊎ (status ≡ 5))
    by_status accepted fit zero is le = inl is
    by_status accepted fit (suc zero) is le = absurd (o.known.0 is)
    by_status accepted fit (suc (suc zero)) is le = absurd (accepted line (o.refused is))
    by_status accepted fit (suc (suc (suc zero))) is le = absurd (calm (o.source is))
    by_status accepted fit (suc (suc (suc (suc zero)))) is le = absurd (out_calm (o.output is))
    by_status accepted fit (suc (suc (suc (suc (suc zero))))) is le = inr (inr is)
    by_status accepted fit (suc (suc (suc (suc (suc (suc zero)))))) is le = inr (inl is)
    by_status accepted fit (suc (suc (suc (suc (suc (suc (suc zero))))))) is le = absurd (fit line (o.unfit is))
    by_status accepted fit (suc (suc (suc (suc (suc (suc (suc (suc s)))))))) is le = absurd (omega arith)

-- what is known of the outcome of a script

printed_accepted : (place : ℕ → ℕ) (left : Option (List ℕ)) (run : Option (List Event)) (Took : List ℕ → Type 0) → IsSome run → IfSome left (λ bytes. IfSome run (λ h. Prints place bytes h Took)) → IfSome left (IsAccepted Script)
printed_accepted place None run Took some p = tt
printed_accepted place (Some bytes) None Took some p = cc
printed_accepted place (Some bytes) (Some h) Took some p = script_accepted bytes p.tells.script p.tells.accepts

-- a script with a line that is not served is accepted
pub unfit_accepted : (pairing : Pairing) (bytes : List ℕ) (n : ℕ) → UnfitAt pairing bytes n → IsAccepted Script bytes
unfit_accepted pairing bytes n unfit = script_accepted bytes unfit.script unfit.accepts

pub script_outcome : (pairing : Pairing) (place : ℕ → ℕ) (left : Option (List ℕ)) (rose out_rose : Type 0) (Whole Front : List ℕ → Type 0) (status line : ℕ) (run : Option (List Event)) →
    (status ≡ 1 → ⊥) × (status ≡ 6 → ⊥) × (status ≤ 7) → IsSome run ↔ ((status ≡ 0) ⊎ (status ≡ 4)) →
    (status ≡ 0 → IfSome left (λ bytes. IfSome run (λ h. Prints place bytes h Whole))) → (status ≡ 4 → IfSome left (λ bytes. IfSome run (λ h. Prints place bytes h Front))) →
    (status ≡ 2 → IfSome left (λ bytes. RefusedAt Script bytes line)) → (status ≡ 7 → IfSome left (λ bytes. UnfitAt pairing bytes line)) → (status ≡ 3 → rose) → (status ≡ 4 → out_rose) → IsOutcome Script left rose out_rose (UnfitAt pairing) status line
script_outcome pairing place left rose out_rose Whole Front status line run known ran done cut refused unfit source output = record {
  known = (known.0, known.2);
  done = λ is. printed_accepted place left run Whole (ran.1 (inl is)) (done is);
  cut = λ is. printed_accepted place left run Front (ran.1 (inr is)) (cut is);
  wrong = λ is. absurd (known.1 is);
  refused = refused;
  unfit = unfit;
  unfit_accepted = unfit_accepted pairing;
  source = source;
  output = output;
}

some_then : {X : Type 0} (P Q : X → Type 0) (o : Option X) → ((x : X) → P x → Q x) → IfSome o P → IfSome o Q
some_then P Q None f p = tt
some_then P Q (Some x) f p = f x p

judged_accepted : (bytes : List ℕ) (judged : Judged) → Judges bytes judged → IsAccepted Checked bytes
judged_accepted bytes judged j = checked_accepted bytes j.script j.run j.accepts

pub check_outcome : (left : Option (List ℕ)) (rose out_rose : Type 0) (old new : Option (List ℕ)) (status line number : ℕ) →
    (status ≡ 1 → ⊥) × (status ≤ 6) → IsCheck left old new status number →
    (status ≡ 2 → IfSome left (λ bytes. RefusedAt Checked bytes line)) → (status ≡ 3 → rose) → (status ≡ 4 → out_rose) → IsOutcome Checked left rose out_rose (λ bytes n. ⊥) status line
check_outcome left rose out_rose old new status line number known c refused source output = record {
  known = (known.0, let le = known.1 in omega arith);
  done = λ is. some_then _ _ left (λ bytes p. judged_accepted bytes _ p.1) (c.legal is);
  cut = λ is. some_then _ _ left (λ bytes p. judged_accepted bytes _ p.1) (c.cut is);
  wrong = λ is. some_then _ _ left (λ bytes p. judged_accepted bytes _ p.0) (c.wrong is);
  refused = refused;
  unfit = λ is. let le = known.1 in absurd (omega arith);
  unfit_accepted = λ bytes n none. absurd none;
  source = source;
  output = output;
}

pub due_done : (pairing : Pairing) (left : Option (List ℕ)) (status : ℕ) → (status ≡ 6 → ⊥) → IfSome left (λ bytes. IsAccepted Script bytes → ((n : ℕ) → UnfitAt pairing bytes n → ⊥) → (status ≡ 0) ⊎ ((status ≡ 6) ⊎ (status ≡ 5)))
    → IfSome left (λ bytes. (script : List (List Line)) → Accepts bytes script → ((n : ℕ) → UnfitAt pairing bytes n → ⊥) → (status ≡ 0) ⊎ (status ≡ 5))
due_done pairing left status right due = some_then _ _ left (λ bytes p script a fit. by_side (p (script_accepted bytes script a) fit)) due
  where
    by_side : (status ≡ 0) ⊎ ((status ≡ 6) ⊎ (status ≡ 5)) → (status ≡ 0) ⊎ (status ≡ 5)
    by_side (inl e) = inl e
    by_side (inr (inl e)) = absurd (right e)
    by_side (inr (inr e)) = inr e

-- and if a line is not served, the status and the line say so, or memory ran out
pub due_unfit : (pairing : Pairing) (left : Option (List ℕ)) (rose out_rose : Type 0) (status line : ℕ) → IsOutcome Script left rose out_rose (UnfitAt pairing) status line → (status ≡ 6 → ⊥) → ((status ≡ 0) ⊎ (status ≡ 4) → IfSome left (λ bytes. (n : ℕ) → UnfitAt pairing bytes n → ⊥)) → (status ≡ 7 → IfSome left (λ bytes. (n : ℕ) → UnfitAt pairing bytes n → line ≡ n)) →
    (rose → ⊥) → IfSome left (λ bytes. (n : ℕ) → UnfitAt pairing bytes n → ((status ≡ 7) × (line ≡ n)) ⊎ (status ≡ 5))
due_unfit pairing None rose out_rose status line o right fit once calm = tt
due_unfit pairing (Some bytes) rose out_rose status line o right fit once calm = λ n unfit. by_status n unfit status refl o.known.1
  where
    by_status : (n : ℕ) → UnfitAt pairing bytes n → (s : ℕ) → status ≡ s → s ≤ 7 → ((status ≡ 7) × (line ≡ n)) ⊎ (status ≡ 5)
    by_status n unfit zero is le = absurd (fit (inl is) n unfit)
    by_status n unfit (suc zero) is le = absurd (o.known.0 is)
    by_status n unfit (suc (suc zero)) is le = absurd (o.unfit_accepted bytes n unfit line (o.refused is))
    by_status n unfit (suc (suc (suc zero))) is le = absurd (calm (o.source is))
    by_status n unfit (suc (suc (suc (suc zero)))) is le = absurd (fit (inr is) n unfit)
    by_status n unfit (suc (suc (suc (suc (suc zero))))) is le = inr is
    by_status n unfit (suc (suc (suc (suc (suc (suc zero)))))) is le = absurd (right is)
    by_status n unfit (suc (suc (suc (suc (suc (suc (suc zero))))))) is le = inl (is, once is n unfit)
    by_status n unfit (suc (suc (suc (suc (suc (suc (suc (suc s)))))))) is le = absurd (omega arith)

pub due_judged : (left : Option (List ℕ)) (status : ℕ) → IfSome left (λ bytes. IsAccepted Checked bytes → ((n : ℕ) → ⊥ → ⊥) → (status ≡ 0) ⊎ ((status ≡ 6) ⊎ (status ≡ 5))) → IfSome left (λ bytes. (script : List (List Line)) (run : Run) → AcceptsChecked bytes script run → (status ≡ 0) ⊎ ((status ≡ 6) ⊎ (status ≡ 5)))
due_judged left status due = some_then _ _ left (λ bytes p script run a. p (checked_accepted bytes script run a) (λ n none. none)) due
