-- How serving a script ends, by the status: with a run, or with none.
use Rattle.std.proofs.Common.{ℕ, ◌≡◌, ◌<◌, ◌≤◌, ◌⊎◌, inl, inr, true, false, List, [], Option, Some, None, refl, sym, ◌∙◌, subst, arith}
use Rattle.std.specs.Prelude.{IfSome, IsSome, IsNone}
use Rattle.ks_history.specs.declared.Event.{Event}
use Rattle.ks_script.specs.Run.{Run, run_text}
use Rattle.ks_ends.specs.declared.input.Stop.{Stop}
use Rattle.ks_ends.specs.declared.input.Stop.TheVariants.{Refused, Source, Memory}
use Rattle.ks_words.specs.declared.words.Text.TheVariants.{Script}
use Rattle.ks_ends.specs.Serve.{RefusedAt, IsReadWith, Tells, Prints}
use Rattle.ks_ends.specs.Stop.{IsCause, IsUnread, ReadToEnd}

-- what holds of each run holds of none
pub of_none : {X : Type 0} (P : X → Type 0) (o : Option X) → IsNone o → IfSome o P
of_none P None none = tt
of_none P (Some x) none = absurd (cc)

pub not_some : {X : Type 0} (o : Option X) → IsNone o → IsSome o → ⊥
not_some o none some = let e : true ≡ false = sym some ∙ none in cc

pub of_some : {X : Type 0} (P : X → Type 0) (o : Option X) (x : X) → o ≡ Some x → P x → IfSome o P
of_some P o x is p = subst (λ r. IfSome r P) (sym is) p

pub is_there : {X : Type 0} (o : Option X) (x : X) → o ≡ Some x → IsSome o
is_there {X} o x is = subst (λ (r : Option X). IsSome r) (sym is) refl

-- the trace and the text of its run are what is printed
pub prints : (place : ℕ → ℕ) (left : Option (List ℕ)) (run : Option (List Event)) (h : List Event) (r : Run) (Took : List ℕ → Type 0) → run ≡ Some h → IfSome left (λ bytes. Tells place bytes h r) → Took (run_text r) → IfSome left (λ bytes. IfSome run (λ x. Prints place bytes x Took))
prints place None run h r Took is tells took = tt
prints place (Some bytes) run h r Took is tells took = of_some (λ x. Prints place bytes x Took) run h is (record { run = r; tells = tells; took = took })

-- what is known of the status of a run
pub record IsRunEnd (status : ℕ) : Type 0 where
  pub known : (status ≡ 1 → ⊥) × (status ≡ 6 → ⊥) × (status ≤ 7)
  pub refused : status ≡ 2 → ⊥
  pub source : status ≡ 3 → ⊥
  pub unfit : status ≡ 7 → ⊥

run_at : (k status : ℕ) → (k ≡ 0) ⊎ (k ≡ 4) → status ≡ k → IsRunEnd status
run_at k status (inl zero_is) is = record {
  known = (λ e. omega (arith, e), λ e. omega (arith, e), omega arith);
  refused = λ e. omega (arith, e);
  source = λ e. omega (arith, e);
  unfit = λ e. omega (arith, e);
}
run_at k status (inr four_is) is = record {
  known = (λ e. omega (arith, e), λ e. omega (arith, e), omega arith);
  refused = λ e. omega (arith, e);
  source = λ e. omega (arith, e);
  unfit = λ e. omega (arith, e);
}

pub run_end : (status : ℕ) → (status ≡ 0) ⊎ (status ≡ 4) → IsRunEnd status
run_end status (inl e) = run_at 0 status (inl refl) e
run_end status (inr e) = run_at 4 status (inr refl) e

pub neither : (status : ℕ) → (status ≡ 0) ⊎ (status ≡ 4) → (status ≡ 0 → ⊥) → (status ≡ 4 → ⊥) → ⊥
neither status (inl e) done cut = done e
neither status (inr e) done cut = cut e

-- what is known of the status if there is no run
pub record IsHalt (status : ℕ) : Type 0 where
  pub done : status ≡ 0 → ⊥
  pub cut : status ≡ 4 → ⊥
  pub known : (status ≡ 1 → ⊥) × (status ≡ 6 → ⊥) × (status ≤ 7)

halt_at : (k status : ℕ) → 1 < k → k ≤ 7 → (k ≡ 4 → ⊥) → (k ≡ 6 → ⊥) → status ≡ k → IsHalt status
halt_at k status low high four six is = record {
  done = λ e. omega (arith, e);
  cut = λ e. four (sym is ∙ e);
  known = (λ e. omega (arith, e), λ e. six (sym is ∙ e), omega arith);
}

pub unfit_halt : (status : ℕ) → status ≡ 7 → IsHalt status
unfit_halt status is = halt_at 7 status (omega arith) (omega arith) (λ e. omega (arith, e)) (λ e. omega (arith, e)) is

pub unfit_not_refused : (status : ℕ) → status ≡ 7 → status ≡ 2 → ⊥
unfit_not_refused status is e = omega (arith, is, e)

pub unfit_not_source : (status : ℕ) → status ≡ 7 → status ≡ 3 → ⊥
unfit_not_source status is e = omega (arith, is, e)

-- a script that is not read
module _ (status line : ℕ) where
  pub unread_halt : (stop : Stop) → IsUnread stop status line → IsHalt status
  unread_halt (Refused n why) is = halt_at 2 status (omega arith) (omega arith) (λ e. omega (arith, e)) (λ e. omega (arith, e)) is.0
  unread_halt Source is = halt_at 3 status (omega arith) (omega arith) (λ e. omega (arith, e)) (λ e. omega (arith, e)) is.0
  unread_halt Memory is = halt_at 5 status (omega arith) (omega arith) (λ e. omega (arith, e)) (λ e. omega (arith, e)) is.0

  pub unread_not_unfit : (stop : Stop) → IsUnread stop status line → status ≡ 7 → ⊥
  unread_not_unfit (Refused n why) is e = let two = is.0 in omega (arith, two, e)
  unread_not_unfit Source is e = let three = is.0 in omega (arith, three, e)
  unread_not_unfit Memory is e = let five = is.0 in omega (arith, five, e)

  pub unread_line : (stop : Stop) → IsUnread stop status line → (status ≡ 2 → ⊥) → line ≡ 0
  unread_line (Refused n why) is not = absurd (not is.0)
  unread_line Source is not = is.1
  unread_line Memory is not = is.1

  pub unread_end : (stop : Stop) (left after : Option (List ℕ)) → IsUnread stop status line → ReadToEnd stop left after → IsReadWith status line → IfSome left (λ _. after ≡ Some [])
  unread_end (Refused n why) left after is end read = end (λ e. read.2 is.0 (is.1 ∙ e))
  unread_end Source left after is end read = absurd (read.0 is.0)
  unread_end Memory left after is end read = absurd (read.1 is.0)

  pub unread_refused : (stop : Stop) (left : Option (List ℕ)) (rose : Type 0) → IsUnread stop status line → IsCause stop Script left rose → status ≡ 2 → IfSome left (λ bytes. RefusedAt Script bytes line)
  unread_refused (Refused n why) left rose is cause e = subst (λ m. IfSome left (λ bytes. RefusedAt Script bytes m)) (sym is.1) cause.0
  unread_refused Source left rose is cause e = let three = is.0 in absurd (omega (arith, three, e))
  unread_refused Memory left rose is cause e = let five = is.0 in absurd (omega (arith, five, e))

  pub unread_source : (stop : Stop) (left : Option (List ℕ)) (rose : Type 0) → IsUnread stop status line → IsCause stop Script left rose → status ≡ 3 → rose
  unread_source (Refused n why) left rose is cause e = let two = is.0 in absurd (omega (arith, two, e))
  unread_source Source left rose is cause e = cause
  unread_source Memory left rose is cause e = let five = is.0 in absurd (omega (arith, five, e))
