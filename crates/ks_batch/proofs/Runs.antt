-- From what is known once all callers are served, what is known of the run with which the program ends.
use Rattle.std.proofs.Common.{ℕ, ◌≡◌, ◌⊎◌, inl, inr, List, Option, Some, None, Result, Ok, Err, sym, subst}
use Rattle.std.specs.Prelude.{IfSome, IfOk, OnErr, IsNone}
use Rattle.ks_history.specs.declared.Event.{Event}
use Rattle.ks_history.specs.Due.{FullsDue}
use Rattle.ks_keysets.specs.Layout.{Layout}
use Rattle.ks_lines.specs.declared.Line.{Line}
use Rattle.ks_arena.specs.Named.{AllNamedBelow}
use Rattle.ks_serving.specs.declared.serving.Told.{Told}
use Rattle.ks_serving.specs.Served.{IsServedBy}
use Rattle.ks_words.specs.declared.pairing.Pairing.{Pairing}
use Rattle.ks_words.specs.Pairings.{structure_row}
use Rattle.ks_words.specs.Words.{AskToServe}
use Rattle.ks_words.specs.Laws.Askings.{served_run, served_make}
use Rattle.ks_ends.specs.declared.printing.Printing.{Printing}
use Rattle.ks_ends.specs.declared.printing.Printing.TheVariants.{Run as Whole, Summary}
use Rattle.ks_ends.specs.declared.request.Request.{Request}
use Rattle.ks_ends.specs.Printing.{Reports, IsPrintingOf, IsSummaryOf, printed_text}
use Rattle.ks_ends.specs.Request.{IsAskedFor, IsToRun, IsToMake}
use Rattle.ks_ends.specs.Left.{Left}
use Rattle.ks_ends.specs.Laws.Ended.{of_none}
use Rattle.ks_ends.specs.Laws.Outcomes.{HasServed, run_left, make_left}
use Rattle.ks_batch.specs.Over.{DueOver, NamedOver}

-- what is known of the trace once all callers are served holds of the run
pub of_served : {E : Type 0} (P : List Event → Type 0) (layout : Layout) (place : ℕ → ℕ) (nodes : ℕ) (script : List (List Line)) (told : Result Told E) (run : Option (List Event)) → OnErr told (IsNone run) → IfOk told (λ t. IfSome run (λ h. h ≡ t.trace)) → IfOk told (IsServedBy layout place nodes script) → ((t : Told) → IsServedBy layout place nodes script t → P t.trace) → IfSome run P
of_served P layout place nodes script (Ok t) None untold same served knows = tt
of_served P layout place nodes script (Ok t) (Some h) untold same served knows = subst P (sym same) (knows t served)
of_served P layout place nodes script (Err e) run untold same served knows = of_none P run untold

-- it reports the script, with what was written
pub reports_of : {E : Type 0} (layout : Layout) (place : ℕ → ℕ) (nodes : ℕ) (printing : Printing) (script : List (List Line)) (told : Result Told E) (run : Option (List Event)) (Took : List ℕ → Type 0) → OnErr told (IsNone run) → IfOk told (λ t. IfSome run (λ h. h ≡ t.trace)) → IfOk told (IsServedBy layout place nodes script) → IfOk told (λ t. Took (printed_text printing script t.printed)) → IfSome run (λ h. Reports place printing script h Took)
reports_of layout place nodes printing script (Err e) run Took untold same served took = of_none (λ h. Reports place printing script h Took) run untold
reports_of layout place nodes printing script (Ok t) None Took untold same served took = tt
reports_of layout place nodes printing script (Ok t) (Some h) Took untold same served took =
    subst (λ h. Reports place printing script h Took) (sym same) (record { run = t.printed; served = served.served; callers = served.callers; took = took })

-- what holds if all were served holds with a premise
pub told_as : {E : Type 0} (Premise : Type 0) (P : Told → Type 0) (told : Result Told E) → IfOk told (λ t. Premise → P t) → Premise → IfOk told P
told_as Premise P (Ok t) p x = p x
told_as Premise P (Err e) p x = tt

-- what is printed is of the script that was asked for
printing_of : (printing : Printing) (script : List (List Line)) → IsSummaryOf printing script → IsPrintingOf printing script
printing_of Whole script is = absurd is
printing_of (Summary size) script is = is

pub asked_printing : (words : List (List ℕ)) (left after : Option (List ℕ)) (request : Request) → IsAskedFor words left after request → IsPrintingOf request.printing request.script
asked_printing words left after request asked = by_command asked.asked
  where
    by_command : IsToRun words left after request ⊎ IsToMake words left after request → IsPrintingOf request.printing request.script
    by_command (inl to) = subst (λ p. IsPrintingOf p request.script) (sym to.printing) tt
    by_command (inr to) = printing_of request.printing request.script to.printing

-- what is left of the words, the source and the output once a request was served
pub asked_left : (words : List (List ℕ)) (left after : Option (List ℕ)) (failed : Type 0) (out out_after : Option (List ℕ)) (out_failed : Type 0) (status line number : ℕ) (request : Request) (run : Option (List Event)) → IsAskedFor words left after request → HasServed (structure_row request.pairing.structure).place request.printing request.script out out_after out_failed status line number run → Left words left after failed out out_after out_failed status line number run
asked_left words left after failed out out_after out_failed status line number request run asked served = by_command asked.asked
  where
    by_command : IsToRun words left after request ⊎ IsToMake words left after request → Left words left after failed out out_after out_failed status line number run
    by_command (inl to) = run_left words left after failed out out_after out_failed status line number request run to served
    by_command (inr to) = make_left words left after failed out out_after out_failed status line number request run to served

-- what holds of the pairing and the number of nodes of a request holds of those that the words name
asked_over : (P : Pairing → ℕ → Type 0) (words : List (List ℕ)) (left after : Option (List ℕ)) (request : Request) → IsAskedFor words left after request → P request.pairing request.setting.nodes → (q : Pairing) (n : ℕ) → AskToServe words q n → P q n
asked_over P words left after request asked x q n serve = by_command asked.asked
  where
    by_command : IsToRun words left after request ⊎ IsToMake words left after request → P q n
    by_command (inl to) = served_run P words request.pairing q request.setting n to.spells serve x
    by_command (inr to) = served_make P words request.pairing q request.setting n to.draft to.spells serve x

pub due_over : (words : List (List ℕ)) (left after : Option (List ℕ)) (request : Request) (run : Option (List Event)) → IsAskedFor words left after request → IfSome run (FullsDue (structure_row request.pairing.structure).layout request.setting.nodes) → DueOver words run
due_over words left after request run asked due = asked_over (λ p n. IfSome run (FullsDue (structure_row p.structure).layout n)) words left after request asked due

pub named_over : (words : List (List ℕ)) (left after : Option (List ℕ)) (request : Request) (run : Option (List Event)) → IsAskedFor words left after request → IfSome run (AllNamedBelow request.setting.nodes) → NamedOver words run
named_over words left after request run asked named = asked_over (λ p n. IfSome run (AllNamedBelow n)) words left after request asked named

-- and if the program ended without that
pub ended_left : (words : List (List ℕ)) (left after : Option (List ℕ)) (failed : Type 0) (out out_after : Option (List ℕ)) (out_failed : Type 0) (s l n status line number : ℕ) (run : Option (List Event)) → Left words left after failed out out_after out_failed s l n None → (status ≡ s) × (line ≡ l) × (number ≡ n) → IsNone run → Left words left after failed out out_after out_failed status line number run
ended_left words left after failed out out_after out_failed s l n status line number None all is none =
    subst (λ x. Left words left after failed out out_after out_failed x line number None) (sym is.0)
    (subst (λ x. Left words left after failed out out_after out_failed s x number None) (sym is.1)
    (subst (λ x. Left words left after failed out out_after out_failed s l x None) (sym is.2) all))
ended_left words left after failed out out_after out_failed s l n status line number (Some h) all is none = absurd (cc)
