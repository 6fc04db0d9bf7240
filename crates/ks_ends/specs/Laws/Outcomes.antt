-- What is left of the words, the source and the output, by how the program ends.
use Rattle.std.proofs.Common.{ℕ, ◌≡◌, ◌≤◌, ◌⊎◌, ◌↔◌, inl, inr, List, [], Option, Some, None, refl, sym, ◌∙◌, subst, arith}
use Rattle.std.specs.Prelude.{IfSome, IsSome, IsNone}
use Rattle.ks_lines.specs.declared.Line.{Line}
use Rattle.ks_lines.specs.declared.setting.Setting.{Setting}
use Rattle.ks_lines.specs.ServedLines.{ServedLines}
use Rattle.ks_history.specs.declared.Event.{Event}
use Rattle.ks_history.specs.Callers.{CallersBelow}
use Rattle.ks_script.specs.Outside.{Grew, GrewByFront}
use Rattle.ks_generator.specs.Made.{made}
use Rattle.ks_generator.specs.Summary.{summary_text}
use Rattle.ks_words.specs.declared.pairing.Pairing.{Pairing}
use Rattle.ks_words.specs.declared.words.Draft.{Draft}
use Rattle.ks_words.specs.declared.words.Asked.TheVariants.{Run, Make, Check}
use Rattle.ks_words.specs.declared.words.Text.{Text}
use Rattle.ks_words.specs.declared.words.Text.TheVariants.{Script, Checked}
use Rattle.ks_words.specs.Pairings.{structure_row}
use Rattle.ks_words.specs.Words.{Spells, IsCommand, Asks}
use Rattle.ks_words.specs.Laws.Askings.{run_not_check, run_not_make, make_not_check, asks_command, make_command, of_run}
use Rattle.ks_ends.specs.declared.request.Halt.{Halt}
use Rattle.ks_ends.specs.declared.request.Halt.TheVariants.{Unread, Unfit}
use Rattle.ks_ends.specs.declared.printing.Printing.{Printing}
use Rattle.ks_ends.specs.declared.printing.Printing.TheVariants.{Run as Whole, Summary}
use Rattle.ks_ends.specs.declared.request.Request.{Request}
use Rattle.ks_ends.specs.Serve.{RefusedAt, UnfitAt, Accepts, IsReadWith, PrintsRun, IsCheck}
use Rattle.ks_ends.specs.Stop.{IsHalted, IsHaltCause, IsOneHalt, HaltsAtEnd}
use Rattle.ks_ends.specs.Make.{Sums}
use Rattle.ks_ends.specs.Printing.{IsSummaryOf, Reports}
use Rattle.ks_ends.specs.Request.{IsToRun, IsToMake}
use Rattle.ks_ends.specs.Left.{Left}
use Rattle.ks_ends.specs.Laws.Due.{script_outcome, check_outcome, due_refusal, due_answer, due_done, due_unfit, due_judged}
use Rattle.ks_ends.specs.Laws.Ended.{not_some, neither, unfit_halt, unfit_not_refused, unfit_not_source, unread_halt, unread_not_unfit, unread_line, unread_end, unread_refused, unread_source}
use Rattle.ks_ends.specs.Laws.Drafted.{many_callers}

-- what is printed of a run, in the words of the command

prints_of : (place : ℕ → ℕ) (printing : Printing) (script : List (List Line)) (left : Option (List ℕ)) (run : Option (List Event)) (Took : List ℕ → Type 0) → printing ≡ Whole → IfSome left (λ bytes. Accepts bytes script) → IfSome run (λ h. Reports place printing script h Took) → PrintsRun place left run Took
prints_of place printing script None run Took is a r = tt
prints_of place printing script (Some bytes) None Took is a r = tt
prints_of place printing script (Some bytes) (Some h) Took is a r = let x = subst (λ p. Reports place p script h Took) is r in record {
  run = x.run;
  tells = record { script = script; accepts = a; served = x.served; callers = x.callers };
  took = x.took;
}

sums_of : (place : ℕ → ℕ) (printing : Printing) (script : List (List Line)) (draft : Draft) (run : Option (List Event)) (Took : List ℕ → Type 0) → IsSummaryOf printing script → script ≡ made draft.callers draft.calls draft.first → IfSome run (λ h. Reports place printing script h Took) → IfSome run (λ h. Sums place draft h Took)
sums_of place Whole script draft run Took is e r = absurd is
sums_of place (Summary size) script draft None Took is e r = tt
sums_of place (Summary size) script draft (Some h) Took is e r = record {
  run = r.run;
  served = subst (λ s. ServedLines place s r.run.callers r.run.pairs h) e r.served;
  callers = subst (λ n. CallersBelow n h) (many_callers script draft e) r.callers;
  took = subst (λ s. Took (summary_text s r.run)) e r.took;
}

-- the statuses with which serving ends
abbrev IsServedStatus : ℕ → Type 0
IsServedStatus status = (status ≡ 0) ⊎ ((status ≡ 4) ⊎ (status ≡ 5))

other_status : (k status : ℕ) → (k ≡ 0 → ⊥) → (k ≡ 4 → ⊥) → (k ≡ 5 → ⊥) → IsServedStatus status → status ≡ k → ⊥
other_status k status zero four five (inl e) is = zero (sym is ∙ e)
other_status k status zero four five (inr (inl e)) is = four (sym is ∙ e)
other_status k status zero four five (inr (inr e)) is = five (sym is ∙ e)

few_statuses : (status : ℕ) → IsServedStatus status → status ≤ 7
few_statuses status (inl e) = omega (arith, e)
few_statuses status (inr (inl e)) = omega (arith, e)
few_statuses status (inr (inr e)) = omega (arith, e)

not_one : (status : ℕ) → IsServedStatus status → status ≡ 1 → ⊥
not_one status served is = other_status 1 status (λ e. omega (arith, e)) (λ e. omega (arith, e)) (λ e. omega (arith, e)) served is

not_two : (status : ℕ) → IsServedStatus status → status ≡ 2 → ⊥
not_two status served is = other_status 2 status (λ e. omega (arith, e)) (λ e. omega (arith, e)) (λ e. omega (arith, e)) served is

not_three : (status : ℕ) → IsServedStatus status → status ≡ 3 → ⊥
not_three status served is = other_status 3 status (λ e. omega (arith, e)) (λ e. omega (arith, e)) (λ e. omega (arith, e)) served is

not_six : (status : ℕ) → IsServedStatus status → status ≡ 6 → ⊥
not_six status served is = other_status 6 status (λ e. omega (arith, e)) (λ e. omega (arith, e)) (λ e. omega (arith, e)) served is

not_seven : (status : ℕ) → IsServedStatus status → status ≡ 7 → ⊥
not_seven status served is = other_status 7 status (λ e. omega (arith, e)) (λ e. omega (arith, e)) (λ e. omega (arith, e)) served is

-- what is known of a run, if there is one, once its request was served, or memory ran out
pub record HasServed (place : ℕ → ℕ) (printing : Printing) (script : List (List Line)) (out out_after : Option (List ℕ)) (out_failed : Type 0) (status line number : ℕ) (run : Option (List Event)) : Type 0 where
  pub known : IsServedStatus status
  pub ran : IsSome run ↔ ((status ≡ 0) ⊎ (status ≡ 4))
  pub line_is : line ≡ 0
  pub number_is : number ≡ 0
  pub done : status ≡ 0 → IfSome run (λ h. Reports place printing script h (λ t. Grew out out_after t))
  pub cut : status ≡ 4 → IfSome run (λ h. Reports place printing script h (λ t. GrewByFront out out_after t))
  pub untouched : (status ≡ 0 → ⊥) → (status ≡ 4 → ⊥) → out_after ≡ out
  pub output : status ≡ 4 → out_failed

module _ (words : List (List ℕ)) (left after : Option (List ℕ)) (failed : Type 0) (out out_after : Option (List ℕ)) (out_failed : Type 0) (status line number : ℕ) where
  -- the words ask for no text but this one
  script_text : (P : Text → Type 0) (p : Pairing) (setting : Setting) → Spells words (Run p setting) → P Script → (t : Text) → Asks words t → P t
  script_text P p setting s x Script asks = x
  script_text P p setting s x Checked check = absurd (run_not_check words p setting s check)

  checked_text : (P : Text → Type 0) → Spells words Check → P Checked → (t : Text) → Asks words t → P t
  checked_text P check x Script (p, n, (setting, is, s)) = absurd (run_not_check words p setting s check)
  checked_text P check x Checked asks = x

  no_text : (P : Text → Type 0) (p : Pairing) (setting : Setting) (d : Draft) → Spells words (Make p setting d) → (t : Text) → Asks words t → P t
  no_text P p setting d s Script (q, n, (other, is, k)) = absurd (run_not_make words q p other setting d k s)
  no_text P p setting d s Checked check = absurd (make_not_check words p setting d s check)

  -- the words are no command
  pub none_left : (IsCommand words → ⊥) → status ≡ 1 → line ≡ 0 → number ≡ 0 → after ≡ left → out_after ≡ out → Left words left after failed out out_after out_failed status line number None
  none_left not is line_is number_is unread same = record {
    ran = λ asks. absurd (not (asks_command words Script asks));
    not_ran = λ _. refl;
    none = λ _. refl;
    done = λ p n asks. absurd (not (asks_command words Script (p, n, asks)));
    cut = λ p n asks. absurd (not (asks_command words Script (p, n, asks)));
    checked = λ asks. absurd (not (asks_command words Checked asks));
    made = λ make. absurd (not (make_command words make));
    untouched = λ _ _ _. same;
    end = λ t asks. absurd (not (asks_command words t asks));
    unread = λ _. unread;
    known = omega (arith, is);
    usage = (λ _. not, λ _. is);
    refused = λ t asks. absurd (not (asks_command words t asks));
    refusal_due = λ t asks. absurd (not (asks_command words t asks));
    unfit = λ e. absurd (omega (arith, is, e));
    unfit_due = λ p n asks. absurd (not (asks_command words Script (p, n, asks)));
    source = λ e. absurd (omega (arith, is, e));
    output = λ e. absurd (omega (arith, is, e));
    judgment = λ e. absurd (omega (arith, is, e));
    done_due = λ p n asks. absurd (not (asks_command words Script (p, n, asks)));
    judged_due = λ asks. absurd (not (asks_command words Checked asks));
    line_is = λ _ _. line_is;
    number_is = λ _. number_is;
  }

  -- what is known of how serving a script ends, with a run or without one
  record IsScriptEnd (p : Pairing) (run : Option (List Event)) : Type 0 where
    pub known : (status ≡ 1 → ⊥) × (status ≡ 6 → ⊥) × (status ≤ 7)
    pub ran : IsSome run ↔ ((status ≡ 0) ⊎ (status ≡ 4))
    pub line_is : (status ≡ 2 → ⊥) → (status ≡ 7 → ⊥) → line ≡ 0
    pub number_is : number ≡ 0
    pub done : status ≡ 0 → PrintsRun (structure_row p.structure).place left run (λ t. Grew out out_after t)
    pub cut : status ≡ 4 → PrintsRun (structure_row p.structure).place left run (λ t. GrewByFront out out_after t)
    pub end : IsReadWith status line → IfSome left (λ _. after ≡ Some [])
    pub untouched : (status ≡ 0 → ⊥) → (status ≡ 4 → ⊥) → out_after ≡ out
    pub refused : status ≡ 2 → IfSome left (λ bytes. RefusedAt Script bytes line)
    pub unfit : status ≡ 7 → IfSome left (λ bytes. UnfitAt p bytes line)
    pub once : status ≡ 7 → IfSome left (λ bytes. (n : ℕ) → UnfitAt p bytes n → line ≡ n)
    pub fit : (status ≡ 0) ⊎ (status ≡ 4) → IfSome left (λ bytes. (n : ℕ) → UnfitAt p bytes n → ⊥)
    pub source : status ≡ 3 → failed
    pub output : status ≡ 4 → out_failed

  script_left : (p : Pairing) (setting : Setting) (run : Option (List Event)) → Spells words (Run p setting) → IsScriptEnd p run → Left words left after failed out out_after out_failed status line number run
  script_left p setting run s e =
      let known = script_outcome p (structure_row p.structure).place left failed out_failed (λ t. Grew out out_after t) (λ t. GrewByFront out out_after t) status line run e.known e.ran e.done e.cut e.refused e.unfit e.source e.output in
      record {
        ran = λ _. e.ran;
        not_ran = λ check. absurd (run_not_check words p setting s check);
        none = λ is. absurd (e.known.0 is);
        done = λ q n asks. of_run (λ r _. status ≡ 0 → PrintsRun (structure_row r.structure).place left run (λ t. Grew out out_after t)) words p q setting n s asks e.done;
        cut = λ q n asks. of_run (λ r _. status ≡ 4 → PrintsRun (structure_row r.structure).place left run (λ t. GrewByFront out out_after t)) words p q setting n s asks e.cut;
        checked = λ check. absurd (run_not_check words p setting s check);
        made = λ make. absurd (run_not_make words p make.0 setting make.3.0 make.2 s make.3.2);
        untouched = λ done cut _. e.untouched done cut;
        end = λ _ _ read. e.end read;
        unread = λ either. elim either [ inl is ↦ absurd (e.known.0 is) | inr make ↦ absurd (run_not_make words p make.0 setting make.3.0 make.2 s make.3.2) ];
        known = e.known.2;
        usage = (λ is. absurd (e.known.0 is), λ not. absurd (not (Run p setting, s)));
        refused = script_text (λ t. status ≡ 2 → IfSome left (λ bytes. RefusedAt t bytes line)) p setting s e.refused;
        refusal_due = script_text (λ t. (failed → ⊥) → IfSome left (λ bytes. (n : ℕ) → RefusedAt t bytes n → ((status ≡ 2) × (line ≡ n)) ⊎ (status ≡ 5))) p setting s (due_refusal Script left failed out_failed (UnfitAt p) status line known);
        unfit = λ is. (p, setting.nodes, (setting, refl, s), e.unfit is);
        unfit_due = λ q n asks. of_run (λ r _. (failed → ⊥) → IfSome left (λ bytes. (m : ℕ) → UnfitAt r bytes m → ((status ≡ 7) × (line ≡ m)) ⊎ (status ≡ 5))) words p q setting n s asks (due_unfit p left failed out_failed status line known e.known.1 e.fit e.once);
        source = e.source;
        output = e.output;
        judgment = λ is. absurd (e.known.1 is);
        done_due = λ q n asks. of_run (λ r _. (failed → ⊥) → (out_failed → ⊥) → IfSome left (λ bytes. (script : List (List Line)) → Accepts bytes script → ((m : ℕ) → UnfitAt r bytes m → ⊥) → (status ≡ 0) ⊎ (status ≡ 5))) words p q setting n s asks
            (λ calm out_calm. due_done p left status e.known.1 (due_answer Script left failed out_failed (UnfitAt p) status line known calm out_calm));
        judged_due = λ check. absurd (run_not_check words p setting s check);
        line_is = e.line_is;
        number_is = λ _. e.number_is;
      }

  -- a script is not served
  pub halt_left : (halt : Halt) (p : Pairing) (setting : Setting) → Spells words (Run p setting) → IsHalted halt status line → number ≡ 0 → IsOneHalt p halt left → HaltsAtEnd halt left after → IsHaltCause p halt left failed → out_after ≡ out → Left words left after failed out out_after out_failed status line number None
  halt_left (Unread stop) p setting s is number_is one end cause same = let h = unread_halt status line stop is in script_left p setting None s record {
    known = h.known;
    ran = (λ some. absurd (not_some {X = List Event} None refl some), λ e. absurd (neither status e h.done h.cut));
    line_is = λ not _. unread_line status line stop is not;
    number_is = number_is;
    done = λ e. absurd (h.done e);
    cut = λ e. absurd (h.cut e);
    end = λ read. unread_end status line stop left after is end read;
    untouched = λ _ _. same;
    refused = unread_refused status line stop left failed is cause;
    unfit = λ e. absurd (unread_not_unfit status line stop is e);
    once = λ e. absurd (unread_not_unfit status line stop is e);
    fit = λ e. absurd (neither status e h.done h.cut);
    source = unread_source status line stop left failed is cause;
    output = λ e. absurd (h.cut e);
  }
  halt_left (Unfit n) p setting s is number_is one end cause same = let h = unfit_halt status is.0 in script_left p setting None s record {
    known = h.known;
    ran = (λ some. absurd (not_some {X = List Event} None refl some), λ e. absurd (neither status e h.done h.cut));
    line_is = λ _ not. absurd (not is.0);
    number_is = number_is;
    done = λ e. absurd (h.done e);
    cut = λ e. absurd (h.cut e);
    end = λ _. end;
    untouched = λ _ _. same;
    refused = λ e. absurd (unfit_not_refused status is.0 e);
    unfit = λ _. subst (λ m. IfSome left (λ bytes. UnfitAt p bytes m)) (sym is.1) cause;
    once = λ _. subst (λ m. IfSome left (λ bytes. (k : ℕ) → UnfitAt p bytes k → m ≡ k)) (sym is.1) one;
    fit = λ e. absurd (neither status e h.done h.cut);
    source = λ e. absurd (unfit_not_source status is.0 e);
    output = λ e. absurd (h.cut e);
  }

  -- a script was served, or memory ran out
  pub run_left : (request : Request) (run : Option (List Event)) → IsToRun words left after request → HasServed (structure_row request.pairing.structure).place request.printing request.script out out_after out_failed status line number run → Left words left after failed out out_after out_failed status line number run
  run_left request run to e = script_left request.pairing request.setting run to.spells record {
    known = (not_one status e.known, not_six status e.known, few_statuses status e.known);
    ran = e.ran;
    line_is = λ _ _. e.line_is;
    number_is = e.number_is;
    done = λ is. prints_of _ request.printing request.script left run _ to.printing to.accepts (e.done is);
    cut = λ is. prints_of _ request.printing request.script left run _ to.printing to.accepts (e.cut is);
    end = λ _. to.end;
    untouched = e.untouched;
    refused = λ is. absurd (not_two status e.known is);
    unfit = λ is. absurd (not_seven status e.known is);
    once = λ is. absurd (not_seven status e.known is);
    fit = λ _. to.fit;
    source = λ is. absurd (not_three status e.known is);
    output = e.output;
  }

  -- what is known of how serving a made script ends
  record IsMakeEnd (p : Pairing) (draft : Draft) (run : Option (List Event)) : Type 0 where
    pub known : IsServedStatus status
    pub ran : IsSome run ↔ ((status ≡ 0) ⊎ (status ≡ 4))
    pub line_is : line ≡ 0
    pub number_is : number ≡ 0
    pub done : status ≡ 0 → IfSome run (λ h. Sums (structure_row p.structure).place draft h (λ t. Grew out out_after t))
    pub cut : status ≡ 4 → IfSome run (λ h. Sums (structure_row p.structure).place draft h (λ t. GrewByFront out out_after t))
    pub untouched : (status ≡ 0 → ⊥) → (status ≡ 4 → ⊥) → out_after ≡ out
    pub output : status ≡ 4 → out_failed
    pub unread : after ≡ left

  made_left : (p : Pairing) (setting : Setting) (draft : Draft) (run : Option (List Event)) → Spells words (Make p setting draft) → IsMakeEnd p draft run → Left words left after failed out out_after out_failed status line number run
  made_left p setting draft run s e = record {
    ran = no_text (λ _. IsSome run ↔ ((status ≡ 0) ⊎ (status ≡ 4))) p setting draft s Script;
    not_ran = no_text (λ _. IsNone run) p setting draft s Checked;
    none = λ is. absurd (not_one status e.known is);
    done = λ q n asks. absurd (no_text (λ _. ⊥) p setting draft s Script (q, n, asks));
    cut = λ q n asks. absurd (no_text (λ _. ⊥) p setting draft s Script (q, n, asks));
    checked = no_text (λ _. IsCheck left out out_after status number) p setting draft s Checked;
    made = λ _. record { pairing = p; arena = setting.nodes; draft = draft; asks = (setting, refl, s); known = e.known; ran = e.ran; done = e.done; cut = e.cut };
    untouched = λ done cut _. e.untouched done cut;
    end = no_text (λ _. IsReadWith status line → IfSome left (λ _. after ≡ Some [])) p setting draft s;
    unread = λ _. e.unread;
    known = few_statuses status e.known;
    usage = (λ is. absurd (not_one status e.known is), λ not. absurd (not (Make p setting draft, s)));
    refused = no_text (λ t. status ≡ 2 → IfSome left (λ bytes. RefusedAt t bytes line)) p setting draft s;
    refusal_due = no_text (λ t. (failed → ⊥) → IfSome left (λ bytes. (n : ℕ) → RefusedAt t bytes n → ((status ≡ 2) × (line ≡ n)) ⊎ (status ≡ 5))) p setting draft s;
    unfit = λ is. absurd (not_seven status e.known is);
    unfit_due = λ q n asks. absurd (no_text (λ _. ⊥) p setting draft s Script (q, n, asks));
    source = λ is. absurd (not_three status e.known is);
    output = e.output;
    judgment = λ is. absurd (not_six status e.known is);
    done_due = λ q n asks. absurd (no_text (λ _. ⊥) p setting draft s Script (q, n, asks));
    judged_due = λ check. absurd (make_not_check words p setting draft s check);
    line_is = λ _ _. e.line_is;
    number_is = λ _. e.number_is;
  }

  -- a made script was served, or memory ran out
  pub make_left : (request : Request) (run : Option (List Event)) → IsToMake words left after request → HasServed (structure_row request.pairing.structure).place request.printing request.script out out_after out_failed status line number run → Left words left after failed out out_after out_failed status line number run
  make_left request run to e = made_left request.pairing request.setting to.draft run to.spells record {
    known = e.known;
    ran = e.ran;
    line_is = e.line_is;
    number_is = e.number_is;
    done = λ is. sums_of _ request.printing request.script to.draft run _ to.printing to.script (e.done is);
    cut = λ is. sums_of _ request.printing request.script to.draft run _ to.printing to.script (e.cut is);
    untouched = e.untouched;
    output = e.output;
    unread = to.unread;
  }

  -- there was no memory to make a script
  pub unmade_left : (p : Pairing) (setting : Setting) (draft : Draft) → Spells words (Make p setting draft) → status ≡ 5 → line ≡ 0 → number ≡ 0 → after ≡ left → out_after ≡ out → Left words left after failed out out_after out_failed status line number None
  unmade_left p setting draft s is line_is number_is unread same = made_left p setting draft None s record {
    known = inr (inr is);
    ran = (λ some. absurd (not_some {X = List Event} None refl some), λ e. absurd (neither status e (λ zero. omega (arith, is, zero)) (λ four. omega (arith, is, four))));
    line_is = line_is;
    number_is = number_is;
    done = λ e. absurd (omega (arith, is, e));
    cut = λ e. absurd (omega (arith, is, e));
    untouched = λ _ _. same;
    output = λ e. absurd (omega (arith, is, e));
    unread = unread;
  }

  -- a run was judged, or not read
  pub check_left : Spells words Check → (status ≡ 1 → ⊥) × (status ≤ 6) → ((status ≡ 2 → ⊥) → line ≡ 0) → ((status ≡ 6 → ⊥) → number ≡ 0) → IsCheck left out out_after status number → (IsReadWith status line → IfSome left (λ _. after ≡ Some [])) → ((status ≡ 0 → ⊥) → (status ≡ 4 → ⊥) → (status ≡ 6 → ⊥) → out_after ≡ out) → (status ≡ 2 → IfSome left (λ bytes. RefusedAt Checked bytes line)) → (status ≡ 3 → failed) → (status ≡ 4 → out_failed) → Left words left after failed out out_after out_failed status line number None
  check_left s known line_is number_is checked end untouched refused source output =
      let outcome = check_outcome left failed out_failed out out_after status line number known checked refused source output in
      let le = known.1 in
      record {
        ran = λ asks. absurd (run_not_check words asks.0 asks.2.0 asks.2.2 s);
        not_ran = λ _. refl;
        none = λ _. refl;
        done = λ p n asks. absurd (run_not_check words p asks.0 asks.2 s);
        cut = λ p n asks. absurd (run_not_check words p asks.0 asks.2 s);
        checked = λ _. checked;
        made = λ make. absurd (make_not_check words make.0 make.3.0 make.2 make.3.2 s);
        untouched = untouched;
        end = λ _ _. end;
        unread = λ either. elim either [ inl is ↦ absurd (known.0 is) | inr make ↦ absurd (make_not_check words make.0 make.3.0 make.2 make.3.2 s) ];
        known = omega (arith, le);
        usage = (λ is. absurd (known.0 is), λ not. absurd (not (Check, s)));
        refused = checked_text (λ t. status ≡ 2 → IfSome left (λ bytes. RefusedAt t bytes line)) s refused;
        refusal_due = checked_text (λ t. (failed → ⊥) → IfSome left (λ bytes. (n : ℕ) → RefusedAt t bytes n → ((status ≡ 2) × (line ≡ n)) ⊎ (status ≡ 5))) s (due_refusal Checked left failed out_failed (λ bytes n. ⊥) status line outcome);
        unfit = λ is. absurd (omega (arith, le, is));
        unfit_due = λ p n asks. absurd (run_not_check words p asks.0 asks.2 s);
        source = source;
        output = output;
        judgment = λ _. s;
        done_due = λ p n asks. absurd (run_not_check words p asks.0 asks.2 s);
        judged_due = λ _ calm out_calm. due_judged left status (due_answer Checked left failed out_failed (λ bytes n. ⊥) status line outcome calm out_calm);
        line_is = λ not _. line_is not;
        number_is = number_is;
      }
