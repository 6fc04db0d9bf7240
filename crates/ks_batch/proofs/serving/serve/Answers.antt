use Rattle.std.proofs.Common.{◌≡◌, None, map, string_bytes, refl}
use Rattle.ks_history.specs.Due.{FullsDue}
use Rattle.ks_history.specs.Lawful.{Lawful, GoodThroughout}
use Rattle.ks_arena.specs.Named.{AllNamedBelow}
use Rattle.ks_script.specs.Outside.{Rose, Grew, GrewByFront}
use Rattle.ks_words.specs.Pairings.{structure_row}
use Rattle.ks_ends.specs.Left.{Left}
use Rattle.ks_ends.specs.Parts.{ReasonWith}
use Rattle.ks_ends.specs.Laws.Ended.{of_none}
use Rattle.ks_batch.proofs.Runs.{of_served, reports_of, told_as, asked_printing, asked_left, due_over, named_over, ended_left}
use Rattle.ks_batch.proofs.Whys.{served_reason, ended_reason, ended_silent}
use Rattle.ks_batch.proofs.serving.serve.Given as given
use Rattle.ks_batch.proofs.serving.serve.Goals as goal
use Rattle.ks_batch.proofs.serving.serve.Goals.{in-Serves, in-Ends}

-- what is left of the words, the source and the output
left_of : (g : given.Over) (c : goal.After-tell g) → Left (map string_bytes c.args.words.now)
    (g.S.Source.left c.args.source.now) (g.S.Source.left c.begin.new.source) (Rose (g.S.Source.faults c.args.source.now) (g.S.Source.faults c.begin.new.source))
    (g.K.Sink.taken c.args.out.now) (g.K.Sink.taken c.match-begin.out) (Rose (g.K.Sink.faults c.args.out.now) (g.K.Sink.faults c.match-begin.out))
    c.match-begin.outcome.status c.match-begin.outcome.line c.match-begin.outcome.number c.match-begin.outcome.run
left_of g c =
    elim c.match-begin.branch [
      | in-Serves w ↦ rw (w.outcome-is, w.out-is) (
          let q = w.in-Serves.field-0 in
          let asked = w.in-Serves.ensures.asked in
          let same = w.in-Serves.ensures.untouched in
          let fits = asked_printing _ _ _ q asked in
          let told = w.serve_by-told.result in
          let e = w.finish-outcome.ensures in
          let o = w.finish-outcome.result in
          asked_left _ _ _ _ _ _ _ _ _ _ q o.run asked record {
            known = e.status;
            ran = e.ran;
            line_is = e.line;
            number_is = e.number;
            done = λ is. reports_of _ _ _ q.printing q.script told o.run (λ t. Grew (g.K.Sink.taken c.args.out.now) (g.K.Sink.taken w.finish-outcome.new.out) t) e.untold e.run w.serve_by-told.ensures (told_as (o.status ≡ 0) _ told ((rw same at e.done) q.script fits) is);
            cut = λ is. reports_of _ _ _ q.printing q.script told o.run (λ t. GrewByFront (g.K.Sink.taken c.args.out.now) (g.K.Sink.taken w.finish-outcome.new.out) t) e.untold e.run w.serve_by-told.ensures (told_as (o.status ≡ 4) _ told ((rw same at e.cut) q.script fits) is);
            untouched = rw same at e.untouched;
            output = rw same at e.output;
          })
      | in-Ends w ↦ rw (w.outcome-is, w.out-is) (let e = w.without_run-outcome.ensures in ended_left _ _ _ _ _ _ _ _ _ _ _ _ _ _ w.in-Ends.ensures.ends e.ends e.run)
    ]

-- which reason is said, and that none is said with another status
reason_of : (g : given.Over) (c : goal.After-tell g) → ReasonWith (map string_bytes c.args.words.now) c.match-begin.outcome.status c.match-begin.outcome.line c.match-begin.outcome.why (g.S.Source.left c.args.source.now)
reason_of g c =
    elim c.match-begin.branch [
      | in-Serves w ↦ rw w.outcome-is (served_reason _ _ _ _ _ w.finish-outcome.ensures.status)
      | in-Ends w ↦ rw w.outcome-is (let e = w.without_run-outcome.ensures in ended_reason _ _ _ _ _ _ _ _ e.ends.0 e.ends.1 e.why w.in-Ends.ensures.reason)
    ]

silent_of : (g : given.Over) (c : goal.After-tell g) → (c.match-begin.outcome.status ≡ 2 → ⊥) → c.match-begin.outcome.why ≡ None
silent_of g c =
    elim c.match-begin.branch [
      | in-Serves w ↦ rw w.outcome-is (λ _. w.finish-outcome.ensures.why)
      | in-Ends w ↦ rw w.outcome-is (let e = w.without_run-outcome.ensures in ended_silent _ _ _ _ e.ends.0 e.why w.in-Ends.ensures.why)
    ]

pub returns : goal.returns
returns g c =
    let l = left_of g c in
    record {
      lawful = elim c.match-begin.branch [
        | in-Serves w ↦ rw w.outcome-is (let e = w.finish-outcome.ensures in of_served Lawful _ _ _ _ w.serve_by-told.result _ e.untold e.run w.serve_by-told.ensures (λ t served. served.lawful))
        | in-Ends w ↦ rw w.outcome-is (of_none Lawful _ w.without_run-outcome.ensures.run)
      ];
      good = elim c.match-begin.branch [
        | in-Serves w ↦ rw w.outcome-is (let e = w.finish-outcome.ensures in of_served GoodThroughout _ _ _ _ w.serve_by-told.result _ e.untold e.run w.serve_by-told.ensures (λ t served. served.good))
        | in-Ends w ↦ rw w.outcome-is (of_none GoodThroughout _ w.without_run-outcome.ensures.run)
      ];
      due = elim c.match-begin.branch [
        | in-Serves w ↦ rw w.outcome-is (let e = w.finish-outcome.ensures in due_over _ _ _ w.in-Serves.field-0 _ w.in-Serves.ensures.asked (of_served (FullsDue _ _) _ _ _ _ w.serve_by-told.result _ e.untold e.run w.serve_by-told.ensures (λ t served. served.due)))
        | in-Ends w ↦ rw w.outcome-is (λ p n _. of_none (FullsDue (structure_row p.structure).layout n) _ w.without_run-outcome.ensures.run)
      ];
      named = elim c.match-begin.branch [
        | in-Serves w ↦ rw w.outcome-is (let e = w.finish-outcome.ensures in named_over _ _ _ w.in-Serves.field-0 _ w.in-Serves.ensures.asked (of_served (AllNamedBelow _) _ _ _ _ w.serve_by-told.result _ e.untold e.run w.serve_by-told.ensures (λ t served. served.named)))
        | in-Ends w ↦ rw w.outcome-is (λ p n _. of_none (AllNamedBelow n) _ w.without_run-outcome.ensures.run)
      ];
      ran = l.ran;
      not_ran = l.not_ran;
      none = l.none;
      done = l.done;
      cut = l.cut;
      checked = l.checked;
      made = l.made;
      untouched = l.untouched;
      end = l.end;
      unread = l.unread;
      status = l.known;
      usage = l.usage;
      refused = l.refused;
      reason = reason_of g c;
      refusal_due = l.refusal_due;
      unfit = l.unfit;
      unfit_due = l.unfit_due;
      source = l.source;
      output = l.output;
      judgment = l.judgment;
      done_due = l.done_due;
      judged_due = l.judged_due;
      line = l.line_is;
      number = l.number_is;
      why = silent_of g c;
      said = c.tell.ensures.whole;
      said_front = c.tell.ensures.front;
    }
