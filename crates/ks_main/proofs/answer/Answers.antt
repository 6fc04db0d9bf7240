use Rattle.std.proofs.Common.{IfOk, sym, subst}
use Rattle.ks_script.specs.Outside.{Rose}
use Rattle.ks_words.specs.Words.{bytes_of}
use Rattle.ks_batch.specs.Leaves.{Leaves}
use Rattle.ks_main.proofs.answer.Goals as goal

pub returns-in-Ok-clause-text : goal.returns-in-Ok-clause-text
returns-in-Ok-clause-text g c =
    let e = c.serve.ensures in
    let source = g.S.Source in
    let out = g.K.Sink in
    let err = g.E.Sink in
    subst (λ words. IfOk words (λ text. Leaves (bytes_of text.items)
    (source.left c.args.source.now) (source.left c.serve.new.source)
    (Rose (source.faults c.args.source.now) (source.faults c.serve.new.source))
    (out.taken c.args.out.now) (out.taken c.serve.new.out)
    (Rose (out.faults c.args.out.now) (out.faults c.serve.new.out))
    (err.taken c.args.err.now) (err.taken c.serve.new.err)
    (Rose (err.faults c.args.err.now) (err.faults c.serve.new.err)) c.serve.result)) (sym c.in-Ok.is)
    (subst (λ items. Leaves (bytes_of items)
    (source.left c.args.source.now) (source.left c.serve.new.source)
    (Rose (source.faults c.args.source.now) (source.faults c.serve.new.source))
    (out.taken c.args.out.now) (out.taken c.serve.new.out)
    (Rose (out.faults c.args.out.now) (out.faults c.serve.new.out))
    (err.taken c.args.err.now) (err.taken c.serve.new.err)
    (Rose (err.faults c.args.err.now) (err.faults c.serve.new.err)) c.serve.result) c.deref.ensures.value
    record {
      lawful = e.lawful;
      good = e.good;
      due = e.due;
      named = e.named;
      reason = e.reason;
      silent = e.why;
      left_is = record {
        ran = e.ran;
        not_ran = e.not_ran;
        none = e.none;
        done = e.done;
        cut = e.cut;
        checked = e.checked;
        made = e.made;
        untouched = e.untouched;
        end = e.end;
        unread = e.unread;
        known = e.status;
        usage = e.usage;
        refused = e.refused;
        refusal_due = e.refusal_due;
        unfit = e.unfit;
        unfit_due = e.unfit_due;
        source = e.source;
        output = e.output;
        judgment = e.judgment;
        done_due = e.done_due;
        judged_due = e.judged_due;
        line_is = e.line;
        number_is = e.number;
      };
      said = e.said;
      said_front = e.said_front;
    })
