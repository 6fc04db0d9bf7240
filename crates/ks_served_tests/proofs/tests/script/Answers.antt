use Rattle.std.proofs.Common.{All, false, rules, subst, sym}
use Rattle.std.proofs.lemmas.List.Elements.{All-push}
use Rattle.ks_lines.specs.Lines.{IsServedLine}
use Rattle.ks_lines.specs.Asked.{IsLine}
use Rattle.ks_served_tests.proofs.tests.script.Goals as goal

pub loop-key-preserved : goal.loop-key-preserved
loop-key-preserved c =
    subst (All (λ line. IsLine line × IsServedLine false false line)) (sym c.in_ok-push.ensures.ok)
    (All-push (λ line. IsLine line × IsServedLine false false line) c.loop-key.lines _ c.loop-key.invariant (search rules))

pub loop-preserved : goal.loop-preserved
loop-preserved c =
    subst (All (λ line. IsLine line × IsServedLine false false line)) (sym c.in_ok-push-2.ensures.ok)
    (All-push (λ line. IsLine line × IsServedLine false false line) c.loop.lines _ c.loop.invariant (search rules))
