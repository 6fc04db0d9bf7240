use Rattle.std.proofs.lemmas.List.Elements.{All-more}
use Rattle.ks_script.proofs.Common.{◌+◌, take, drop, refl, ◌∙◌, arith, length-take-le, get_or_default, take_all, false≢true, Call, Get, IsServedLine}
use Rattle.ks_script.proofs.Texts.{cut_at}
use Rattle.ks_script.proofs.unfit.unserved_in.Goals as goal

pub returns-then-not-is_served-clause-unserved : goal.returns-then-not-is_served-clause-unserved
returns-then-not-is_served-clause-unserved c =
    let ls = c.args.calls.now in
    let i = c.loop-at.at in
    let lt = rw c.len-at-end.ensures at c.loop-at-test.true in
    record {
      earlier = take i ls;
      line = c.get.result;
      later = drop (i + 1) ls;
      lines_are = cut_at ls i c.get.result lt (c.get.ensures ∙ get_or_default ls i (Call (Get 0)) c.get.result lt);
      place = omega (arith, length-take-le i ls (omega arith));
      unserved = λ h. false≢true (c.if-not-is_served.ensures.1 h);
      served = c.loop-at.invariant;
    }

pub loop-at-preserved : goal.loop-at-preserved
loop-at-preserved c = All-more (IsServedLine c.args.scans c.args.moves) c.args.calls.now c.loop-at.at (Call (Get 0)) (rw c.len-at-end.ensures at c.loop-at-test.true) c.loop-at.invariant (rw c.get.ensures at (c.if-not-is_served.ensures.0 refl))

pub returns-clause-served : goal.returns-clause-served
returns-clause-served c = (omega (arith, c.len.ensures), rw (take_all c.loop-at.at c.args.calls.now (omega (arith, c.len-at-end.ensures, c.loop-at-test.false))) at c.loop-at.invariant)
