use Rattle.std.proofs.Common.{arith, subst}
use Rattle.guttertide.specs.Words.{IsIdlePassOf}
use Rattle.ks_example.proofs.Two.{Each, two_set}
use Rattle.ks_example.proofs.catalogue.tell_one.Goals as goal

pub returns-clause-idle : goal.returns-clause-idle
returns-clause-idle g c i d lt =
    let cut = c.split_at_mut-clerks.ensures in
    let some = c.requires.some in
    two_set (IsIdlePassOf c.args.catalogue.now) c.split_at_mut-clerks.result.0.now c.split_at_mut-clerks.result.1.now c.tell.new.clerk c.tell.new.reader
    (omega (arith, cut.front_len)) (omega (arith, cut.back_len, some)) c.tell.ensures.clerk.0 c.tell.ensures.reader.0
    (subst (Each (IsIdlePassOf c.args.catalogue.now)) cut.value (λ j e l. (c.requires.passes.each j e l).0)) i d (rw cut.value at lt)
