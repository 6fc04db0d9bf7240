use Rattle.std.proofs.Common.{Some, refl, subst, sym}
use Rattle.ks_c.specs.Calls.{HasCalled}
use Rattle.ks_c.proofs.call.Goals as goal

pub returns-in-Some : goal.returns-in-Some
returns-in-Some c =
    subst (λ o. HasCalled c.args.call c.args.key o (Some c.call.new.self) c.call.result c.call.new.out) (sym c.in-Some.ensures.caller) (c.call.new.self, refl, c.call.ensures)
