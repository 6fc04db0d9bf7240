use Rattle.std.proofs.Common.{arith, ◌≡◌, suc, ◌-◌, sym, subst}
use Rattle.ks_hints.specs.Hints.{LacksLowAt}
use Rattle.ks_hints.proofs.Lists.{found_near, missing_near, missing_none}
use Rattle.ks_hints.proofs.search.nearest.Goals as goal

pub returns-then-at-eq0 : goal.returns-then-at-eq0
returns-then-at-eq0 c = sym (missing_none c.args.place c.args.list.now (subst (LacksLowAt c.args.place c.args.list.now) c.if-at-eq0.true c.in-Err.ensures))

pub returns-in-Ok : goal.returns-in-Ok
returns-in-Ok c = sym (found_near c.args.place c.args.list.now c.in-Ok.at _ c.requires c.in-Ok.ensures)

pub returns-else-at-eq0 : goal.returns-else-at-eq0
returns-else-at-eq0 c =
    let e : c.in-Err.at ≡ suc (c.in-Err.at - 1) = (let n = c.if-at-eq0.false in omega arith) in
    sym (missing_near c.args.place c.args.list.now (c.in-Err.at - 1) _ c.requires (subst (LacksLowAt c.args.place c.args.list.now) e c.in-Err.ensures))
