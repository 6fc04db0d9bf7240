use Rattle.std.proofs.lemmas.List.Elements.{All-more}
use Rattle.ks_script.proofs.Common.{ℕ, ◌≡◌, List, ap, ◌∙◌, arith, take_all, Option, Some, All, ScriptOf, IsServedLine, IsUnfitAt}
use Rattle.ks_script.proofs.Unserved.{few_lines, more_lines, unfit_here, not_served, one_unfit, none_unfit}
use Rattle.ks_script.proofs.script.Script.unfit_line.Goals as goal

pub unserved_in-requires : goal.unserved_in-requires
unserved_in-requires c =
    let same : c.deref-calls-items.result.now ≡ c.args.self.now = c.deref-calls-items.ensures.value ∙ c.self.view_is in
    omega (arith, c.loop-calls.invariant.caller, few_lines c.requires.0 c.args.self.now c.loop-calls.calls-index c.calls-item.result c.requires.1 (rw same at c.loop-calls-test.true) (rw same at c.calls-item.is))

pub returns-in-Err : goal.returns-in-Err
returns-in-Err c =
    let scans = c.args.scans in
    let moves = c.args.moves in
    let s = c.args.self.now in
    let i = c.loop-calls.calls-index in
    let ls = c.calls-item.result in
    let n = c.in-Err.line in
    let same : c.deref-calls-items.result.now ≡ s = c.deref-calls-items.ensures.value ∙ c.self.view_is in
    let lt = rw same at c.loop-calls-test.true in
    let is = rw same at c.calls-item.is in
    let here : (bytes : List ℕ) → ScriptOf bytes s → IsUnfitAt scans moves bytes n =
    λ bytes h. unfit_here scans moves h.0 s bytes i ls c.loop-calls.caller n h.1 lt is c.in-Err.ensures.unserved c.loop-calls.invariant.served c.loop-calls.invariant.caller in
    record {
      unfit = here;
      due = λ bytes m h u. ap (λ (k : ℕ). let o : Option ℕ = Some k in o) (one_unfit scans moves bytes n m (here bytes h) u);
      fit = tt;
      unserved = not_served scans moves s i ls c.loop-calls.caller n lt is c.in-Err.ensures.unserved;
    }

pub loop-calls-preserved : goal.loop-calls-preserved
loop-calls-preserved c =
    let s = c.args.self.now in
    let i = c.loop-calls.calls-index in
    let ls = c.calls-item.result in
    let same : c.deref-calls-items.result.now ≡ s = c.deref-calls-items.ensures.value ∙ c.self.view_is in
    let lt = rw same at c.loop-calls-test.true in
    let is = rw same at c.calls-item.is in
    record {
      caller = omega (arith, c.loop-calls.invariant.caller, more_lines s i ls lt is, c.in-Ok.ensures.served.0);
      served = All-more (All (IsServedLine c.args.scans c.args.moves)) s i ls lt c.loop-calls.invariant.served (rw is at c.in-Ok.ensures.served.1);
    }

pub returns-clause-due : goal.returns-clause-due
returns-clause-due c =
    let s = c.args.self.now in
    let i = c.loop-calls.calls-index in
    let same : c.deref-calls-items.result.now ≡ s = c.deref-calls-items.ensures.value ∙ c.self.view_is in
    λ bytes n h u. absurd (none_unfit c.args.scans c.args.moves s bytes n h (rw (take_all i s (rw same at c.loop-calls-test.false)) at c.loop-calls.invariant.served) u)
