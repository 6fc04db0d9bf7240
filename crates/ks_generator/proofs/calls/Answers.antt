use Rattle.ks_generator.proofs.Making.{call_more, state_more, calls_all, state_all}
use Rattle.ks_generator.proofs.calls.Goals as goal

pub loop-done-preserved : goal.loop-done-preserved
loop-done-preserved c = record {
  calls = call_more c.args.callers c.args.caller c.args.count c.loop-done.done c.loop-done.state c.call.new.state c.loop-done.lines c.push.new.self _ c.call.result c.loop-done-test.true c.in_ok-push.ensures.ok c.call.ensures.call c.call.ensures.state c.loop-done.invariant.calls;
  state = state_more c.args.count c.loop-done.done c.loop-done.state c.call.new.state _ c.loop-done-test.true c.call.ensures.state c.loop-done.invariant.state;
}

pub returns-clause-calls : goal.returns-clause-calls
returns-clause-calls c = calls_all c.args.callers c.args.caller c.args.count c.loop-done.done c.loop-done.state c.loop-done.lines _ c.loop-done-test.false c.loop-done.invariant.calls

pub returns-clause-state : goal.returns-clause-state
returns-clause-state c = state_all c.args.count c.loop-done.done c.loop-done.state _ c.loop-done-test.false c.loop-done.invariant.state
