use Rattle.ks_generator.proofs.Making.{caller_more}
use Rattle.ks_generator.proofs.made_script.Goals as goal

pub loop-caller-preserved : goal.loop-caller-preserved
loop-caller-preserved c = caller_more c.args.callers c.args.calls c.loop-caller.caller c.loop-caller.state c.calls.new.state c.loop-caller.scripts.items c.push.new.self.items c.in_ok-calls.field-0 _ c.loop-caller-test.true c.in_ok-push.ensures.items c.in_ok-calls.ensures.calls c.in_ok-calls.ensures.state c.loop-caller.invariant
