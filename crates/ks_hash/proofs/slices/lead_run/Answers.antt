use Rattle.std.proofs.Common.{arith, ◌∙◌, sym}
use Rattle.ks_hash.proofs.Steps.{lead_more, lead_end, lead_all}
use Rattle.ks_hash.proofs.slices.lead_run.Goals as goal

pub loop-i-preserved : goal.loop-i-preserved
loop-i-preserved c = sym (lead_more _ c.args.to c.loop-i.i c.loop-i.slices (omega arith) c.if-slices-i.false) ∙ c.loop-i.invariant

pub returns-then-slices-i : goal.returns-then-slices-i
returns-then-slices-i c = sym (lead_end _ c.args.to c.loop-i.i c.loop-i.slices (omega arith) c.if-slices-i.true) ∙ c.loop-i.invariant

pub returns : goal.returns
returns c = sym (lead_all _ c.args.to c.loop-i.i c.loop-i.slices (omega arith)) ∙ c.loop-i.invariant
