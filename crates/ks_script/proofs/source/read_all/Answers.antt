use Rattle.ks_script.proofs.Common.{ℕ, ◌+◌, arith, length-take}
use Rattle.ks_script.proofs.Putting.{gone_within}
use Rattle.ks_script.proofs.source.read_all.Goals as goal

pub returns-then-count-room-clause-stops : goal.returns-then-count-room-clause-stops
returns-then-count-room-clause-stops g c = gone_within _ _ _ _ c.loop-count.bytes.items c.read.new.into c.in-Ok.count (c.args.limit + 1) c.loop-count.invariant.gone c.in-Ok.ensures.bytes (omega (arith, c.in-Ok.ensures.bound, c.read.auto.into, c.loop-count.invariant.room, length-take {A = ℕ}))

pub returns-then-is_err-clause-stops : goal.returns-then-is_err-clause-stops
returns-then-is_err-clause-stops g c = gone_within _ _ _ _ c.loop-count.bytes.items c.read.new.into c.in-Ok.count (c.args.limit + 1) c.loop-count.invariant.gone c.in-Ok.ensures.bytes (omega arith)
