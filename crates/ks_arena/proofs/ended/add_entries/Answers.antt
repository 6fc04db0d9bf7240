use Rattle.std.proofs.Common.{arith}
use Rattle.ks_arena.proofs.Entries.{entry_pushed, entries_whole}
use Rattle.ks_arena.proofs.ended.add_entries.Goals as goal

pub loop-n-preserved : goal.loop-n-preserved
loop-n-preserved g c = entry_pushed (g.N.Node.body c.args.body.now).pairs c.args.entries.now.items c.push.new.self.items c.loop-n.entries.items c.loop-n.n c.pair_at-pair.result c.loop-n.invariant (omega arith) c.pair_at-pair.ensures c.in_ok-push.ensures.items

pub returns : goal.returns
returns g c = entries_whole (g.N.Node.body c.args.body.now).pairs c.args.entries.now.items c.loop-n.entries.items c.loop-n.n c.loop-n.invariant (omega arith)
