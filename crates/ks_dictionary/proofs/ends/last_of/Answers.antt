use Rattle.std.proofs.Common.{◌-◌, arith}
use Rattle.ks_dictionary.proofs.Finds.{last_read}
use Rattle.ks_dictionary.proofs.ends.last_of.Goals as goal

pub returns : goal.returns
returns c = last_read c.args.part.now.number c.args.part.now.pairs (c.len-many.result - 1) c.pair.result (omega (arith, c.len-many.ensures.value, c.if-many-eq0.false)) c.pair.ensures
