use Rattle.std.proofs.Common.{ap, Err}
use Rattle.ks_ends.proofs.Loading.{too_long}
use Rattle.ks_ends.proofs.input.input.Goals as goal

pub returns-in-Err-TooLong-clause-cause : goal.returns-in-Err-TooLong-clause-cause
returns-in-Err-TooLong-clause-cause g c = too_long c.args.text (g.S.Source.left c.args.source.now) c.limit.result c.limit.ensures (c.in-Err-TooLong.ensures.long (ap Err c.in-Err-TooLong.field-0-is))
