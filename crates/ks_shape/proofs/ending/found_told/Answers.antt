use Rattle.std.proofs.Common.{sym, ◌∙◌}
use Rattle.ks_shape.specs.Laws.Found.{never_full}
use Rattle.ks_shape.proofs.ending.found_told.Goals as goal

pub conclude_as-requires-clause-some : goal.conclude_as-requires-clause-some
conclude_as-requires-clause-some g c κs within = λ full. never_full c.args.found (sym c.requires.reply ∙ full)
