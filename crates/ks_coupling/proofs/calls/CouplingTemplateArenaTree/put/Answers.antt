use Rattle.ks_history.specs.Done.{coupling}
use Rattle.ks_history.specs.Laws.Underway.{underway_first}
use Rattle.ks_history.specs.declared.Op.TheVariants.{Put}
use Rattle.ks_arena.specs.Clauses.{seen_of}
use Rattle.ks_coupling.proofs.calls.CouplingTemplateArenaTree.put.Goals as goal

pub returns-clause-done : goal.returns-clause-done
returns-clause-done g c = let s = seen_of c.args.pass.now in c.pair_fill.ensures.done coupling s (underway_first coupling c.args.pass.now.caller (Put c.args.place c.args.value) s c.requires.pass.1)

pub returns-clause-fills : goal.returns-clause-fills
returns-clause-fills g c = c.pair_fill.ensures.fills
