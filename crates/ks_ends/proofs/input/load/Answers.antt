use Rattle.ks_words.specs.declared.words.Text.TheVariants.{Script}
use Rattle.ks_ends.proofs.Loading.{load_cause, read_to_end, few_read, script_read}
use Rattle.ks_ends.proofs.input.load.Goals as goal

pub returns-clause-cause : goal.returns-clause-cause
returns-clause-cause g c = load_cause Script (g.S.Source.left c.args.source.now) _ c.in_ok-bytes.bytes.items c.script.result c.in_ok-bytes.ensures.ok c.in_ok-bytes.ensures.within (rw c.deref.ensures.value at c.script.ensures.refused)

pub returns-clause-callers : goal.returns-clause-callers
returns-clause-callers g c = few_read c.deref.result.now c.script.result c.script.ensures.accepted

pub returns-clause-line : goal.returns-clause-line
returns-clause-line g c = read_to_end c.script.result (g.S.Source.left c.args.source.now) _ c.in_ok-bytes.ensures.end

pub returns-clause-is : goal.returns-clause-is
returns-clause-is g c = script_read c.deref.result.now c.script.result c.script.ensures.accepted
