use Rattle.ks_words.specs.declared.words.Text.TheVariants.{Checked}
use Rattle.ks_ends.proofs.Counts.{few_checked, answered_checked}
use Rattle.ks_ends.proofs.Loading.{load_cause, read_to_end}
use Rattle.ks_ends.proofs.input.load_checked.Goals as goal

pub returns-clause-cause : goal.returns-clause-cause
returns-clause-cause g c = load_cause Checked (g.S.Source.left c.args.source.now) _ c.in_ok-bytes.bytes.items c.checked.result c.in_ok-bytes.ensures.ok c.in_ok-bytes.ensures.within (rw c.deref.ensures.value at c.checked.ensures.refused)

pub returns-clause-line : goal.returns-clause-line
returns-clause-line g c = read_to_end c.checked.result (g.S.Source.left c.args.source.now) _ c.in_ok-bytes.ensures.end

pub returns-clause-few : goal.returns-clause-few
returns-clause-few g c = few_checked c.deref.result.now c.checked.result c.checked.ensures.accepted

pub returns-clause-answered : goal.returns-clause-answered
returns-clause-answered g c = answered_checked c.deref.result.now c.checked.result c.checked.ensures.accepted
