use Rattle.ks_script.proofs.packed_replies.small_for.Goals as goal

pub returns-in-Some-clause-fits : goal.returns-in-Some-clause-fits
returns-in-Some-clause-fits c = c.in-Some.ensures.fits c.args.others.now.items
