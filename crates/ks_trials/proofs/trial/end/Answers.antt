use Rattle.ks_trials.proofs.trial.end.Goals as goal

pub close-closed-requires-after_bounds : goal.close-closed-requires-after_bounds
close-closed-requires-after_bounds g c κs within = c.passes_law.ensures.ordered c.args.passes.items c.requires
