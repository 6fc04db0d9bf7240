use Rattle.ks_dictionary.specs.Of.{site_of}
use Rattle.ks_compact_tests.proofs.Crews.{all_one}
use Rattle.ks_compact_tests.proofs.runs.end_one.Goals as goal

pub close-requires-after_bounds : goal.close-requires-after_bounds
close-requires-after_bounds g c κs within =
    all_one (site_of c.args.dictionary) c.args.pass c.requires.0 c.requires.1 c.requires.2 c.in_ok-all.all.items c.in_ok-all.ensures
