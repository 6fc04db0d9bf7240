use Rattle.std.proofs.Common.{sym, subst}
use Rattle.ks_history.specs.Callers.{CallersBelow}
use Rattle.ks_shape.specs.Idle.{Site}
use Rattle.ks_dictionary.specs.Ended.{history}
use Rattle.ks_dictionary.specs.Of.{site_of}
use Rattle.ks_serving.proofs.Joined.{new_crew, no_event, nobody}
use Rattle.ks_serving.proofs.serving.serve_nobody.Goals as goal
use Rattle.ks_serving.proofs.serving.serve_nobody.Given.{Over}
use Rattle.ks_serving.proofs.serving.serve_nobody.Goals.{In_ok-dictionary}

abbrev site : (g : Over) → In_ok-dictionary g → Site
site g c = site_of c.in_ok-dictionary.dictionary

pub close-requires-after_bounds : goal.close-requires-after_bounds
close-requires-after_bounds g c κs within = new_crew (site g c) c.in_ok-dictionary.passes.items c.in_ok-dictionary.ensures.passes

pub returns-clause-called : goal.returns-clause-called
returns-clause-called g c = let start = c.in_ok-dictionary.ensures in
    nobody g.N.Places.Placing.place_of (history c.close.result)
    (no_event (site g (goal.at.returns-clause-called g c).In_ok-dictionary) c.in_ok-dictionary.passes.items (history c.close.result) start.callers start.passes c.close.ensures.seen c.close.ensures.callers)

pub returns-clause-callers : goal.returns-clause-callers
returns-clause-callers g c = let start = c.in_ok-dictionary.ensures in
    subst (CallersBelow 0)
    (sym (no_event (site g (goal.at.returns-clause-callers g c).In_ok-dictionary) c.in_ok-dictionary.passes.items (history c.close.result) start.callers start.passes c.close.ensures.seen c.close.ensures.callers)) tt
