use Rattle.std.proofs.Common.{◌≡◌, true, sym, ap, ◌∙◌}
use Rattle.std.specs.Prelude.{Option}
use Rattle.ks_history.specs.Laws.Begins.{begins_self}
use Rattle.ks_shape.specs.declared.answers.Above.{Above}
use Rattle.ks_shape.specs.Laws.Located.{passes}
use Rattle.ks_shape.specs.Located.{has_place, passed_in}
use Rattle.ks_shape.proofs.located.passed.Goals as goal

pub returns-in_default-clause-is : goal.returns-in_default-clause-is
returns-in_default-clause-is g c = ap (λ (o : Option Above). passed_in c.args.place c.args.above o) (sym c.in_default.is ∙ c.above_of.ensures.is)

pub returns-then-has_place-clause-is : goal.returns-then-has_place-clause-is
returns-then-has_place-clause-is g c = let branch : Above = c.in-Some.branch in let has : has_place c.args.place branch ≡ true = sym c.has_place.ensures.is ∙ c.if-has_place.true in
    sym (passes c.args.place c.args.above branch has) ∙ ap (λ (o : Option Above). passed_in c.args.place c.args.above o) (sym c.in-Some.is ∙ c.above_of.ensures.is)

pub returns-then-has_place-clause-lasts : goal.returns-then-has_place-clause-lasts
returns-then-has_place-clause-lasts g c = λ s h since matches before. record {
  moment = h;
  since = since;
  later = begins_self h;
  is = c.in-Some.ensures.live h matches;
  within = c.has_place.ensures.within c.if-has_place.true;
}
