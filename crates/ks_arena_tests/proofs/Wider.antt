-- What was so at some moment was so within any longer time.
use Rattle.std.proofs.Common.{ℕ, List, ◌∷◌}
use Rattle.ks_history.specs.declared.Event.{Event}
use Rattle.ks_history.specs.Trace.{◌⊑◌}
use Rattle.ks_history.specs.Refusals.{Sometime}
use Rattle.ks_history.specs.Passes.{GrowsWith}
use Rattle.ks_history.specs.Laws.Begins.{begins_both}

pub wider : {d : ℕ} {f : Event} {h k l g : List Event} {P : List Event → Type 0} → h ⊑ k → Sometime k l P → GrowsWith d f l g → Sometime h g P
wider {d} {f} {h} {k} {l} {g} {P} before so after = record {
  moment = so.moment;
  since = begins_both h k so.moment before so.since;
  until = begins_both so.moment l g so.until (record { rest = f ∷ after.rest; is = after.is });
  so = so.so;
}
