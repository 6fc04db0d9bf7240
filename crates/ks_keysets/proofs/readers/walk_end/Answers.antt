use Rattle.std.proofs.Common.{◌≡◌, ◌<◌, ℕ, ◌⊎◌, inl, inr, length, Option, Some, None, refl, sym, ◌∙◌, add-one, arith, subst, rules}
use Rattle.ks_keysets.specs.declared.Record.{Record}
use Rattle.ks_keysets.specs.declared.NodeState.{NodeState}
use Rattle.ks_keysets.specs.Record.{LeadsTo}
use Rattle.ks_keysets.specs.Keyset.{record_at, IsLive, AreApart}
use Rattle.ks_keysets.specs.Listed.{graph_of}
use Rattle.ks_keysets.specs.Walk.{Walks, at_start, one_more, EndsAt, MeetsNotLive, NeverEnds}
use Rattle.ks_keysets.proofs.Walks.{ends_keyset, nowhere_else, long_never}
use Rattle.ks_keysets.proofs.Ways.{live_within, record_listed}
use Rattle.ks_keysets.proofs.readers.walk_end.Goals as goal

pub loop-step-init : goal.loop-step-init
loop-step-init c = at_start

pub loop-step-preserved : goal.loop-step-preserved
loop-step-preserved c =
    let here : record_at (graph_of c.args.graph.now) c.loop-step.at ≡ Some c.in-Some.record.now = record_listed c.args.graph.now c.loop-step.at ∙ sym c.in-Some.ensures in
    let leads : LeadsTo c.in-Some.record.now c.args.place c.in-Some-next_of.next = c.in-Some-next_of.ensures.some in
    subst (λ (k : ℕ). Walks (graph_of c.args.graph.now) c.args.place k c.in-Some-next_of.next) (sym (add-one c.loop-step._step)) (one_more c.in-Some.record.now c.loop-step.invariant here leads)

pub returns-in-None-next_of : goal.returns-in-None-next_of
returns-in-None-next_of c =
    let here : record_at (graph_of c.args.graph.now) c.loop-step.at ≡ Some c.in-Some.record.now = record_listed c.args.graph.now c.loop-step.at ∙ sym c.in-Some.ensures in
    let ends : EndsAt (graph_of c.args.graph.now) c.args.place c.loop-step.at = record { steps = c.loop-step._step; comes = c.loop-step.invariant; node = c.in-Some.record.now; is = here; stops = c.in-None-next_of.ensures.none } in
    record { ends = ends; lost = search rules; keyset = ends_keyset (graph_of c.args.graph.now) c.loop-step.at c.args.place (omega (arith, c.ranges.place)) ends; nowhere = search rules }

pub returns-in-None : goal.returns-in-None
returns-in-None c =
    let dead : MeetsNotLive (graph_of c.args.graph.now) c.args.place = record { steps = c.loop-step._step; node = c.loop-step.at; comes = c.loop-step.invariant; is = record_listed c.args.graph.now c.loop-step.at ∙ sym c.in-None.ensures } in
    record { ends = search rules; lost = inl dead; keyset = search rules; nowhere = nowhere_else (graph_of c.args.graph.now) c.args.place c.requires (inl dead) }

-- after as many steps as there are nodes the walk is at a node that is not live, or never ends
lost_at : (g : ℕ → NodeState) (p k n : ℕ) → AreApart g → ((m : ℕ) → IsLive g m → m < k) → Walks g p k n → (o : Option Record) → record_at g n ≡ o → MeetsNotLive g p ⊎ NeverEnds g p
lost_at g p k n apart few w None is = inl record { steps = k; node = n; comes = w; is = is }
lost_at g p k n apart few w (Some r) is = inr (long_never g p k n apart few w (r, is))

pub returns : goal.returns
returns c =
    let g : ℕ → NodeState = graph_of c.args.graph.now in
    let end : c.loop-step._step ≡ length c.args.graph.now = omega (arith, c.node_count-step-end.ensures) in
    let lost : MeetsNotLive (graph_of c.args.graph.now) c.args.place ⊎ NeverEnds (graph_of c.args.graph.now) c.args.place =
    lost_at g c.args.place c.loop-step._step c.loop-step.at c.requires (λ m live. omega (arith, live_within c.args.graph.now m live, end)) c.loop-step.invariant (record_at g c.loop-step.at) refl in
    record { ends = search rules; lost = lost; keyset = search rules; nowhere = nowhere_else g c.args.place c.requires lost }
