use Rattle.std.proofs.Common.{ℕ, ◌≡◌, ◌+◌, List, arith, sym, subst}
use Rattle.ks_keysets.specs.declared.Span.{Span}
use Rattle.ks_keysets.specs.Record.{top}
use Rattle.ks_keysets.specs.Keyset.{InKeyset}
use Rattle.ks_keysets.specs.Spans.{with_run}
use Rattle.ks_keysets.proofs.Spans.{SpansBelow, run_step, spans_whole}
use Rattle.ks_keysets.specs.Listed.{graph_of}
use Rattle.ks_keysets.proofs.readers.keyset_spans.Goals as goal

pub returns-then-last : goal.returns-then-last
returns-then-last c =
    let P : ℕ → Type 0 = InKeyset (graph_of c.args.graph.now) c.args.node in
    let end : c.run_last-last.result + 1 ≡ top + 1 = omega arith in
    let step : SpansBelow (with_run c.loop-spans.spans.items c.has_place-inside.result c.loop-spans.low c.run_last-last.result) P (c.run_last-last.result + 1) = run_step c.has_place-inside.result c.loop-spans.spans.items P c.loop-spans.low c.run_last-last.result c.loop-spans.invariant.spans c.run_last-last.ensures.above c.run_last-last.ensures.same (λ t h. absurd (omega (arith, h.0.0))) in
    let below : SpansBelow c.push_run.new.spans.items P (c.run_last-last.result + 1) = subst (λ (xs : List Span). SpansBelow xs P (c.run_last-last.result + 1)) (sym c.in_ok-push_run.ensures.ok) step in
    record { spans = spans_whole c.push_run.new.spans.items P (subst (λ (k : ℕ). SpansBelow c.push_run.new.spans.items P k) end below) }

pub loop-spans-preserved : goal.loop-spans-preserved
loop-spans-preserved c =
    let P : ℕ → Type 0 = InKeyset (graph_of c.args.graph.now) c.args.node in
    let step : SpansBelow (with_run c.loop-spans.spans.items c.has_place-inside.result c.loop-spans.low c.run_last-last.result) P (c.run_last-last.result + 1) = run_step c.has_place-inside.result c.loop-spans.spans.items P c.loop-spans.low c.run_last-last.result c.loop-spans.invariant.spans c.run_last-last.ensures.above c.run_last-last.ensures.same (λ t h. absurd ((c.run_last-last.ensures.turns (omega (arith, c.run_last-last.type_inv))).0 t h)) in
    record {
      within = omega (arith, c.run_last-last.type_inv);
      spans = subst (λ (xs : List Span). SpansBelow xs P (c.run_last-last.result + 1)) (sym c.in_ok-push_run.ensures.ok) step;
    }
