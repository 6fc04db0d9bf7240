use Rattle.std.proofs.Common.{◌≡◌, ◌∙◌, ◌+◌, ◌%◌, ◌^◌, ℕ, suc, refl, [], sym, ap, subst, length, arith}
use Rattle.ks_keysets.specs.Record.{top}
use Rattle.ks_history.specs.Own.{hand}
use Rattle.ks_history.specs.Trace.{graph_after}
use Rattle.ks_history.specs.Frames.{frame_after}
use Rattle.ks_flow.specs.Tight.{IsTightBelow}
use Rattle.ks_arena.specs.Sound.{sort_of, blank_of}
use Rattle.ks_arena.specs.Clauses.{seen_of}
use Rattle.ks_shape.specs.Laws.Stretches.{stretches_as, stretches_here, stretches_on}
use Rattle.ks_shape.specs.Frees.{Undisturbed}
use Rattle.ks_shape.specs.Laws.Frees.{counts_as, counts_both, counts_of, frees_here, undisturbed_as, undisturbed_first, undisturbed_then}
use Rattle.ks_shape.specs.Laws.Leaves.{has_left}
use Rattle.ks_tidy.specs.Walking.{TightUpTo}
use Rattle.ks_tidy.proofs.compact.pair_compact.Goals as goal
use Rattle.ks_tidy.proofs.compact.pair_compact.Goals.{At-loop}

pub loop-init : goal.loop-init
loop-init g c = let me : ℕ = c.args.pass.now.caller in let s = seen_of c.args.pass.now in (
  c.requires.pass.0,
  c.requires.pass.1,
  refl,
  stretches_here me s (omega (arith, ap length c.requires.pass.1)),
  counts_of me 0 s s (omega arith) (frees_here me s),
  λ quiet. record { below = c.tight_law.ensures.opens g.N.Node.layout (graph_after s) (frame_after (blank_of (sort_of g.N.Node.layout g.N.Node.ranged)) s); root = λ some. absurd (some refl) },
)

pub loop-preserved : goal.loop-preserved
loop-preserved g c = let sort = sort_of g.N.Node.layout g.N.Node.ranged in let s = seen_of c.args.pass.now in let h = seen_of c.loop.pass in let k = seen_of c.walk-walked.new.pass in let a : ℕ = c.loop.pass.caller in let b : ℕ = c.walk-walked.new.pass.caller in
    let inv = c.loop.invariant in let e = c.walk-walked.ensures in let end : ℕ = c.walk-walked.result.end in (
      e.pass.0,
      e.pass.1,
      e.caller ∙ inv.2,
      stretches_on a b s h k e.caller inv.3 e.stretch,
      counts_as b a ((c.loop.freed + c.walk-walked.result.freed) % 2 ^ 32) s k (sym e.caller) (counts_both a c.loop.freed c.walk-walked.result.freed s h k inv.4 e.counts),
      λ quiet.
          let still : Undisturbed a s k = undisturbed_as a b s k e.caller quiet in
          let next : suc end ≡ end + 1 = omega arith in
          subst (λ (z : ℕ). TightUpTo sort z k) next
          (e.tight (undisturbed_then a inv.4.count e.counts.count s h k inv.4.frees e.counts.frees still) (inv.5 (undisturbed_first a inv.4.count e.counts.count s h k inv.4.frees e.counts.frees still))),
    )

pub returns-then-walked-clause-left : goal.returns-then-walked-clause-left
returns-then-walked-clause-left g c = λ template. let s = seen_of c.args.pass.now in let h = seen_of c.loop.pass in let k = seen_of c.walk-walked.new.pass in let me : ℕ = c.args.pass.now.caller in let a : ℕ = c.loop.pass.caller in let b : ℕ = c.walk-walked.new.pass.caller in
    let inv = c.loop.invariant in let e = c.walk-walked.ensures in
    has_left template me s k (stretches_as me b s k (e.caller ∙ inv.2) (stretches_on a b s h k e.caller inv.3 e.stretch)) (subst (λ (z : ℕ). hand z k ≡ []) (e.caller ∙ inv.2) e.pass.1)

pub returns-then-walked-clause-frees : goal.returns-then-walked-clause-frees
returns-then-walked-clause-frees g c = let s = seen_of c.args.pass.now in let h = seen_of c.loop.pass in let k = seen_of c.walk-walked.new.pass in let a : ℕ = c.loop.pass.caller in
    let inv = c.loop.invariant in let e = c.walk-walked.ensures in
    counts_as c.args.pass.now.caller a ((c.loop.freed + c.walk-walked.result.freed) % 2 ^ 32) s k inv.2 (counts_both a c.loop.freed c.walk-walked.result.freed s h k inv.4 e.counts)

pub returns-then-walked-clause-tight : goal.returns-then-walked-clause-tight
returns-then-walked-clause-tight g c = λ quiet. let layout = g.N.Node.layout in let sort = sort_of layout g.N.Node.ranged in let s = seen_of c.args.pass.now in let h = seen_of c.loop.pass in let k = seen_of c.walk-walked.new.pass in let me : ℕ = c.args.pass.now.caller in let a : ℕ = c.loop.pass.caller in
    let inv = c.loop.invariant in let e = c.walk-walked.ensures in let end : ℕ = c.walk-walked.result.end in let law = c.search_law.ensures sort c.args.arena.now.table.shared.table_id.slots in
    let still : Undisturbed a s k = undisturbed_as a me s k (sym inv.2) quiet in
    let tight : TightUpTo sort (suc end) k = e.tight (undisturbed_then a inv.4.count e.counts.count s h k inv.4.frees e.counts.frees still) (inv.5 (undisturbed_first a inv.4.count e.counts.count s h k inv.4.frees e.counts.frees still)) in
    let below : IsTightBelow layout (graph_after k) (frame_after (blank_of sort) k) (suc top) = subst (λ (z : ℕ). IsTightBelow layout (graph_after k) (frame_after (blank_of sort) k) (suc z)) c.if-walked.true tight.below in
    c.tight_law.ensures.all layout (graph_after k) (frame_after (blank_of sort) k) (law.good k e.pass.0.sound) (law.facts k e.pass.0.sound) below (tight.root (λ z. omega arith))
