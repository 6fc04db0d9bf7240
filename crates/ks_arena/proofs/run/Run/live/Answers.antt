use Rattle.std.proofs.Common.{◌≡◌, ℕ, ◌<◌, ◌∙◌, sym, subst}
use mathlib.Core.Option.{some}
use lib.ListN.{get_elem?}
use Rattle.std.specs.Slots.{slots_items}
use Rattle.ks_history.specs.Trace.{graph_after, turn_after}
use Rattle.ks_history.specs.Frames.{frame_after}
use Rattle.ks_arena.specs.Sound.{sort_of, blank_of}
use Rattle.ks_arena.specs.Spots.{turn_at}
use Rattle.ks_arena.specs.Clauses.{trace_of}
use Rattle.ks_arena.proofs.Entries.{read_at, free_read, live_read}
use Rattle.ks_arena.proofs.run.Run.live.Goals as goal

pub returns-then-word-eq0 : goal.returns-then-word-eq0
returns-then-word-eq0 g c = let run = c.requires.run.1 in let near : c.args.node < c.requires.run.0 = subst (λ (z : ℕ). c.args.node < z) run.sized c.requires.node in
    free_read (trace_of c.args.self.now) c.args.node c.word.result run.lawful (sym (read_at (slots_items c.args.self.now.remains.closed.words) (turn_at c.args.node) c.word.result 0 (subst (λ (z : ℕ). get_elem? (slots_items c.args.self.now.remains.closed.words) z ≡ some c.word.result) c.turn_at.ensures c.word.ensures)) ∙ run.turns c.args.node near) c.if-word-eq0.true

pub returns : goal.returns
returns g c = let run = c.requires.run.1 in let near : c.args.node < c.requires.run.0 = subst (λ (z : ℕ). c.args.node < z) run.sized c.requires.node in let h = trace_of c.args.self.now in
    live_read (sort_of g.N.Node.layout g.N.Node.ranged) g.N.Node.body (graph_after h c.args.node) (frame_after (blank_of (sort_of g.N.Node.layout g.N.Node.ranged)) h c.args.node) (turn_after h c.args.node) c.word.result (slots_items c.args.self.now.remains.closed.slots) c.args.node c.get.result.now c.as_ref.result
    (sym (read_at (slots_items c.args.self.now.remains.closed.words) (turn_at c.args.node) c.word.result 0 (subst (λ (z : ℕ). get_elem? (slots_items c.args.self.now.remains.closed.words) z ≡ some c.word.result) c.turn_at.ensures c.word.ensures)) ∙ run.turns c.args.node near) c.if-word-eq0.false (run.ends c.args.node near) c.get.ensures c.as_ref.ensures.value
