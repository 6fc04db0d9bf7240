use Rattle.std.proofs.Common.{◌≡◌, ℕ, Bor, map, refl, ap, ◌∙◌, subst, arith, length}
use Rattle.std.specs.Prelude.{Option}
use Rattle.std.specs.Slots.{slots_items}
use Rattle.ks_history.specs.Trace.{graph_after}
use Rattle.ks_arena.specs.Clauses.{trace_of}
use Rattle.ks_arena.specs.Ended.{IsReadAs, entry_of, entries_below}
use Rattle.ks_arena.proofs.Entries.{entries_live, entries_more, entries_same}
use Rattle.ks_arena.proofs.run.Run.entries.Goals as goal
use Rattle.ks_arena.proofs.run.Run.entries.Goals.{in-Some+in_ok-add_entries-in-Some, in-None}

pub loop-node-preserved : goal.loop-node-preserved
loop-node-preserved g c = let graph = graph_after (trace_of c.args.self.now) in let n : ℕ = c.loop-node.node in let told = c.live.ensures in elim c.match-live.branch [
  | in-Some+in_ok-add_entries-in-Some w ↦ let body = g.N.Node.body w.in-Some.body.now in let live = subst (λ (r : Option (Bor g.row.N.Denot)). IsReadAs g.N.Node.body (graph n) r) w.in-Some.is told in
      entries_more graph n c.loop-node.entries.items c.match-live.entries.items (map entry_of body.pairs) c.loop-node.invariant (ap (λ v. v.items) w.entries-is ∙ w.in_ok-add_entries-in-Some.ensures) (entries_live (graph n) body (map entry_of body.pairs) live refl)
  | in-None w ↦ entries_same graph n c.loop-node.entries.items c.match-live.entries.items c.loop-node.invariant (ap (λ v. v.items) w.entries-is) (subst (λ (r : Option (Bor g.row.N.Denot)). IsReadAs g.N.Node.body (graph n) r) w.in-None.is told)
]

pub returns : goal.returns
returns g c = let long = c.args.self.now.remains.closed.slots.ok.0 in let end : c.loop-node.node ≡ length (slots_items c.args.self.now.remains.closed.slots) = omega arith in
    c.loop-node.invariant ∙ ap (entries_below (graph_after (trace_of c.args.self.now))) end
