use Rattle.std.proofs.Common.{ℕ, ◌≡◌, ◌≤◌, ◌<◌, ◌+◌, ◌⊎◌, inl, inr, Some, arith, subst}
use Rattle.ks_keysets.specs.declared.Record.{Record}
use Rattle.ks_keysets.specs.Keyset.{record_at}
use Rattle.ks_keysets.specs.Spans.{AllCarryAlike}
use Rattle.ks_keysets.proofs.Ways.{live_within}
use Rattle.ks_keysets.specs.Listed.{graph_of}
use Rattle.ks_keysets.proofs.readers.graph_cut.Goals as goal

cases : (n i : ℕ) → n < i + 1 → (n < i) ⊎ (n ≡ i)
cases n i lt = grind arith

pub loop-node-preserved : goal.loop-node-preserved
loop-node-preserved c = record {
  above = c.node_cut-cut.ensures.above;
  same = λ q n r le le' lt is. go q n r le le' is (cases n c.loop-node.node lt);
}
  where
    go : (q n : ℕ) (r : Record) → c.args.place ≤ q → q ≤ c.node_cut-cut.result → record_at (graph_of c.args.graph.now) n ≡ Some r → (n < c.loop-node.node) ⊎ (n ≡ c.loop-node.node) → AllCarryAlike r c.args.place q
    go q n r le le' is (inl less) = c.loop-node.invariant.same q n r le (omega arith) less is
    go q n r le le' is (inr same) = c.node_cut-cut.ensures.same q r le le' (subst (λ (m : ℕ). record_at (graph_of c.args.graph.now) m ≡ Some r) same is)

pub returns-clause-same : goal.returns-clause-same
returns-clause-same c = λ q n r le le' is. c.loop-node.invariant.same q n r le le' (omega (arith, live_within c.args.graph.now n (r, is))) is
