use Rattle.std.proofs.Common.{ℕ, ◌≡◌, ◌<◌, ◌+◌, ◌⊎◌, inl, inr, Some, refl, subst, arith}
use Rattle.ks_keysets.specs.Keyset.{record_at}
use Rattle.ks_keysets.specs.Listed.{graph_of}
use Rattle.ks_keysets.specs.Apart.{AreEdgesApart}
use Rattle.ks_keysets.proofs.Ways.{live_within}
use Rattle.ks_keysets.proofs.readers.edges_apart.Goals as goal

pub returns-then-not-node_apart : goal.returns-then-not-node_apart
returns-then-not-node_apart c = (λ t. absurd (cc), λ all. c.if-not-node_apart.ensures.1 (λ r is. all c.loop-node.node r is))

cases : (n i : ℕ) → n < i + 1 → (n < i) ⊎ (n ≡ i)
cases n i lt = grind arith

pub loop-node-preserved : goal.loop-node-preserved
loop-node-preserved c n r lt is = go (cases n c.loop-node.node lt)
  where
    go : (n < c.loop-node.node) ⊎ (n ≡ c.loop-node.node) → AreEdgesApart r.edges
    go (inl less) = c.loop-node.invariant n r less is
    go (inr same) = c.if-not-node_apart.ensures.0 refl r (subst (λ (m : ℕ). record_at (graph_of c.args.graph.now) m ≡ Some r) same is)

pub returns : goal.returns
returns c = (λ t n r is. c.loop-node.invariant n r (omega (arith, live_within c.args.graph.now n (r, is), c.node_count-node-end.ensures)) is, λ all. refl)
