-- If one edge at most leads to each node, edges lead to it from one node at most.
use Rattle.std.proofs.Common.{ℕ, ◌≡◌, ◌<◌, inl, inr, Option, Some, sym, ap, ◌∙◌, subst, arith}
use Rattle.std.specs.Prelude.{Any}
use Rattle.ks_keysets.specs.declared.Edge.{Edge}
use Rattle.ks_keysets.specs.declared.NodeState.{NodeState}
use Rattle.ks_keysets.specs.declared.Record.{Record}
use Rattle.ks_keysets.specs.Keyset.{record_at}
use Rattle.ks_keysets.specs.Walk.{OneParent}
use Rattle.ks_flow.specs.Tree.{edges_in, edges_between, OneEdge}
use Rattle.ks_flow.proofs.Paths.{edges_to_some}
use Rattle.ks_flow.proofs.Edges.{same_or_apart}

leads_any : (g : ℕ → NodeState) (n m : ℕ) (r : Record) → record_at g n ≡ Some r → Any (λ e. e.node ≡ m) r.edges → 0 < edges_between g n m
leads_any g n m r is (k, x, lt, at, to) = subst (λ (o : Option Record). 0 < edges_in o m) (sym is) (edges_to_some r.edges k x m lt (ap (λ (e : Edge). e.node) at ∙ to))

pub one_parent : (g : ℕ → NodeState) → OneEdge g → OneParent g
one_parent g edges = record {
  one = λ n m b r s is is' leads leads'. elim (same_or_apart n m) [
    | inl same ↦ same
    | inr apart ↦ absurd (omega (arith, edges.one b n m apart, leads_any g n b r is leads, leads_any g m b s is' leads'))
  ];
  root = λ n r is leads. omega (arith, edges.none n, leads_any g n 0 r is leads);
}
