-- The root's inset is all places, and the spans of its edges are the insets of the nodes below it.
use Rattle.std.proofs.Common.{ℕ, zero, suc, ◌≡◌, ◌<◌, ◌≤◌, ◌==◌, inl, inr, true, List, [], ◌∷◌, Option, Some, None, refl, sym, ◌∙◌, ap, subst, arith, length, get_or, eq-eqb}
use Rattle.std.specs.Prelude.{Any}
use Rattle.std.proofs.lemmas.List.{get_or_default}
use Rattle.ks_keysets.specs.declared.Frame.{Frame}
use Rattle.ks_keysets.specs.declared.Span.{Span}
use Rattle.ks_keysets.specs.declared.Edge.{Edge}
use Rattle.ks_keysets.specs.declared.NodeState.{NodeState}
use Rattle.ks_keysets.specs.Record.{top, Carries, LeadsTo}
use Rattle.ks_keysets.specs.Keyset.{InInset, at_root, along}
use Rattle.ks_node.specs.Body.{Body, first_of, last_of}
use Rattle.ks_node.specs.Edges.{record_of, edges_of, edges_from}
use Rattle.ks_node.specs.Asks.{IsSpanOf}
use Rattle.ks_flow.specs.Tree.{Tree, IsInset, edges_to}
use Rattle.ks_bodies.specs.Stands.{Stands}
use Rattle.ks_bodies.proofs.Led.{low_or_high}
use Rattle.ks_bodies.proofs.Records.{edges_plain, body_led, body_count, leads_edge}
use Rattle.ks_bodies.proofs.Standing.{one_start}
use Rattle.ks_bodies.proofs.AbsorbUnder.{SoleParent}

pub root_all : (g : ℕ → NodeState) (f : ℕ → Frame) (b : Body) → Stands g f 0 b → IsInset g 0 0 top
root_all g f b stands = record { filled = omega arith; forth = λ p i. (omega arith, i.0); back = λ p l u. (u, at_root (record_of b, stands.has)) }

root_ends : (g : ℕ → NodeState) (f : ℕ → Frame) (b : Body) → Tree g f → Stands g f 0 b → (first_of b.range ≡ 0) × (last_of b.range ≡ top)
root_ends g f b tree stands = go b.range refl
  where
    go : (o : Option Span) → b.range ≡ o → (first_of b.range ≡ 0) × (last_of b.range ≡ top)
    go None e = (ap first_of e, ap last_of e)
    go (Some r) e =
        let y = tree.range 0 r (record_of b, stands.has) (ap (λ (z : Frame). z.range) stands.frame ∙ e) in
        let root = λ (p : ℕ) (h : p ≤ top). y.forth p (h, at_root (record_of b, stands.has)) in
        (ap first_of e ∙ omega (arith, (root 0 (omega arith)).0), ap last_of e ∙ omega (arith, (root top (omega arith)).1, (y.back r.last y.filled (omega arith)).0))

edge_one : (es : List Edge) (i : ℕ) (d : Edge) (m : ℕ) → i < length es → (get_or es i d).node ≡ m → 0 < edges_to es m
edge_one [] i d m lt is = absurd (omega arith)
edge_one (e ∷ es) zero d m lt is = let t : (e.node == m) ≡ true = eq-eqb e.node m is in rw t (omega arith)
edge_one (e ∷ es) (suc i) d m lt is = omega (arith, edge_one es i d m (omega arith) is)

edge_two : (es : List Edge) (i j : ℕ) (d d' : Edge) (m : ℕ) → i < j → j < length es → (get_or es i d).node ≡ m → (get_or es j d').node ≡ m → 2 ≤ edges_to es m
edge_two [] i j d d' m lt lt' is is' = absurd (omega arith)
edge_two (e ∷ es) i zero d d' m lt lt' is is' = absurd (omega arith)
edge_two (e ∷ es) zero (suc j) d d' m lt lt' is is' = let t : (e.node == m) ≡ true = eq-eqb e.node m is in rw t (omega (arith, edge_one es j d' m (omega arith) is'))
edge_two (e ∷ es) (suc i) (suc j) d d' m lt lt' is is' = omega (arith, edge_two es i j d d' m (omega arith) (omega arith) is is')

-- if only one edge leads to the node, two places that are led to it are carried by that edge
one_edge : (es : List Edge) (m i j : ℕ) (d e : Edge) → edges_to es m ≤ 1 → i < length es → j < length es → get_or es i d ≡ d → get_or es j e ≡ e → d.node ≡ m → e.node ≡ m → d ≡ e
one_edge es m i j d e one li lj is is' at at' = elim (low_or_high i j) [
  | inl lt ↦ absurd (omega (arith, one, edge_two es i j d e m lt lj (ap (λ (z : Edge). z.node) is ∙ at) (ap (λ (z : Edge). z.node) is' ∙ at')))
  | inr ge ↦ elim (low_or_high j i) [
    | inl lt ↦ absurd (omega (arith, one, edge_two es j i e d m lt li (ap (λ (z : Edge). z.node) is' ∙ at') (ap (λ (z : Edge). z.node) is ∙ at)))
    | inr le ↦ (let same : i ≡ j = omega arith in sym is ∙ ap (λ (k : ℕ). get_or es k d) same ∙ get_or_default es j d e lj ∙ is')
  ]
]

pub child_span : (g : ℕ → NodeState) (f : ℕ → Frame) (node p : ℕ) (span : Span) (u b : Body) → Tree g f → SoleParent g → Stands g f 0 u → Stands g f node b → LeadsTo (record_of u) p node → IsSpanOf u.starts p span → IsInset g node span.low span.last
child_span g f node p span u b tree sole root stands to is = go (subst (λ (es : List Edge). Any (λ e. Carries e p × (e.span ≡ span)) es) (sym whole) is)
  where
    whole : edges_of u ≡ edges_from 0 top u.starts
    whole =
        edges_plain u root.plain.no_link
        ∙ ap (λ (n : ℕ). edges_from n (last_of u.range) u.starts) (root_ends g f u tree root).0
        ∙ ap (λ (n : ℕ). edges_from 0 n u.starts) (root_ends g f u tree root).1

    go : Any (λ e. Carries e p × (e.span ≡ span)) (edges_of u) → IsInset g node span.low span.last
    go (k, e, lt, at, (carries, same)) = record {
      filled = omega (arith, carries.0, carries.1, ap (λ (z : Span). z.low) same, ap (λ (z : Span). z.last) same);
      forth = λ o i. inside o i (sole 0 node o (record_of u) root.has (leads_edge u p node root.plain to) i.1).1;
      back = λ o l h. outside o (omega (arith, ap (λ (z : Span). z.low) same), omega (arith, ap (λ (z : Span). z.last) same));
    }
      where
        node_is : e.node ≡ node
        node_is = let x : Some e.node ≡ Some node = sym (body_led u root.plain p e.node (k, e, lt, at, (carries, refl))).0 ∙ (body_led u root.plain p node to).0 in cc

        inside : (o : ℕ) → InInset g node o → LeadsTo (record_of u) o node → (span.low ≤ o) × (o ≤ span.last)
        inside o i (j, d, lt', at', (c, n)) =
            let one : edges_to (edges_of u) node ≤ 1 = omega (arith, body_count u root.plain node, one_start g f 0 u tree root node) in
            let x : d ≡ e = one_edge (edges_of u) node j k d e one lt' lt at' at n node_is in
            let y : d.span ≡ span = ap (λ (z : Edge). z.span) x ∙ same in
            (omega (arith, c.0, ap (λ (z : Span). z.low) y), omega (arith, c.1, ap (λ (z : Span). z.last) y))

        outside : (o : ℕ) → Carries e o → InInset g node o
        outside o c =
            let lead : LeadsTo (record_of u) o node = (k, e, lt, at, (c, node_is)) in
            let place : o ≤ top = omega (arith, (body_led u root.plain o node lead).1.last, (root_ends g f u tree root).1) in
            (place, along (record_of u) (at_root (record_of u, root.has)) root.has lead (record_of b, stands.has))
