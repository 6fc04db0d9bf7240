-- Every edge of a tree is used, and changes of pairs keep the facts of trees.
use Rattle.ks_flow.proofs.Acts.{no_way_back}
use Rattle.ks_keysets.specs.declared.Record.{Record}
use Rattle.ks_keysets.specs.declared.Frame.{Frame}
use Rattle.std.proofs.Common.{ℕ, zero, suc, ◌≡◌, ◌<◌, ◌≤◌, ◌⊎◌, inl, inr, true, List, [], ◌∷◌, length, get_or, Option, Some, None, refl, sym, ◌∙◌, ap, subst, arith}
use Rattle.std.specs.Prelude.{All, AllPairs}
use Rattle.ks_keysets.specs.declared.Edge.{Edge}
use Rattle.ks_keysets.specs.declared.NodeState.{NodeState}
use Rattle.ks_keysets.specs.declared.Span.{Span}
use Rattle.ks_keysets.specs.Record.{top, IsPlace, Carries, LeadsTo}
use Rattle.ks_keysets.specs.Frame.{empty_record}
use Rattle.ks_keysets.specs.Keyset.{opening, record_at, IsLive, Reaches, at_root, along, InInset, Good}
use Rattle.ks_flow.specs.Tree.{edges_to, edges_between, edges_in, Tree, IsInset, SameEdges}
use Rattle.ks_flow.specs.Walk.{Ends, stops, Path, arrives}
use Rattle.ks_keysets.specs.Laws.Next.{same_record}
use Rattle.ks_flow.proofs.Walks.{walked_good}
use Rattle.ks_flow.proofs.Paths.{edges_to_some}
use Rattle.std.proofs.Common.{◌==◌, eq-eqb}
use Rattle.std.specs.Prelude.{Any}
use Rattle.std.proofs.lemmas.List.{get_or_default}
use Rattle.ks_flow.proofs.Edges.{sole_parent}
use Rattle.ks_flow.proofs.Trees.{inset_like, between_is}

pub edges_two : (es : List Edge) (i j : ℕ) (d : Edge) (m : ℕ) → i < j → j < length es → (get_or es i d).node ≡ m → (get_or es j d).node ≡ m → 2 ≤ edges_to es m
edges_two [] i j d m lt lt' is is' = absurd (omega arith)
edges_two (e ∷ es) i zero d m lt lt' is is' = absurd (omega arith)
edges_two (e ∷ es) zero (suc j) d m lt lt' is is' = let t : (e.node == m) ≡ true = eq-eqb e.node m is in rw t (omega (arith, edges_to_some es j d m (omega arith) is'))
edges_two (e ∷ es) (suc i) (suc j) d m lt lt' is is' = omega (arith, edges_two es i j d m (omega arith) (omega arith) is is')

-- each edge of a live node carries a place of the node's inset
pub edges_used : (g : ℕ → NodeState) (f : ℕ → Frame) (n : ℕ) (r : Record) → Good g → Tree g f → record_at g n ≡ Some r → All (λ e. (p : ℕ) × InInset g n p × Carries e p) r.edges
edges_used g f n r good tree is i d lt = go (get_or r.edges i d).node refl (good.leads n r is i d lt)
  where
    go : (c : ℕ) → (get_or r.edges i d).node ≡ c → IsLive g c → (p : ℕ) × InInset g n p × Carries (get_or r.edges i d) p
    go c at live =
        let y = tree.spans c live in
        let p = (f c).low in
        let inset = y.1.back p (omega arith) y.1.filled in
        let up = sole_parent g n c p r tree.edges is (edges_to_some r.edges i d c lt at) inset.1 in
        (p, (inset.0, up.0), same up.1)
      where
        one : edges_to r.edges c ≤ 1
        one = omega (arith, tree.edges.one c n (suc n) (λ e. omega arith), between_is g n c r is)

        cases : (k l : ℕ) → (k < l) ⊎ ((l < k) ⊎ (k ≡ l))
        cases k l = grind arith

        same : LeadsTo r (f c).low c → Carries (get_or r.edges i d) (f c).low
        same (k, x, lt', is', leads) = elim (cases k i) [
          | inl less ↦ absurd (omega (arith, one, edges_two r.edges k i d c less lt (at_k ∙ leads.1) at))
          | inr w ↦ elim w [
            | inl less ↦ absurd (omega (arith, one, edges_two r.edges i k d c less lt' at (at_k ∙ leads.1)))
            | inr e ↦ subst (λ (j : ℕ). Carries (get_or r.edges j d) (f c).low) e (subst (λ (z : Edge). Carries z (f c).low) (sym (get_or_default r.edges k d x lt' ∙ is')) leads.0)
          ]
        ]
          where
            at_k : (get_or r.edges k d).node ≡ x.node
            at_k = ap (λ (z : Edge). z.node) (get_or_default r.edges k d x lt' ∙ is')

-- no edge of a tree leads to its own node
pub no_loop : (g : ℕ → NodeState) (f : ℕ → Frame) (n m : ℕ) (r : Record) → Good g → Tree g f → record_at g n ≡ Some r → 0 < edges_to r.edges m → n ≡ m → ⊥
no_loop g f n m r good tree is lt e =
    let y = tree.spans m (subst (λ (x : ℕ). IsLive g x) e (r, is)) in
    let low = y.1.back (f m).low (omega arith) y.1.filled in
    let up = sole_parent g n m (f m).low r tree.edges is lt low.1 in
    no_way_back g (f m).low n m r good (low.0, up.0) is up.1 (subst (λ (x : ℕ). Path g (f m).low n x) e arrives)

pub reaches_along : (g k : ℕ → NodeState) (p n : ℕ) → ((n : ℕ) (r : Record) → record_at g n ≡ Some r → (s : Record) × (record_at k n ≡ Some s) × (s.edges ≡ r.edges)) → Reaches g p n → Reaches k p n
reaches_along g k p n on (at_root live) = let y = on 0 live.0 live.1 in at_root (y.0, y.1)
reaches_along g k p n on (along {n = m} r reach is to live) =
    let y = on m r is in
    let z = on n live.0 live.1 in
    along y.0 (reaches_along g k p m on reach) y.1 (subst (λ (es : List Edge). Any (λ e. Carries e p × (e.node ≡ n)) es) (sym y.2) to) (z.0, z.1)

pub tree_along : (g k : ℕ → NodeState) (f : ℕ → Frame) → SameEdges g k → Tree g f → Tree k f
tree_along g k f same tree = record {
  edges = record { one = λ m n l apart. omega (arith, between n m, between l m, tree.edges.one m n l apart); none = λ n. between n 0 ∙ tree.edges.none n };
  spans = λ n live. let y = same.back n live.0 live.1 in let z = tree.spans n (y.0, y.1) in (z.0, inset n (f n).low z.0 z.1);
  range = λ n s live is. let y = same.back n live.0 live.1 in inset n s.low s.last (tree.range n s (y.0, y.1) is);
}
  where
    between : (n m : ℕ) → edges_between k n m ≡ edges_between g n m
    between n m = go (record_at k n) (record_at g n) refl refl
      where
        go : (o q : Option Record) → record_at k n ≡ o → record_at g n ≡ q → edges_in o m ≡ edges_in q m
        go None None a b = refl
        go None (Some r) a b = let y = same.forth n r b in let e : None ≡ Some y.0 = sym a ∙ y.1 in absurd (cc)
        go (Some s) None a b = let y = same.back n s a in let e : None ≡ Some y.0 = sym b ∙ y.1 in absurd (cc)
        go (Some s) (Some r) a b =
            let y = same.forth n r b in
            let e : s ≡ y.0 = same_record k n s y.0 a y.1 in
            ap (λ (z : Record). edges_to z.edges m) e ∙ ap (λ (es : List Edge). edges_to es m) y.2

    inset : (n a b : ℕ) → IsInset g n a b → IsInset k n a b
    inset n a b x = inset_like g k n n a b x (λ p i. (i.0, reaches_along k g p n same.back i.1)) (λ p i. (i.0, reaches_along g k p n same.forth i.1))

-- the opening graph

pub opening_one : (n : ℕ) (r : Record) → record_at opening n ≡ Some r → (n ≡ 0) × (r ≡ empty_record)
opening_one zero r is = (refl, let e : empty_record ≡ r = cc in sym e)
opening_one (suc n) r is = absurd (cc)

opening_none : (n m : ℕ) → edges_between opening n m ≡ 0
opening_none zero m = refl
opening_none (suc n) m = refl

opening_inset : (a b : ℕ) → a ≡ 0 → b ≡ top → IsInset opening 0 a b
opening_inset a b low last = record {
  filled = omega arith;
  forth = λ p i. (omega arith, omega (arith, i.0));
  back = λ p l u. (omega arith, at_root (empty_record, refl));
}

pub opening_tree : (f : ℕ → Frame) → (f 0).low ≡ 0 → ((s : Span) → (f 0).range ≡ Some s → (s.low ≡ 0) × (s.last ≡ top)) → Tree opening f
opening_tree f low range = record {
  edges = record { one = λ m n l apart. omega (arith, opening_none n m, opening_none l m); none = λ n. opening_none n 0 };
  spans = λ n live. let e = (opening_one n live.0 live.1).0 in (top, subst (λ (m : ℕ). IsInset opening m (f m).low top) (sym e) (opening_inset (f 0).low top low refl));
  range = λ n s live is. let e = (opening_one n live.0 live.1).0 in
      let y = range s (ap (λ (m : ℕ). (f m).range) (sym e) ∙ is) in
      subst (λ (m : ℕ). IsInset opening m s.low s.last) (sym e) (opening_inset s.low s.last y.0 y.1);
}

pub opening_good : Good opening
opening_good = walked_good opening (record {
  root = (empty_record, refl);
  apart = λ n r is. subst (λ (z : Record). AllPairs (λ e f. (p : ℕ) → Carries e p → Carries f p → ⊥) z.edges) (sym (opening_one n r is).1) (λ i j d lt lt'. absurd (omega arith));
  leads = λ n r is. subst (λ (z : Record). All (λ e. IsLive opening e.node) z.edges) (sym (opening_one n r is).1) (λ i d lt. absurd (omega arith));
  ends = λ p place. (0, stops empty_record refl (λ y. absurd (omega (arith, y.2))));
  stored = λ n r is. subst (λ (z : Record). All (λ x. IsPlace x.place × Ends opening x.place n 0) z.pairs) (sym (opening_one n r is).1) (λ i d lt. absurd (omega arith));
  once = λ n r is. subst (λ (z : Record). AllPairs (λ x y. x.place ≡ y.place → ⊥) z.pairs) (sym (opening_one n r is).1) (λ i j d lt lt'. absurd (omega arith));
})
