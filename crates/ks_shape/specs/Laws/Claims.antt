-- The results of claims, and which full node may grow.
use Rattle.std.proofs.Common.{inl, inr, true, false, cond, refl, sym, ◌∙◌, ap, subst, arith}
use Rattle.std.specs.Prelude.{◌≡◌, ℕ, Option, Some, None, length, nat_eq, IsTrue}
use Rattle.std.proofs.lemmas.Bool.Decides.{eqb_tells}
use Rattle.ks_keysets.specs.declared.Kind.{Kind}
use Rattle.ks_keysets.specs.declared.Kind.TheVariants.{NoBranch, Inner, Directory}
use Rattle.ks_keysets.specs.declared.NodeState.{NodeState}
use Rattle.ks_keysets.specs.declared.Record.{Record}
use Rattle.ks_keysets.specs.Keyset.{record_at, InInset, InKeyset}
use Rattle.ks_keysets.specs.Laws.Next.{same_record}
use Rattle.ks_keysets.specs.Layout.{Layout, list_layout, bplus_layout, hash_layout, bst_layout, wide_layout, room, fan}
use Rattle.ks_keysets.specs.Tight.{capacity}
use Rattle.ks_history.specs.Due.{MayGrow, IsFullRoot}
use Rattle.ks_node.specs.Body.{Body, is_branch, is_branch_kind}
use Rattle.ks_node.specs.Edges.{record_of, edges_of}
use Rattle.ks_node.specs.Room.{is_full, is_full_at, load, may_grow, in_place}

-- a node with no edge has its inset for its keyset
bare_keyset : (g : ℕ → NodeState) (i place : ℕ) (b : Body) → record_at g i ≡ Some (record_of b) → length (edges_of b) ≡ 0 → InInset g i place → InKeyset g i place
bare_keyset g i place b is none inside = (inside, λ (r, at, (k, x, lt, eq, on)). omega (arith, lt, none, ap (λ (z : Record). length z.edges) (same_record g i r (record_of b) at is)))

-- a full node may grow if it is the root, or, if nodes grow in place, it has the place in its inset and no edge where it is no
-- branch
pub may_grow_at : (layout : Layout) (g : ℕ → NodeState) (i place : ℕ) (b : Body) → record_at g i ≡ Some (record_of b) → (in_place layout ≡ false → i ≡ 0) → (IsTrue (in_place layout) → InInset g i place × (is_branch b ≡ false → length b.starts ≡ 0)) → IsTrue (is_full layout b) → IsTrue (may_grow layout) → length (edges_of b) ≡ length b.starts → MayGrow layout g i place
may_grow_at layout g i place b is root inside full grows edges = go layout b.kind refl root inside full grows
  where
    count : (n m : ℕ) → nat_eq n m ≡ true → n ≡ m
    count n m t = elim (eqb_tells n m) [ inl e ↦ e.1 | inr e ↦ absurd (let q : false ≡ true = sym e.0 ∙ t in let z : ⊥ = cc in z) ]

    filled : (l : Layout) (k : Kind) → b.kind ≡ k → IsTrue (is_full_at (capacity l b.kind) (load b)) → IsTrue (is_full_at (capacity l k) (cond (is_branch_kind k) (length b.starts) (length b.pairs)))
    filled l k e t = subst (λ (z : Kind). IsTrue (is_full_at (capacity l z) (cond (is_branch_kind z) (length b.starts) (length b.pairs)))) e t

    full_root : (l : Layout) (k : Kind) → b.kind ≡ k → i ≡ 0 → IsTrue (is_full_at (capacity l b.kind) (load b)) → IsFullRoot l g i
    full_root l NoBranch e root t = (root, record_of b, is, inl (count (length b.pairs) (room l) (filled l NoBranch e t)))
    full_root l Inner e root t = (root, record_of b, is, inr (children (fan l) (filled l Inner e t)))
      where
        children : (c : Option ℕ) → IsTrue (is_full_at c (length b.starts)) → c ≡ Some (length (edges_of b))
        children None t = absurd (let q : ⊥ = cc in q)
        children (Some n) t = ap Some (sym (edges ∙ count (length b.starts) n t))
    full_root l Directory e root t = absurd (let s = filled l Directory e t in let q : ⊥ = cc in q)

    go : (l : Layout) (k : Kind) → b.kind ≡ k → (in_place l ≡ false → i ≡ 0) → (IsTrue (in_place l) → InInset g i place × (is_branch b ≡ false → length b.starts ≡ 0)) → IsTrue (is_full_at (capacity l b.kind) (load b)) → IsTrue (may_grow l) → MayGrow l g i place
    go list_layout k e root inside t grow = absurd (let q : ⊥ = cc in q)
    go bplus_layout k e root inside t grow = full_root bplus_layout k e (root refl) t
    go hash_layout k e root inside t grow = full_root hash_layout k e (root refl) t
    go (wide_layout pairs children) k e root inside t grow = full_root (wide_layout pairs children) k e (root refl) t
    go bst_layout NoBranch e root inside t grow = (bare_keyset g i place b is (edges ∙ (inside refl).1 (ap is_branch_kind e)) (inside refl).0, record_of b, is, count (length b.pairs) 2 (filled bst_layout NoBranch e t))
    go bst_layout Inner e root inside t grow = absurd (let s = filled bst_layout Inner e t in let q : ⊥ = cc in q)
    go bst_layout Directory e root inside t grow = absurd (let s = filled bst_layout Directory e t in let q : ⊥ = cc in q)
