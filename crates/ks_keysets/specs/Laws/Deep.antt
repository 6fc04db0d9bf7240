-- How deep a node is below the root, if nodes have one parent at most and the root none, and which changes keep it so deep.
use Rattle.std.proofs.Common.{ℕ, zero, suc, ◌≡◌, ◌<◌, ◌≤◌, ◌+◌, ◌-◌, ◌⊎◌, inl, inr, List, [], ◌∷◌, length, get_or, Some, None, refl, sym, ◌∙◌, ap, subst, arith}
use Rattle.std.specs.Prelude.{Any, All, AllPairs}
use Rattle.std.proofs.lemmas.List.Elements.{All-nil, All-cons}
use Rattle.std.proofs.lemmas.List.Kept.{AllPairs-cons}
use Rattle.ks_keysets.specs.declared.Edge.{Edge}
use Rattle.ks_keysets.specs.declared.NodeState.{NodeState}
use Rattle.ks_keysets.specs.declared.Record.{Record}
use Rattle.ks_keysets.specs.Keyset.{record_at, IsLive}
use Rattle.ks_keysets.specs.Laws.Found.{KeepsEdges}
use Rattle.ks_keysets.specs.Walk.{Descends, from_root, further, OneParent}
use Rattle.ks_keysets.specs.Laws.Pigeons.{pigeonhole}
use Rattle.ks_keysets.specs.Laws.Descents.{meets_once, on_way}
use Rattle.ks_keysets.specs.Deep.{Deep}

-- node m is not live, or it is i, or edges of live nodes lead from i to it
pub data Under (g : ℕ → NodeState) (i : ℕ) : ℕ → Type 0 where
  absent : {m : ℕ} → record_at g m ≡ None → Under g i m
  itself : Under g i i
  onward : {a m : ℕ} (r : Record) → Under g i a → record_at g a ≡ Some r → Any (λ e. e.node ≡ m) r.edges → Under g i m

-- nodes that are not under i have the same record in both graphs
pub record KeptAbove (g : ℕ → NodeState) (i : ℕ) (k : ℕ → NodeState) : Type 0 where
  pub same : (m : ℕ) → (Under g i m → ⊥) → record_at k m ≡ record_at g m

-- the root is 0 steps deep
pub deep_root : (g : ℕ → NodeState) (n : ℕ) → Deep g n [] 0 0
deep_root g n = record { edges = 0; way = from_root; enough = omega arith; once = λ i j d lt lt'. absurd (omega arith); numbers = All-nil (λ m. m < n); dead = All-nil (λ m. record_at g m ≡ None) }

-- the target of an edge is one step deeper than its node
pub deep_next : (g : ℕ → NodeState) (n : ℕ) (gone : List ℕ) (steps i j : ℕ) (r : Record) → Deep g n gone steps i → record_at g i ≡ Some r → Any (λ e. e.node ≡ j) r.edges → Deep g n gone (suc steps) j
deep_next g n gone steps i j r deep is leads = record {
  edges = suc deep.edges;
  way = further r deep.way is leads;
  enough = let e = deep.enough in omega (arith, e);
  once = deep.once;
  numbers = deep.numbers;
  dead = deep.dead;
}

-- a node that is `steps` deep is also `fewer` deep
pub deep_fewer : (g : ℕ → NodeState) (n : ℕ) (gone : List ℕ) (fewer steps i : ℕ) → fewer ≤ steps → Deep g n gone steps i → Deep g n gone fewer i
deep_fewer g n gone fewer steps i less deep = record { edges = deep.edges; way = deep.way; enough = let e = deep.enough in omega (arith, e, less); once = deep.once; numbers = deep.numbers; dead = deep.dead }

-- node m is the i-th of the list: first the nodes of the descent, then those that are gone
abbrev Spot : (ℕ → NodeState) → ℕ → List ℕ → ℕ → ℕ → Type 0
Spot g edges gone i m = ((i < suc edges) × Descends g i m × IsLive g m) ⊎ ((suc edges ≤ i) × (m ≡ get_or gone (i - suc edges) 0))

spot : (g : ℕ → NodeState) (edges a : ℕ) (gone : List ℕ) → Descends g edges a → IsLive g a → (i : ℕ) → (m : ℕ) × Spot g edges gone i m
spot g edges a gone way live i = go (split i edges)
  where
    split : (i k : ℕ) → (i < k) ⊎ ((i ≡ k) ⊎ (k < i))
    split i k = grind arith

    go : (i < edges) ⊎ ((i ≡ edges) ⊎ (edges < i)) → (m : ℕ) × Spot g edges gone i m
    go (inl less) = let on = on_way g edges a way i in (on.node, inl (omega arith, on.comes (omega arith), on.live less))
    go (inr (inl same)) = (a, inl (omega arith, subst (λ (j : ℕ). Descends g j a) (sym same) way, live))
    go (inr (inr more)) = (get_or gone (i - suc edges) 0, inr (omega arith, refl))

apart_at : (gone : List ℕ) → AllPairs (λ x y. x ≡ y → ⊥) gone → (i j : ℕ) → i < length gone → j < length gone → get_or gone i 0 ≡ get_or gone j 0 → i ≡ j
apart_at gone once i j lt lt' same = go (split i j)
  where
    split : (i k : ℕ) → (i < k) ⊎ ((i ≡ k) ⊎ (k < i))
    split i k = grind arith

    go : (i < j) ⊎ ((i ≡ j) ⊎ (j < i)) → i ≡ j
    go (inl less) = absurd (once i j 0 less lt' same)
    go (inr (inl e)) = e
    go (inr (inr more)) = absurd (once j i 0 more lt (sym same))

-- so a live node is fewer steps deep than there are nodes
pub deep_bound : (g : ℕ → NodeState) (n : ℕ) (gone : List ℕ) (steps i : ℕ) → OneParent g → ((m : ℕ) → IsLive g m → m < n) → Deep g n gone steps i → IsLive g i → steps < n
deep_bound g n gone steps i one few deep live =
    let le = pigeonhole (suc deep.edges + length gone) n at into apart in
    let e = deep.enough in omega (arith, e, le)
  where
    at : ℕ → ℕ
    at j = (spot g deep.edges i gone deep.way live j).0

    is : (j : ℕ) → Spot g deep.edges gone j (at j)
    is j = (spot g deep.edges i gone deep.way live j).1

    into : (j : ℕ) → j < suc deep.edges + length gone → at j < n
    into j lt = go (at j) (is j)
      where
        go : (m : ℕ) → Spot g deep.edges gone j m → m < n
        go m (inl x) = few m x.2
        go m (inr x) = subst (λ (k : ℕ). k < n) (sym x.1) (deep.numbers (j - suc deep.edges) 0 (omega (arith, lt, x.0)))

    never : (m : ℕ) → IsLive g m → record_at g m ≡ None → ⊥
    never m l none = let x : None ≡ Some l.0 = sym none ∙ l.1 in cc

    apart : (j k : ℕ) → j < suc deep.edges + length gone → k < suc deep.edges + length gone → at j ≡ at k → j ≡ k
    apart j k lt lt' same = go (at j) (at k) (is j) (is k) same
      where
        gone_at : (l m : ℕ) → l < suc deep.edges + length gone → suc deep.edges ≤ l → m ≡ get_or gone (l - suc deep.edges) 0 → record_at g m ≡ None
        gone_at l m lt le e = subst (λ (z : ℕ). record_at g z ≡ None) (sym e) (deep.dead (l - suc deep.edges) 0 (omega (arith, lt, le)))

        go : (m o : ℕ) → Spot g deep.edges gone j m → Spot g deep.edges gone k o → m ≡ o → j ≡ k
        go m o (inl x) (inl y) e = meets_once g j k m o one x.1 y.1 e
        go m o (inl x) (inr y) e = absurd (never m x.2 (subst (λ (z : ℕ). record_at g z ≡ None) (sym e) (gone_at k o lt' y.0 y.1)))
        go m o (inr x) (inl y) e = absurd (never o y.2 (subst (λ (z : ℕ). record_at g z ≡ None) e (gone_at j m lt x.0 x.1)))
        go m o (inr x) (inr y) e =
            let s = apart_at gone deep.once (j - suc deep.edges) (k - suc deep.edges) (omega (arith, lt, x.0)) (omega (arith, lt', y.0)) (sym x.1 ∙ e ∙ y.1) in
            omega (arith, s, x.0, y.0)

-- a descent remains one if live nodes keep their edges
pub descends_over : (g k : ℕ → NodeState) (d a : ℕ) → KeepsEdges g k → Descends g d a → Descends k d a
descends_over g k zero a keeps from_root = from_root
descends_over g k (suc d) a keeps (further {a = b} r w is leads) =
    let s = keeps.at b r is in
    further s.0 (descends_over g k d b keeps w) s.1 (subst (λ (es : List Edge). Any (λ e. e.node ≡ a) es) (sym s.2) leads)

-- and its node remains as deep, if those that are gone are still not live
pub deep_along : (g k : ℕ → NodeState) (n : ℕ) (gone : List ℕ) (steps i : ℕ) → KeepsEdges g k → All (λ m. record_at k m ≡ None) gone → Deep g n gone steps i → Deep k n gone steps i
deep_along g k n gone steps i keeps dead deep = record { edges = deep.edges; way = descends_over g k deep.edges i keeps deep.way; enough = deep.enough; once = deep.once; numbers = deep.numbers; dead = dead }

-- what is under a node is as deep as it, or deeper, or is not live
under_deeper : (g : ℕ → NodeState) (d i m : ℕ) → Descends g d i → Under g i m → (record_at g m ≡ None) ⊎ ((j : ℕ) × (d ≤ j) × Descends g j m)
under_deeper g d i m way (absent none) = inl none
under_deeper g d i m way itself = inr (d, omega arith, way)
under_deeper g d i m way (onward {a = a} r u is leads) = go (under_deeper g d i a way u)
  where
    go : (record_at g a ≡ None) ⊎ ((j : ℕ) × (d ≤ j) × Descends g j a) → (record_at g m ≡ None) ⊎ ((j : ℕ) × (d ≤ j) × Descends g j m)
    go (inl none) = let x : None ≡ Some r = sym none ∙ is in absurd (cc)
    go (inr x) = inr (suc x.0, (let e = x.1 in omega (arith, e)), further r x.2 is leads)

-- a descent to a node remains one if nothing changes but what is under it
descends_above : (g k : ℕ → NodeState) (d i : ℕ) → OneParent g → Descends g d i → KeptAbove g i k → (j b : ℕ) → j ≤ d → Descends g j b → Descends k j b
descends_above g k d i one way kept zero b le from_root = from_root
descends_above g k d i one way kept (suc j) b le (further {a = a} r w is leads) =
    further r (descends_above g k d i one way kept j a (omega arith) w) (kept.same a (λ u. go (under_deeper g d i a way u)) ∙ is) leads
  where
    go : (record_at g a ≡ None) ⊎ ((l : ℕ) × (d ≤ l) × Descends g l a) → ⊥
    go (inl none) = let x : None ≡ Some r = sym none ∙ is in cc
    go (inr x) = let e = meets_once g j x.0 a a one w x.2 refl in let more = x.1 in omega (arith, e, le, more)

-- and the node remains as deep
pub deep_above : (g k : ℕ → NodeState) (n : ℕ) (gone : List ℕ) (steps i : ℕ) → OneParent g → KeptAbove g i k → All (λ m. record_at k m ≡ None) gone → Deep g n gone steps i → Deep k n gone steps i
deep_above g k n gone steps i one kept dead deep = record {
  edges = deep.edges;
  way = descends_above g k deep.edges i one deep.way kept deep.edges i (omega arith) deep.way;
  enough = deep.enough;
  once = deep.once;
  numbers = deep.numbers;
  dead = dead;
}

-- a live node that such a change makes free counts as one step more
pub deep_freed : (g k : ℕ → NodeState) (n : ℕ) (gone : List ℕ) (steps i x : ℕ) → OneParent g → KeptAbove g i k → All (λ m. record_at k m ≡ None) gone → x < n → IsLive g x → record_at k x ≡ None → Deep g n gone steps i → Deep k n (x ∷ gone) (suc steps) i
deep_freed g k n gone steps i x one kept dead lt live none deep = record {
  edges = deep.edges;
  way = descends_above g k deep.edges i one deep.way kept deep.edges i (omega arith) deep.way;
  enough = let e = deep.enough in omega (arith, e);
  once = AllPairs-cons (λ y z. y ≡ z → ⊥) x gone (λ j d less same. fresh (get_or gone j d) same (deep.dead j d less)) deep.once;
  numbers = All-cons (λ m. m < n) x gone lt deep.numbers;
  dead = All-cons (λ m. record_at k m ≡ None) x gone none dead;
}
  where
    fresh : (m : ℕ) → x ≡ m → record_at g m ≡ None → ⊥
    fresh m same gone_is = let y : None ≡ Some live.0 = sym gone_is ∙ ap (record_at g) (sym same) ∙ live.1 in cc
