-- Laws of what is found: it is one value, in a good graph that of the node whose keyset has the place, and it depends on edges
-- and pairs only.
use Rattle.std.proofs.Common.{ℕ, ◌≡◌, ◌<◌, ◌⊎◌, inl, inr, List, Option, Some, None, refl, sym, ◌∙◌, ap, subst, arith}
use Rattle.std.specs.Prelude.{Any}
use Rattle.ks_keysets.specs.declared.Edge.{Edge}
use Rattle.ks_keysets.specs.declared.NodeState.{NodeState}
use Rattle.ks_keysets.specs.declared.Record.{Record}
use Rattle.ks_keysets.specs.Record.{Carries}
use Rattle.ks_keysets.specs.Keyset.{record_at, IsLive, Reaches, at_root, along, InOutset, InKeyset, value_at, IsFound, here, nowhere, Good}

-- a live node of g is live in k, with the same edges
pub record KeepsEdges (g k : ℕ → NodeState) : Type 0 where
  pub at : (n : ℕ) (r : Record) → record_at g n ≡ Some r → (s : Record) × (record_at k n ≡ Some s) × (s.edges ≡ r.edges)

pub live_along : {g k : ℕ → NodeState} → KeepsEdges g k → (n : ℕ) → IsLive g n → IsLive k n
live_along e n l = let s = e.at n l.0 l.1 in (s.0, s.1)

pub reaches_along : {g k : ℕ → NodeState} → KeepsEdges g k → (p : ℕ) {n : ℕ} → Reaches g p n → Reaches k p n
reaches_along e p (at_root l) = at_root (live_along e 0 l)
reaches_along {g} {k} e p (along {n} {m} r w is leads live) =
    let s = e.at n r is in
    along s.0 (reaches_along e p w) s.1 (subst (λ (es : List Edge). Any (λ e. Carries e p × (e.node ≡ m)) es) (sym s.2) leads) (live_along e m live)

pub outset_along : {g k : ℕ → NodeState} → KeepsEdges g k → (n p : ℕ) → InOutset g n p → InOutset k n p
outset_along e n p (r, is, on) =
    let s = e.at n r is in
    (s.0, s.1, subst (λ (es : List Edge). Any (λ e. Carries e p) es) (sym s.2) on)

-- graphs with the same edges have the same keysets
pub keyset_along : {g k : ℕ → NodeState} → KeepsEdges g k → KeepsEdges k g → (n p : ℕ) → InKeyset g n p → InKeyset k n p
keyset_along forth back n p h = ((h.0.0, reaches_along forth p h.0.1), λ o. h.1 (outset_along back n p o))

-- what is found after a change of pairs only
pub found_along : {g k : ℕ → NodeState} → KeepsEdges g k → KeepsEdges k g → (p : ℕ) (v w : Option ℕ)
    → ((n : ℕ) → InKeyset g n p → v ≡ value_at g n p → w ≡ value_at k n p)
    → (v ≡ None → ((n : ℕ) → ¬ InKeyset g n p) → w ≡ None)
    → IsFound g p v → IsFound k p w
found_along forth back p v w held gone (here n in' least is) =
    here n (keyset_along forth back n p in') (λ m lt h. least m lt (keyset_along back forth m p h)) (held n in' is)
found_along forth back p v w held gone (nowhere none is) =
    nowhere (λ n h. none n (keyset_along back forth n p h)) (gone is none)

-- two values that are found are equal
pub found_one : (g : ℕ → NodeState) (p : ℕ) (v w : Option ℕ) → IsFound g p v → IsFound g p w → v ≡ w
found_one g p v w (here n in' least is) (here m in'' least' is') = go (cases n m)
  where
    cases : (n m : ℕ) → (n < m) ⊎ ((m < n) ⊎ (n ≡ m))
    cases n m = grind arith

    go : (n < m) ⊎ ((m < n) ⊎ (n ≡ m)) → v ≡ w
    go (inl lt) = absurd (least' n lt in')
    go (inr (inl lt)) = absurd (least m lt in'')
    go (inr (inr same)) = is ∙ ap (λ k. value_at g k p) same ∙ sym is'
found_one g p v w (here n in' least is) (nowhere none is') = absurd (none n in')
found_one g p v w (nowhere none is) (here n in' least is') = absurd (none n in')
found_one g p v w (nowhere none is) (nowhere none' is') = is ∙ sym is'

-- in a good graph what is found is what the node whose keyset has the place has there
pub found_here : (g : ℕ → NodeState) (n p : ℕ) → Good g → InKeyset g n p → IsFound g p (value_at g n p)
found_here g n p good h = here n h (λ m lt other. absurd (below m lt (good.one m n p other h))) refl
  where
    below : (m : ℕ) → m < n → m ≡ n → ⊥
    below m lt same = omega arith

-- a node with a place in its inset is live
pub reached_live : {g : ℕ → NodeState} {p n : ℕ} → Reaches g p n → IsLive g n
reached_live (at_root l) = l
reached_live (along r w is leads live) = live
