-- If nodes have one parent at most, and the root none, no walk along edges meets a node twice.
use Rattle.std.proofs.Common.{ℕ, zero, suc, ◌≡◌, ◌<◌, ◌≤◌, ◌⊎◌, inl, inr, refl, sym, ap, subst, arith}
use Rattle.std.specs.Prelude.{Any}
use Rattle.ks_keysets.specs.declared.NodeState.{NodeState}
use Rattle.ks_keysets.specs.Keyset.{IsLive}
use Rattle.ks_keysets.specs.Walk.{Descends, from_root, further, OneParent}

pub meets_once : (g : ℕ → NodeState) (k j a b : ℕ) → OneParent g → Descends g k a → Descends g j b → a ≡ b → k ≡ j
meets_once g zero zero a b one from_root from_root same = refl
meets_once g zero (suc j) a b one from_root (further {a = d} s v is leads) same = absurd (one.root d s is (subst (λ (m : ℕ). Any (λ e. e.node ≡ m) s.edges) (sym same) leads))
meets_once g (suc k) zero a b one (further {a = c} r w is leads) from_root same = absurd (one.root c r is (subst (λ (m : ℕ). Any (λ e. e.node ≡ m) r.edges) same leads))
meets_once g (suc k) (suc j) a b one (further {a = c} r w is leads) (further {a = d} s v is' leads') same =
    ap suc (meets_once g k j c d one w v (one.one c d a r s is is' leads (subst (λ (m : ℕ). Any (λ e. e.node ≡ m) s.edges) (sym same) leads')))

-- the node at which a descent to n is after i of its k edges
pub record On (g : ℕ → NodeState) (k n i : ℕ) : Type 0 where
  pub node : ℕ
  pub comes : i ≤ k → Descends g i node
  pub live : i < k → IsLive g node
  pub last : i ≡ k → node ≡ n

pub on_way : (g : ℕ → NodeState) (k n : ℕ) → Descends g k n → (i : ℕ) → On g k n i
on_way g zero n from_root i = record { node = 0; comes = λ le. let e : 0 ≡ i = omega arith in subst (λ (j : ℕ). Descends g j 0) e from_root; live = λ lt. absurd (omega arith); last = λ e. refl }
on_way g (suc k) n (further {a = a} r w is leads) i = go (split i) (on_way g k a w i)
  where
    split : (i : ℕ) → (i < k) ⊎ ((i ≡ k) ⊎ (k < i))
    split i = grind arith

    go : (i < k) ⊎ ((i ≡ k) ⊎ (k < i)) → On g k a i → On g (suc k) n i
    go (inl less) y = record { node = y.node; comes = λ le. y.comes (omega arith); live = λ lt. y.live less; last = λ e. absurd (omega arith) }
    go (inr (inl same)) y = record { node = a; comes = λ le. subst (λ (j : ℕ). Descends g j a) (sym same) w; live = λ lt. (r, is); last = λ e. absurd (omega arith) }
    go (inr (inr more)) y = record { node = n; comes = λ le. let e : suc k ≡ i = omega arith in subst (λ (j : ℕ). Descends g j n) e (further r w is leads); live = λ lt. absurd (omega arith); last = λ e. refl }
