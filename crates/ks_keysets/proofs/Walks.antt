-- Walks of a place, and keysets.
use Rattle.std.proofs.Common.{ℕ, zero, suc, ◌≡◌, ◌<◌, ◌≤◌, ◌-◌, ◌+◌, ◌⊎◌, inl, inr, Option, Some, None, refl, sym, ◌∙◌, ap, subst, arith}
use Rattle.ks_keysets.specs.declared.NodeState.{NodeState}
use Rattle.ks_keysets.specs.declared.Record.{Record}
use Rattle.ks_keysets.specs.Record.{IsPlace, LeadsOn}
use Rattle.ks_keysets.specs.Keyset.{record_at, IsLive, Reaches, at_root, along, InKeyset, AreApart}
use Rattle.ks_keysets.specs.Walk.{Walks, at_start, one_more, EndsAt, MeetsNotLive, NeverEnds}
use Rattle.ks_keysets.specs.Laws.Found.{reached_live}
use Rattle.ks_keysets.specs.Laws.Next.{leads_on, same_record, next_one}
use Rattle.ks_keysets.specs.Laws.Pigeons.{repeats}

-- the record of a node that is written in two ways
record_along : (g : ℕ → NodeState) (n m : ℕ) (o : Option Record) → n ≡ m → record_at g n ≡ o → record_at g m ≡ o
record_along g n m o same is = ap (record_at g) (sym same) ∙ is

-- the walk of a place is one

walks_one : (g : ℕ → NodeState) (p k a b : ℕ) → AreApart g → Walks g p k a → Walks g p k b → a ≡ b
walks_one g p zero a b apart at_start at_start = refl
walks_one g p (suc k) a b apart (one_more {a = c} r w is leads) (one_more {a = d} s v is' leads') =
    let same : c ≡ d = walks_one g p k c d apart w v in
    next_one g p c a b r s apart is (record_along g d c (Some s) (sym same) is') leads leads'

-- the node at which a walk is after fewer steps: it is live, and an edge of it carries the place on
pub record Within (g : ℕ → NodeState) (p k i : ℕ) : Type 0 where
  pub node : ℕ
  pub comes : i ≤ k → Walks g p i node
  pub on : i < k → (r : Record) × (record_at g node ≡ Some r) × LeadsOn r p

less_or_last : (i k : ℕ) → i ≤ suc k → (i ≤ k) ⊎ (i ≡ suc k)
less_or_last i k le = grind arith

pub within : (g : ℕ → NodeState) (p k n : ℕ) → Walks g p k n → (i : ℕ) → Within g p k i
within g p zero n at_start i = record { node = 0; comes = λ le. let e : 0 ≡ i = omega arith in subst (λ (j : ℕ). Walks g p j 0) e at_start; on = λ lt. absurd (omega arith) }
within g p (suc k) n (one_more {a = a} r w is leads) i = go (split i) (within g p k a w i)
  where
    split : (i : ℕ) → (i < k) ⊎ ((i ≡ k) ⊎ (k < i))
    split i = grind arith

    go : (i < k) ⊎ ((i ≡ k) ⊎ (k < i)) → Within g p k i → Within g p (suc k) i
    go (inl less) y = record { node = y.node; comes = λ le. y.comes (omega arith); on = λ lt. y.on less }
    go (inr (inl same)) y = record { node = a; comes = λ le. subst (λ (j : ℕ). Walks g p j a) (sym same) w; on = λ lt. (r, is, leads_on r p n leads) }
    go (inr (inr more)) y = record { node = n; comes = λ le. let e : suc k ≡ i = omega arith in subst (λ (j : ℕ). Walks g p j n) e (one_more r w is leads); on = λ lt. absurd (omega arith) }

-- no walk goes past its end
ends_last : (g : ℕ → NodeState) (p n j m : ℕ) → AreApart g → (e : EndsAt g p n) → Walks g p j m → j ≤ e.steps
ends_last g p n j m apart e w = go (split e.steps j)
  where
    split : (k j : ℕ) → (j ≤ k) ⊎ (k < j)
    split k j = grind arith

    go : (j ≤ e.steps) ⊎ (e.steps < j) → j ≤ e.steps
    go (inl le) = le
    go (inr more) =
        let y : Within g p j e.steps = within g p j m w e.steps in
        let same : y.node ≡ n = walks_one g p e.steps y.node n apart (y.comes (omega arith)) e.comes in
        let r = y.on more in
        absurd (e.stops (subst (λ (t : Record). LeadsOn t p) (same_record g n r.0 e.node (record_along g y.node n (Some r.0) same r.1) e.is) r.2))

pub ends_live : (g : ℕ → NodeState) (p n : ℕ) → AreApart g → EndsAt g p n → MeetsNotLive g p → ⊥
ends_live g p n apart e d = go (split d.steps e.steps)
  where
    split : (j k : ℕ) → (j < k) ⊎ ((j ≡ k) ⊎ (k < j))
    split j k = grind arith

    clash : (m : ℕ) (r : Record) → d.node ≡ m → record_at g m ≡ Some r → ⊥
    clash m r same is = let x : None ≡ Some r = sym d.is ∙ record_along g m d.node (Some r) (sym same) is in cc

    go : (d.steps < e.steps) ⊎ ((d.steps ≡ e.steps) ⊎ (e.steps < d.steps)) → ⊥
    go (inl less) =
        let y : Within g p e.steps d.steps = within g p e.steps n e.comes d.steps in
        let r = y.on less in
        clash y.node r.0 (walks_one g p d.steps d.node y.node apart d.comes (y.comes (omega arith))) r.1
    go (inr (inl same)) = clash n e.node (walks_one g p e.steps d.node n apart (subst (λ (k : ℕ). Walks g p k d.node) same d.comes) e.comes) e.is
    go (inr (inr more)) = omega (arith, ends_last g p n d.steps d.node apart e d.comes, more)

pub ends_ends : (g : ℕ → NodeState) (p n : ℕ) → AreApart g → EndsAt g p n → NeverEnds g p → ⊥
ends_ends g p n apart e never = let y = never.goes (suc e.steps) in omega (arith, ends_last g p n (suc e.steps) y.0 apart e y.1)

pub ends_one : (g : ℕ → NodeState) (p n m : ℕ) → AreApart g → EndsAt g p n → EndsAt g p m → n ≡ m
ends_one g p n m apart e f =
    let same : f.steps ≡ e.steps = omega (arith, ends_last g p n f.steps m apart e f.comes, ends_last g p m e.steps n apart f e.comes) in
    walks_one g p e.steps n m apart e.comes (subst (λ (k : ℕ). Walks g p k m) same f.comes)

-- a place is in the keyset of a node if and only if its walk ends there

reaches_walks : {g : ℕ → NodeState} {p n : ℕ} → Reaches g p n → (k : ℕ) × Walks g p k n
reaches_walks (at_root live) = (0, at_start)
reaches_walks (along r reach is leads live) = let w = reaches_walks reach in (suc w.0, one_more r w.1 is leads)

walks_reaches : {g : ℕ → NodeState} {p k n : ℕ} → Walks g p k n → IsLive g n → Reaches g p n
walks_reaches at_start live = at_root live
walks_reaches (one_more r w is leads) live = along r (walks_reaches w (r, is)) is leads live

pub keyset_ends : (g : ℕ → NodeState) (n p : ℕ) → InKeyset g n p → EndsAt g p n
keyset_ends g n p h =
    let live : IsLive g n = reached_live h.0.1 in
    let w = reaches_walks h.0.1 in
    record { steps = w.0; comes = w.1; node = live.0; is = live.1; stops = λ on. h.1 (live.0, live.1, on) }

pub ends_keyset : (g : ℕ → NodeState) (n p : ℕ) → IsPlace p → EndsAt g p n → InKeyset g n p
ends_keyset g n p place e = ((place, walks_reaches e.comes (e.node, e.is)), λ o. e.stops (subst (λ (t : Record). LeadsOn t p) (same_record g n o.0 e.node o.1 e.is) o.2))

-- if edges are disjoint, no place is in two keysets
pub keyset_one : (g : ℕ → NodeState) (n m p : ℕ) → AreApart g → InKeyset g n p → InKeyset g m p → n ≡ m
keyset_one g n m p apart h h' = ends_one g p n m apart (keyset_ends g n p h) (keyset_ends g m p h')

-- a place whose walk does not end is in no keyset
pub nowhere_else : (g : ℕ → NodeState) (p : ℕ) → AreApart g → MeetsNotLive g p ⊎ NeverEnds g p → (n : ℕ) → InKeyset g n p → ⊥
nowhere_else g p apart (inl dead) n h = ends_live g p n apart (keyset_ends g n p h) dead
nowhere_else g p apart (inr never) n h = ends_ends g p n apart (keyset_ends g n p h) never

-- a walk that comes to the same node twice never ends

-- from the second visit on it goes as from the first
again : (g : ℕ → NodeState) (p i d a k n : ℕ) → AreApart g → Walks g p i a → Walks g p (i + d) a → i ≤ k → Walks g p k n → Walks g p (k + d) n
again g p i d a zero n apart one two le at_start =
    let zero_steps : i ≡ 0 = omega arith in
    let root : a ≡ 0 = walks_one g p 0 a 0 apart (subst (λ (j : ℕ). Walks g p j a) zero_steps one) at_start in
    let e : i + d ≡ 0 + d = omega arith in
    subst (λ (j : ℕ). Walks g p j 0) e (subst (λ (m : ℕ). Walks g p (i + d) m) root two)
again g p i d a (suc k) n apart one two le (one_more {a = b} r w is leads) = go (less_or_last i k le) (λ le'. again g p i d a k b apart one two le' w)
  where
    go : (i ≤ k) ⊎ (i ≡ suc k) → (i ≤ k → Walks g p (k + d) b) → Walks g p (suc k + d) n
    go (inl before) step = let e : suc (k + d) ≡ suc k + d = omega arith in subst (λ (j : ℕ). Walks g p j n) e (one_more r (step before) is leads)
    go (inr last) step =
        let same : a ≡ n = walks_one g p (suc k) a n apart (subst (λ (j : ℕ). Walks g p j a) last one) (one_more r w is leads) in
        let e : i + d ≡ suc k + d = omega arith in
        subst (λ (j : ℕ). Walks g p j n) e (subst (λ (m : ℕ). Walks g p (i + d) m) same two)

-- so it has any number of steps
pub never_from : (g : ℕ → NodeState) (p i d a : ℕ) → AreApart g → Walks g p i a → Walks g p (i + suc d) a → (bound k : ℕ) → k < bound → (n : ℕ) × Walks g p k n
never_from g p i d a apart one two zero k lt = absurd (omega arith)
never_from g p i d a apart one two (suc bound) k lt = elim (split k (i + suc d)) [
  | inl before ↦ let y : Within g p (i + suc d) k = within g p (i + suc d) a two k in (y.node, y.comes before)
  | inr past ↦
      let shorter = never_from g p i d a apart one two bound (k - suc d) (omega arith) in
      let e : k - suc d + suc d ≡ k = omega arith in
      (shorter.0, subst (λ (j : ℕ). Walks g p j shorter.0) e (again g p i (suc d) a (k - suc d) shorter.0 apart one two (omega arith) shorter.1))
]
  where
    split : (k m : ℕ) → (k ≤ m) ⊎ (m < k)
    split k m = grind arith

-- a walk of as many steps as there are nodes, to a live node, never ends
pub long_never : (g : ℕ → NodeState) (p k n : ℕ) → AreApart g → ((m : ℕ) → IsLive g m → m < k) → Walks g p k n → IsLive g n → NeverEnds g p
long_never g p k n apart few w live = twice (repeats k at into)
  where
    at : ℕ → ℕ
    at i = (within g p k n w i).node

    into : (i : ℕ) → i < suc k → (within g p k n w i).node < k
    into i lt = few (within g p k n w i).node (alive (split i k lt))
      where
        split : (i k : ℕ) → i < suc k → (i < k) ⊎ (i ≡ k)
        split i k lt = grind arith

        alive : (i < k) ⊎ (i ≡ k) → IsLive g (within g p k n w i).node
        alive (inl less) = let r = (within g p k n w i).on less in (r.0, r.1)
        alive (inr same) = subst (λ (m : ℕ). IsLive g m) (walks_one g p k n (within g p k n w i).node apart w (subst (λ (j : ℕ). Walks g p j (within g p k n w i).node) same ((within g p k n w i).comes (omega arith)))) live

    twice : (i : ℕ) × (j : ℕ) × (i < j) × (j < suc k) × ((within g p k n w i).node ≡ (within g p k n w j).node) → NeverEnds g p
    twice (i, j, less, lt, same) =
        let a : ℕ = (within g p k n w i).node in
        let one : Walks g p i a = (within g p k n w i).comes (omega arith) in
        let e : j ≡ i + suc (j - suc i) = omega arith in
        let two : Walks g p (i + suc (j - suc i)) a = subst (λ (l : ℕ). Walks g p l a) e (subst (λ (m : ℕ). Walks g p j m) (sym same) ((within g p k n w j).comes (omega arith))) in
        record { goes = λ l. never_from g p i (j - suc i) a apart one two (suc l) l (omega arith) }
