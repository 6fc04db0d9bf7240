-- A region that is entered only at one node: the node keeps its inset, and so what it leads to is reached.
use Rattle.std.proofs.Common.{ℕ, zero, suc, length, get_or, eq-eqb, ◌≡◌, ◌<◌, ◌==◌, true, false, List, [], ◌∷◌, Some, refl, sym, ◌∙◌, ap, arith, ne_eqb}
use Rattle.ks_keysets.specs.declared.Record.{Record}
use Rattle.ks_keysets.specs.declared.Edge.{Edge}
use Rattle.ks_keysets.specs.declared.NodeState.{NodeState}
use Rattle.ks_keysets.specs.Record.{LeadsTo}
use Rattle.ks_keysets.specs.Keyset.{record_at, IsLive, Reaches, at_root, along, InInset}
use Rattle.std.specs.Prelude.{Any}
use Rattle.ks_keysets.specs.Walk.{Descends, from_root, further}
use Rattle.ks_flow.specs.Tree.{edges_to}
use Rattle.ks_flow.specs.Ways.{names, DiffersIn}

positive : (es : List Edge) (k m : ℕ) (x : Edge) → k < length es → get_or es k x ≡ x → x.node ≡ m → 0 < edges_to es m
positive [] k m x near is to = absurd (omega arith)
positive (e ∷ es) zero m x near is to = let t : (e.node == m) ≡ true = eq-eqb e.node m (ap (λ (z : Edge). z.node) is ∙ to) in rw t (omega arith)
positive (e ∷ es) (suc k) m x near is to = omega (arith, positive es k m x (omega arith) is to)

-- an edge that leads to the node is counted
pub counts : (r : Record) (p m : ℕ) → LeadsTo r p m → 0 < edges_to r.edges m
counts r p m to = positive r.edges to.0 m to.1 to.2 to.3 to.4.1

-- an edge that carries a place to the node is one of the record's
pub leads_any : (r : Record) (p m : ℕ) → LeadsTo r p m → Any (λ e. e.node ≡ m) r.edges
leads_any r p m (k, x, lt, is, to) = (k, x, lt, is, to.1)

-- a descent leads to a node whose inset has a place
pub descended : (g : ℕ → NodeState) (p n : ℕ) → Reaches g p n → (k : ℕ) × Descends g k n
descended g p n (at_root live) = (0, from_root)
descended g p n (along {n = m} r before is to live) = let y = descended g p m before in (suc y.0, further r y.1 is (leads_any r p n to))

-- the node at which a region is entered: the node is live after, and the nodes that lead to it are outside
pub entered : (g k : ℕ → NodeState) (region : List ℕ) (e p : ℕ) → DiffersIn g region k → ((n : ℕ) → names region n ≡ false → InInset g n p → InInset k n p) → IsLive k 0 → IsLive k e
    → ((n : ℕ) (r : Record) → record_at g n ≡ Some r → LeadsTo r p e → Reaches g p n → names region n ≡ false) → InInset g e p → InInset k e p
entered g k region e p differs stay root live outside (place, at_root was) = (place, at_root root)
entered g k region e p differs stay root live outside (place, along {n = m} r before is to was) = let out = outside m r is to before in
    (place, along r (stay m out (place, before)).1 (differs.same m out ∙ is) to live)

pub not_two : (i j n : ℕ) → (n ≡ i → ⊥) → (n ≡ j → ⊥) → names (i ∷ j ∷ []) n ≡ false
not_two i j n a b = let x : (i == n) ≡ false = ne_eqb i n (λ e. a (sym e)) in let y : (j == n) ≡ false = ne_eqb j n (λ e. b (sym e)) in rw (x, y) refl

pub not_three : (i j l n : ℕ) → (n ≡ i → ⊥) → (n ≡ j → ⊥) → (n ≡ l → ⊥) → names (i ∷ j ∷ l ∷ []) n ≡ false
not_three i j l n a b c = let x : (i == n) ≡ false = ne_eqb i n (λ e. a (sym e)) in let y : (j == n) ≡ false = ne_eqb j n (λ e. b (sym e)) in let z : (l == n) ≡ false = ne_eqb l n (λ e. c (sym e)) in rw (x, y, z) refl
