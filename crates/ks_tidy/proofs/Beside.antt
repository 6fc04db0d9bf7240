-- A node, the node above it and the node right of it are three.
use Rattle.std.proofs.Common.{◌≡◌, ◌≢◌, ℕ, zero, suc, ◌<◌, ◌≤◌, ◌+◌, ◌==◌, eq-eqb, true, List, [], ◌∷◌, length, get_or, sym, refl, ap, ◌∙◌, subst, arith}
use Rattle.std.specs.Prelude.{Option, Some, Any, slice_get}
use mathlib.Core.Logic.{dite}
use native.Mathlib.Decide.{ℕ_discrete}
use Rattle.ks_keysets.specs.declared.Edge.{Edge}
use Rattle.ks_keysets.specs.declared.Frame.{Frame}
use Rattle.ks_keysets.specs.declared.NodeState.{NodeState}
use Rattle.ks_keysets.specs.declared.Record.{Record}
use Rattle.ks_keysets.specs.Record.{LeadsTo}
use Rattle.ks_keysets.specs.Keyset.{record_at, Reaches, at_root, along}
use Rattle.ks_keysets.specs.Tight.{HasOwnEdge, IsNext, IsRightNeighbour, chained, beside}
use Rattle.ks_flow.specs.Tree.{OneEdge, edges_to, edges_in, edges_between}

-- an edge that leads to the node is among those that are counted

positive : (es : List Edge) (k m : ℕ) (x : Edge) → k < length es → get_or es k x ≡ x → x.node ≡ m → 0 < edges_to es m
positive [] k m x near is to = absurd (omega arith)
positive (e ∷ es) zero m x near is to = let t : (e.node == m) ≡ true = eq-eqb e.node m (ap (λ (z : Edge). z.node) is ∙ to) in rw t (omega arith)
positive (e ∷ es) (suc k) m x near is to = omega (arith, positive es k m x (omega arith) is to)

pub any_counted : (es : List Edge) (m : ℕ) → Any (λ (e : Edge). e.node ≡ m) es → 0 < edges_to es m
any_counted es m to = positive es to.0 m to.1 to.2 to.3 to.4

pub leads_counted : (r : Record) (p m : ℕ) → LeadsTo r p m → 0 < edges_to r.edges m
leads_counted r p m to = positive r.edges to.0 m to.1 to.2 to.3 to.4.1

-- an edge at a position
any_get : (es : List Edge) (k m : ℕ) (x : Edge) → slice_get es k ≡ Some x → x.node ≡ m → Any (λ (e : Edge). e.node ≡ m) es
any_get [] k m x is to = absurd (let q : ⊥ = cc in q)
any_get (e ∷ es) zero m x is to = let same : e ≡ x = cc in (0, x, omega arith, same, to)
any_get (e ∷ es) (suc k) m x is to = let y = any_get es k m x is to in (suc y.0, y.1, omega (arith, y.2), y.3, y.4)

two_counted : (es : List Edge) (k m : ℕ) (x y : Edge) → slice_get es k ≡ Some x → slice_get es (suc k) ≡ Some y → x.node ≡ m → y.node ≡ m → 1 < edges_to es m
two_counted [] k m x y is is' to to' = absurd (let q : ⊥ = cc in q)
two_counted (e ∷ es) zero m x y is is' to to' =
    let same : e ≡ x = cc in let t : (e.node == m) ≡ true = eq-eqb e.node m (ap (λ (z : Edge). z.node) same ∙ to) in
    let more : 0 < edges_to es m = any_counted es m (any_get es 0 m y is' to') in rw t (omega (arith, more))
two_counted (e ∷ es) (suc k) m x y is is' to to' = omega (arith, two_counted es k m x y is is' to to')

module _ (g : ℕ → NodeState) (one : OneEdge g) where
  pub between : (n m : ℕ) (r : Record) → record_at g n ≡ Some r → 0 < edges_to r.edges m → 0 < edges_between g n m
  between n m r is some = subst (λ (o : Option Record). 0 < edges_in o m) (sym is) some

  -- two nodes that lead to each other are not reached
  pub cycle : (p a b x : ℕ) → x ≡ a → 0 < edges_between g a b → 0 < edges_between g b a → Reaches g p x → ⊥
  cycle p a b x same ab ba (at_root live) = let none : edges_between g b 0 ≡ 0 = one.none b in let some : 0 < edges_between g b 0 = subst (λ (z : ℕ). 0 < edges_between g b z) (sym same) ba in absurd (omega (arith, none, some))
  cycle p a b x same ab ba (along {n} r way is to live) = dite (ℕ_discrete n b)
      (λ e. cycle p b a n e ba ab way)
      (λ ne. let from : 0 < edges_between g n a = between n a r is (subst (λ (z : ℕ). 0 < edges_to r.edges z) same (leads_counted r p x to)) in absurd (omega (arith, one.one a n b ne, from, ba)))

  -- so a node that leads to another is not led to by it
  pub no_cycle : (p a b : ℕ) → Reaches g p a → 0 < edges_between g a b → b ≢ a → 0 < edges_between g b a → ⊥
  no_cycle p a b way ab apart ba = cycle p a b a refl ab ba way

  -- in a branch the edge to the right neighbour of a node that leads to no node itself comes after the edge to the node
  module _ (f : ℕ → Frame) (parent n m p : ℕ) (r u : Record) (is : record_at g n ≡ Some r) (is_u : record_at g parent ≡ Some u) (none : ¬ HasOwnEdge (f n) r) (to : LeadsTo u p n) where
    pub next_in : IsRightNeighbour g f n m → IsNext u.edges n m
    next_in (chained s at own edge) = let same : s ≡ r = (let q : Some s ≡ Some r = sym at ∙ is in cc) in absurd (none (subst (λ (z : Record). HasOwnEdge (f n) z) same own))
    next_in (beside s a t at own at' branch next) = dite (ℕ_discrete a parent)
        (λ e. let q : Some t ≡ Some u = sym at' ∙ ap (record_at g) e ∙ is_u in let same : t ≡ u = cc in subst (λ (z : Record). IsNext z.edges n m) same next)
        (λ ne. absurd (omega (arith, one.one n a parent ne, between a n t at' (any_counted t.edges n (any_get t.edges next.at n next.one next.first next.from)), between parent n u is_u (leads_counted u p n to))))

-- so the parent has an edge to the neighbour, which is another node
pub next_edge : (es : List Edge) (n m : ℕ) → IsNext es n m → Any (λ (e : Edge). e.node ≡ m) es
next_edge es n m next = any_get es (suc next.at) m next.other next.second next.to

pub next_apart : (g : ℕ → NodeState) (one : OneEdge g) (parent n m : ℕ) (u : Record) → record_at g parent ≡ Some u → IsNext u.edges n m → n ≢ m
next_apart g one parent n m u is next same =
    let twice : 1 < edges_to u.edges n = two_counted u.edges next.at n next.one next.other next.first next.second next.from (next.to ∙ sym same) in
    let most : edges_between g parent n + edges_between g (suc parent) n ≤ 1 = one.one n parent (suc parent) (λ e. omega (arith, e)) in
    let here : 1 < edges_between g parent n = subst (λ (o : Option Record). 1 < edges_in o n) (sym is) twice in
    absurd (omega (arith, most, here))
