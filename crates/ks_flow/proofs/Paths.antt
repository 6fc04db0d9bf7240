-- Paths of a place, and edges counted.
use Rattle.ks_keysets.specs.declared.Record.{Record}
use Rattle.std.proofs.Common.{ℕ, zero, suc, ◌≡◌, ◌<◌, ◌==◌, Bool, true, false, List, [], ◌∷◌, length, get_or, Option, Some, refl, sym, ◌∙◌, ap, subst, arith, eq-eqb}
use Rattle.std.specs.Prelude.{All}
use Rattle.ks_keysets.specs.declared.Edge.{Edge}
use Rattle.ks_keysets.specs.declared.NodeState.{NodeState}
use Rattle.ks_keysets.specs.Record.{LeadsTo, LeadsOn}
use Rattle.ks_keysets.specs.Keyset.{record_at, Reaches, at_root, along, AreApart, Good}
use Rattle.ks_flow.specs.Walk.{Path, arrives, passes, Ends, stops, goes}
use Rattle.ks_flow.specs.Ways.{names, Meets, now, later, Outcome, leaves_to, ends_at, Inside, leaves, stays, ends}
use Rattle.ks_flow.specs.Tree.{edges_to, edges_in, edges_between}
use Rattle.ks_keysets.specs.Laws.Next.{next_one, leads_on, same_record, target_live}

pub path_then : (g : ℕ → NodeState) (p b c a : ℕ) → Path g p b a → Path g p c b → Path g p c a
path_then g p b c a arrives w = w
path_then g p b c a (passes {b = d} r is to v) w = passes r is to (path_then g p b c d v w)

pub path_root : (g : ℕ → NodeState) (p a n : ℕ) → Reaches g p a → Path g p n a → Path g p n 0
path_root g p a n (at_root live) w = w
path_root g p a n (along {n = b} r reach is to live) w = path_root g p b n reach (passes r is to w)

-- a path to a node of the region meets the region
pub path_meets : (g : ℕ → NodeState) (region : List ℕ) (p n a : ℕ) → Path g p n a → names region n ≡ true → (e : ℕ) × Meets g region p e a
path_meets g region p n a arrives named = (n, now named)
path_meets g region p n a (passes {b} r is to w) named = next (names region a) refl (path_meets g region p n b w named)
  where
    next : (t : Bool) → names region a ≡ t → (e : ℕ) × Meets g region p e b → (e : ℕ) × Meets g region p e a
    next true here rest = (a, now here)
    next false out rest = (rest.0, later r out is to rest.1)

pub meets_path : (g : ℕ → NodeState) (region : List ℕ) (p e a : ℕ) → Meets g region p e a → Path g p e a
meets_path g region p e a (now named) = arrives
meets_path g region p e a (later {b} r out is to w) = passes r is to (meets_path g region p e b w)

pub leaves_path : (g : ℕ → NodeState) (region : List ℕ) (p a b : ℕ) → Inside g region p a (leaves_to b) → (c : ℕ) × (r : Record) × (record_at g a ≡ Some r) × LeadsTo r p c × Path g p b c
leaves_path g region p a b (leaves r named is to out) = (b, r, is, to, arrives)
leaves_path g region p a b (stays {b = c} r named is to i) =
    let h = leaves_path g region p c b i in
    (c, r, is, to, passes h.1 h.2 h.3 h.4)

-- a walk that ends does not come back to its node
pub no_return : (g : ℕ → NodeState) (p n a b : ℕ) (r : Record) → AreApart g → Ends g p n a → record_at g a ≡ Some r → LeadsTo r p b → Path g p a b → ⊥
no_return g p n a b r apart (stops s is' on) is to w = on (subst (λ (t : Record). LeadsOn t p) (same_record g n r s is is') (leads_on r p b to))
no_return g p n a b r apart (goes {b = c} s is' to' rest) is to w =
    again w (subst (λ (m : ℕ). Ends g p n m) (next_one g p a c b s r apart is' is to' to) rest) (λ d t u v x y. no_return g p n c d t apart rest (subst (λ (m : ℕ). record_at g m ≡ Some t) (sym same) u) v (subst (λ (m : ℕ). Path g p m d) (sym same) x))
  where
    same : c ≡ b
    same = next_one g p a c b s r apart is' is to' to

    again : Path g p a b → Ends g p n b → ((d : ℕ) (t : Record) → record_at g b ≡ Some t → LeadsTo t p d → Path g p b d → Ends g p n b → ⊥) → ⊥
    again v rest' f = go a b v is to rest' f
      where
        go : (x y : ℕ) → Path g p x y → record_at g x ≡ Some r → LeadsTo r p y → Ends g p n y → ((d : ℕ) (t : Record) → record_at g y ≡ Some t → LeadsTo t p d → Path g p y d → Ends g p n y → ⊥) → ⊥
        go x y arrives is to e f = f x r is to arrives e
        go x y (passes {b = d} t is'' to'' v) is to e f = f d t is'' to'' (path_then g p x y d v (passes r is to arrives)) e

-- the walk from the root goes through each node that the place reaches
pub ends_reached : (g : ℕ → NodeState) (p n a : ℕ) → AreApart g → Reaches g p a → Ends g p n 0 → Ends g p n a
ends_reached g p n a apart (at_root live) w = w
ends_reached g p n a apart (along {n = b} r reach is to live) w = next b (ends_reached g p n b apart reach w) is to
  where
    next : (b : ℕ) → Ends g p n b → record_at g b ≡ Some r → LeadsTo r p a → Ends g p n a
    next b (stops s is' on) is to = absurd (on (subst (λ (t : Record). LeadsOn t p) (same_record g n r s is is') (leads_on r p a to)))
    next b (goes {b = c} s is' to' rest) is to = subst (λ (m : ℕ). Ends g p n m) (next_one g p b c a s r apart is' is to' to) rest

-- a walk has one outcome in a region
pub inside_one : (g : ℕ → NodeState) (region : List ℕ) (p a b : ℕ) (o q : Outcome) → AreApart g → a ≡ b → Inside g region p a o → Inside g region p b q → o ≡ q
inside_one g region p a b o q apart same (leaves {b = c} r named is to out) (leaves {b = d} r' named' is' to' out') = ap leaves_to (next_one g p b c d r r' apart (subst (λ (m : ℕ). record_at g m ≡ Some r) same is) is' to to')
inside_one g region p a b o q apart same (leaves {b = c} r named is to out) (stays {b = d} r' named' is' to' i) =
    let e : c ≡ d = next_one g p b c d r r' apart (subst (λ (m : ℕ). record_at g m ≡ Some r) same is) is' to to' in
    absurd (differ c d e out (inside_named d q i))
  where
    inside_named : (d : ℕ) (q : Outcome) → Inside g region p d q → names region d ≡ true
    inside_named d q (leaves r named is to out) = named
    inside_named d q (stays r named is to i) = named
    inside_named d q (ends r named is on) = named

    differ : (c d : ℕ) → c ≡ d → names region c ≡ false → names region d ≡ true → ⊥
    differ c d e f t = let h : names region c ≡ names region d = ap (λ (m : ℕ). names region m) e in cc
inside_one g region p a b o q apart same (leaves {b = c} r named is to out) (ends r' named' is' on) = absurd (on (subst (λ (t : Record). LeadsOn t p) (same_record g b r r' (subst (λ (m : ℕ). record_at g m ≡ Some r) same is) is') (leads_on r p c to)))
inside_one g region p a b o q apart same (stays {b = c} r named is to i) (leaves {b = d} r' named' is' to' out') =
    let e : c ≡ d = next_one g p b c d r r' apart (subst (λ (m : ℕ). record_at g m ≡ Some r) same is) is' to to' in
    absurd (differ c d e (inside_named c o i) out')
  where
    inside_named : (d : ℕ) (q : Outcome) → Inside g region p d q → names region d ≡ true
    inside_named d q (leaves r named is to out) = named
    inside_named d q (stays r named is to i) = named
    inside_named d q (ends r named is on) = named

    differ : (c d : ℕ) → c ≡ d → names region c ≡ true → names region d ≡ false → ⊥
    differ c d e t f = let h : names region c ≡ names region d = ap (λ (m : ℕ). names region m) e in cc
inside_one g region p a b o q apart same (stays {b = c} r named is to i) (stays {b = d} r' named' is' to' i') =
    inside_one g region p c d o q apart (next_one g p b c d r r' apart (subst (λ (m : ℕ). record_at g m ≡ Some r) same is) is' to to') i i'
inside_one g region p a b o q apart same (stays {b = c} r named is to i) (ends r' named' is' on) = absurd (on (subst (λ (t : Record). LeadsOn t p) (same_record g b r r' (subst (λ (m : ℕ). record_at g m ≡ Some r) same is) is') (leads_on r p c to)))
inside_one g region p a b o q apart same (ends r named is on) (leaves {b = d} r' named' is' to' out') = absurd (on (subst (λ (t : Record). LeadsOn t p) (same_record g b r' r is' (subst (λ (m : ℕ). record_at g m ≡ Some r) same is)) (leads_on r' p d to')))
inside_one g region p a b o q apart same (ends r named is on) (stays {b = d} r' named' is' to' i) = absurd (on (subst (λ (t : Record). LeadsOn t p) (same_record g b r' r is' (subst (λ (m : ℕ). record_at g m ≡ Some r) same is)) (leads_on r' p d to')))
inside_one g region p a b o q apart same (ends r named is on) (ends r' named' is' on') = ap ends_at same

-- a walk that leaves a region comes to the node to which it leaves
pub reaches_out : (g : ℕ → NodeState) (region : List ℕ) (p a b : ℕ) → Good g → Reaches g p a → Inside g region p a (leaves_to b) → Reaches g p b
reaches_out g region p a b good reach (leaves r named is to out) = along r reach is to (target_live g r p b (good.leads a r is) to)
reaches_out g region p a b good reach (stays {b = c} r named is to i) = reaches_out g region p c b good (along r reach is to (target_live g r p c (good.leads a r is) to)) i

-- edges counted

pub edges_to_some : (es : List Edge) (k : ℕ) (d : Edge) (m : ℕ) → k < length es → (get_or es k d).node ≡ m → 0 < edges_to es m
edges_to_some [] k d m lt is = absurd (omega arith)
edges_to_some (e ∷ es) zero d m lt is = let t : (e.node == m) ≡ true = eq-eqb e.node m is in rw t (omega arith)
edges_to_some (e ∷ es) (suc k) d m lt is = omega (arith, edges_to_some es k d m (omega arith) is)

pub leads_some : (r : Record) (p m : ℕ) → LeadsTo r p m → 0 < edges_to r.edges m
leads_some r p m (k, x, lt, is, leads) = edges_to_some r.edges k x m lt (ap (λ (e : Edge). e.node) is ∙ leads.1)

pub leads_between : (g : ℕ → NodeState) (n p m : ℕ) (r : Record) → record_at g n ≡ Some r → LeadsTo r p m → 0 < edges_between g n m
leads_between g n p m r is to = subst (λ (o : Option Record). 0 < edges_in o m) (sym is) (leads_some r p m to)

pub edge_between : (g : ℕ → NodeState) (n : ℕ) (r : Record) → record_at g n ≡ Some r → All (λ e. 0 < edges_between g n e.node) r.edges
edge_between g n r is i d lt = subst (λ (o : Option Record). 0 < edges_in o (get_or r.edges i d).node) (sym is) (edges_to_some r.edges i d _ lt refl)
