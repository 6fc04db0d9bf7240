-- Laws of edges: if those of a node are disjoint, one at most carries a place, and it leads to one node.
use Rattle.std.proofs.Common.{ℕ, ◌≡◌, ◌<◌, ◌⊎◌, inl, inr, List, Some, get_or, refl, sym, ◌∙◌, ap, subst, arith}
use Rattle.std.specs.Prelude.{All, Any, AllPairs}
use Rattle.std.proofs.lemmas.Option.{same_Some}
use Rattle.std.proofs.lemmas.List.{get_or_default}
use Rattle.ks_keysets.specs.declared.Edge.{Edge}
use Rattle.ks_keysets.specs.declared.NodeState.{NodeState}
use Rattle.ks_keysets.specs.declared.Record.{Record}
use Rattle.ks_keysets.specs.Record.{Carries, LeadsTo, LeadsOn}
use Rattle.ks_keysets.specs.Keyset.{record_at, IsLive, AreApart}

-- one edge of a record at most carries a place
pub edge_one : (es : List Edge) (p b c : ℕ) → AllPairs (λ e f. (p : ℕ) → Carries e p → Carries f p → ⊥) es → Any (λ e. Carries e p × (e.node ≡ b)) es → Any (λ e. Carries e p × (e.node ≡ c)) es → b ≡ c
edge_one es p b c apart (k, x, lt, is, leads) (l, y, lt', is', leads') = go (cases k l)
  where
    cases : (k l : ℕ) → (k < l) ⊎ ((l < k) ⊎ (k ≡ l))
    cases k l = grind arith

    carried : Carries (get_or es k x) p
    carried = subst (λ (e : Edge). Carries e p) (sym is) leads.0

    carried' : Carries (get_or es l x) p
    carried' = subst (λ (e : Edge). Carries e p) (sym is' ∙ get_or_default es l y x lt') leads'.0

    go : (k < l) ⊎ ((l < k) ⊎ (k ≡ l)) → b ≡ c
    go (inl less) = absurd (apart k l x less lt' p carried carried')
    go (inr (inl less)) = absurd (apart l k x less lt p carried' carried)
    go (inr (inr same)) =
        let one : x ≡ y = sym is ∙ get_or_default es k x y lt ∙ ap (λ (i : ℕ). get_or es i y) same ∙ is' in
        sym leads.1 ∙ ap (λ (e : Edge). e.node) one ∙ leads'.1

pub leads_on : (r : Record) (p b : ℕ) → LeadsTo r p b → LeadsOn r p
leads_on r p b (k, x, lt, is, leads) = (k, x, lt, is, leads.0)

pub leads_where : (r : Record) (p : ℕ) → LeadsOn r p → (b : ℕ) × LeadsTo r p b
leads_where r p (k, x, lt, is, carries) = (x.node, (k, x, lt, is, (carries, refl)))

pub same_record : (g : ℕ → NodeState) (n : ℕ) (r s : Record) → record_at g n ≡ Some r → record_at g n ≡ Some s → r ≡ s
same_record g n r s is is' = same_Some r s (sym is ∙ is')

pub next_one : (g : ℕ → NodeState) (p a b c : ℕ) (r s : Record) → AreApart g → record_at g a ≡ Some r → record_at g a ≡ Some s → LeadsTo r p b → LeadsTo s p c → b ≡ c
next_one g p a b c r s apart is is' leads leads' =
    edge_one r.edges p b c (apart a r is) leads (subst (λ (t : Record). LeadsTo t p c) (same_record g a s r is' is) leads')

-- a node to which a record leads, in a list of edges that lead to live nodes
pub target_live : (g : ℕ → NodeState) (r : Record) (p b : ℕ) → All (λ e. IsLive g e.node) r.edges → LeadsTo r p b → IsLive g b
target_live g r p b all (k, x, lt, is, leads) = subst (λ (n : ℕ). IsLive g n) (ap (λ (e : Edge). e.node) is ∙ leads.1) (all k x lt)
