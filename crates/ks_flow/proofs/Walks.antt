-- Where walks end, and keysets.
use Rattle.ks_keysets.specs.declared.Record.{Record}
use Rattle.std.proofs.Common.{ℕ, ◌≡◌, Option, Some, refl, sym, ◌∙◌, ap, subst, arith}
use Rattle.std.specs.Prelude.{All}
use Rattle.ks_keysets.specs.declared.NodeState.{NodeState}
use Rattle.ks_keysets.specs.Record.{IsPlace, LeadsOn}
use Rattle.ks_keysets.specs.Keyset.{record_at, IsLive, Reaches, at_root, along, InKeyset, AreApart, Good, IsFound, here, nowhere, value_at}
use Rattle.ks_keysets.specs.Laws.Found.{reached_live}
use Rattle.ks_keysets.specs.Laws.Next.{leads_on, next_one, same_record, target_live}
use Rattle.ks_flow.specs.Walk.{Ends, stops, goes, IsWalked}

ends_from : (g : ℕ → NodeState) (p n a b : ℕ) → Reaches g p a → a ≡ b → Ends g p n b → Ends g p n 0
ends_from g p n a b (at_root live) same w = subst (λ (m : ℕ). Ends g p n m) (sym same) w
ends_from g p n a b (along {n = c} r reach is leads live) same w = ends_from g p n c c reach refl (goes r is leads (subst (λ (m : ℕ). Ends g p n m) (sym same) w))

-- the walk of a place from the root ends at the node whose keyset has it

pub keyset_ends : (g : ℕ → NodeState) (p n : ℕ) → InKeyset g n p → Ends g p n 0
keyset_ends g p n h =
    let live = reached_live h.0.1 in
    ends_from g p n n n h.0.1 refl (stops live.0 live.1 (λ on. h.1 (live.0, live.1, on)))

keyset_from : (g : ℕ → NodeState) (p n a : ℕ) → ((m : ℕ) (r : Record) → record_at g m ≡ Some r → All (λ e. IsLive g e.node) r.edges) → IsPlace p → Reaches g p a → Ends g p n a → InKeyset g n p
keyset_from g p n a leads place reach (stops r is on) = ((place, reach), λ o. on (subst (λ (t : Record). LeadsOn t p) (same_record g n o.0 r o.1 is) o.2))
keyset_from g p n a leads place reach (goes {b} r is to w) = keyset_from g p n b leads place (along r reach is to (target_live g r p b (leads a r is) to)) w

-- and conversely, if edges lead to live nodes
pub ends_keyset : (g : ℕ → NodeState) (p n : ℕ) → IsLive g 0 → ((m : ℕ) (r : Record) → record_at g m ≡ Some r → All (λ e. IsLive g e.node) r.edges) → IsPlace p → Ends g p n 0 → InKeyset g n p
ends_keyset g p n root leads place w = keyset_from g p n 0 leads place (at_root root) w

-- two walks from one node that end, end at the same node
pub ends_one : (g : ℕ → NodeState) (p n m a b : ℕ) → AreApart g → a ≡ b → Ends g p n a → Ends g p m b → n ≡ m
ends_one g p n m a b apart same (stops r is on) (stops r' is' on') = same
ends_one g p n m a b apart same (stops r is on) (goes {b = c} r' is' to w) = absurd (on (subst (λ (t : Record). LeadsOn t p) (same_record g n r' r (subst (λ (j : ℕ). record_at g j ≡ Some r') (sym same) is') is) (leads_on r' p c to)))
ends_one g p n m a b apart same (goes {b = c} r is to w) (stops r' is' on') = absurd (on' (subst (λ (t : Record). LeadsOn t p) (same_record g m r r' (subst (λ (j : ℕ). record_at g j ≡ Some r) same is) is') (leads_on r p c to)))
ends_one g p n m a b apart same (goes {b = c} r is to w) (goes {b = d} r' is' to' w') =
    ends_one g p n m c d apart (next_one g p a c d r r' apart is (subst (λ (j : ℕ). record_at g j ≡ Some r') (sym same) is') to to') w w'

pub good_walked : (g : ℕ → NodeState) → Good g → IsWalked g
good_walked g good = record {
  root = good.root;
  apart = good.apart;
  leads = good.leads;
  ends = λ p place. let s = good.some p place in (s.0, keyset_ends g p s.0 s.1);
  stored = λ n r is i d lt. let h = good.stored n r is i d lt in (h.0.0, keyset_ends g _ n h);
  once = good.once;
}

pub walked_good : (g : ℕ → NodeState) → IsWalked g → Good g
walked_good g w = record {
  root = w.root;
  apart = w.apart;
  leads = w.leads;
  one = λ n m p h h'. ends_one g p n m 0 0 w.apart refl (keyset_ends g p n h) (keyset_ends g p m h');
  some = λ p place. let s = w.ends p place in (s.0, ends_keyset g p s.0 w.root w.leads place s.1);
  stored = λ n r is i d lt. let h = w.stored n r is i d lt in ends_keyset g _ n w.root w.leads h.0 h.1;
  once = w.once;
}

-- what is found in a good graph is what the node at which the walk ends has

pub found_here : (g : ℕ → NodeState) (n p : ℕ) → Good g → InKeyset g n p → IsFound g p (value_at g n p)
found_here g n p good h = here n h (λ m lt h'. absurd (omega (arith, good.one n m p h h'))) refl

pub found_one : (g : ℕ → NodeState) (p n : ℕ) (v : Option ℕ) → Good g → InKeyset g n p → IsFound g p v → v ≡ value_at g n p
found_one g p n v good h (here m h' first is) = is ∙ ap (λ (j : ℕ). value_at g j p) (good.one m n p h' h)
found_one g p n v good h (nowhere none is) = absurd (none n h)
