-- Places that the same edges carry are in the same keysets.
use Rattle.std.proofs.Common.{ℕ, zero, suc, ◌≡◌, ◌<◌, List, [], ◌∷◌, length, Some, None, refl, arith, subst}
use Rattle.std.specs.Prelude.{◌↔◌, slice_get, option_and_then}
use Rattle.ks_keysets.specs.declared.Edge.{Edge}
use Rattle.ks_keysets.specs.declared.NodeState.{NodeState}
use Rattle.ks_keysets.specs.declared.Record.{Record}
use Rattle.ks_keysets.specs.Record.{IsPlace}
use Rattle.ks_keysets.specs.Keyset.{live_record, record_at, IsLive, Reaches, at_root, along, InOutset, InKeyset}
use Rattle.ks_keysets.specs.Listed.{graph_of}
use Rattle.ks_keysets.specs.Spans.{CarriesAlike, AllCarryAlike}

-- the record of a node of a list
pub record_listed : (g : List NodeState) (n : ℕ) → record_at (graph_of g) n ≡ option_and_then live_record (slice_get g n)
record_listed [] n = refl
record_listed (s ∷ g) zero = refl
record_listed (s ∷ g) (suc n) = record_listed g n

-- the number of a live node of a list is below its length
pub live_within : (g : List NodeState) (n : ℕ) → IsLive (graph_of g) n → n < length g
live_within [] n l = absurd (none l.1)
  where
    none : None ≡ Some l.0 → ⊥
    none e = cc
live_within (s ∷ g) zero l = omega arith
live_within (s ∷ g) (suc n) l = omega (arith, live_within g n l)

abbrev pub SameWays : (ℕ → NodeState) → ℕ → ℕ → Type 0
SameWays g p q = (n : ℕ) (r : Record) → record_at g n ≡ Some r → AllCarryAlike r p q

reaches_both : (g : ℕ → NodeState) (p q n : ℕ) → SameWays g p q → Reaches g p n → Reaches g q n
reaches_both g p q n same (at_root live) = at_root live
reaches_both g p q n same (along {n = b} r reach is (k, x, lt, at_k, leads) live) =
    let P : Edge → Type 0 = λ e. CarriesAlike e p q in
    let both : P x = subst P at_k (same b r is k x lt) in
    along r (reaches_both g p q b same reach) is (k, x, lt, at_k, (both.forth leads.0, leads.1)) live

outset_both : (g : ℕ → NodeState) (p q n : ℕ) → SameWays g p q → InOutset g n q → InOutset g n p
outset_both g p q n same (r, is, (k, x, lt, at_k, carries)) =
    let P : Edge → Type 0 = λ e. CarriesAlike e p q in
    let both : P x = subst P at_k (same n r is k x lt) in
    (r, is, (k, x, lt, at_k, both.back carries))

same_ways_back : (g : ℕ → NodeState) (p q : ℕ) → SameWays g p q → SameWays g q p
same_ways_back g p q same n r is k d lt = let both = same n r is k d lt in record { forth = both.back; back = both.forth }

keyset_both_to : (g : ℕ → NodeState) (p q n : ℕ) → IsPlace q → SameWays g p q → InKeyset g n p → InKeyset g n q
keyset_both_to g p q n place same h = ((place, reaches_both g p q n same h.0.1), λ o. h.1 (outset_both g p q n same o))

pub keyset_both : (g : ℕ → NodeState) (p q n : ℕ) → IsPlace p → IsPlace q → SameWays g p q → InKeyset g n p ↔ InKeyset g n q
keyset_both g p q n place place' same = (keyset_both_to g p q n place' same, keyset_both_to g q p n place (same_ways_back g p q same))
