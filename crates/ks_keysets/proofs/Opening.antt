-- The opening graph is good.
use Rattle.std.proofs.Common.{ℕ, zero, suc, ◌≡◌, ◌<◌, length, Some, refl, sym, ◌∙◌, ap, arith}
use Rattle.std.proofs.lemmas.Option.{same_Some}
use Rattle.ks_keysets.specs.declared.Record.{Record}
use Rattle.ks_keysets.specs.Frame.{empty_record}
use Rattle.ks_keysets.specs.Keyset.{opening, record_at, IsLive, Reaches, at_root, Good}
use Rattle.ks_keysets.specs.Laws.Found.{reached_live}

opening_one : (k : ℕ) (r : Record) → record_at opening k ≡ Some r → (k ≡ 0) × (r ≡ empty_record)
opening_one zero r is = (refl, sym (same_Some empty_record r is))
opening_one (suc k) r is = absurd (cc)

opening_reached : (p k : ℕ) → Reaches opening p k → k ≡ 0
opening_reached p k reach = let live : IsLive opening k = reached_live reach in (opening_one k live.0 live.1).0

no_edge : (k : ℕ) (r : Record) → record_at opening k ≡ Some r → (i : ℕ) → i < length r.edges → ⊥
no_edge k r is i lt = let e = ap (λ (x : Record). length x.edges) (opening_one k r is).1 in omega arith

no_pair : (k : ℕ) (r : Record) → record_at opening k ≡ Some r → (i : ℕ) → i < length r.pairs → ⊥
no_pair k r is i lt = let e = ap (λ (x : Record). length x.pairs) (opening_one k r is).1 in omega arith

pub opening_good : Good opening
opening_good = record {
  root = (empty_record, refl);
  apart = λ k r is i j d lt lt'. absurd (no_edge k r is j lt');
  leads = λ k r is i d lt. absurd (no_edge k r is i lt);
  one = λ k m p h h'. opening_reached p k h.0.1 ∙ sym (opening_reached p m h'.0.1);
  some = λ p place. (0, ((place, at_root (empty_record, refl)), λ o. no_edge 0 o.0 o.1 o.2.0 o.2.2));
  stored = λ k r is i d lt. absurd (no_pair k r is i lt);
  once = λ k r is i j d lt lt'. absurd (no_pair k r is j lt');
}
