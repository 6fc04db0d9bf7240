-- Where places are under links: below no node that a search for them comes to, and at the one on level 0 whose range holds them.
use Rattle.std.proofs.Common.{◌≡◌, ℕ, ◌<◌, ◌≤◌, sym, ap, ◌∙◌, subst, ⊎_elim, arith}
use Rattle.std.specs.Prelude.{◌⊎◌, Option, Some, None}
use Rattle.std.proofs.lemmas.Bool.{cases_lt}
use Rattle.ks_keysets.specs.declared.Edge.{Edge}
use Rattle.ks_keysets.specs.declared.Frame.{Frame}
use Rattle.ks_keysets.specs.declared.NodeState.{NodeState}
use Rattle.ks_keysets.specs.declared.Record.{Record}
use Rattle.ks_keysets.specs.declared.Span.{Span}
use Rattle.ks_keysets.specs.Record.{IsPlace, top, Holds, LeadsTo, LeadsOn}
use Rattle.ks_keysets.specs.Keyset.{record_at, IsLive, Good, Reaches, at_root, along, InKeyset}
use Rattle.ks_flow.specs.Link.{Link, IsRange, IsLinkEdge, IsChildEdge}
use Rattle.ks_node.specs.Body.{last_of}

module _ (g : ℕ → NodeState) (f : ℕ → Frame) (facts : Link g f) where
  pub root_low : IsLive g 0 → (f 0).low ≡ 0
  root_low live = let range = facts.range 0 live in let same : Some range.0 ≡ Some record { low = 0; last = top } = sym range.1.is ∙ facts.root in let is : range.0 ≡ record { low = 0; last = top } = cc in sym range.1.low ∙ ap (λ (s : Span). s.low) is

  -- the node to which an edge leads for a place begins at it or below
  pub step_low : (n m p : ℕ) (r : Record) → record_at g n ≡ Some r → LeadsTo r p m → (f m).low ≤ p
  step_low n m p r is to =
      let range = facts.range n (r, is) in
      let at : IsLinkEdge f n range.0 to.1 ⊎ IsChildEdge f n range.0 to.1 = subst (λ (e : Edge). IsLinkEdge f n range.0 e ⊎ IsChildEdge f n range.0 e) to.3 (facts.edges n r range.0 is range.1 to.0 to.1 to.2) in
      let low : (f to.1.node).low ≡ to.1.span.low = ⊎_elim (λ (l : IsLinkEdge f n range.0 to.1). l.low) (λ (c : IsChildEdge f n range.0 to.1). c.low) at in
      subst (λ (i : ℕ). (f i).low ≤ p) to.4.1 (omega (arith, low, to.4.0.0))

  reaches_low : (p n : ℕ) → Reaches g p n → (f n).low ≤ p
  reaches_low p n (at_root live) = omega (arith, root_low live)
  reaches_low p n (along r before is to live) = step_low _ n p r is to

  reaches_live : (p n : ℕ) → Reaches g p n → IsLive g n
  reaches_live p n (at_root live) = live
  reaches_live p n (along r before is to live) = live

  -- a node that is not above the place, and has no edge that carries it, is on level 0, and its range holds the place
  module _ (n p : ℕ) (r : Record) (is : record_at g n ≡ Some r) (low : (f n).low ≤ p) (place : IsPlace p) (off : LeadsOn r p → ⊥) where
    pub range_holds : (s : Span) → IsRange (f n) s → Holds s p
    range_holds s range = (omega (arith, range.low, low), ⊎_elim (λ (lt : s.last < p). absurd (off (facts.beyond n r s p is range lt place))) (λ (le : p ≤ s.last). le) (cases_lt s.last p))

    pub level_zero : (f n).level ≡ 0
    level_zero = ⊎_elim (λ (lt : 0 < (f n).level). absurd (off (facts.inside n r p is lt low place))) (λ (le : (f n).level ≤ 0). omega (arith, le)) (cases_lt 0 (f n).level)

  -- so the place is in its keyset
  pub ends_in_keyset : Good g → (n p : ℕ) (r : Record) → record_at g n ≡ Some r → (f n).low ≤ p → IsPlace p → (LeadsOn r p → ⊥) → InKeyset g n p
  ends_in_keyset good n p r is low place off =
      let home = good.some p place in
      let m : ℕ = home.0 in
      let live : IsLive g m = reaches_live p m home.1.0.1 in
      let away : LeadsOn live.0 p → ⊥ = λ on. home.1.1 (live.0, live.1, on) in
      let low_m : (f m).low ≤ p = reaches_low p m home.1.0.1 in
      let range_n = facts.range n (r, is) in
      let range_m = facts.range m live in
      let same : n ≡ m = facts.apart n m range_n.0 range_m.0 p (r, is) live (level_zero n p r is low place off ∙ sym (level_zero m p live.0 live.1 low_m place away)) range_n.1 range_m.1
      (range_holds n p r is low place off range_n.0 range_n.1) (range_holds m p live.0 live.1 low_m place away range_m.0 range_m.1) in
      subst (λ (i : ℕ). InKeyset g i p) (sym same) home.1

  -- no place past the range of a node is in its keyset: an edge carries it
  pub past_range : (n p : ℕ) (o : Option Span) → (f n).range ≡ o → last_of o < p → InKeyset g n p → ⊥
  past_range n p None e past in_keyset = absurd (let place : p ≤ top = in_keyset.0.0 in omega (arith, place, past))
  past_range n p (Some s) e past in_keyset =
      let live : IsLive g n = reaches_live p n in_keyset.0.1 in
      let range = facts.range n live in
      let same : Some range.0 ≡ Some s = sym range.1.is ∙ e in
      let is : range.0 ≡ s = cc in
      let after : range.0.last < p = subst (λ (z : Span). z.last < p) (sym is) past in
      in_keyset.1 (live.0, live.1, facts.beyond n live.0 range.0 p live.1 range.1 after in_keyset.0.0)
