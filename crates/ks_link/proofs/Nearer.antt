-- How a search from above comes nearer to a level.
use Rattle.std.proofs.Common.{◌≡◌, ◌≢◌, ℕ, suc, ◌+◌, ◌<◌, ◌≤◌, inl, inr, sym, ap, ◌∙◌, subst, arith, length, Bool, true, false, cond, List, [], ◌∷◌, refl}
use Rattle.std.specs.Prelude.{◌⊎◌, Some, nat_lt, None, IsTrue}
use Rattle.std.proofs.lemmas.Bool.{cases_lt, le-ltb}
use Rattle.std.proofs.lemmas.Bool.Decides.{eqb_tells}
use Rattle.ks_keysets.specs.declared.Edge.{Edge}
use Rattle.ks_keysets.specs.declared.Frame.{Frame}
use Rattle.ks_keysets.specs.declared.NodeState.{NodeState}
use Rattle.ks_keysets.specs.declared.Record.{Record}
use Rattle.ks_keysets.specs.declared.Span.{Span}
use Rattle.ks_keysets.specs.Record.{IsPlace, top, LeadsTo}
use Rattle.ks_keysets.specs.Keyset.{record_at, IsLive}
use Rattle.ks_node.specs.declared.start.Start.{Start}
use Rattle.ks_node.specs.declared.start.Next.TheVariants.{Here}
use Rattle.ks_node.specs.Body.{Body, content_of, frame_of, is_branch, last_of, holds, led_to, go_to, next_at}
use Rattle.ks_node.specs.Edges.{record_of}
use Rattle.ks_node.specs.Sound.{Sound as InOrder}
use Rattle.ks_node.specs.Laws.Ways.{here_stays}
use Rattle.ks_flow.specs.Link.{Link, IsRange, IsLinkEdge, IsChildEdge}

module _ (g : ℕ → NodeState) (f : ℕ → Frame) (facts : Link g f) where
  -- only the root is on the highest level
  root_alone : (i : ℕ) → IsLive g i → (f 0).level ≤ (f i).level → i ≡ 0
  root_alone i live le = elim (eqb_tells i 0) [ inl same ↦ same.1 | inr other ↦ absurd (let lt : (f i).level < (f 0).level = facts.highest i live other.1 in omega (arith, lt, le)) ]

  module _ (n m p : ℕ) (r : Record) (is : record_at g n ≡ Some r) (to : LeadsTo r p m) (place : IsPlace p) where
    range : (s : Span) × IsRange (f n) s
    range = facts.range n (r, is)

    edge : IsLinkEdge f n range.0 to.1 ⊎ IsChildEdge f n range.0 to.1
    edge = subst (λ (e : Edge). IsLinkEdge f n range.0 e ⊎ IsChildEdge f n range.0 e) to.3 (facts.edges n r range.0 is range.1 to.0 to.1 to.2)

    -- no edge leads to the root
    pub no_root : m ≢ 0
    no_root same = elim edge [
      | inl e ↦ (
          let at : (f 0).level ≡ (f n).level = subst (λ (i : ℕ). (f i).level ≡ (f n).level) (to.4.1 ∙ same) e.level in
          let here : n ≡ 0 = root_alone n (r, is) (omega (arith, at)) in
          let all : Some range.0 ≡ Some record { low = 0; last = top } = sym range.1.is ∙ subst (λ (i : ℕ). (f i).range ≡ Some record { low = 0; last = top }) (sym here) facts.root in
          let whole : range.0 ≡ record { low = 0; last = top } = cc in
          omega (arith, e.begins, to.4.0.0, place, ap (λ (s : Span). s.last) whole))
      | inr e ↦ (
          let at : suc (f 0).level ≡ (f n).level = subst (λ (i : ℕ). suc (f i).level ≡ (f n).level) (to.4.1 ∙ same) e.level in
          let here : n ≡ 0 = root_alone n (r, is) (omega (arith, at)) in
          omega (arith, at, ap (λ (i : ℕ). (f i).level) here))
    ]

    -- an edge leads a level down, or further right on its level
    pub step_on : ((f m).level < (f n).level) ⊎ (((f m).level ≡ (f n).level) × ((f n).low < (f m).low))
    step_on = elim edge [
      | inl e ↦ (
          let level : (f m).level ≡ (f n).level = subst (λ (i : ℕ). (f i).level ≡ (f n).level) to.4.1 e.level in
          let low : (f m).low ≡ to.1.span.low = subst (λ (i : ℕ). (f i).low ≡ to.1.span.low) to.4.1 e.low in
          inr (level, omega (arith, low, e.begins, range.1.low, range.1.filled)))
      | inr e ↦ (
          let at : suc (f m).level ≡ (f n).level = subst (λ (i : ℕ). suc (f i).level ≡ (f n).level) to.4.1 e.level in
          inl (omega (arith, at)))
    ]

    -- an edge of a node above a level leads to one above it, if the place is past the range of a node just above it
    pub nearer : (l : ℕ) → l < (f n).level → ((s : Span) → IsRange (f n) s → (f n).level ≡ l + 1 → s.last < p) → l < (f m).level
    nearer l above away = elim edge [
      | inl e ↦ (let at : (f m).level ≡ (f n).level = subst (λ (i : ℕ). (f i).level ≡ (f n).level) to.4.1 e.level in omega (arith, at, above))
      | inr e ↦ (
          let at : suc (f m).level ≡ (f n).level = subst (λ (i : ℕ). suc (f i).level ≡ (f n).level) to.4.1 e.level in
          elim (cases_lt (l + 1) (f n).level) [
            | inl lt ↦ omega (arith, at, lt)
            | inr le ↦ absurd (let past : range.0.last < p = away range.0 range.1 (omega (arith, above, le)) in omega (arith, past, e.ends, to.4.0.1))
          ])
    ]

-- a body with no edge of its own leads nowhere in its range
pub bare_here : (b : Body) (p : ℕ) → length b.starts ≡ 0 → p ≤ last_of b.range → next_at b p ≡ Here
bare_here b p none le = go b.starts none (holds b.range p) (nat_lt (last_of b.range) p) (le-ltb _ _ le)
  where
    go : (ss : List Start) → length ss ≡ 0 → (h l : Bool) → l ≡ false → go_to (cond h (led_to ss p) (cond l b.link None)) ≡ Here
    go [] e true l is = refl
    go [] e false true is = absurd (let q : ⊥ = cc in q)
    go [] e false false is = refl
    go (s ∷ ss) e h l is = absurd (omega (arith, e))

-- a node above level 0 whose range reaches a place at its low or above is a branch, if others have no edge of their own
pub branch_above : (g : ℕ → NodeState) (f : ℕ → Frame) (n p : ℕ) (b : Body) → Link g f → record_at g n ≡ Some (record_of b) → f n ≡ frame_of b → 0 < b.level → b.low ≤ p → IsPlace p → p ≤ last_of b.range → InOrder (content_of b) → (is_branch b ≡ false → length b.starts ≡ 0) → IsTrue (is_branch b)
branch_above g f n p b facts is frame above low place within order bare = go (is_branch b) refl
  where
    go : (t : Bool) → is_branch b ≡ t → is_branch b ≡ true
    go true e = e
    go false e = absurd (here_stays b p order (bare_here b p (bare e) within) (facts.inside n (record_of b) p is (omega (arith, above, ap (λ (x : Frame). x.level) frame)) (omega (arith, low, ap (λ (x : Frame). x.low) frame)) place))
