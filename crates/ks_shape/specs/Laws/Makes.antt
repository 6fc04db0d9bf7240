-- Stretches of a call in which its caller makes no node live, if no other acts; and what is free at their end.
use Rattle.std.proofs.Common.{◌≡◌, ◌≢◌, ℕ, ◌<◌, inl, inr, List, [], ◌∷◌, ◌++◌, sym, refl, ap, ◌∙◌, subst, append_assoc}
use Rattle.std.proofs.lemmas.List.{append_cancel_right}
use mathlib.Core.Logic.{dite}
use native.Mathlib.Decide.{ℕ_discrete}
use Rattle.ks_keysets.specs.Keyset.{IsLive}
use Rattle.ks_keysets.specs.Layout.{Layout}
use Rattle.ks_history.specs.declared.Event.{Event}
use Rattle.ks_history.specs.Trace.{◌⊑◌, Turn, free, idle, held, graph_after, turn_after}
use Rattle.ks_history.specs.Callers.{NoneBy}
use Rattle.ks_history.specs.Passes.{GrowsByOthers, GrowsWith}
use Rattle.ks_history.specs.Due.{HoldsLive, HoldsLiveBut, NoneFree}
use Rattle.ks_history.specs.Laws.Stays.{AreInTurn}
use Rattle.ks_history.specs.Laws.Begins.{begins_self, begins_append, begins_both, by_others_keeps, in_turn_begins, with_others}
use Rattle.ks_history.specs.Laws.Turns.{idle_live, live_not_free}
use Rattle.ks_history.specs.Laws.Far.{IsNoShape}
use Rattle.ks_history.specs.Laws.Beside.{edges_back}
use Rattle.ks_history.specs.Alone.{AllBy, ActsAlone}
use Rattle.ks_history.specs.Laws.Alone.{alone_still, alone_first, alone_then}
use Rattle.ks_shape.specs.Makes.{MakesNone, TwoFree}

pub makes_both : (c : ℕ) (g h k : List Event) → g ⊑ h → h ⊑ k → MakesNone c g h → MakesNone c h k → MakesNone c g k
makes_both c g h k a b one two alone i live = one (alone_first c g h k a b alone) i (two (alone_then c g h k a b alone) i live)

pub makes_others : (c : ℕ) (h k : List Event) → GrowsByOthers c h k → MakesNone c h k
makes_others c h k so alone i live = subst (λ (z : List Event). IsLive (graph_after z) i) (alone_still c h k alone so) live

-- while only c acts, its own event follows at once
pub alone_with : (c : ℕ) (e : Event) (h k : List Event) → GrowsWith c e h k → ActsAlone c h k → k ≡ e ∷ h
alone_with c e h k so alone =
    let mid : List Event = so.rest ++ h in
    let after : mid ⊑ k = record { rest = e ∷ []; is = so.is } in
    let still : mid ≡ h = alone_still c h mid (alone_first c h mid k (begins_append so.rest h) after alone) (with_others c e h k so) in
    so.is ∙ ap (λ (z : List Event). e ∷ z) still

pub makes_with : (c : ℕ) (e : Event) (h k : List Event) → IsNoShape e → GrowsWith c e h k → MakesNone c h k
makes_with c e h k none so alone i live =
    let after : IsLive (graph_after (e ∷ h)) i = subst (λ (z : List Event). IsLive (graph_after z) i) (alone_with c e h k so alone) live in
    let was = (edges_back h e none).at i after.0 after.1 in (was.0, was.1)

-- nodes that are free

-- if all events are of one caller, none is of another
alone_others : (c d : ℕ) (es : List Event) → d ≢ c → AllBy c es → NoneBy d es
alone_others c d [] other own = tt
alone_others c d (e ∷ es) other own = ((λ same. other (sym same ∙ own.0)), alone_others c d es other own.1)

module _ (c : ℕ) (k l : List Event) (alone : ActsAlone c k l) (are : AreInTurn l) (stays : (i : ℕ) → IsLive (graph_after k) i → IsLive (graph_after l) i) (j : ℕ) (last : turn_after l j ≡ free) where
  begins : k ⊑ l
  begins = record { rest = alone.rest; is = alone.is }

  -- if only c acts and live nodes remain, a node that is free at the end, and that c did not hold, was free before
  free_unheld : (turn_after k j ≡ held c → ⊥) → turn_after k j ≡ free
  free_unheld mine = go (turn_after k j) refl
    where
      go : (t : Turn) → turn_after k j ≡ t → turn_after k j ≡ free
      go free is = is
      go idle is = absurd (live_not_free l j are (stays j (idle_live k j (in_turn_begins k l begins are) is)) last)
      go (held d) is = dite (ℕ_discrete d c)
          (λ same. absurd (mine (is ∙ ap held same)))
          (λ other. let so : GrowsByOthers d k l = record { rest = alone.rest; is = alone.is; others = alone_others c d alone.rest other alone.own } in
          let kept : turn_after l j ≡ held d = (by_others_keeps d j k l so are is).turn in
          let clash : free ≡ held d = sym last ∙ kept in absurd (cc))

  -- so it was if c held only live nodes, or this one was not the one that c had claimed

  pub free_before : HoldsLive k c → turn_after k j ≡ free
  free_before live = free_unheld (λ mine. live_not_free l j are (stays j (live j mine)) last)

  free_but : (layout : Layout) (place : ℕ) (b : HoldsLiveBut layout place k c) → j ≢ b.one → turn_after k j ≡ free
  free_but layout place b other = free_unheld (λ mine. live_not_free l j are (stays j (b.others j other mine)) last)

-- a trace that continues another, which continues it, is the same
nil_second : (xs ys : List Event) → xs ++ ys ≡ [] → ys ≡ []
nil_second [] ys e = e
nil_second (x ∷ xs) ys e = absurd (cc)

begins_same : (g h : List Event) → g ⊑ h → h ⊑ g → g ≡ h
begins_same g h a b =
    let both : (b.rest ++ a.rest) ++ g ≡ [] ++ g = append_assoc b.rest a.rest g ∙ ap (λ (z : List Event). b.rest ++ z) (sym a.is) ∙ sym b.is in
    let none : a.rest ≡ [] = nil_second b.rest a.rest (append_cancel_right (b.rest ++ a.rest) [] g both) in
    sym (a.is ∙ ap (λ (z : List Event). z ++ g) none)

-- two nodes were free before, if only c acts, held only live nodes, and live nodes remain
pub two_before : (n c : ℕ) (k l : List Event) → ActsAlone c k l → AreInTurn l → ((i : ℕ) → IsLive (graph_after k) i → IsLive (graph_after l) i) → HoldsLive k c → TwoFree n l → TwoFree n k
two_before n c k l alone are stays live two = record {
  one = two.one;
  two = two.two;
  apart = two.apart;
  near = two.near;
  free = (free_before c k l alone are stays two.one two.free.0 live, free_before c k l alone are stays two.two two.free.1 live);
}

-- if only c acts and two nodes are free at the end, its claims are not refused: some node was free all the time
pub never_refused : (layout : Layout) (n c place : ℕ) (s h : List Event) → ActsAlone c s h → AreInTurn h → ((k : List Event) → k ⊑ h → (i : ℕ) → IsLive (graph_after k) i → IsLive (graph_after h) i) → TwoFree n h → NoneFree layout n c place s h → ⊥
never_refused layout n c place s h alone are stays two none = elim (none.holds none.from (begins_self none.from) none.ordered) [
  | inl live ↦ taken two.one two.near.0 (free_before c none.from h since are (stays none.from before) two.one two.free.0 live)
  | inr but ↦ dite (ℕ_discrete two.one but.one)
      (λ same. taken two.two two.near.1 (free_but c none.from h since are (stays none.from before) two.two two.free.1 layout place but (λ e. two.apart (same ∙ sym e))))
      (λ other. taken two.one two.near.0 (free_but c none.from h since are (stays none.from before) two.one two.free.0 layout place but other))
]
  where
    before : none.from ⊑ h
    before = begins_both none.from none.to h none.ordered none.before

    since : ActsAlone c none.from h
    since = alone_then c s none.from h none.since before alone

    -- the caller waits between the two moments, so there is no event
    still : none.to ≡ none.from
    still = alone_still c none.from none.to (alone_first c none.from none.to h none.ordered none.before since) (record { rest = none.ordered.rest; is = none.ordered.is; others = none.waits })

    -- the moment between them is the first
    taken : (j : ℕ) → j < n → turn_after none.from j ≡ free → ⊥
    taken j near is =
        let t = none.taken j near in
        let until : t.0 ⊑ none.from = subst (λ (z : List Event). t.0 ⊑ z) still t.2 in
        t.3 (subst (λ (z : List Event). turn_after z j ≡ free) (begins_same none.from t.0 t.1 until) is)
