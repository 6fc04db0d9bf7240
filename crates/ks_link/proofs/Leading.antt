-- What shapes along links make live, and how what they leave adds up.
use Rattle.std.proofs.Common.{◌≡◌, ℕ, suc, ◌<◌, inl, inr, List, [], ◌∷◌, length, sym, ap, ◌∙◌, subst, arith}
use Rattle.std.specs.Prelude.{◌⊎◌, Some, slice_index_or}
use mathlib.Core.Logic.{dite}
use native.Mathlib.Decide.{ℕ_discrete}
use Rattle.ks_keysets.specs.declared.Change.{Change}
use Rattle.ks_keysets.specs.declared.NodeState.{NodeState}
use Rattle.ks_keysets.specs.declared.Record.{Record}
use Rattle.ks_keysets.specs.Change.{shaped, new_state}
use Rattle.ks_keysets.specs.Keyset.{live_record, IsLive}
use Rattle.ks_history.specs.declared.Event.{Event}
use Rattle.ks_history.specs.declared.Event.TheVariants.{Shape}
use Rattle.ks_history.specs.Own.{hand}
use Rattle.ks_history.specs.Trace.{graph_after}
use Rattle.ks_history.specs.Frames.{frame_after}
use Rattle.ks_history.specs.Passes.{Has, GrowsWith}
use Rattle.ks_history.specs.Due.{HoldsLive}
use Rattle.ks_history.specs.Laws.Hand.{held_in_hand}
use Rattle.ks_history.specs.Laws.Stays.{cond_else}
use Rattle.ks_history.specs.Alone.{ActsAlone}
use Rattle.ks_flow.specs.Link.{LastsUnderLink}
use Rattle.ks_arena.specs.Sound.{Sort, blank_of}
use Rattle.ks_shape.specs.Laws.Makes.{alone_with}
use Rattle.ks_link.specs.declared.parts.Waiting.{Waiting}
use Rattle.ks_shape.specs.Upkeep.{AreLed}
use Rattle.ks_link.specs.Leads.{IsLedAfter, LedBut, Waits}

-- the changes name node i
abbrev pub Names : List Change → ℕ → Type 0
Names [] i = ⊥
Names (x ∷ xs) i = (x.node ≡ i) ⊎ Names xs i

-- what is live after changes is named by them, or was live
shaped_live : (changes : List Change) (i : ℕ) (s : NodeState) (r : Record) → live_record (shaped changes i s) ≡ Some r → Names changes i ⊎ (live_record s ≡ Some r)
shaped_live [] i s r e = inr e
shaped_live (x ∷ xs) i s r e = dite (ℕ_discrete i x.node)
    (λ same. inl (inl (sym same)))
    (λ other. elim (shaped_live xs i s r (sym (ap live_record (cond_else i x.node (new_state x.state) (shaped xs i s) other)) ∙ e)) [ inl named ↦ inl (inr named) | inr was ↦ inr was ])

-- so it is after a Shape, if only its caller acts
pub shape_live : (c : ℕ) (changes : List Change) (h k : List Event) → GrowsWith c (Shape c changes) h k → ActsAlone c h k → (i : ℕ) → IsLive (graph_after k) i → Names changes i ⊎ IsLive (graph_after h) i
shape_live c changes h k so alone i live =
    let after : IsLive (graph_after (Shape c changes ∷ h)) i = subst (λ (z : List Event). IsLive (graph_after z) i) (alone_with c (Shape c changes) h k so alone) live in
    elim (shaped_live changes i (graph_after h i) after.0 after.1) [ inl named ↦ inl named | inr was ↦ inr (after.0, was) ]

module _ (sort : Sort) where
  abbrev pub Lasts : List Event → List Event → Type 0
  Lasts h k = LastsUnderLink (graph_after h) (frame_after (blank_of sort) h) (graph_after k) (frame_after (blank_of sort) k)

  -- if what waited is led to, two stretches are one
  pub led_both : (vs ws : List Waiting) (g h k : List Event) → Lasts h k → ((i : ℕ) → Waits vs i → IsLedAfter sort k i) → LedBut sort vs g h → LedBut sort ws h k → LedBut sort ws g k
  led_both vs ws g h k lasts leads a b i live = elim (b i live) [
    | inl was ↦ elim (a i was) [
      | inl first ↦ inl first
      | inr rest ↦ elim rest [ inl led ↦ inr (inl (lasts.led i led)) | inr waits ↦ inr (inl (leads i waits)) ]
    ]
    | inr rest ↦ inr rest
  ]

  -- if nothing waited, and so before a stretch that makes none live
  pub led_then : (ws : List Waiting) (g h k : List Event) → Lasts h k → LedBut sort [] g h → LedBut sort ws h k → LedBut sort ws g k
  led_then ws g h k lasts a b = led_both [] ws g h k lasts (λ i none. absurd none) a b

  -- and so after one
  pub led_none : (ws : List Waiting) (g h k : List Event) → Lasts h k → LedBut sort ws g h → ((i : ℕ) → IsLive (graph_after k) i → IsLive (graph_after h) i) → LedBut sort ws g k
  led_none ws g h k lasts a none i live = elim (a i (none i live)) [
    | inl first ↦ inl first
    | inr rest ↦ elim rest [ inl led ↦ inr (inl (lasts.led i led)) | inr waits ↦ inr (inr waits) ]
  ]

  -- with nothing that waits
  pub are_led : (h k : List Event) → LedBut sort [] h k → AreLed sort h k
  are_led h k so i live = elim (so i live) [ inl first ↦ inl first | inr rest ↦ elim rest [ inl led ↦ inr led | inr none ↦ absurd none ] ]

-- a caller that holds nothing holds live nodes only
pub holds_none : (c : ℕ) (h : List Event) → hand c h ≡ [] → HoldsLive h c
holds_none c h is j mine = absurd (subst (λ (z : List ℕ). Has z j) is (held_in_hand h c j mine))

-- the index of a node among those that wait
pub waits_at : (ws : List Waiting) (i : ℕ) → Waits ws i → (j : ℕ) × (j < length ws) × ((d : Waiting) → (slice_index_or ws j d).node ≡ i)
waits_at [] i none = absurd none
waits_at (w ∷ ws) i (inl is) = (0, omega arith, λ d. is)
waits_at (w ∷ ws) i (inr rest) = let at = waits_at ws i rest in (suc at.0, omega (arith, at.1), at.2)
