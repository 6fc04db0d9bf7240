-- Where a part of a scan along links stops.
use Rattle.std.proofs.Common.{◌≡◌, ℕ, suc, ◌≤◌, ◌⊎◌, inl, inr, List, [], ◌∷◌, ◌++◌, sym, ap, ◌∙◌, subst, append_assoc, arith}
use Rattle.ks_keysets.specs.declared.Frame.{Frame}
use Rattle.ks_keysets.specs.Keyset.{InKeyset}
use Rattle.ks_keysets.specs.Layout.{Layout}
use Rattle.ks_history.specs.declared.Event.{Event}
use Rattle.ks_history.specs.declared.Op.{Op}
use Rattle.ks_history.specs.declared.Op.TheVariants.{Part as lists}
use Rattle.ks_history.specs.declared.Reply.TheVariants.{Listed}
use Rattle.ks_history.specs.Done.{Template, link_move, DoneAt}
use Rattle.ks_history.specs.Own.{decided_at}
use Rattle.ks_history.specs.Passes.{Has}
use Rattle.ks_history.specs.Trace.{◌⊑◌, graph_after}
use Rattle.ks_history.specs.Frames.{frame_after}
use Rattle.ks_history.specs.Underway.{Underway}
use Rattle.ks_flow.specs.Link.{Link}
use Rattle.ks_node.specs.Body.{Body, frame_of, last_of}
use Rattle.ks_arena.specs.Sound.{Sort, blank_of}
use Rattle.ks_shape.specs.Parts.{DonePart}
use Rattle.ks_lines.specs.declared.parts.Part.{Part}
use Rattle.ks_link.proofs.Places.{past_range}

-- the only node of a list
only : (js : List ℕ) (i j : ℕ) → js ≡ i ∷ [] → Has js j → i ≡ j
only js i j e has = elim (subst (λ (z : List ℕ). Has z j) e has) [ inl same ↦ same | inr none ↦ absurd none ]

module _ (sort : Sort) where
  -- a part that was decided at node i stops at the scan's last place, or at that of the range which the node had then
  pub ends_part : (layout : Layout) (n c low last i : ℕ) (b : Body) (s0 s1 : List Event) (part : Part) → DoneAt layout link_move n c (lists low part.last) s0 s1 (Listed part.pairs) part.number i (blank_of sort) (frame_of b) → low ≤ part.last → part.last ≤ last → (part.last ≡ last) ⊎ (part.last ≡ last_of b.range) → ((k : List Event) → k ⊑ s1 → Link (graph_after k) (frame_after (blank_of sort) k)) → DonePart layout link_move n c low last s0 s1 part
  ends_part layout n c low last i b s0 s1 part at from upto stops facts = record {
    done = at.done;
    span = (from, upto);
    ends = elim stops [
      | inl e ↦ inl e
      | inr e ↦ inr (λ j has in_keyset.
          let moment : List Event = at.done.before ++ s0 in
          let begins : moment ⊑ s1 = record { rest = at.done.after ++ at.done.event ∷ []; is = at.done.is ∙ sym (append_assoc at.done.after (at.done.event ∷ []) moment) } in
          let same : i ≡ j = only (decided_at at.done.event) i j at.at has in
          let at_i : InKeyset (graph_after moment) i (suc part.last) = subst (λ (z : ℕ). InKeyset (graph_after moment) z (suc part.last)) (sym same) in_keyset in
          past_range (graph_after moment) (frame_after (blank_of sort) moment) (facts moment begins) i (suc part.last) b.range (ap (λ (f : Frame). f.range) at.framed) (omega (arith, e)) at_i)
    ];
  }

  -- so it does if it was under way before, and its last place is the one that it was decided up to
  pub part_done : (layout : Layout) (n c d low last i : ℕ) {end : ℕ} (b : Body) (s0 h s1 : List Event) (part : Part) → d ≡ c → part.last ≡ end → ((template : Template) (start : List Event) → Underway template d (lists low end) start h → DoneAt layout template n d (lists low end) start s1 (Listed part.pairs) part.number i (blank_of sort) (frame_of b)) → ((op : Op) → Underway link_move c op s0 h) → low ≤ part.last → part.last ≤ last → (part.last ≡ last) ⊎ (part.last ≡ last_of b.range) → ((k : List Event) → k ⊑ s1 → Link (graph_after k) (frame_after (blank_of sort) k)) → DonePart layout link_move n c low last s0 s1 part
  part_done layout n c d low last i {end} b s0 h s1 part same is at under from upto stops facts =
      let before : Underway link_move d (lists low end) s0 h = subst (λ (z : ℕ). Underway link_move z (lists low end) s0 h) (sym same) (under (lists low end)) in
      let mine : DoneAt layout link_move n c (lists low end) s0 s1 (Listed part.pairs) part.number i (blank_of sort) (frame_of b) = subst (λ (z : ℕ). DoneAt layout link_move n z (lists low end) s0 s1 (Listed part.pairs) part.number i (blank_of sort) (frame_of b)) same (at link_move s0 before) in
      let so : DoneAt layout link_move n c (lists low part.last) s0 s1 (Listed part.pairs) part.number i (blank_of sort) (frame_of b) = subst (λ (z : ℕ). DoneAt layout link_move n c (lists low z) s0 s1 (Listed part.pairs) part.number i (blank_of sort) (frame_of b)) (sym is) mine in
      ends_part layout n c low last i b s0 s1 part so from upto stops facts
