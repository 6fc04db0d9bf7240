-- What makes a call that lists pairs a part of a scan.
use Rattle.std.proofs.Common.{ℕ, suc, ◌≡◌, ◌≤◌, ◌⊎◌, inl, inr, List, [], ◌∷◌, ◌++◌, subst}
use Rattle.ks_keysets.specs.declared.Frame.{Frame}
use Rattle.ks_keysets.specs.Keyset.{InKeyset}
use Rattle.ks_keysets.specs.Layout.{Layout}
use Rattle.ks_history.specs.declared.Event.{Event}
use Rattle.ks_history.specs.declared.Op.TheVariants.{Part as lists}
use Rattle.ks_history.specs.declared.Reply.TheVariants.{Listed}
use Rattle.ks_history.specs.Done.{Template, DoneAt}
use Rattle.ks_history.specs.Passes.{Has}
use Rattle.ks_history.specs.Trace.{graph_after}
use Rattle.ks_shape.specs.Parts.{DonePart}
use Rattle.ks_lines.specs.declared.parts.Part.{Part}

the_one : {n i : ℕ} → Has (n ∷ []) i → n ≡ i
the_one has = elim has [ inl e ↦ e | inr none ↦ absurd none ]

-- it was decided at one node, and is the last part, or the keyset of that node ended there then
module _ (layout : Layout) (template : Template) (n c low last : ℕ) (s0 s1 : List Event) (part : Part) (node : ℕ) (blank frame : Frame) (at : DoneAt layout template n c (lists low part.last) s0 s1 (Listed part.pairs) part.number node blank frame) where
  pub part_done : low ≤ part.last → part.last ≤ last → (part.last ≡ last) ⊎ ¬ InKeyset (graph_after (at.done.before ++ s0)) node (suc part.last) → DonePart layout template n c low last s0 s1 part
  part_done from to stops = record {
    done = at.done;
    span = (from, to);
    ends = elim stops [ inl whole ↦ inl whole | inr out ↦ inr (λ i has. subst (λ (z : ℕ). ¬ InKeyset (graph_after (at.done.before ++ s0)) z (suc part.last)) (the_one (subst (λ (zs : List ℕ). Has zs i) at.at has)) out) ];
  }
