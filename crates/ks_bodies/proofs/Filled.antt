-- No edge of a body is empty.
use Rattle.std.proofs.Common.{ℕ, ◌≡◌, ◌≤◌, ◌-◌, cond, Bool, true, false, List, [], ◌∷◌, None, refl, sym, subst}
use Rattle.std.specs.Prelude.{All, nat_le, max, min}
use Rattle.std.proofs.lemmas.Bool.{leb-true}
use Rattle.std.proofs.lemmas.List.Elements.{All-cons, All-nil}
use Rattle.ks_keysets.specs.declared.Edge.{Edge}
use Rattle.ks_node.specs.declared.start.Start.{Start}
use Rattle.ks_node.specs.Body.{Body, first_of, last_of}
use Rattle.ks_node.specs.Edges.{add_edge, edges_from, edges_of}
use Rattle.ks_bodies.proofs.Records.{edges_plain}

abbrev pub IsFilled : Edge → Type 0
IsFilled e = e.span.low ≤ e.span.last

filled_add : (low last n : ℕ) (es : List Edge) → All IsFilled es → All IsFilled (add_edge low last n es)
filled_add low last n es all = go (nat_le low last) refl
  where
    go : (b : Bool) → nat_le low last ≡ b → All IsFilled (cond b (record { span = record { low = low; last = last }; node = n } ∷ es) es)
    go true e = All-cons IsFilled (record { span = record { low = low; last = last }; node = n }) es (leb-true low last e) all
    go false e = all

filled_from : (first last : ℕ) (ss : List Start) → All IsFilled (edges_from first last ss)
filled_from first last [] = All-nil IsFilled
filled_from first last (s ∷ []) = filled_add (max first s.low) last s.node [] (All-nil IsFilled)
filled_from first last (s ∷ t ∷ ts) = filled_add (max first s.low) (min last (t.low - 1)) s.node (edges_from first last (t ∷ ts)) (filled_from first last (t ∷ ts))

pub filled_edges : (b : Body) → b.link ≡ None → All IsFilled (edges_of b)
filled_edges b none = subst (λ (es : List Edge). All IsFilled es) (sym (edges_plain b none)) (filled_from (first_of b.range) (last_of b.range) b.starts)
