-- The bodies of a graph with links, and the parts of a body with a link.
use Rattle.std.proofs.Common.{ℕ, suc, ◌≡◌, ◌<◌, ◌≤◌, ◌-◌, ◌⊎◌, inl, inr, List, [], Option, Some, refl, sym, ◌∙◌, ap, subst, arith}
use Rattle.std.specs.Prelude.{All}
use Rattle.std.proofs.lemmas.List.Elements.{All-filter, All-cons, All-nil, All-append}
use Rattle.ks_keysets.specs.declared.Frame.{Frame}
use Rattle.ks_keysets.specs.declared.Span.{Span}
use Rattle.ks_keysets.specs.declared.Edge.{Edge}
use Rattle.ks_keysets.specs.declared.Kind.TheVariants.{Directory}
use Rattle.ks_keysets.specs.declared.NodeState.{NodeState}
use Rattle.ks_keysets.specs.Record.{top, LeadsTo}
use Rattle.ks_keysets.specs.Keyset.{InKeyset, Good}
use Rattle.ks_node.specs.Body.{Body, first_of, last_of, pairs_below, pairs_from, starts_below}
use Rattle.ks_node.specs.Edges.{edges_from, edges_of, link_edge, record_of}
use Rattle.ks_node.specs.Effect.{split_right, ends_at, begins_at}
use Rattle.ks_node.specs.Asks.{CanSplitAt}
use Rattle.ks_node.specs.Laws.Ascend.{all_below, all_from}
use Rattle.ks_node.specs.Sound.{Framed}
use Rattle.ks_flow.specs.Link.{IsRange, IsPartOf}
use Rattle.ks_flow.specs.Tree.{ActsAs}
use Rattle.ks_flow.specs.Shapes.{StandBelow, StandFrom}
use Rattle.ks_bodies.specs.Links.{IsLinked, StandsLinked, split_linked}
use Rattle.ks_bodies.proofs.Led.{low_or_high, led_below}
use Rattle.ks_bodies.proofs.Parts.{value_below, value_from, led_right}
use Rattle.ks_bodies.proofs.LinkRecords.{link_above, goes, range_of, linked_ascend, goes_inside, goes_beyond, goes_leads, linked_alike}
use Rattle.ks_bodies.proofs.LinkEdges.{any_first, any_second, all_any, PartIn, edges_below, right_edges, edges_part_from}

pub linked_framed : (b : Body) (x : IsLinked b) → Framed (range_of b x).0 b
linked_framed b x = x.framed (range_of b x).0 (range_of b x).1

module _ (g : ℕ → NodeState) (f : ℕ → Frame) (n : ℕ) (b : Body) (stands : StandsLinked g f n b) where
  pub linked_range : IsRange (f n) (range_of b stands.linked).0
  linked_range =
      let y = linked_framed b stands.linked in
      record {
        is = ap (λ (z : Frame). z.range) stands.frame ∙ (range_of b stands.linked).1;
        low = sym y.low_is ∙ sym (ap (λ (z : Frame). z.low) stands.frame);
        filled = y.ordered;
        last = y.ends;
      }

  linked_pairs : Good g → All (λ x. InKeyset g n x.place) b.pairs
  linked_pairs good = good.stored n (record_of b) stands.has

  pub linked_lower : (cut : ℕ) → Good g → StandBelow g n cut (pairs_below cut b.pairs)
  linked_lower cut good i d lt = (All-filter _ (λ x. InKeyset g n x.place) b.pairs (linked_pairs good) i d lt, all_below (λ x. x.place) cut b.pairs i d lt)

  pub linked_upper : (cut : ℕ) → Good g → StandFrom g n cut (pairs_from cut b.pairs)
  linked_upper cut good i d lt = (All-filter _ (λ x. InKeyset g n x.place) b.pairs (linked_pairs good) i d lt, all_from (λ x. x.place) cut b.pairs i d lt)

-- the two parts of a body that is split to the right
module _ (cut right : ℕ) (b : Body) (x : IsLinked b) (splits : CanSplitAt b cut) (parts : b.kind ≡ Directory → ⊥) (lower : IsLinked (split_linked cut right b)) (upper : IsLinked (split_right cut b)) where
  abbrev range : Span
  range = (range_of b x).0

  has : b.range ≡ Some range
  has = (range_of b x).1

  pub above : range.low < cut
  above = omega (arith, splits.0.0, (linked_framed b x).low_is)

  pub within : cut ≤ range.last
  within = splits.0.1 range has

  ends : range.last ≤ top
  ends = (linked_framed b x).ends

  last : last_of b.range ≡ range.last
  last = ap last_of has

  first : first_of b.range ≡ range.low
  first = ap first_of has

  lower_last : last_of (ends_at (cut - 1) b.range) ≡ cut - 1
  lower_last = ap (λ (o : Option Span). last_of (ends_at (cut - 1) o)) has

  lower_first : first_of (ends_at (cut - 1) b.range) ≡ range.low
  lower_first = ap (λ (o : Option Span). first_of (ends_at (cut - 1) o)) has

  upper_last : last_of (begins_at cut b.range) ≡ range.last
  upper_last = ap (λ (o : Option Span). last_of (begins_at cut o)) has

  upper_first : first_of (begins_at cut b.range) ≡ cut
  upper_first = ap (λ (o : Option Span). first_of (begins_at cut o)) has

  pub parts_below : (p : ℕ) → range.low ≤ p → p < cut → ActsAs (record_of (split_linked cut right b)) (record_of b) p
  parts_below p le lt = linked_alike (split_linked cut right b) b p lower x (omega (arith, lower_first)) (omega (arith, first)) (omega (arith, within, ends))
      (goes_inside (split_linked cut right b) lower p (omega (arith, lower_last)) ∙ led_below cut b.starts p lt ∙ sym (goes_inside b x p (omega (arith, within, last))))
      (value_below cut b.pairs p lt)

  pub parts_linked : (p : ℕ) → p ≤ top → cut ≤ p → LeadsTo (record_of (split_linked cut right b)) p right
  parts_linked p place le = goes_leads (split_linked cut right b) lower p right (omega (arith, lower_first, above)) place (goes_beyond (split_linked cut right b) lower p (omega (arith, lower_last, above)))

  goes_right : (p : ℕ) → cut ≤ p → goes (split_right cut b) p ≡ goes b p
  goes_right p le = elim (low_or_high range.last p) [
    | inl lt ↦ goes_beyond (split_right cut b) upper p (omega (arith, upper_last)) ∙ sym (goes_beyond b x p (omega (arith, last)))
    | inr ge ↦ goes_inside (split_right cut b) upper p (omega (arith, upper_last)) ∙ led_right b.kind cut b.starts p (linked_ascend b x) splits.1 splits.2 parts le ∙ sym (goes_inside b x p (omega (arith, last)))
  ]

  pub parts_from : (p : ℕ) → p ≤ top → cut ≤ p → ActsAs (record_of (split_right cut b)) (record_of b) p
  parts_from p place le = linked_alike (split_right cut b) b p upper x (omega (arith, upper_first)) (omega (arith, first, above)) place (goes_right p le) (value_from cut b.pairs p le)

  abbrev IsLower : Edge → Type 0
  IsLower e = (IsPartOf (record_of b) e × (e.span.low < cut) × (e.span.last < cut)) ⊎ ((e.node ≡ right) × (e.span.low ≡ cut))

  abbrev IsUpper : Edge → Type 0
  IsUpper e = IsPartOf (record_of b) e × (cut ≤ e.span.low)

  part_of : (e : Edge) → PartIn (edges_from (first_of b.range) (last_of b.range) b.starts) e → IsPartOf (record_of b) e
  part_of e y = any_first (λ d. (d.node ≡ e.node) × (d.span.low ≡ e.span.low) × (e.span.last ≤ d.span.last)) (edges_from (first_of b.range) (last_of b.range) b.starts) (link_edge (last_of b.range) b.link) y

  lower_parts : All (λ e. PartIn (edges_from (first_of b.range) (last_of b.range) b.starts) e × (e.span.low < cut) × (e.span.last < cut)) (edges_from (first_of (ends_at (cut - 1) b.range)) (last_of (ends_at (cut - 1) b.range)) (starts_below cut b.starts))
  lower_parts = subst (λ (o : Option Span). All (λ e. PartIn (edges_from (first_of o) (last_of o) b.starts) e × (e.span.low < cut) × (e.span.last < cut)) (edges_from (first_of (ends_at (cut - 1) o)) (last_of (ends_at (cut - 1) o)) (starts_below cut b.starts)))
      (sym has) (edges_below range.low range.last cut b.starts (linked_ascend b x) within)

  pub lower_edges : All IsLower (edges_of (split_linked cut right b))
  lower_edges = All-append IsLower (edges_from (first_of (ends_at (cut - 1) b.range)) (last_of (ends_at (cut - 1) b.range)) (starts_below cut b.starts)) (link_edge (last_of (ends_at (cut - 1) b.range)) (Some right))
      (λ k d lt. let y = lower_parts k d lt in inl (part_of _ y.0, y.1, y.2))
      (All-cons IsLower (record { span = record { low = suc (last_of (ends_at (cut - 1) b.range)); last = top }; node = right }) [] (inr (refl, omega (arith, lower_last, above))) (All-nil IsLower))

  upper_parts : All (λ e. PartIn (edges_from (first_of b.range) (last_of b.range) b.starts) e × (cut ≤ e.span.low)) (edges_from (first_of (begins_at cut b.range)) (last_of (begins_at cut b.range)) (split_right cut b).starts)
  upper_parts = subst (λ (o : Option Span). All (λ e. PartIn (edges_from (first_of o) (last_of o) b.starts) e × (cut ≤ e.span.low)) (edges_from (first_of (begins_at cut o)) (last_of (begins_at cut o)) (split_right cut b).starts))
      (sym has)
      (subst (λ (es : List Edge). All (λ e. PartIn (edges_from range.low range.last b.starts) e × (cut ≤ e.span.low)) es)
      (sym (right_edges b.kind range.low range.last cut b.starts (linked_ascend b x) splits.1 splits.2 parts (omega (arith, above))))
      (edges_part_from range.low range.last cut b.starts (linked_ascend b x)))

  upper_link : All IsUpper (link_edge (last_of (begins_at cut b.range)) b.link)
  upper_link = subst (λ (l : ℕ). All IsUpper (link_edge l b.link)) (last ∙ sym upper_last)
      (λ k d lt. (
        any_second (λ e. (e.node ≡ _) × (e.span.low ≡ _) × (_ ≤ e.span.last)) (edges_from (first_of b.range) (last_of b.range) b.starts) (link_edge (last_of b.range) b.link)
            (all_any (λ d e. (d.node ≡ e.node) × (d.span.low ≡ e.span.low) × (e.span.last ≤ d.span.last)) (link_edge (last_of b.range) b.link) (λ e. (refl, refl, omega arith)) k d lt),
        omega (arith, within, last, link_above (last_of b.range) b.link k d lt),
      ))

  pub upper_edges : All IsUpper (edges_of (split_right cut b))
  upper_edges = All-append IsUpper (edges_from (first_of (begins_at cut b.range)) (last_of (begins_at cut b.range)) (split_right cut b).starts) (link_edge (last_of (begins_at cut b.range)) b.link)
      (λ k d lt. let y = upper_parts k d lt in (part_of _ y.0, y.1)) upper_link
