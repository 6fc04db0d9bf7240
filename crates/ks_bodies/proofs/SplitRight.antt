-- A node that splits off a part to its right, to which its link leads.
use Rattle.std.proofs.Common.{ℕ, ◌-◌, sym, ◌∙◌, ap, arith}
use Rattle.ks_keysets.specs.declared.Frame.{Frame}
use Rattle.ks_keysets.specs.declared.Span.{Span}
use Rattle.ks_keysets.specs.declared.NodeState.{NodeState}
use Rattle.ks_keysets.specs.Keyset.{Good}
use Rattle.ks_node.specs.Body.{Body}
use Rattle.ks_node.specs.Edges.{record_of}
use Rattle.ks_node.specs.Effect.{split_right, ends_at, begins_at}
use Rattle.ks_flow.specs.Changes.{graph_with, frames_with, HasBecome}
use Rattle.ks_flow.specs.Link.{SplitsRight}
use Rattle.ks_bodies.specs.Stands.{live_as, free_as}
use Rattle.ks_bodies.specs.Links.{IsLinked, CanSplitRight, split_linked, split_to_right}
use Rattle.ks_bodies.proofs.Standing.{Made}
use Rattle.ks_bodies.proofs.LinkRecords.{range_of, linked_tidy}
use Rattle.ks_bodies.proofs.LinkStanding as parts

module _ (g : ℕ → NodeState) (f : ℕ → Frame) (node right cut : ℕ) (b : Body) (good : Good g) (x : CanSplitRight g f node right cut b)
    (lower : IsLinked (split_linked cut right b)) (upper : IsLinked (split_right cut b)) (made : Made g f (split_to_right node right cut b)) where
  abbrev range : Span
  range = (range_of b x.stands.linked).0

  after_node : HasBecome f (graph_with (split_to_right node right cut b) g) (frames_with (split_to_right node right cut b) f) (live_as node (split_linked cut right b))
  after_node = made.named 0 (free_as node) (omega arith)

  after_right : HasBecome f (graph_with (split_to_right node right cut b) g) (frames_with (split_to_right node right cut b) f) (live_as right (split_right cut b))
  after_right = made.named 1 (free_as node) (omega arith)

  pub meets_split_right : SplitsRight g (graph_with (split_to_right node right cut b) g) f (frames_with (split_to_right node right cut b) f) node right cut range (record_of b) (record_of (split_linked cut right b)) (record_of (split_right cut b))
  meets_split_right = record {
    differs = made.differs;
    frames = made.frames;
    no_root = x.no_root;
    before = x.stands.has;
    fresh = x.fresh;
    after = after_node.has;
    after_right = after_right.has;
    is_range = parts.linked_range g f node b x.stands;
    above = parts.above cut right b x.stands.linked x.splits x.parts lower upper;
    within = parts.within cut right b x.stands.linked x.splits x.parts lower upper;
    below_cut = parts.parts_below cut right b x.stands.linked x.splits x.parts lower upper;
    from_cut = λ p place le. (parts.parts_linked cut right b x.stands.linked x.splits x.parts lower upper p place le, parts.parts_from cut right b x.stands.linked x.splits x.parts lower upper p place le);
    tidy = linked_tidy (split_linked cut right b) lower;
    tidy_right = linked_tidy (split_right cut b) upper;
    pairs = parts.linked_lower g f node b x.stands cut good;
    pairs_right = parts.linked_upper g f node b x.stands cut good;
    edges = parts.lower_edges cut right b x.stands.linked x.splits x.parts lower upper;
    edges_right = parts.upper_edges cut right b x.stands.linked x.splits x.parts lower upper;
    low = ap (λ (z : Frame). z.low) after_node.frame ∙ sym (ap (λ (z : Frame). z.low) x.stands.frame);
    level = ap (λ (z : Frame). z.level) after_node.frame ∙ sym (ap (λ (z : Frame). z.level) x.stands.frame);
    range_after = ap (λ (z : Frame). z.range) after_node.frame ∙ ap (ends_at (cut - 1)) (range_of b x.stands.linked).1;
    link = ap (λ (z : Frame). z.link) after_node.frame;
    low_right = ap (λ (z : Frame). z.low) after_right.frame;
    level_right = ap (λ (z : Frame). z.level) after_right.frame ∙ sym (ap (λ (z : Frame). z.level) x.stands.frame);
    range_right = ap (λ (z : Frame). z.range) after_right.frame ∙ ap (begins_at cut) (range_of b x.stands.linked).1;
    link_right = ap (λ (z : Frame). z.link) after_right.frame ∙ sym (ap (λ (z : Frame). z.link) x.stands.frame);
  }
