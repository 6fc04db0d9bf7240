-- A body with a range, a level and a link, in place of a body that has neither level nor link.
use Rattle.std.specs.Prelude.{◌≡◌, ℕ, suc, ◌+◌, ◌<◌, Bool, true, ◌&&◌, nat_eq, [], ◌++◌, length, Option, Some, None, get_or, refl}
use Rattle.std.specs.Option.{ForSome}
use Rattle.std.proofs.Common.{arith, ap, ◌∙◌, sym, subst, add-one}
use Rattle.std.proofs.lemmas.List.{append-nil, length-append, get_or_append_left}
use Rattle.std.proofs.Math.Seq.{get_or-append_seam}
use Rattle.ks_keysets.specs.declared.Span.{Span}
use Rattle.ks_keysets.specs.declared.Edge.{Edge}
use Rattle.ks_keysets.specs.Layout.{Layout}
use Rattle.ks_keysets.specs.Record.{top}
use Rattle.ks_node.specs.Body.{Body, Content, content_of, is_branch_kind, all_places}
use Rattle.ks_node.specs.Edges.{edges_of, edges_from, link_edge}
use Rattle.ks_node.specs.Effect.{with_range, ends_at, begins_at}
use Rattle.ks_node.specs.Asks.{Suits, IsNoneOr, IsGoodCut, BranchesAdopt}
use Rattle.ks_node.specs.Sound.{Sound, Framed}
use Rattle.ks_node.specs.Spans.{cut_one}
use Rattle.ks_node.specs.Laws.Spans.{same_count, edge_cut}
use Rattle.ks_node.specs.Wrapped.{adopts_ranged}
use Rattle.ks_node.specs.Laws.Wrapped.{branches_inside, suits_inside, good_outside}
use Rattle.ks_linked.specs.Link.{linked, adopts_linked}

both : (a x : Bool) → a ≡ true → x ≡ true → (a && x) ≡ true
both a x e h = rw (e, h) refl

-- branches with a link adopt as those with the range do
pub branches_linked : (b : Body) (r : Span) (level : ℕ) (link : Option ℕ) → ForSome b.range (λ q. q ≡ r) → (can : Content → ℕ → Bool) (layout : Layout) →
    BranchesAdopt can layout b → BranchesAdopt (adopts_linked can) layout (linked r level link b)
branches_linked b r level link same can layout a =
    let ranged = branches_inside b r same can layout a in
    record { bare = a.bare; inside = λ cut branch less cuts free. both (is_branch_kind b.kind) (adopts_ranged can (content_of b) cut) branch (ranged.inside cut branch less cuts free) }

-- the edges of a body with a link: those of the body with the range, and then that of the link
pub edges_linked : (r : Span) (level : ℕ) (link : Option ℕ) (b : Body) → b.link ≡ None → edges_of (linked r level link b) ≡ edges_of (with_range r b) ++ link_edge r.last link
edges_linked r level link b none =
    let plain : edges_of (with_range r b) ≡ edges_from r.low r.last b.starts = ap (λ l. edges_from r.low r.last b.starts ++ link_edge r.last l) none ∙ append-nil _ in
    sym (ap (λ es. es ++ link_edge r.last link) plain)

module _ (b : Body) (r : Span) (level : ℕ) (link : Option ℕ) where
  suits_range : {span : Span} → Suits (linked r level link b) span → Suits (with_range r b) span
  suits_range s = record { begins_low = s.begins_low; pairs = s.pairs; starts = s.starts; is_range = s.is_range }

  -- what suits the body with the link suits the one inside
  pub suits_plain : {span : Span} → ForSome b.range (λ q. q ≡ r) → Suits (linked r level link b) span → Suits b span
  suits_plain same s = suits_inside b r same (suits_range s)

  pub own_range : {span : Span} → Suits (linked r level link b) span → IsNoneOr (Some r) span
  own_range s q e = s.is_range q e

  -- a good cut of the one inside is one of it
  pub good_linked : {span : Span} (cut : ℕ) → ForSome b.range (λ q. q ≡ r) → Suits (linked r level link b) span → IsGoodCut b span cut → IsGoodCut (linked r level link b) span cut
  good_linked cut same s g =
      let h = good_outside b r same cut (suits_range s) g in
      record { above = h.above; within = h.within; splits = h.splits }

  -- if all places are passed, they are its range
  pub all_inside : {span : Span} → Suits (linked r level link b) span → (o : Option Span) → IsNoneOr o span → o ≡ Some all_places → Some r ≡ Some all_places
  all_inside {span} s o is e = ap (λ q. Some q) (s.is_range r refl ∙ sym (is all_places e))

  pub framed_linked : {q : Span} → Framed r b → Some r ≡ Some q → Framed q (linked r level link b)
  framed_linked {q} f e =
      let same : r ≡ q = cc in
      let g : Framed r (linked r level link b) = record { low_is = f.low_is; ordered = f.ordered; ends = f.ends; upto = f.upto; above = f.above } in
      subst (λ p. Framed p (linked r level link b)) same g

-- how many edges the link adds
abbrev pub link_count : Option ℕ → ℕ
link_count None = 0
link_count (Some m) = 1

length_link : (last : ℕ) (link : Option ℕ) → length (link_edge last link) ≡ link_count link
length_link last None = refl
length_link last (Some m) = refl

module _ (b : Body) (r : Span) (level : ℕ) (sound : Sound (content_of b)) (inner : ForSome b.range (λ q. Framed q b)) (framed : Framed r b) (none : b.link ≡ None) where
  pub count_linked : (link : Option ℕ) → length (edges_of (linked r level link b)) ≡ length (edges_of b) + link_count link
  count_linked link =
      ap length (edges_linked r level link b none)
      ∙ length-append (edges_of (with_range r b)) (link_edge r.last link)
      ∙ omega (arith, same_count b r sound inner framed none, length_link r.last link)

  pub own_linked : (link : Option ℕ) → ForSome b.range (λ q. q ≡ r) → (n : ℕ) (e : Edge) (c : Edge) → n < length (edges_of b) → e ≡ get_or (edges_of b) n e →
      c ≡ cut_one r (nat_eq (n + 1) (length (edges_of b))) e → c ≡ get_or (edges_of (linked r level link b)) n c
  own_linked link same n e c h is cut =
      let count = same_count b r sound inner framed none in
      rw (edges_linked r level link b none)
      (cut ∙ edge_cut b r sound inner framed none same n c e h is ∙ sym (get_or_append_left (edges_of (with_range r b)) (link_edge r.last link) c n (omega arith)))

  pub last_linked : (m n : ℕ) (c : Edge) → n ≡ length (edges_of b) → c ≡ record { span = record { low = r.last + 1; last = top }; node = m } → c ≡ get_or (edges_of (linked r level (Some m) b)) n c
  last_linked m n c e is =
      let count = same_count b r sound inner framed none in
      let at : n ≡ length (edges_of (with_range r b)) = omega arith in
      rw (edges_linked r level (Some m) b none, at)
      (is ∙ ap (λ l. record { span = record { low = l; last = top }; node = m }) (add-one r.last) ∙ sym (get_or-append_seam (edges_of (with_range r b)) (record { span = record { low = suc r.last; last = top }; node = m }) [] c))

-- ranges of the body inside, in step with those outside
pub same_ends : (o : Option Span) (r : Span) (last : ℕ) → ForSome o (λ q. q ≡ r) → ForSome (ends_at last o) (λ q. q ≡ record { low = r.low; last = last })
same_ends None r last same q e = cc
same_ends (Some x) r last same q e =
    let low : x.low ≡ r.low = ap (λ y. y.low) (same x refl) in
    let is : record { low = x.low; last = last } ≡ q = cc in
    sym is ∙ ap (λ n. record { low = n; last = last }) low

pub same_begins : (o : Option Span) (r : Span) (low : ℕ) → ForSome o (λ q. q ≡ r) → ForSome (begins_at low o) (λ q. q ≡ record { low = low; last = r.last })
same_begins None r low same q e = cc
same_begins (Some x) r low same q e =
    let last : x.last ≡ r.last = ap (λ y. y.last) (same x refl) in
    let is : record { low = low; last = x.last } ≡ q = cc in
    sym is ∙ ap (λ n. record { low = low; last = n }) last
