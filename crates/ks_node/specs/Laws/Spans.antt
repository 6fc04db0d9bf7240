-- The edges of a body that is in order, one by one: none is cut away.
use Rattle.std.specs.Prelude.{◌≡◌, ℕ, zero, suc, ◌+◌, ◌-◌, ◌<◌, ◌≤◌, Bool, true, false, cond, nat_eq, List, [], ◌∷◌, ◌++◌, length, get_or, max, min, refl, All, drop, Option, None, Some, find, is_some}
use Rattle.std.specs.Option.{ForSome}
use Rattle.std.proofs.Common.{arith, ap, ◌∙◌, sym, inl, inr, add-one}
use Rattle.std.proofs.lemmas.List.{append-nil, get_or_read}
use Rattle.std.proofs.lemmas.List.Elements.{All-tail, All-nil, All-weaker}
use Rattle.std.proofs.lemmas.Bool.Decides.{eqb_tells}
use Rattle.std.proofs.lemmas.Bool.{ne_eqb, eq-eqb, le-leb}
use Rattle.ks_keysets.specs.declared.Span.{Span}
use Rattle.ks_keysets.specs.declared.Edge.{Edge}
use Rattle.ks_keysets.specs.Record.{top}
use Rattle.ks_node.specs.declared.start.Start.{Start}
use Rattle.ks_node.specs.Keyed.{Ascends}
use Rattle.ks_node.specs.Laws.Ascend.{asc_head, asc_tail}
use Rattle.ks_node.specs.Body.{Body, content_of, first_of, last_of, begins}
use Rattle.ks_node.specs.Edges.{add_edge, edges_from, edges_of, link_edge}
use Rattle.ks_node.specs.Effect.{with_range}
use Rattle.ks_node.specs.Sound.{Sound, Framed}
use Rattle.ks_node.specs.Spans.{plain_edges, AreWithin, cut_one}

within_tail : (first last : ℕ) (s t : Start) (ts : List Start) → AreWithin first last (s ∷ t ∷ ts) → AreWithin first last (t ∷ ts)
within_tail first last s t ts w = record {
  ordered = w.ordered;
  ascend = asc_tail (λ s. s.low) s (t ∷ ts) w.ascend;
  upto = All-tail (λ s. s.low ≤ last) s (t ∷ ts) w.upto;
  above = All-tail (λ s. first < s.low) t ts w.above;
}

added : (low last node : ℕ) (es : List Edge) → low ≤ last → add_edge low last node es ≡ record { span = record { low = low; last = last }; node = node } ∷ es
added low last node es h = rw (le-leb low last h) refl

pub edges_plain : (first last : ℕ) (ss : List Start) → AreWithin first last ss → edges_from first last ss ≡ plain_edges first last ss
edges_plain first last [] w = refl
edges_plain first last (s ∷ []) w =
    let here : s.low ≤ last = w.upto 0 s (omega arith) in
    let ordered : first ≤ last = w.ordered in
    added (max first s.low) last s.node [] (omega arith)
edges_plain first last (s ∷ t ∷ ts) w =
    let rise : s.low < t.low = w.ascend 0 1 s (omega arith) (omega arith) in
    let next : t.low ≤ last = w.upto 1 t (omega arith) in
    let over : first < t.low = w.above 0 t (omega arith) in
    let end : min last (t.low - 1) ≡ t.low - 1 = omega arith in
    rw (end, edges_plain first last (t ∷ ts) (within_tail first last s t ts w))
    (added (max first s.low) (t.low - 1) s.node (plain_edges first last (t ∷ ts)) (omega arith))

pub length_plain : (first last : ℕ) (ss : List Start) → length (plain_edges first last ss) ≡ length ss
length_plain first last [] = refl
length_plain first last (s ∷ []) = refl
length_plain first last (s ∷ t ∷ ts) = ap suc (length_plain first last (t ∷ ts))

-- without a range the starts are within all places, and with one within it
pub within_all : (b : Body) → Sound (content_of b) → AreWithin 0 top b.starts
within_all b s = record { ordered = omega arith; ascend = s.starts_ascend; upto = s.starts_are_places; above = tail_positive b.starts s.starts_ascend }
  where
    tail_positive : (ss : List Start) → Ascends (λ s. s.low) ss → All (λ s. 0 < s.low) (drop 1 ss)
    tail_positive [] a = All-nil (λ s. 0 < s.low)
    tail_positive (s ∷ ss) a = All-weaker (λ t. s.low < t.low) (λ t. 0 < t.low) (λ t l. omega arith) ss (asc_head (λ s. s.low) s ss a)

pub within_range : (r : Span) (b : Body) → Sound (content_of b) → Framed r b → AreWithin r.low r.last b.starts
within_range r b s f = record { ordered = f.ordered; ascend = s.starts_ascend; upto = f.upto; above = f.above }

pub within_of : (b : Body) → Sound (content_of b) → ForSome b.range (λ r. Framed r b) → AreWithin (first_of b.range) (last_of b.range) b.starts
within_of b s f = choose b.range f
  where
    choose : (o : Option Span) → ForSome o (λ r. Framed r b) → AreWithin (first_of o) (last_of o) b.starts
    choose None f = within_all b s
    choose (Some r) f = within_range r b s (f r refl)

-- the edges of a body with no link
pub no_link_edges : (b : Body) → b.link ≡ None → edges_of b ≡ edges_from (first_of b.range) (last_of b.range) b.starts
no_link_edges b none = ap (λ l. edges_from (first_of b.range) (last_of b.range) b.starts ++ link_edge (last_of b.range) l) none ∙ append-nil _

pub edges_are : (b : Body) → Sound (content_of b) → ForSome b.range (λ r. Framed r b) → b.link ≡ None → edges_of b ≡ plain_edges (first_of b.range) (last_of b.range) b.starts
edges_are b s f none = no_link_edges b none ∙ edges_plain (first_of b.range) (last_of b.range) b.starts (within_of b s f)

pub length_edges : (b : Body) → Sound (content_of b) → ForSome b.range (λ r. Framed r b) → b.link ≡ None → length (edges_of b) ≡ length b.starts
length_edges b s f none = ap length (edges_are b s f none) ∙ length_plain (first_of b.range) (last_of b.range) b.starts

-- the last edge, and another one, of a body with no range
pub edge_last : (last : ℕ) (ss : List Start) (n : ℕ) (d : Start) (e : Edge) → n + 1 ≡ length ss →
    get_or (plain_edges 0 last ss) n e ≡ record { span = record { low = (get_or ss n d).low; last = last }; node = (get_or ss n d).node }
edge_last last [] n d e h = absurd (omega arith)
edge_last last (s ∷ []) zero d e h = let low : max 0 s.low ≡ s.low = omega arith in ap (λ n. record { span = record { low = n; last = last }; node = s.node }) low
edge_last last (s ∷ []) (suc n) d e h = absurd (omega arith)
edge_last last (s ∷ t ∷ ts) zero d e h = absurd (omega arith)
edge_last last (s ∷ t ∷ ts) (suc n) d e h = edge_last last (t ∷ ts) n d e (omega arith)

pub edge_inner : (last : ℕ) (ss : List Start) (n : ℕ) (d : Start) (e : Edge) → n + 1 < length ss →
    get_or (plain_edges 0 last ss) n e ≡ record { span = record { low = (get_or ss n d).low; last = (get_or ss (n + 1) d).low - 1 }; node = (get_or ss n d).node }
edge_inner last [] n d e h = absurd (omega arith)
edge_inner last (s ∷ []) n d e h = absurd (omega arith)
edge_inner last (s ∷ t ∷ ts) zero d e h = let low : max 0 s.low ≡ s.low = omega arith in ap (λ n. record { span = record { low = n; last = t.low - 1 }; node = s.node }) low
edge_inner last (s ∷ t ∷ ts) (suc n) d e h = rw add-one (let rest = edge_inner last (t ∷ ts) n d e (omega arith) in rw add-one at rest)

eq_suc : (n m : ℕ) → nat_eq (suc n + 1) (suc m) ≡ nat_eq (n + 1) m
eq_suc n m = elim (eqb_tells (n + 1) m) [ inl e ↦ eq-eqb _ _ (omega (arith, e.1)) ∙ sym e.0 | inr e ↦ ne_eqb _ _ (λ q. e.1 (omega arith)) ∙ sym e.0 ]

cut_nth : (first last : ℕ) (r : Span) (ss : List Start) (n : ℕ) (d : Edge) → first ≤ r.low → n < length ss →
    get_or (plain_edges r.low r.last ss) n d ≡ cut_one r (nat_eq (n + 1) (length ss)) (get_or (plain_edges first last ss) n d)
cut_nth first last r [] n d f h = absurd (omega arith)
cut_nth first last r (s ∷ []) zero d f h =
    let low : max r.low s.low ≡ max r.low (max first s.low) = omega arith in
    ap (λ n. record { span = record { low = n; last = r.last }; node = s.node }) low
cut_nth first last r (s ∷ []) (suc n) d f h = absurd (omega arith)
cut_nth first last r (s ∷ t ∷ ts) zero d f h =
    let low : max r.low s.low ≡ max r.low (max first s.low) = omega arith in
    let more : nat_eq (0 + 1) (length (s ∷ t ∷ ts)) ≡ false = ne_eqb _ _ (λ e. omega arith) in
    rw more (ap (λ n. record { span = record { low = n; last = t.low - 1 }; node = s.node }) low)
cut_nth first last r (s ∷ t ∷ ts) (suc n) d f h =
    let same : nat_eq (suc n + 1) (length (s ∷ t ∷ ts)) ≡ nat_eq (n + 1) (length (t ∷ ts)) = eq_suc n (length (t ∷ ts)) in
    rw same (cut_nth first last r (t ∷ ts) n d f (omega arith))

first_under : (o : Option Span) (r : Span) → ForSome o (λ q. q ≡ r) → first_of o ≤ r.low
first_under None r h = omega arith
first_under (Some q) r h = let e : q.low ≡ r.low = ap (λ q. q.low) (h q refl) in omega arith

module _ (b : Body) (r : Span) (s : Sound (content_of b)) (inner : ForSome b.range (λ q. Framed q b)) (f : Framed r b) (none : b.link ≡ None) where
  range_edges : edges_of (with_range r b) ≡ plain_edges r.low r.last b.starts
  range_edges = no_link_edges (with_range r b) none ∙ edges_plain r.low r.last b.starts (within_range r b s f)

  -- a wrapper has as many edges as the node inside
  pub same_count : length (edges_of b) ≡ length (edges_of (with_range r b))
  same_count = length_edges b s inner none ∙ sym (ap length range_edges ∙ length_plain r.low r.last b.starts)

  -- and each is that of the node inside, cut to the range
  pub edge_cut : ForSome b.range (λ q. q ≡ r) → (n : ℕ) (d e : Edge) → n < length (edges_of b) → e ≡ get_or (edges_of b) n e →
      cut_one r (nat_eq (n + 1) (length (edges_of b))) e ≡ get_or (edges_of (with_range r b)) n d
  edge_cut same n d e h is =
      let plain = edges_are b s inner none in
      let long : length (edges_of b) ≡ length b.starts = length_edges b s inner none in
      let nth : get_or (plain_edges r.low r.last b.starts) n d ≡ cut_one r (nat_eq (n + 1) (length b.starts)) (get_or (plain_edges (first_of b.range) (last_of b.range) b.starts) n d) =
      cut_nth (first_of b.range) (last_of b.range) r b.starts n d (first_under b.range r same) (omega arith) in
      let read : e ≡ get_or (plain_edges (first_of b.range) (last_of b.range) b.starts) n d = get_or_read (edges_of b) n e h is d ∙ ap (λ l. get_or l n d) plain in
      ap (λ m. cut_one r (nat_eq (n + 1) m) e) long ∙ ap (cut_one r (nat_eq (n + 1) (length b.starts))) read ∙ sym nth ∙ sym (ap (λ l. get_or l n d) range_edges)

some_either : {X : Type 0} (b : Bool) (x : X) (o : Option X) → is_some o ≡ true → is_some (cond b (Some x) o) ≡ true
some_either true x o e = refl
some_either false x o e = e

find_some : {X : Type 0} (p : X → Bool) (xs : List X) (i : ℕ) (d : X) → i < length xs → p (get_or xs i d) ≡ true → is_some (find p xs) ≡ true
find_some p [] i d h e = absurd (omega arith)
find_some p (x ∷ xs) zero d h e = rw e refl
find_some p (x ∷ xs) (suc i) d h e = some_either (p x) x (find p xs) (find_some p xs i d (omega arith) e)

-- at each start an edge begins
pub begins_start : (ss : List Start) (i : ℕ) (d : Start) → i < length ss → begins (get_or ss i d).low ss ≡ true
begins_start ss i d h = find_some (λ s. nat_eq s.low (get_or ss i d).low) ss i d h (eq-eqb _ _ refl)
