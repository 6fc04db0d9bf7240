-- A node that takes over the node to which its parent leads next.
use Rattle.std.proofs.Common.{ℕ, suc, ◌≡◌, ◌<◌, ◌≤◌, ◌+◌, ◌==◌, ◌⊎◌, inl, inr, cond, Bool, true, false, List, [], ◌∷◌, ◌++◌, Option, Some, None, refl, sym, ◌∙◌, ap, subst, arith}
use Rattle.std.specs.Prelude.{All, nat_le, IsTrue, is_some}
use Rattle.std.proofs.lemmas.Bool.{le-leb, ne_eqb, eqb-true}
use Rattle.std.proofs.lemmas.List.{append_assoc}
use Rattle.std.proofs.lemmas.List.Elements.{All-append, All-weaker}
use Rattle.ks_keysets.specs.declared.Frame.{Frame}
use Rattle.ks_keysets.specs.declared.Span.{Span}
use Rattle.ks_keysets.specs.declared.Record.{Record}
use Rattle.ks_keysets.specs.declared.NodeState.{NodeState}
use Rattle.ks_keysets.specs.Record.{IsPlace, LeadsTo}
use Rattle.ks_keysets.specs.Keyset.{record_at, InInset, InKeyset, Good, Reaches, along}
use Rattle.ks_node.specs.declared.start.Start.{Start}
use Rattle.ks_node.specs.Body.{Body, is_branch, is_branch_kind, first_of, last_of, first_node, starts_from}
use Rattle.ks_node.specs.Sound.{starts_at_zero}
use Rattle.ks_node.specs.Edges.{record_of, edges_of}
use Rattle.ks_node.specs.Effect.{absorbed, forgot, settled, without, ends_at, first_from}
use Rattle.ks_flow.specs.Tree.{Tree, edges_to}
use Rattle.ks_flow.specs.Changes.{graph_with, frames_with, HasBecome}
use Rattle.ks_flow.specs.Shapes.{AbsorbsUnder, range_over}
use Rattle.ks_bodies.specs.Stands.{live_as, free_as, IsPlain}
use Rattle.ks_bodies.specs.Shapes.{CanAbsorbUnder, absorb_under}
use Rattle.ks_bodies.proofs.Led.{or_else, led, led_none, led_append, led_settled, led_count, all_above, above_less, Ascend, count, count_append, count_first, count_settled}
use Rattle.ks_bodies.proofs.Records.{InRange, body_ascend, body_led, led_body, body_tidy, body_upto, body_count, acts_alike}
use Rattle.ks_bodies.proofs.Parts.{joined_left, joined_right, left_first}
use Rattle.ks_bodies.proofs.Forget.{Beside, find_beside, without_one}
use Rattle.ks_bodies.proofs.Forget as forget
use Rattle.ks_bodies.proofs.Standing.{Made, in_range, low_le, low_inside, one_start, sole_start, pairs_stand}

-- the starts of the node that takes over

first_none : (l : ℕ) (ss : List Start) (p : ℕ) → Ascend (first_from l ss) → p < l → led (first_from l ss) p ≡ None
first_none l [] p up lt = refl
first_none l (s ∷ ss) p up lt = led_none (record { low = l; node = s.node } ∷ ss) p p (lt, above_less ss l p up.0 (omega arith)) (omega arith)

first_same : (l : ℕ) (ss : List Start) (o : Option ℕ) (p : ℕ) → IsTrue (starts_at_zero ss) → l ≤ p → or_else (led (first_from l ss) p) o ≡ led ss p
first_same l [] o p z le = absurd (cc)
first_same l (s ∷ ss) o p z le =
    let low : s.low ≡ 0 = eqb-true _ _ z in
    let a : nat_le s.low p ≡ true = le-leb _ _ (omega arith) in
    let b : nat_le l p ≡ true = le-leb _ _ le in
    rw (a, b) (some_absorbs (led ss p) o s.node)
  where
    some_absorbs : (a b : Option ℕ) (x : ℕ) → or_else (or_else a (Some x)) b ≡ or_else a (Some x)
    some_absorbs None b x = refl
    some_absorbs (Some m) b x = refl

tail_ascend : (xs ys : List Start) → Ascend (xs ++ ys) → Ascend ys
tail_ascend [] ys up = up
tail_ascend (z ∷ xs) ys up = tail_ascend xs ys up.1

no_start : (ss : List Start) → first_node ss ≡ None → ss ≡ []
no_start [] e = refl
no_start (s ∷ ss) e = absurd (cc)

-- below the seam the node leads as it did
here_led : (k : Bool) (seam : ℕ) (ss ts : List Start) (p : ℕ) → Ascend (cond k (ss ++ first_from seam ts) ts) → cond k None (first_node ss) ≡ None → (k ≡ false → All (λ s. seam ≤ s.low) ts) → p < seam → led (cond k (ss ++ first_from seam ts) ts) p ≡ led ss p
here_led true seam ss ts p up own low lt = led_append ss (first_from seam ts) p ∙ ap (λ (o : Option ℕ). or_else o (led ss p)) (first_none seam ts p (tail_ascend ss (first_from seam ts) up) lt)
here_led false seam ss ts p up own low lt =
    led_none ts p p (all_above p ts (All-weaker (λ s. seam ≤ s.low) (λ s. p < s.low) (λ s le. omega arith) ts (low refl))) (omega arith)
    ∙ ap (λ (xs : List Start). led xs p) (sym (no_start ss own))

-- from it on it leads as the other did
there_led : (k : Bool) (seam : ℕ) (ss ts : List Start) (p : ℕ) → (k ≡ true → IsTrue (starts_at_zero ts)) → seam ≤ p → led (cond k (ss ++ first_from seam ts) ts) p ≡ led ts p
there_led true seam ss ts p z le = led_append ss (first_from seam ts) p ∙ first_same seam ts (led ss p) p (z refl) le
there_led false seam ss ts p z le = refl

both_count : (k : Bool) (seam : ℕ) (ss ts : List Start) (m : ℕ) → count (cond k (ss ++ first_from seam ts) ts) m ≤ count ss m + count ts m
both_count true seam ss ts m = omega (arith, count_append ss (first_from seam ts) m, count_first seam ts m)
both_count false seam ss ts m = omega arith

-- the range of the node that takes over

both_last : (o o' : Option Span) (p : ℕ) → IsPlace p → p ≤ last_of o' → p ≤ last_of (ends_at (last_of o') o)
both_last None o' p place le = place
both_last (Some r) o' p place le = le

both_range : (o o' : Option Span) → is_some o ≡ is_some o' → ends_at (last_of o') o ≡ range_over o o'
both_range None o' e = refl
both_range (Some r) None e = absurd (cc)
both_range (Some r) (Some t) e = refl

-- what the graph says of edges to one node
abbrev pub SoleParent : (ℕ → NodeState) → Type 0
SoleParent g = (e c p : ℕ) (s : Record) → record_at g e ≡ Some s → 0 < edges_to s.edges c → Reaches g p c → Reaches g p e × LeadsTo s p c

module _ (g : ℕ → NodeState) (f : ℕ → Frame) (parent node right : ℕ) (u b q : Body) (good : Good g) (tree : Tree g f) (x : CanAbsorbUnder g f parent node right u b q)
    (sole : SoleParent g) (other_parent : (c : ℕ) → 0 < edges_to (edges_of u) c → parent ≡ c → ⊥) where
  pub side : Beside u.starts node right
  side = find_beside u.starts x.place node right (body_ascend u x.above.plain) (body_led u x.above.plain x.place node x.leads).0 (next (is_branch u) x.branch x.next)
    where
      next : (k : Bool) → IsTrue k → cond k (first_node (starts_from (suc x.place) u.starts)) None ≡ Some right → first_node (starts_from (suc x.place) u.starts) ≡ Some right
      next true t e = e
      next false t e = absurd (cc)

  abbrev pub a : ℕ
  a = side.low

  abbrev pub c : ℕ
  c = side.seam

  abbrev pub P : List Start
  P = side.ahead ++ record { low = a; node = node } ∷ record { low = c; node = right } ∷ side.rest

  abbrev pub Q : List Start
  Q = side.ahead ++ record { low = a; node = node } ∷ side.rest

  pub up_P : Ascend P
  up_P = subst Ascend side.are (body_ascend u x.above.plain)

  pub one_P : (m : ℕ) → count P m ≤ 1
  one_P m = subst (λ (ss : List Start). count ss m ≤ 1) side.are (one_start g f parent u tree x.above m)

  led_u : (p : ℕ) → led u.starts p ≡ led P p
  led_u p = ap (λ (ss : List Start). led ss p) side.are

  pub to_node : (p : ℕ) → led P p ≡ Some node → (a ≤ p) × (p < c) × (led Q p ≡ Some node)
  to_node p e = forget.to_node node right a c side.ahead side.rest up_P one_P p e

  pub to_right : (p : ℕ) → led P p ≡ Some right → (c ≤ p) × (led side.rest p ≡ None) × (led Q p ≡ Some node)
  to_right p e = forget.to_right node right a c side.ahead side.rest up_P one_P p e

  pub other : node ≡ right → ⊥
  other = forget.other node right a c side.ahead side.rest up_P one_P

  pub none_before : count side.ahead right ≡ 0
  none_before = forget.none_ahead node right a c side.ahead side.rest up_P one_P

  forgot_starts : (forgot right u).starts ≡ settled u.kind Q
  forgot_starts =
      let split : P ≡ (side.ahead ++ record { low = a; node = node } ∷ []) ++ record { low = c; node = right } ∷ side.rest = sym (append_assoc side.ahead (record { low = a; node = node } ∷ []) (record { low = c; node = right } ∷ side.rest)) in
      let join : (side.ahead ++ record { low = a; node = node } ∷ []) ++ side.rest ≡ Q = append_assoc side.ahead (record { low = a; node = node } ∷ []) side.rest in
      let ne : (node == right) ≡ false = ne_eqb node right other in
      let z : ◌≡◌ {A = ℕ} (cond (node == right) 1 0) 0 = rw ne refl in
      let none : count (side.ahead ++ record { low = a; node = node } ∷ []) right ≡ 0 = omega (arith, count_append side.ahead (record { low = a; node = node } ∷ []) right, z, forget.none_ahead node right a c side.ahead side.rest up_P one_P) in
      ap (λ (ss : List Start). settled u.kind (without right ss)) (side.are ∙ split) ∙ ap (λ (ss : List Start). settled u.kind ss) (without_one (side.ahead ++ record { low = a; node = node } ∷ []) side.rest c right none ∙ join)

  led_after : (p : ℕ) → led (forgot right u).starts p ≡ led Q p
  led_after p = ap (λ (ss : List Start). led ss p) forgot_starts ∙ led_settled u.kind Q p (forget.ascend_after node right a c side.ahead side.rest up_P one_P)

  -- which places come to node, and which to right

  pub some_node : 0 < edges_to (edges_of u) node
  some_node = omega (arith, body_count u x.above.plain node, ap (λ (ss : List Start). count ss node) side.are, forget.count_node node right a c side.ahead side.rest up_P one_P)

  pub some_right : 0 < edges_to (edges_of u) right
  some_right = omega (arith, body_count u x.above.plain right, ap (λ (ss : List Start). count ss right) side.are, forget.count_other node right a c side.ahead side.rest up_P one_P)

  led_by : (p m : ℕ) → LeadsTo (record_of u) p m → led P p ≡ Some m
  led_by p m to = sym (led_u p) ∙ (body_led u x.above.plain p m to).0

  pub up_node : (p : ℕ) → InInset g node p → InInset g parent p × (led P p ≡ Some node)
  up_node p i = let y = sole parent node p (record_of u) x.above.has some_node i.1 in ((i.0, y.0), led_by p node y.1)

  pub up_right : (p : ℕ) → InInset g right p → InInset g parent p × (led P p ≡ Some right)
  up_right p i = let y = sole parent right p (record_of u) x.above.has some_right i.1 in ((i.0, y.0), led_by p right y.1)

  pub down_node : (p : ℕ) → InInset g parent p → LeadsTo (record_of u) p node → InInset g node p
  down_node p i to = (i.0, along (record_of u) i.1 x.above.has to (record_of b, x.stands.has))

  pub down_right : (p : ℕ) → InInset g parent p → LeadsTo (record_of u) p right → InInset g right p
  down_right p i to = (i.0, along (record_of u) i.1 x.above.has to (record_of q, x.other.has))

  pub seam_low : c ≤ q.low
  seam_low = (to_right q.low (up_right q.low (low_inside g f right q tree x.other)).1).0

  -- the node after it

  pub same_branch : is_branch q ≡ is_branch b
  same_branch = ap is_branch_kind (sym x.alike)

  module _ (plain_parent : IsPlain (forgot right u)) (plain : IsPlain (absorbed b q)) where
    after_up : Ascend (absorbed b q).starts
    after_up = body_ascend (absorbed b q) plain

    led_here : (p : ℕ) → p < c → led (absorbed b q).starts p ≡ led b.starts p
    led_here p lt = here_led (is_branch b) q.low b.starts q.starts p after_up x.unchained (λ e. x.other.plain.sound.own_low (same_branch ∙ e)) (omega (arith, seam_low))

    led_there : (p : ℕ) → q.low ≤ p → led (absorbed b q).starts p ≡ led q.starts p
    led_there p le = there_led (is_branch b) q.low b.starts q.starts p (λ e. x.other.plain.sound.branch_covers (same_branch ∙ e)) le

    both_inside : (p : ℕ) → IsPlace p → first_of b.range ≤ p → p ≤ last_of q.range → InRange (absorbed b q) p
    both_inside p place le le' = record { low = left_first b.range (last_of q.range) p le; last = both_last b.range q.range p place le' }

    range_node : (p : ℕ) → InInset g node p → InRange (absorbed b q) p
    range_node p i =
        let lt = (to_node p (up_node p i).1).1 in
        let top_q = (in_range g f right q tree x.other q.low (low_inside g f right q tree x.other)).last in
        both_inside p i.0 (in_range g f node b tree x.stands p i).low (omega (arith, lt, top_q, seam_low))

    range_right : (p : ℕ) → InInset g right p → InRange (absorbed b q) p
    range_right p i =
        let low_b = low_inside g f node b tree x.stands in
        let lt = (to_node b.low (up_node b.low low_b).1).1 in
        let ge = (to_right p (up_right p i).1).0 in
        both_inside p i.0 (omega (arith, (in_range g f node b tree x.stands b.low low_b).low, lt, ge)) (in_range g f right q tree x.other p i).last

    pairs_low : (p : ℕ) → c ≤ p → All (λ y. y.place ≡ p → ⊥) b.pairs
    pairs_low p le = All-weaker (λ y. InKeyset g node y.place) (λ y. y.place ≡ p → ⊥) (λ y k e. omega (arith, (to_node y.place (up_node y.place k.0).1).1)) b.pairs (pairs_stand g f node b good x.stands)

    pairs_high : (p : ℕ) → p < c → All (λ y. y.place ≡ p → ⊥) q.pairs
    pairs_high p lt = All-weaker (λ y. InKeyset g right y.place) (λ y. y.place ≡ p → ⊥) (λ y k e. omega (arith, (to_right y.place (up_right y.place k.0).1).0)) q.pairs (pairs_stand g f right q good x.other)

    -- the parent after it

    parent_range : (p : ℕ) → InInset g parent p → InRange u p
    parent_range p i = in_range g f parent u tree x.above p i

    forgot_range : (p : ℕ) → InRange u p → InRange (forgot right u) p
    forgot_range p r = record { low = r.low; last = r.last }

    leads_node : (p : ℕ) → InRange u p → led Q p ≡ Some node → LeadsTo (record_of (forgot right u)) p node
    leads_node p r e = led_body (forgot right u) plain_parent p node (forgot_range p r) (led_after p ∙ e)

    -- starts are counted

    forgot_count : (m : ℕ) → count (forgot right u).starts m ≤ count Q m
    forgot_count m = omega (arith, ap (λ (ss : List Start). count ss m) forgot_starts, count_settled u.kind Q m)

    u_count : (m : ℕ) → edges_to (edges_of u) m ≡ count P m
    u_count m = body_count u x.above.plain m ∙ ap (λ (ss : List Start). count ss m) side.are

    none_right : count b.starts right + count q.starts right ≡ 0
    none_right = omega (arith, u_count right, body_count u x.above.plain right, some_right, sole_start g f parent node right u b tree x.above x.stands (other_parent node some_node), sole_start g f parent right right u q tree x.above x.other (other_parent right some_right))

    place_after : led (forgot right u).starts x.place ≡ Some node
    place_after = led_after x.place ∙ (to_node x.place (led_by x.place node x.leads)).2

    module _ (made : Made g f (absorb_under parent node right u b q)) where
      after_parent : HasBecome f (graph_with (absorb_under parent node right u b q) g) (frames_with (absorb_under parent node right u b q) f) (live_as parent (forgot right u))
      after_parent = made.named 0 (free_as node) (omega arith)

      after_node : HasBecome f (graph_with (absorb_under parent node right u b q) g) (frames_with (absorb_under parent node right u b q) f) (live_as node (absorbed b q))
      after_node = made.named 1 (free_as node) (omega arith)

      after_right : HasBecome f (graph_with (absorb_under parent node right u b q) g) (frames_with (absorb_under parent node right u b q) f) (free_as right)
      after_right = made.named 2 (free_as node) (omega arith)

      pub meets_absorb_under : AbsorbsUnder g (graph_with (absorb_under parent node right u b q) g) f (frames_with (absorb_under parent node right u b q) f) parent node right (record_of u) (record_of b) (record_of q) (record_of (forgot right u)) (record_of (absorbed b q))
      meets_absorb_under = record {
        differs = made.differs;
        frames = made.frames;
        before_parent = x.above.has;
        before = x.stands.has;
        before_right = x.other.has;
        other = other;
        after_parent = after_parent.has;
        after = after_node.has;
        gone = after_right.has;
        leads = some_node;
        leads_right = some_right;
        leads_after = omega (arith, body_count (forgot right u) plain_parent node, led_count (forgot right u).starts x.place node place_after);
        order = λ p o to to'. omega (arith, (to_node p (led_by p node to)).1, (to_right o (led_by o right to')).0);
        beside = λ p o m to to' le le'.
            let i = (body_led u x.above.plain p node to).1 in
            let j = (body_led u x.above.plain o right to').1 in
            let r : InRange u m = record { low = omega (arith, i.low); last = omega (arith, j.last) } in
            elim (forget.between node right a c side.ahead side.rest up_P one_P p o m (led_by p node to) (led_by o right to') le le') [
              | inl y ↦ inl (led_body u x.above.plain m node r (led_u m ∙ y))
              | inr y ↦ inr (led_body u x.above.plain m right r (led_u m ∙ y))
            ];
        here = λ p i to.
            let y = to_node p (led_by p node to) in
            let j = down_node p i to in
            (leads_node p (parent_range p i) y.2, acts_alike (absorbed b q) b p plain x.stands.plain (range_node p j) (in_range g f node b tree x.stands p j) (led_here p y.1) (joined_left b.pairs q.pairs p (pairs_high p y.1)));
        there = λ p i to.
            let y = to_right p (led_by p right to) in
            let j = down_right p i to in
            (leads_node p (parent_range p i) y.2, acts_alike (absorbed b q) q p plain x.other.plain (range_right p j) (in_range g f right q tree x.other p j) (led_there p (low_le g f right q tree x.other p j)) (joined_right b.pairs q.pairs p (pairs_low p y.0)));
        else = λ p i not_l not_r. acts_alike (forgot right u) u p plain_parent x.above.plain (forgot_range p (parent_range p i)) (parent_range p i)
            (led_after p ∙ forget.elsewhere node right a c side.ahead side.rest up_P one_P p (λ e. not_l (led_body u x.above.plain p node (parent_range p i) (led_u p ∙ e))) (λ e. not_r (led_body u x.above.plain p right (parent_range p i) (led_u p ∙ e))) ∙ sym (led_u p)) refl;
        tidy_parent = body_tidy (forgot right u) plain_parent;
        tidy = body_tidy (absorbed b q) plain;
        edges = λ m ne. omega (arith, body_upto (forgot right u) plain_parent m, forgot_count m, forget.count_after node right a c side.ahead side.rest up_P one_P m, u_count m, body_upto (absorbed b q) plain m, both_count (is_branch b) q.low b.starts q.starts m, body_count b x.stands.plain m, body_count q x.other.plain m);
        edge = omega (arith, body_upto (forgot right u) plain_parent right, forgot_count right, forget.count_gone node right a c side.ahead side.rest up_P one_P, body_upto (absorbed b q) plain right, both_count (is_branch b) q.low b.starts q.starts right, none_right);
        pairs_parent = pairs_stand g f parent u good x.above;
        pairs = All-append (λ y. InKeyset g node y.place ⊎ InKeyset g right y.place) b.pairs q.pairs (λ i d lt. inl (pairs_stand g f node b good x.stands i d lt)) (λ i d lt. inr (pairs_stand g f right q good x.other i d lt));
        low_parent = ap (λ (z : Frame). z.low) after_parent.frame ∙ sym (ap (λ (z : Frame). z.low) x.above.frame);
        low = ap (λ (z : Frame). z.low) after_node.frame ∙ sym (ap (λ (z : Frame). z.low) x.stands.frame);
        range_parent = ap (λ (z : Frame). z.range) after_parent.frame ∙ sym (ap (λ (z : Frame). z.range) x.above.frame);
        range = ap (λ (z : Frame). z.range) after_node.frame ∙ both_range b.range q.range x.ranged ∙ ap (λ (o : Option Span). range_over o q.range) (sym (ap (λ (z : Frame). z.range) x.stands.frame)) ∙ ap (λ (o : Option Span). range_over (f node).range o) (sym (ap (λ (z : Frame). z.range) x.other.frame));
      }
