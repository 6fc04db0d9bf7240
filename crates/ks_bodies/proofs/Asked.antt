-- What the calls of a shape require of bodies holds of nodes in a tree.
use Rattle.std.proofs.Common.{ℕ, suc, ◌≡◌, ◌<◌, ◌≤◌, ◌+◌, ◌-◌, ◌==◌, Bool, true, false, List, [], ◌∷◌, ◌++◌, Option, Some, None, refl, sym, ◌∙◌, ap, subst, arith, length, get_or, eq-eqb, IsTrue}
use Rattle.std.specs.Prelude.{All, is_some, max, drop}
use Rattle.std.specs.Option.{ForSome}
use Rattle.ks_keysets.specs.declared.Frame.{Frame}
use Rattle.ks_keysets.specs.declared.Span.{Span}
use Rattle.ks_keysets.specs.declared.Pair.{Pair}
use Rattle.ks_keysets.specs.declared.NodeState.{NodeState}
use Rattle.ks_keysets.specs.Record.{LeadsTo}
use Rattle.ks_keysets.specs.Keyset.{InInset, Good}
use Rattle.ks_node.specs.declared.start.Start.{Start}
use Rattle.ks_node.specs.Body.{Body, is_branch, first_of, last_of, first_node}
use Rattle.ks_node.specs.Laws.Ascend.{all_below}
use Rattle.ks_node.specs.Edges.{record_of, edges_of}
use Rattle.ks_node.specs.Effect.{split_left, split_right, reached, ends_at, begins_at}
use Rattle.std.specs.Prelude.{◌&&◌}
use Rattle.ks_keysets.specs.declared.Kind.{Kind}
use Rattle.ks_keysets.specs.declared.Kind.TheVariants.{NoBranch, Inner, Directory}
use Rattle.ks_keysets.specs.Layout.{Layout}
use Rattle.ks_keysets.specs.Tight.{capacity}
use Rattle.ks_node.specs.Room.{fit_together, fit_kinds, is_room_for, load}
use Rattle.ks_node.specs.Asks.{IsCut, AreNext, Absorbs}
use Rattle.ks_flow.specs.Tree.{Tree, edges_to}
use Rattle.ks_bodies.specs.Stands.{Stands}
use Rattle.ks_bodies.specs.Shapes.{CanPart, CanAdopt, CanAbsorbOwn, CanAbsorbUnder, CanCollapse}
use Rattle.ks_bodies.proofs.Led.{count}
use Rattle.ks_bodies.proofs.Parts.{over_parts}
use Rattle.ks_bodies.proofs.Standing.{in_range, low_le, low_inside, pairs_stand}
use Rattle.ks_bodies.proofs.Used.{used_start}
use Rattle.ks_bodies.proofs.AbsorbUnder.{SoleParent}
use Rattle.ks_bodies.proofs.Absorb as own
use Rattle.ks_bodies.proofs.AbsorbUnder as under

-- a node that splits

pub no_pairs : (ps : List Pair) (P : Pair → Type 0) → length ps ≡ 0 → All P ps
no_pairs [] P e k d lt = absurd (omega arith)
no_pairs (x ∷ ps) P e k d lt = absurd (omega arith)

cut_last : (o : Option Span) (cut : ℕ) → cut ≤ last_of o → ForSome o (λ r. cut ≤ r.last)
cut_last None cut le r e = absurd (cc)
cut_last (Some t) cut le r e = let same : t ≡ r = cc in subst (λ (s : Span). cut ≤ s.last) same le

pub adopt_asks : (g : ℕ → NodeState) (f : ℕ → Frame) (parent node cut : ℕ) (u b : Body) → Good g → Tree g f → SoleParent g → CanAdopt g f parent node u → Stands g f node b → InInset g node cut → b.low < cut → 0 < edges_to (edges_of u) node →
    IsCut u cut × All (λ x. x.place < cut) u.pairs
adopt_asks g f parent node cut u b good tree sole x stands inside above some =
    let up = sole parent node cut (record_of u) x.stands.has some inside.1 in
    let low = low_inside g f node b tree stands in
    let under = low_le g f parent u tree x.stands b.low (low.0, (sole parent node b.low (record_of u) x.stands.has some low.1).0) in
    let range = in_range g f parent u tree x.stands cut (inside.0, up.0) in
    ((omega (arith, under), cut_last u.range cut range.last), no_pairs u.pairs (λ x. x.place < cut) (x.stands.plain.sound.branch_no_pairs x.branch))

next_parts : (o : Option Span) (cut : ℕ) → 0 < cut → ForSome (ends_at (cut - 1) o) (λ r. ForSome (begins_at cut o) (λ q. suc r.last ≡ q.low))
next_parts None cut lt r e = absurd (cc)
next_parts (Some s) cut lt r e = λ q e'.
    let x : record { low = s.low; last = cut - 1 } ≡ r = cc in
    let y : record { low = cut; last = s.last } ≡ q = cc in
    let a : cut - 1 ≡ r.last = ap (λ (z : Span). z.last) x in
    let b : cut ≡ q.low = ap (λ (z : Span). z.low) y in
    omega (arith, a, b)

pub own_asks : (g : ℕ → NodeState) (f : ℕ → Frame) (node right cut : ℕ) (b : Body) → CanPart g f node right cut b →
    AreNext (split_left cut b) (split_right cut b) × IsCut (reached (split_left cut b) (split_right cut b)) cut × All (λ x. x.place < cut) (reached (split_left cut b) (split_right cut b)).pairs
own_asks g f node right cut b x = (
  next_parts b.range cut (omega (arith, x.splits.0.0)),
  (x.splits.0.0, subst (λ (o : Option Span). ForSome o (λ r. cut ≤ r.last)) (sym (over_parts (cut - 1) cut b.range)) x.splits.0.1),
  all_below (λ x. x.place) cut b.pairs,
)

-- two nodes that fit are of one kind
pub fit_alike : (layout : Layout) (b q : Body) → IsTrue (fit_together layout b q) → b.kind ≡ q.kind
fit_alike layout b q fits = go b.kind q.kind (is_room_for (capacity layout b.kind) (load b + load q)) fits
  where
    go : (k l : Kind) (r : Bool) → fit_kinds k l && r ≡ true → k ≡ l
    go NoBranch NoBranch r e = refl
    go NoBranch Inner r e = cc
    go NoBranch Directory r e = cc
    go Inner Inner r e = refl
    go Inner NoBranch r e = cc
    go Inner Directory r e = cc
    go Directory l r e = cc

-- a node that absorbs the node at its own edge

ends_le : (o o' : Option Span) → is_some o ≡ is_some o' → ends_at (last_of o') o ≡ o → last_of o ≤ last_of o'
ends_le None None e e' = omega arith
ends_le None (Some t) e e' = absurd (cc)
ends_le (Some r) o' e e' = let x : record { low = r.low; last = last_of o' } ≡ r = cc in omega (arith, ap (λ (z : Span). z.last) x)

differ : {A : Type 0} {b : Bool} → b ≡ true → b ≡ false → A
differ e f = absurd (cc)

pub absorb_own_asks : (g : ℕ → NodeState) (f : ℕ → Frame) (node right : ℕ) (b q : Body) → Good g → (tree : Tree g f) (x : CanAbsorbOwn g f node right b q) → (node ≡ right → ⊥) → ((p : ℕ) → InInset g right p → InInset g node p × LeadsTo (record_of b) p right) → Absorbs b q
absorb_own_asks g f node right b q good tree x other up = record {
  lows = low_le g f node b tree x.stands q.low (up q.low (low_inside g f right q tree x.other)).0;
  above_pairs = λ k d lt. omega (arith, low, below k d lt);
  above_edges = λ e. differ e leaf;
  right_pairs = λ k d lt. low_le g f right q tree x.other _ (pairs_stand g f right q good x.other k d lt).0;
  right_own = λ e. x.other.plain.sound.own_low (own.leaf g f node right b q good tree x other up);
  right_edges = λ e. differ e (own.leaf g f node right b q good tree x other up);
  ends = ends_le b.range q.range x.ranged (own.same_end g f node right b q good tree x other up);
}
  where
    leaf : is_branch b ≡ false
    leaf = (own.own g f node right b q good tree x other up).0

    low : (own.own g f node right b q good tree x other up).1 ≤ q.low
    low = own.seam_low g f node right b q good tree x other up

    below : All (λ y. y.place < (own.own g f node right b q good tree x other up).1) b.pairs
    below = subst (λ (ss : List Start). All (λ s. All (λ y. y.place < s.low) b.pairs) ss) (own.own g f node right b q good tree x other up).2 (x.stands.plain.sound.own_pairs (own.own g f node right b q good tree x other up).0) 0 (record { low = (own.own g f node right b q good tree x other up).1; node = right }) (omega arith)

-- a node that absorbs the node to which its parent leads next

first_apart : (ahead rest : List Start) (s : Start) (right : ℕ) → count ahead right ≡ 0 → (s.node ≡ right → ⊥) → first_node (ahead ++ s ∷ rest) ≡ Some right → ⊥
first_apart [] rest s right none ne e = let same : s.node ≡ right = cc in ne same
first_apart (x ∷ xs) rest s right none ne e =
    let same : x.node ≡ right = cc in
    let t : (x.node == right) ≡ true = eq-eqb x.node right same in
    let c : 1 + count xs right ≡ 0 = rw t at none in
    omega (arith, c)

module _ (g : ℕ → NodeState) (f : ℕ → Frame) (parent node right : ℕ) (u b q : Body) (good : Good g) (tree : Tree g f) (x : CanAbsorbUnder g f parent node right u b q)
    (sole : SoleParent g) (apart : (c : ℕ) → 0 < edges_to (edges_of u) c → parent ≡ c → ⊥) where
  seam : ℕ
  seam = under.c g f parent node right u b q good tree x sole apart

  node_below : (p : ℕ) → InInset g node p → p < q.low
  node_below p i = omega (arith, (under.to_node g f parent node right u b q good tree x sole apart p (under.up_node g f parent node right u b q good tree x sole apart p i).1).1, under.seam_low g f parent node right u b q good tree x sole apart)

  starts_below : All (λ s. max (first_of b.range) s.low < q.low) b.starts
  starts_below k d lt =
      let y = used_start g f node b good tree sole x.stands k d lt in
      omega (arith, y.2, node_below y.0 y.1, (in_range g f node b tree x.stands y.0 y.1).low)

  later_above : (ss : List Start) → ((i : ℕ) (d : Start) → i < length ss → (p : ℕ) × InInset g right p × ((get_or ss i d).low ≤ p) × (suc i < length ss → p < (get_or ss (suc i) d).low)) → All (λ s. q.low < s.low) (drop 1 ss)
  later_above [] used k d lt = absurd (omega arith)
  later_above (s ∷ ss) used k d lt = let z = used k d (omega arith) in omega (arith, low_le g f right q tree x.other z.0 z.1, z.3 (omega arith))

  last_le : (o o' : Option Span) → is_some o ≡ is_some o' → b.range ≡ o → q.range ≡ o' → last_of o ≤ last_of o'
  last_le None None e i j = omega arith
  last_le None (Some t) e i j = absurd (cc)
  last_le (Some r) None e i j = absurd (cc)
  last_le (Some r) (Some t) e i j =
      let y = tree.range node r (record_of b, x.stands.has) (ap (λ (z : Frame). z.range) x.stands.frame ∙ i) in
      let z = tree.range right t (record_of q, x.other.has) (ap (λ (z : Frame). z.range) x.other.frame ∙ j) in
      omega (arith, node_below r.last (y.back r.last y.filled (omega arith)), (z.forth q.low (low_inside g f right q tree x.other)).1)

  pub absorb_under_asks : Absorbs b q
  absorb_under_asks = record {
    lows = omega (arith, node_below b.low (low_inside g f node b tree x.stands));
    above_pairs = λ k d lt. node_below _ (pairs_stand g f node b good x.stands k d lt).0;
    above_edges = λ e. starts_below;
    right_pairs = λ k d lt. low_le g f right q tree x.other _ (pairs_stand g f right q good x.other k d lt).0;
    right_own = λ e. x.other.plain.sound.own_low e;
    right_edges = λ e. later_above q.starts (λ i d lt. used_start g f right q good tree sole x.other i d lt);
    ends = last_le b.range q.range x.ranged refl refl;
  }

  pub forget_asks : first_node u.starts ≡ Some right → ⊥
  forget_asks e = first_apart (under.side g f parent node right u b q good tree x sole apart).ahead
      (record { low = under.c g f parent node right u b q good tree x sole apart; node = right } ∷ (under.side g f parent node right u b q good tree x sole apart).rest)
      (record { low = under.a g f parent node right u b q good tree x sole apart; node = node }) right
      (under.none_before g f parent node right u b q good tree x sole apart)
      (under.other g f parent node right u b q good tree x sole apart)
      (ap first_node (sym (under.side g f parent node right u b q good tree x sole apart).are) ∙ e)

-- a branch and its only child

pub collapse_asks : (g : ℕ → NodeState) (f : ℕ → Frame) (node child : ℕ) (b q : Body) → Tree g f → SoleParent g → CanCollapse g f node child b q → is_some b.range ≡ is_some q.range → 0 < edges_to (edges_of b) child → ((p : ℕ) → InInset g node p → InInset g child p) → b.range ≡ q.range
collapse_asks g f node child b q tree sole x ranged some down = go b.range q.range refl refl ranged
  where
    up : (p : ℕ) → InInset g child p → InInset g node p
    up p i = (i.0, (sole node child p (record_of b) x.stands.has some i.1).0)

    go : (o o' : Option Span) → b.range ≡ o → q.range ≡ o' → is_some b.range ≡ is_some q.range → b.range ≡ q.range
    go None None i j e = i ∙ sym j
    go None (Some t) i j e = let h : false ≡ true = sym (ap is_some i) ∙ e ∙ ap is_some j in absurd (cc)
    go (Some r) None i j e = let h : true ≡ false = sym (ap is_some i) ∙ e ∙ ap is_some j in absurd (cc)
    go (Some r) (Some t) i j e =
        let y = tree.range node r (record_of b, x.stands.has) (ap (λ (z : Frame). z.range) x.stands.frame ∙ i) in
        let z = tree.range child t (record_of q, x.below.has) (ap (λ (z : Frame). z.range) x.below.frame ∙ j) in
        let first : r.low ≡ t.low = omega (arith, (z.forth r.low (down r.low (y.back r.low (omega arith) y.filled))).0, (y.forth t.low (up t.low (z.back t.low (omega arith) z.filled))).0) in
        let end : r.last ≡ t.last = omega (arith, (z.forth r.last (down r.last (y.back r.last y.filled (omega arith)))).1, (y.forth t.last (up t.last (z.back t.last z.filled (omega arith)))).1) in
        i ∙ ap (λ (n : ℕ). Some (record { low = n; last = r.last })) first ∙ ap (λ (n : ℕ). Some (record { low = t.low; last = n })) end ∙ sym j
