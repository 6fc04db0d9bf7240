-- A branch that takes over its only child.
use Rattle.std.proofs.Common.{ℕ, zero, suc, ◌≡◌, ◌<◌, inl, inr, cond, Bool, true, false, List, [], ◌∷◌, Option, Some, None, refl, sym, ◌∙◌, ap, arith}
use Rattle.std.specs.Prelude.{All, nat_le, nat_eq, IsTrue, ◌&&◌}
use Rattle.std.specs.List.{list_all}
use Rattle.std.proofs.lemmas.Bool.{le-leb, eqb-true}
use Rattle.ks_keysets.specs.declared.Frame.{Frame}
use Rattle.ks_keysets.specs.declared.NodeState.{NodeState}
use Rattle.ks_keysets.specs.Record.{LeadsTo}
use Rattle.ks_keysets.specs.Keyset.{InInset, Good, along}
use Rattle.ks_node.specs.declared.start.Start.{Start}
use Rattle.ks_node.specs.Body.{Body, is_branch, sole, only_child_of}
use Rattle.ks_node.specs.Sound.{starts_at_zero}
use Rattle.ks_node.specs.Edges.{record_of, edges_of}
use Rattle.ks_node.specs.Effect.{collapsed}
use Rattle.ks_flow.specs.Tree.{Tree, edges_to}
use Rattle.ks_flow.specs.Changes.{graph_with, frames_with, HasBecome}
use Rattle.ks_flow.specs.Shapes.{Collapses}
use Rattle.ks_bodies.specs.Stands.{IsPlain, live_as, free_as}
use Rattle.ks_bodies.specs.Shapes.{CanCollapse, collapse}
use Rattle.ks_bodies.proofs.Led.{or_some, led, led_count, count}
use Rattle.ks_bodies.proofs.Records.{InRange, led_body, body_tidy, body_upto, body_count, acts_alike}
use Rattle.ks_bodies.proofs.Standing.{Made, sole_start, in_range, pairs_stand}

-- all of some starts lead to the only child

all_same : (c : ℕ) (ss : List Start) → list_all (λ t. nat_eq t.node c) ss ≡ true → All (λ s. s.node ≡ c) ss
all_same c [] e k d lt = absurd (omega arith)
all_same c (s ∷ ss) e zero d lt = go (nat_eq s.node c) refl e
  where
    go : (b : Bool) → nat_eq s.node c ≡ b → b && list_all (λ t. nat_eq t.node c) ss ≡ true → s.node ≡ c
    go true is h = eqb-true _ _ is
    go false is h = absurd (cc)
all_same c (s ∷ ss) e (suc k) d lt = all_same c ss (go (nat_eq s.node c) e) k d (omega arith)
  where
    go : (b : Bool) → b && list_all (λ t. nat_eq t.node c) ss ≡ true → list_all (λ t. nat_eq t.node c) ss ≡ true
    go true h = h
    go false h = absurd (cc)

one_all : (s : Start) (ss : List Start) (c : ℕ) → s.node ≡ c → All (λ t. t.node ≡ s.node) ss → All (λ t. t.node ≡ c) (s ∷ ss)
one_all s ss c e all zero d lt = e
one_all s ss c e all (suc k) d lt = all k d (omega arith) ∙ e

pub all_sole : (ss : List Start) (c : ℕ) → sole ss ≡ Some c → All (λ s. s.node ≡ c) ss
all_sole [] c e = absurd (cc)
all_sole (s ∷ ss) c e = go (list_all (λ t. nat_eq t.node s.node) ss) refl e
  where
    go : (b : Bool) → list_all (λ t. nat_eq t.node s.node) ss ≡ b → cond b (Some s.node) None ≡ Some c → All (λ t. t.node ≡ c) (s ∷ ss)
    go true is h = λ k d lt. one_all s ss c (let e : s.node ≡ c = cc in e) (all_same s.node ss is) k d lt
    go false is h = absurd (cc)

led_all : (c : ℕ) (ss : List Start) (p m : ℕ) → All (λ s. s.node ≡ c) ss → led ss p ≡ Some m → m ≡ c
led_all c [] p m all e = absurd (cc)
led_all c (s ∷ ss) p m all e = elim (or_some (led ss p) (cond (nat_le s.low p) (Some s.node) None) m e) [
  | inl h ↦ led_all c ss p m (λ k d lt. all (suc k) d (omega arith)) h
  | inr h ↦ sym (cond_is (nat_le s.low p) s.node m h.1) ∙ all 0 s (omega arith)
]
  where
    cond_is : (b : Bool) (n m : ℕ) → cond b (Some n) None ≡ Some m → n ≡ m
    cond_is true n m e = cc
    cond_is false n m e = absurd (cc)

-- starts of which the first is at 0 lead each place to a node
pub led_zero : (ss : List Start) (p : ℕ) → IsTrue (starts_at_zero ss) → (m : ℕ) × (led ss p ≡ Some m)
led_zero [] p e = absurd (cc)
led_zero (s ∷ ss) p e =
    let low : s.low ≡ 0 = eqb-true _ _ e in
    let a : nat_le s.low p ≡ true = le-leb _ _ (omega arith) in
    go a (led ss p) refl
  where
    go : nat_le s.low p ≡ true → (o : Option ℕ) → led ss p ≡ o → (m : ℕ) × (led (s ∷ ss) p ≡ Some m)
    go a None is = (s.node, rw (is, a) refl)
    go a (Some m) is = (m, rw is refl)

pub branch_child : (k : Bool) (o : Option ℕ) (c : ℕ) → cond k o None ≡ Some c → (k ≡ true) × (o ≡ Some c)
branch_child true o c e = (refl, e)
branch_child false o c e = absurd (cc)

pub sole_led : (b : Body) (child p : ℕ) → IsPlain b → only_child_of b ≡ Some child → led b.starts p ≡ Some child
sole_led b child p plain only =
    let y = branch_child (is_branch b) (sole b.starts) child only in
    let z = led_zero b.starts p (plain.sound.branch_covers y.0) in
    z.1 ∙ ap (λ (m : ℕ). Some m) (led_all child b.starts p z.0 (all_sole b.starts child y.1) z.1)

pub child_leads : (b : Body) (child : ℕ) → IsPlain b → only_child_of b ≡ Some child → 0 < edges_to (edges_of b) child
child_leads b child plain only = omega (arith, body_count b plain child, led_count b.starts 0 child (sole_led b child 0 plain only))

-- each place that comes to the node goes on to the child
pub child_down : (g : ℕ → NodeState) (f : ℕ → Frame) (node child : ℕ) (b q : Body) → Tree g f → CanCollapse g f node child b q → (p : ℕ) → InInset g node p → InInset g child p
child_down g f node child b q tree x p inset = (inset.0, along (record_of b) inset.1 x.stands.has (led_body b x.stands.plain p child (in_range g f node b tree x.stands p inset) (sole_led b child p x.stands.plain x.sole)) (record_of q, x.below.has))

module _ (g : ℕ → NodeState) (f : ℕ → Frame) (node child : ℕ) (b q : Body) (good : Good g) (tree : Tree g f) (x : CanCollapse g f node child b q) (plain : IsPlain (collapsed b q))
    (other : node ≡ child → ⊥) (made : Made g f (collapse node child b q)) where
  led_child : (p : ℕ) → led b.starts p ≡ Some child
  led_child p = sole_led b child p x.stands.plain x.sole

  leads : (p : ℕ) → InInset g node p → LeadsTo (record_of b) p child
  leads p inset = led_body b x.stands.plain p child (in_range g f node b tree x.stands p inset) (led_child p)

  down : (p : ℕ) → InInset g node p → InInset g child p
  down p inset = (inset.0, along (record_of b) inset.1 x.stands.has (leads p inset) (record_of q, x.below.has))

  after_node : HasBecome f (graph_with (collapse node child b q) g) (frames_with (collapse node child b q) f) (live_as node (collapsed b q))
  after_node = made.named 0 (free_as node) (omega arith)

  after_child : HasBecome f (graph_with (collapse node child b q) g) (frames_with (collapse node child b q) f) (free_as child)
  after_child = made.named 1 (free_as node) (omega arith)

  range : (p : ℕ) → InInset g node p → InRange (collapsed b q) p
  range p inset = let r = in_range g f node b tree x.stands p inset in record { low = r.low; last = r.last }

  no_start : count q.starts child ≡ 0
  no_start = omega (arith, sole_start g f node child child b q tree x.stands x.below other, led_count b.starts 0 child (led_child 0))

  pub meets_collapse : Collapses g (graph_with (collapse node child b q) g) f (frames_with (collapse node child b q) f) node child (record_of b) (record_of q) (record_of (collapsed b q))
  meets_collapse = record {
    differs = made.differs;
    frames = made.frames;
    before = x.stands.has;
    before_child = x.below.has;
    after = after_node.has;
    gone = after_child.has;
    leads = omega (arith, body_count b x.stands.plain child, led_count b.starts 0 child (led_child 0));
    there = λ p inset. (leads p inset, acts_alike (collapsed b q) q p plain x.below.plain (range p inset) (in_range g f child q tree x.below p (down p inset)) refl refl);
    tidy = body_tidy (collapsed b q) plain;
    edges = λ m ne. omega (arith, body_upto (collapsed b q) plain m, body_count q x.below.plain m);
    edge = omega (arith, body_upto (collapsed b q) plain child, no_start);
    pairs = pairs_stand g f child q good x.below;
    low = ap (λ (z : Frame). z.low) after_node.frame ∙ sym (ap (λ (z : Frame). z.low) x.below.frame);
    range = ap (λ (z : Frame). z.range) after_node.frame ∙ sym (ap (λ (z : Frame). z.range) x.stands.frame);
  }
