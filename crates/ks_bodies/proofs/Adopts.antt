-- If a parent may adopt what its child splits off, no edge of the parent begins there.
use Rattle.std.proofs.Common.{ℕ, ◌≡◌, ◌<◌, true, false, List, Some, refl, sym, ◌∙◌, ap, arith}
use Rattle.std.specs.Prelude.{nat_le}
use Rattle.std.proofs.lemmas.Bool.{le-leb}
use Rattle.ks_keysets.specs.declared.Frame.{Frame}
use Rattle.ks_keysets.specs.declared.NodeState.{NodeState}
use Rattle.ks_keysets.specs.Keyset.{InInset}
use Rattle.ks_node.specs.declared.start.Start.{Start}
use Rattle.ks_node.specs.Body.{Body, begins, starts_below, starts_from}
use Rattle.ks_node.specs.Edges.{record_of, edges_of}
use Rattle.ks_flow.specs.Tree.{Tree, edges_to}
use Rattle.ks_bodies.specs.Stands.{Stands}
use Rattle.ks_bodies.specs.Shapes.{CanAdopt}
use Rattle.ks_bodies.proofs.Led.{led, led_none, led_parts, led_below, led_count, count_parts, begins_from, free_or_not}
use Rattle.ks_bodies.proofs.Records.{body_ascend, body_led}
use Rattle.ks_bodies.proofs.Standing.{low_inside, one_start}
use Rattle.ks_bodies.proofs.AbsorbUnder.{SoleParent}

-- no edge of a parent begins at a cut inside its child's inset above the child's low: it would be a second edge to the child
pub adopt_free : (g : ℕ → NodeState) (f : ℕ → Frame) (parent node cut : ℕ) (u b : Body) → Tree g f → SoleParent g → CanAdopt g f parent node u → Stands g f node b → InInset g node cut → b.low < cut → 0 < edges_to (edges_of u) node → begins cut u.starts ≡ false
adopt_free g f parent node cut u b tree sole x stands inside above some = free_or_not (begins cut u.starts) twice
  where
    up : (p : ℕ) → InInset g node p → led u.starts p ≡ Some node
    up p i = (body_led u x.stands.plain p node (sole parent node p (record_of u) x.stands.has some i.1).1).0

    twice : begins cut u.starts ≡ true → ⊥
    twice t =
        let y = begins_from cut u.starts (body_ascend u x.stands.plain) t in
        let a : nat_le cut cut ≡ true = le-leb _ _ (omega arith) in
        let here : led (starts_from cut u.starts) cut ≡ Some y.0 = ap (λ (ss : List Start). led ss cut) y.2 ∙ rw (led_none y.1 cut cut y.3 (omega arith), a) refl in
        let there : led u.starts cut ≡ Some y.0 = led_parts cut u.starts cut (body_ascend u x.stands.plain) ∙ rw here refl in
        let one : Some y.0 ≡ Some node = sym there ∙ up cut inside in
        let low : led (starts_below cut u.starts) b.low ≡ Some node = led_below cut u.starts b.low above ∙ up b.low (low_inside g f node b tree stands) in
        omega (arith, count_parts cut u.starts node, one_start g f parent u tree x.stands node, led_count (starts_below cut u.starts) b.low node low, led_count (starts_from cut u.starts) cut node (here ∙ one))
