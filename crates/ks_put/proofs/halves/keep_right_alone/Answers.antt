use Rattle.std.proofs.Common.{◌≡◌, ◌≢◌, ◌≤◌, ◌∙◌, ℕ, false, List, ◌∷◌, length, arith, refl, sym, ap, subst, inl, inr}
use Rattle.std.specs.Prelude.{Option, Some, None}
use Rattle.ks_history.specs.declared.Event.{Event}
use Rattle.ks_history.specs.declared.Event.TheVariants.{Give}
use Rattle.ks_history.specs.Own.{hand, drop_one}
use Rattle.ks_history.specs.Passes.{Has}
use Rattle.ks_history.specs.Hand.{AreOnce}
use Rattle.ks_history.specs.Laws.Hand.{is_hand}
use Rattle.ks_node.specs.Body.{Body}
use Rattle.ks_node.specs.Room.{is_full}
use Rattle.ks_arena.specs.declared.held.Held.{Held as Hand}
use Rattle.ks_arena.specs.Sound.{Sort, sort_of}
use Rattle.ks_arena.specs.Clauses.{seen_of, hand_of, Matches}
use Rattle.ks_shape.specs.OnWay.{IsOnWay}
use Rattle.ks_shape.specs.Laws.Stretches.{stretches_as, stretches_both, stretches_give}
use Rattle.ks_shape.specs.OnPath.{IsUnder, numbers}
use Rattle.ks_shape.specs.Laws.Search.{Laws, quiet_insets}
use Rattle.ks_shape.specs.Laws.Keeping.{drop_first, drop_later}
use Rattle.ks_shape.specs.Laws.Quiet.{quiet_give, quiet_on}
use Rattle.ks_put.proofs.Deepening.{quiet_gave}
use Rattle.ks_shape.specs.Does.{MaySearch}
use Rattle.ks_shape.specs.Laws.Does.{does_on, searches_give}
use Rattle.ks_put.proofs.halves.keep_right_alone.Given.{Over}
use Rattle.ks_put.proofs.halves.keep_right_alone.Goals as goal
use Rattle.ks_put.proofs.halves.keep_right_alone.Goals.{After-search_law, After-give}

laws : (g : Over) (c : After-search_law g) → Laws (sort_of g.N.Node.layout g.N.Node.ranged) c.args.arena.now.table.shared.table_id.slots
laws g c = c.search_law.ensures (sort_of g.N.Node.layout g.N.Node.ranged) c.args.arena.now.table.shared.table_id.slots

few : {N : Type 0} (o : Option (Hand N)) (hs : List ℕ) (i j : ℕ) → hs ≡ i ∷ j ∷ numbers o → length hs ≤ 3
few None hs i j is = omega (arith, ap length is)
few (Some y) hs i j is = omega (arith, ap length is)

-- the hand has no node twice
twice : (g : Over) (c : After-give g) → Laws (sort_of g.N.Node.layout g.N.Node.ranged) c.args.arena.now.table.shared.table_id.slots → AreOnce (c.args.right.node ∷ c.args.path.node.node ∷ numbers c.args.path.parent)
twice g c law = subst AreOnce c.requires.hands (is_hand (seen_of c.args.pass.now) c.args.pass.now.caller (law.turns (seen_of c.args.pass.now) c.requires.pass.sound)).once

gone : (g : Over) (c : After-give g) → Laws (sort_of g.N.Node.layout g.N.Node.ranged) c.args.arena.now.table.shared.table_id.slots → hand c.args.pass.now.caller (seen_of c.give.new.pass) ≡ c.args.right.node ∷ numbers c.args.path.parent
gone g c law = let me : ℕ = c.args.pass.now.caller in let h = seen_of c.args.pass.now in let k = seen_of c.give.new.pass in let r : ℕ = c.args.right.node in let i : ℕ = c.args.path.node.node in let e = c.give.ensures in
    subst (λ (z : ℕ). hand z k ≡ drop_one i (hand me h)) e.caller e.hand ∙ ap (drop_one i) c.requires.hands ∙ drop_later r i (i ∷ numbers c.args.path.parent) (λ same. (twice g c law).0 (inl (sym same))) ∙ ap (λ (z : List ℕ). r ∷ z) (drop_first i (numbers c.args.path.parent))

-- a held node that is not released still matches
still : (g : Over) (c : After-give g) (y : Hand g.row.N.Denot) → Has (c.args.right.node ∷ c.args.path.node.node ∷ numbers c.args.path.parent) y.node → y.node ≢ c.args.path.node.node → Matches (sort_of g.N.Node.layout g.N.Node.ranged) g.N.Node.body (seen_of c.args.pass.now) y → Matches (sort_of g.N.Node.layout g.N.Node.ranged) g.N.Node.body (seen_of c.give.new.pass) y
still g c y has ne matches = c.give.ensures.rest.still y ne (subst (λ (z : List ℕ). Has z y.node) (sym c.requires.hands) has) matches

parent_still : {N : Type 0} (i r : ℕ) (sort : Sort) (shows : N → Body) (place : ℕ) (x : Hand N) (h k : List Event) (o : Option (Hand N)) → AreOnce (r ∷ i ∷ numbers o) → IsUnder sort shows place x h o → ((y : Hand N) → Has (r ∷ i ∷ numbers o) y.node → y.node ≢ i → Matches sort shows h y → Matches sort shows k y) → (y : Hand N) → o ≡ Some y → Matches sort shows k y
parent_still i r sort shows place x h k None once under keep y e = absurd (let q : ⊥ = cc in q)
parent_still i r sort shows place x h k (Some z) once under keep y e = let same : z ≡ y = cc in subst (Matches sort shows k) same (keep z (inr (inr (inl refl))) (λ q. once.1.0 (inl q)) under.matches)

pub keep_alone-node-requires-clause-hands : goal.keep_alone-node-requires-clause-hands
keep_alone-node-requires-clause-hands g c = let at = goal.at.keep_alone-node-requires-clause-hands g c in subst (λ (z : ℕ). hand z (seen_of c.give.new.pass) ≡ c.args.right.node ∷ numbers c.args.path.parent) (sym c.give.ensures.caller) (gone g at.After-give (laws g at.After-search_law))

pub keep_alone-node-requires-clause-other : goal.keep_alone-node-requires-clause-other
keep_alone-node-requires-clause-other g c = λ y e. let at = goal.at.keep_alone-node-requires-clause-other g c in
    parent_still c.args.path.node.node c.args.right.node (sort_of g.N.Node.layout g.N.Node.ranged) g.N.Node.body c.args.place c.args.path.node (seen_of c.args.pass.now) (seen_of c.give.new.pass) c.args.path.parent (twice g at.After-give (laws g at.After-search_law)) c.requires.under (still g at.After-give) y e

pub keep_alone-node-requires-clause-node : goal.keep_alone-node-requires-clause-node
keep_alone-node-requires-clause-node g c = let at = goal.at.keep_alone-node-requires-clause-node g c in (c.requires.right.0, still g at.After-give c.args.right (inl refl) (λ same. (twice g at.After-give (laws g at.After-search_law)).0 (inl (sym same))) c.requires.right.1)

pub keep_alone-node-requires-clause-inside : goal.keep_alone-node-requires-clause-inside
keep_alone-node-requires-clause-inside g c = let at = goal.at.keep_alone-node-requires-clause-inside g c in let law = laws g at.After-search_law in let e = c.give.ensures in let me : ℕ = c.args.pass.now.caller in let h = seen_of c.args.pass.now in let k = seen_of c.give.new.pass in let r : ℕ = c.args.right.node in
    quiet_insets (sort_of g.N.Node.layout g.N.Node.ranged) c.args.arena.now.table.shared.table_id.slots me law (Give me c.args.path.node.node) h k tt e.gave e.pass.sound r c.args.place
    ((is_hand h me (law.turns h c.requires.pass.sound)).held r (subst (λ (z : List ℕ). Has z r) (sym c.requires.hands) (inl refl)))
    ((is_hand k me (law.turns k e.pass.sound)).held r (subst (λ (z : List ℕ). Has z r) (sym (gone g at.After-give law)) (inl refl)))
    c.requires.inside

pub returns-clause-path : goal.returns-clause-path
returns-clause-path g c = let e = c.keep_alone-node.ensures in let k = seen_of c.keep_alone-node.new.pass in let x = c.keep_alone-node.result in
    let way = subst (λ (z : ℕ). IsOnWay (sort_of g.N.Node.layout g.N.Node.ranged) g.N.Node.body z c.args.place k x) c.give.ensures.caller e.way in record {
      hands = way.alone;
      live = way.live;
      matches = way.matches;
      inside = way.inside;
      under = inr (inl (subst (λ (y : Hand g.row.N.Denot). is_full g.N.Node.layout (g.N.Node.body y.body) ≡ false) (sym e.node) c.requires.room));
    }

pub returns-clause-stretch : goal.returns-clause-stretch
returns-clause-stretch g c = let me : ℕ = c.args.pass.now.caller in let h = seen_of c.args.pass.now in let h₁ = seen_of c.give.new.pass in let h₂ = seen_of c.keep_alone-node.new.pass in
    stretches_both me h h₁ h₂ (stretches_give me c.args.path.node.node h h₁ (few c.args.path.parent (hand_of c.args.pass.now) c.args.right.node c.args.path.node.node c.requires.hands) c.give.ensures.gave)
    (stretches_as me c.give.new.pass.caller h₁ h₂ c.give.ensures.caller c.keep_alone-node.ensures.stretch)

pub returns-clause-quiet : goal.returns-clause-quiet
returns-clause-quiet g c = let me : ℕ = c.args.pass.now.caller in let h = seen_of c.args.pass.now in let h₁ = seen_of c.give.new.pass in let h₂ = seen_of c.keep_alone-node.new.pass in
    quiet_on me c.give.new.pass.caller h h₁ h₂ c.give.ensures.caller (quiet_give me c.args.path.node.node h h₁ c.give.ensures.gave) (quiet_gave c.give.new.pass.caller c.args.path.parent h₁ h₂ c.keep_alone-node.ensures.gave)

pub returns-clause-leaves : goal.returns-clause-leaves
returns-clause-leaves g c = let me : ℕ = c.args.pass.now.caller in let h = seen_of c.args.pass.now in let h₁ = seen_of c.give.new.pass in
    does_on MaySearch me c.give.new.pass.caller h h₁ (seen_of c.keep_alone-node.new.pass) c.give.ensures.caller (searches_give me c.args.path.node.node h h₁ c.give.ensures.gave) c.keep_alone-node.ensures.leaves
