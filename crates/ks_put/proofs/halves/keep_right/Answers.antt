use Rattle.std.proofs.Common.{◌≡◌, ◌≤◌, ◌∙◌, ℕ, List, [], ◌∷◌, length, arith, refl, sym, ap, subst, inl, inr}
use Rattle.std.specs.Prelude.{Option, Some, None}
use Rattle.ks_history.specs.Own.{hand, drop_one}
use Rattle.ks_history.specs.Passes.{Has}
use Rattle.ks_arena.specs.declared.held.Held.{Held as Hand}
use Rattle.ks_arena.specs.Sound.{sort_of}
use Rattle.ks_arena.specs.Clauses.{seen_of, hand_of}
use Rattle.ks_shape.specs.OnPath.{numbers}
use Rattle.ks_shape.specs.Laws.Stretches.{stretches_give, stretches_here}
use Rattle.ks_shape.specs.Laws.Quiet.{quiet_give}
use Rattle.ks_put.proofs.Deepening.{quiet_here}
use Rattle.ks_shape.specs.Laws.Search.{Laws}
use Rattle.ks_shape.specs.Laws.Keeping.{once, drop_first, drop_later}
use Rattle.ks_put.proofs.Keeping.{half_kept}
use Rattle.ks_shape.specs.Does.{MaySearch}
use Rattle.ks_shape.specs.Laws.Does.{does_none, searches_give}
use Rattle.ks_put.proofs.halves.keep_right.Given.{Over}
use Rattle.ks_put.proofs.halves.keep_right.Goals as goal
use Rattle.ks_put.proofs.halves.keep_right.Goals.{After-search_law}

laws : (g : Over) (c : After-search_law g) → Laws (sort_of g.N.Node.layout g.N.Node.ranged) c.args.arena.now.table.shared.table_id.slots
laws g c = c.search_law.ensures (sort_of g.N.Node.layout g.N.Node.ranged) c.args.arena.now.table.shared.table_id.slots

few : {N : Type 0} (o : Option (Hand N)) (hs : List ℕ) (i j : ℕ) → hs ≡ i ∷ j ∷ numbers o → length hs ≤ 3
few None hs i j is = omega (arith, ap length is)
few (Some y) hs i j is = omega (arith, ap length is)

pub returns-clause-path : goal.returns-clause-path
returns-clause-path g c = let at = (goal.at.returns-clause-path g c).After-search_law in let sort = sort_of g.N.Node.layout g.N.Node.ranged in let shows = g.N.Node.body in let n : ℕ = c.args.arena.now.table.shared.table_id.slots in let me : ℕ = c.args.pass.now.caller in let h = seen_of c.args.pass.now in let k = seen_of c.give.new.pass in let i : ℕ = c.in-Some.parent.node in let e = c.give.ensures in
    let gone : hand me k ≡ drop_one i (hand me h) = subst (λ (z : ℕ). hand z k ≡ drop_one i (hand me h)) e.caller e.hand in
    let r : ℕ = c.args.right.node in let x : ℕ = c.args.path.node.node in
    let three : hand me h ≡ r ∷ x ∷ i ∷ [] = subst (λ (o : Option (Hand g.row.N.Denot)). hand me h ≡ r ∷ x ∷ numbers o) c.in-Some.is c.requires.hands in
    let all = once sort shows n me (laws g at) h k i c.requires.pass.sound e.pass.sound e.gave e.rest.still (r ∷ x ∷ i ∷ []) three in
    let hands : hand me k ≡ r ∷ x ∷ [] = gone ∙ ap (drop_one i) three ∙ drop_later r i (x ∷ i ∷ []) (λ same. all.0 (inr (inl (sym same)))) ∙ ap (λ (z : List ℕ). r ∷ z) (drop_later x i (i ∷ []) (λ same. all.1.0 (inl (sym same))) ∙ ap (λ (z : List ℕ). x ∷ z) (drop_first i [])) in
    half_kept sort shows n me (laws g at) h k i c.requires.pass.sound e.pass.sound e.gave e.rest.still c.args.place c.args.right c.args.path.node hands (subst (λ (z : List ℕ). Has z r) (sym three) (inl refl)) (subst (λ (z : List ℕ). Has z x) (sym three) (inr (inl refl))) (λ same. all.0 (inr (inl (sym same)))) (λ same. all.1.0 (inl (sym same))) c.requires.right c.requires.node c.requires.part

pub returns-clause-stretch : goal.returns-clause-stretch
returns-clause-stretch g c = stretches_give c.args.pass.now.caller c.in-Some.parent.node (seen_of c.args.pass.now) (seen_of c.give.new.pass) (few c.args.path.parent (hand_of c.args.pass.now) c.args.right.node c.args.path.node.node c.requires.hands) c.give.ensures.gave

pub returns-in_default-clause-path : goal.returns-in_default-clause-path
returns-in_default-clause-path g c = record {
  hands = c.requires.hands ∙ ap (λ (o : Option (Hand g.row.N.Denot)). c.args.right.node ∷ c.args.path.node.node ∷ numbers o) c.in_default.is;
  live = c.requires.right.0;
  matches = c.requires.right.1;
  inside = c.requires.part.1;
  under = record { live = c.requires.node.0; matches = c.requires.node.1; leads = c.requires.part.0 };
}

pub returns-in_default-clause-stretch : goal.returns-in_default-clause-stretch
returns-in_default-clause-stretch g c = stretches_here c.args.pass.now.caller (seen_of c.args.pass.now) (few c.args.path.parent (hand_of c.args.pass.now) c.args.right.node c.args.path.node.node c.requires.hands)

pub returns-clause-quiet : goal.returns-clause-quiet
returns-clause-quiet g c = quiet_give c.args.pass.now.caller c.in-Some.parent.node (seen_of c.args.pass.now) (seen_of c.give.new.pass) c.give.ensures.gave

pub returns-in_default-clause-quiet : goal.returns-in_default-clause-quiet
returns-in_default-clause-quiet g c = quiet_here c.args.pass.now.caller (seen_of c.args.pass.now)

pub returns-clause-leaves : goal.returns-clause-leaves
returns-clause-leaves g c = searches_give c.args.pass.now.caller c.in-Some.parent.node (seen_of c.args.pass.now) (seen_of c.give.new.pass) c.give.ensures.gave

pub returns-in_default-clause-leaves : goal.returns-in_default-clause-leaves
returns-in_default-clause-leaves g c = does_none MaySearch c.args.pass.now.caller (seen_of c.args.pass.now)
