use Rattle.std.proofs.Common.{◌≡◌, ◌≢◌, ◌≤◌, ◌∙◌, ℕ, List, ◌∷◌, length, arith, refl, sym, ap, subst, inl, inr}
use Rattle.std.specs.Prelude.{Option, Some, None}
use Rattle.ks_history.specs.Own.{hand, drop_one}
use Rattle.ks_history.specs.Passes.{Has}
use Rattle.ks_arena.specs.declared.held.Held.{Held as Hand}
use Rattle.ks_arena.specs.Sound.{sort_of}
use Rattle.ks_arena.specs.Clauses.{seen_of}
use Rattle.ks_shape.specs.OnPath.{numbers}
use Rattle.ks_shape.specs.Laws.Stretches.{stretches_give}
use Rattle.ks_shape.specs.Laws.Search.{Laws}
use Rattle.ks_shape.specs.Laws.Keeping.{once, drop_first, path_kept}
use Rattle.ks_shape.proofs.path.keep_left.Given.{Over}
use Rattle.ks_shape.proofs.path.keep_left.Goals as goal
use Rattle.ks_shape.proofs.path.keep_left.Goals.{After-search_law}
use Rattle.ks_shape.specs.Laws.Does.{searches_give}

laws : (g : Over) (c : After-search_law g) → Laws (sort_of g.N.Node.layout g.N.Node.ranged) c.args.arena.now.table.shared.table_id.slots
laws g c = c.search_law.ensures (sort_of g.N.Node.layout g.N.Node.ranged) c.args.arena.now.table.shared.table_id.slots

parent_in : {N : Type 0} (r x : ℕ) (o : Option (Hand N)) (hs : List ℕ) → hs ≡ r ∷ x ∷ numbers o → (¬ Has (x ∷ numbers o) r) → (y : Hand N) → o ≡ Some y → Has hs y.node × (y.node ≢ r)
parent_in {N = N} r x None hs is none y e = absurd (cc)
parent_in {N = N} r x (Some z) hs is none y e = let same : z ≡ y = cc in
    (subst (λ (l : List ℕ). Has l y.node) (sym is) (inr (inr (inl (ap (λ (w : Hand N). w.node) same)))), λ q. none (inr (inl (ap (λ (w : Hand N). w.node) same ∙ q))))

few : {N : Type 0} (o : Option (Hand N)) (hs : List ℕ) (i j : ℕ) → hs ≡ i ∷ j ∷ numbers o → length hs ≤ 3
few None hs i j is = omega (arith, ap length is)
few (Some y) hs i j is = omega (arith, ap length is)

fewer : {N : Type 0} (o : Option (Hand N)) (hs : List ℕ) (i : ℕ) → hs ≡ i ∷ numbers o → length hs ≤ 3
fewer None hs i is = omega (arith, ap length is)
fewer (Some y) hs i is = omega (arith, ap length is)

pub returns-clause-path : goal.returns-clause-path
returns-clause-path g c = let at = (goal.at.returns-clause-path g c).After-search_law in let sort = sort_of g.N.Node.layout g.N.Node.ranged in let shows = g.N.Node.body in let n : ℕ = c.args.arena.now.table.shared.table_id.slots in let me : ℕ = c.args.pass.now.caller in let h = seen_of c.args.pass.now in let k = seen_of c.give.new.pass in let i : ℕ = c.args.right.node in let e = c.give.ensures in
    let gone : hand me k ≡ drop_one i (hand me h) = subst (λ (z : ℕ). hand z k ≡ drop_one i (hand me h)) e.caller e.hand in
    let x : ℕ = c.args.path.node.node in let o = c.args.path.parent in
    let hands : hand me k ≡ x ∷ numbers o = gone ∙ ap (drop_one i) c.requires.hands ∙ drop_first i (x ∷ numbers o) in
    let all = once sort shows n me (laws g at) h k i c.requires.pass.sound e.pass.sound e.gave e.rest.still (i ∷ x ∷ numbers o) c.requires.hands in
    path_kept sort shows n me (laws g at) h k i c.requires.pass.sound e.pass.sound e.gave e.rest.still c.args.place c.args.path.node o hands (subst (λ (z : List ℕ). Has z x) (sym c.requires.hands) (inr (inl refl))) (λ same. all.0 (inl same)) (parent_in i x o (hand me h) c.requires.hands all.0) c.requires.node c.requires.inside c.requires.under

pub returns-clause-stretch : goal.returns-clause-stretch
returns-clause-stretch g c = let at = (goal.at.returns-clause-stretch g c).After-search_law in let sort = sort_of g.N.Node.layout g.N.Node.ranged in let shows = g.N.Node.body in let n : ℕ = c.args.arena.now.table.shared.table_id.slots in let me : ℕ = c.args.pass.now.caller in let h = seen_of c.args.pass.now in let k = seen_of c.give.new.pass in let i : ℕ = c.args.right.node in let e = c.give.ensures in
    let gone : hand me k ≡ drop_one i (hand me h) = subst (λ (z : ℕ). hand z k ≡ drop_one i (hand me h)) e.caller e.hand in
    let x : ℕ = c.args.path.node.node in let o = c.args.path.parent in
    let hands : hand me k ≡ x ∷ numbers o = gone ∙ ap (drop_one i) c.requires.hands ∙ drop_first i (x ∷ numbers o) in
    stretches_give me i h k (few o (hand me h) i x c.requires.hands) e.gave

pub returns-clause-leaves : goal.returns-clause-leaves
returns-clause-leaves g c = searches_give c.args.pass.now.caller c.args.right.node (seen_of c.args.pass.now) (seen_of c.give.new.pass) c.give.ensures.gave
