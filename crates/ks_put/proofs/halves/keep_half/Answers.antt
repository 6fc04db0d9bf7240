use Rattle.std.proofs.Common.{◌≡◌, ◌∙◌, ℕ, List, [], ◌∷◌, length, arith, refl, sym, ap, subst, inl, inr}
use Rattle.ks_history.specs.Own.{hand, drop_one}
use Rattle.ks_history.specs.Passes.{Has}
use Rattle.ks_arena.specs.Sound.{sort_of}
use Rattle.ks_arena.specs.Clauses.{seen_of}
use Rattle.ks_shape.specs.Laws.Stretches.{stretches_give}
use Rattle.ks_shape.specs.Laws.Quiet.{quiet_give}
use Rattle.ks_shape.specs.Laws.Search.{Laws}
use Rattle.ks_shape.specs.Laws.Keeping.{once, drop_first, drop_later}
use Rattle.ks_put.proofs.Keeping.{half_kept}
use Rattle.ks_shape.specs.Laws.Does.{searches_give}
use Rattle.ks_put.proofs.halves.keep_half.Given.{Over}
use Rattle.ks_put.proofs.halves.keep_half.Goals as goal
use Rattle.ks_put.proofs.halves.keep_half.Goals.{After-search_law}

laws : (g : Over) (c : After-search_law g) → Laws (sort_of g.N.Node.layout g.N.Node.ranged) c.args.arena.now.table.shared.table_id.slots
laws g c = c.search_law.ensures (sort_of g.N.Node.layout g.N.Node.ranged) c.args.arena.now.table.shared.table_id.slots

pub returns-then-place-cut-clause-path : goal.returns-then-place-cut-clause-path
returns-then-place-cut-clause-path g c = let at = (goal.at.returns-then-place-cut-clause-path g c).After-search_law in let sort = sort_of g.N.Node.layout g.N.Node.ranged in let shows = g.N.Node.body in let n : ℕ = c.args.arena.now.table.shared.table_id.slots in let me : ℕ = c.args.pass.now.caller in let h = seen_of c.args.pass.now in let k = seen_of c.give.new.pass in let i : ℕ = c.args.right.node in let e = c.give.ensures in
    let gone : hand me k ≡ drop_one i (hand me h) = subst (λ (z : ℕ). hand z k ≡ drop_one i (hand me h)) e.caller e.hand in
    let r : ℕ = c.args.right.node in let l : ℕ = c.args.left.node in let p : ℕ = c.args.parent.node in let all = once sort shows n me (laws g at) h k i c.requires.pass.sound e.pass.sound e.gave e.rest.still (r ∷ l ∷ p ∷ []) c.requires.hands in
    let has : (j : ℕ) → Has (r ∷ l ∷ p ∷ []) j → Has (hand me h) j = λ j x. subst (λ (z : List ℕ). Has z j) (sym c.requires.hands) x in
    let hands : hand me k ≡ l ∷ p ∷ [] = gone ∙ ap (drop_one r) c.requires.hands ∙ drop_first r (l ∷ p ∷ []) in
    half_kept sort shows n me (laws g at) h k i c.requires.pass.sound e.pass.sound e.gave e.rest.still c.args.place c.args.left c.args.parent hands (has l (inr (inl refl))) (has p (inr (inr (inl refl)))) (λ same. all.0 (inl same)) (λ same. all.0 (inr (inl same))) c.requires.left c.requires.parent (c.requires.below c.if-place-cut.true)

pub returns-then-place-cut-clause-stretch : goal.returns-then-place-cut-clause-stretch
returns-then-place-cut-clause-stretch g c = stretches_give c.args.pass.now.caller c.args.right.node (seen_of c.args.pass.now) (seen_of c.give.new.pass) (omega (arith, ap length c.requires.hands)) c.give.ensures.gave

pub returns-else-place-cut-clause-path : goal.returns-else-place-cut-clause-path
returns-else-place-cut-clause-path g c = let at = (goal.at.returns-else-place-cut-clause-path g c).After-search_law in let sort = sort_of g.N.Node.layout g.N.Node.ranged in let shows = g.N.Node.body in let n : ℕ = c.args.arena.now.table.shared.table_id.slots in let me : ℕ = c.args.pass.now.caller in let h = seen_of c.args.pass.now in let k = seen_of c.give-else-place-cut.new.pass in let i : ℕ = c.args.left.node in let e = c.give-else-place-cut.ensures in
    let gone : hand me k ≡ drop_one i (hand me h) = subst (λ (z : ℕ). hand z k ≡ drop_one i (hand me h)) e.caller e.hand in
    let r : ℕ = c.args.right.node in let l : ℕ = c.args.left.node in let p : ℕ = c.args.parent.node in let all = once sort shows n me (laws g at) h k i c.requires.pass.sound e.pass.sound e.gave e.rest.still (r ∷ l ∷ p ∷ []) c.requires.hands in
    let has : (j : ℕ) → Has (r ∷ l ∷ p ∷ []) j → Has (hand me h) j = λ j x. subst (λ (z : List ℕ). Has z j) (sym c.requires.hands) x in
    let hands : hand me k ≡ r ∷ p ∷ [] = gone ∙ ap (drop_one l) c.requires.hands ∙ drop_later r l (l ∷ p ∷ []) (λ same. all.0 (inl (sym same))) ∙ ap (λ (z : List ℕ). r ∷ z) (drop_first l (p ∷ [])) in
    half_kept sort shows n me (laws g at) h k i c.requires.pass.sound e.pass.sound e.gave e.rest.still c.args.place c.args.right c.args.parent hands (has r (inl refl)) (has p (inr (inr (inl refl)))) (λ same. all.0 (inl (sym same))) (λ same. all.1.0 (inl same)) c.requires.right c.requires.parent (c.requires.from (omega (arith, c.if-place-cut.false)))

pub returns-else-place-cut-clause-stretch : goal.returns-else-place-cut-clause-stretch
returns-else-place-cut-clause-stretch g c = stretches_give c.args.pass.now.caller c.args.left.node (seen_of c.args.pass.now) (seen_of c.give-else-place-cut.new.pass) (omega (arith, ap length c.requires.hands)) c.give-else-place-cut.ensures.gave

pub returns-then-place-cut-clause-quiet : goal.returns-then-place-cut-clause-quiet
returns-then-place-cut-clause-quiet g c = quiet_give c.args.pass.now.caller c.args.right.node (seen_of c.args.pass.now) (seen_of c.give.new.pass) c.give.ensures.gave

pub returns-else-place-cut-clause-quiet : goal.returns-else-place-cut-clause-quiet
returns-else-place-cut-clause-quiet g c = quiet_give c.args.pass.now.caller c.args.left.node (seen_of c.args.pass.now) (seen_of c.give-else-place-cut.new.pass) c.give-else-place-cut.ensures.gave

-- which half is kept

pub returns-then-place-cut-clause-kept : goal.returns-then-place-cut-clause-kept
returns-then-place-cut-clause-kept g c = ((λ lt. refl), λ le. absurd (omega (arith, le, c.if-place-cut.true)))

pub returns-else-place-cut-clause-kept : goal.returns-else-place-cut-clause-kept
returns-else-place-cut-clause-kept g c = ((λ lt. absurd (omega (arith, lt, c.if-place-cut.false))), λ le. refl)

-- the kinds of its events

pub returns-then-place-cut-clause-leaves : goal.returns-then-place-cut-clause-leaves
returns-then-place-cut-clause-leaves g c = searches_give c.args.pass.now.caller c.args.right.node (seen_of c.args.pass.now) (seen_of c.give.new.pass) c.give.ensures.gave

pub returns-else-place-cut-clause-leaves : goal.returns-else-place-cut-clause-leaves
returns-else-place-cut-clause-leaves g c = searches_give c.args.pass.now.caller c.args.left.node (seen_of c.args.pass.now) (seen_of c.give-else-place-cut.new.pass) c.give-else-place-cut.ensures.gave
