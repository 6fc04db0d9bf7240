use Rattle.std.proofs.Common.{◌∙◌, ℕ, true, List, refl, sym, ap, subst, inl, ◌≡◌, arith}
use Rattle.std.specs.Prelude.{Some, None}
use Rattle.ks_history.specs.Trace.{graph_after}
use Rattle.ks_history.specs.Passes.{Has}
use Rattle.ks_arena.specs.Sound.{sort_of, blank_of}
use Rattle.ks_arena.specs.Clauses.{hand_of, seen_of}
use Rattle.ks_shape.specs.Laws.Places.{places_both}
use Rattle.ks_shape.specs.Laws.Stretches.{stretches_as, stretches_both, stretches_here}
use Rattle.ks_shape.specs.Laws.Search.{Laws}
use Rattle.ks_shape.specs.Laws.Frees.{frees_take, frees_here}
use Rattle.ks_tidy.specs.Pair.{DidStep, IsPair, IsTrio, path_in}
use Rattle.ks_tidy.proofs.Keeping.{few_on}
use Rattle.ks_tidy.proofs.Trio.{did_after, places_took, trio_took}
use Rattle.ks_shape.specs.Laws.Does.{search_dels_on, does_none}
use Rattle.ks_keysets.specs.Tight.{FitsNoRight}
use Rattle.ks_history.specs.Frames.{frame_after}
use Rattle.ks_bodies.specs.Stands.{Stands}
use Rattle.ks_tidy.proofs.Standing.{plain, stands_now}
use Rattle.ks_tidy.proofs.Steps.{places_here, did_with, pair_as}
use Rattle.ks_shape.specs.Does.{MayDel}
use Rattle.ks_shape.specs.declared.path.Path.{Path}
use Rattle.ks_tidy.specs.declared.step.Step.TheVariants.{Rests}
use Rattle.ks_tidy.proofs.merges.merge.Given.{Over}
use Rattle.ks_tidy.proofs.merges.merge.Goals as goal
use Rattle.ks_tidy.proofs.merges.merge.Goals.{After-take_led-next}

laws : (g : Over) (c : After-take_led-next g) → Laws (sort_of g.N.Node.layout g.N.Node.ranged) c.args.arena.now.table.shared.table_id.slots
laws g c = c.search_law.ensures (sort_of g.N.Node.layout g.N.Node.ranged) c.args.arena.now.table.shared.table_id.slots

pub take_led-next-requires-clause-above : goal.take_led-next-requires-clause-above
take_led-next-requires-clause-above g c = let path = c.requires.pair.path in record { has = subst (λ (z : List ℕ). Has z c.args.path.node.node) (sym path.hands) (inl refl); live = path.live; matches = path.matches }

pub take_led-next-requires-clause-few : goal.take_led-next-requires-clause-few
take_led-next-requires-clause-few g c = few_on c.args.path.parent (hand_of c.args.pass.now) c.args.path.node.node c.requires.pair.path.hands

pub join_own-requires-clause-trio : goal.join_own-requires-clause-trio
join_own-requires-clause-trio g c = let at = (goal.at.join_own-requires-clause-trio g c).After-take_led-next in let sort = sort_of g.N.Node.layout g.N.Node.ranged in let me : ℕ = c.args.pass.now.caller in let h = seen_of c.args.pass.now in let k = seen_of c.take_led-next.new.pass in let e = c.take_led-next.ensures in
    subst (λ (z : ℕ). IsTrio sort g.N.Node.body z c.args.place k c.args.path c.take_led-next.result) (sym e.caller)
    (trio_took sort g.N.Node.body c.args.arena.now.table.shared.table_id.slots me c.args.place c.in-Some.target (laws g at) h k c.args.path c.take_led-next.result c.requires.pass.sound e.pass.sound c.requires.pair e.took e.rest.still)

pub join_own-requires-clause-chained : goal.join_own-requires-clause-chained
join_own-requires-clause-chained g c = sym c.chained-right.ensures ∙ c.in-Some.is ∙ ap (λ (z : ℕ). Some z) (sym c.take_led-next.ensures.took.node)

pub returns-in-Some-clause-pair : goal.returns-in-Some-clause-pair
returns-in-Some-clause-pair g c = subst (λ (z : ℕ). IsPair (sort_of g.N.Node.layout g.N.Node.ranged) g.N.Node.body z c.args.place (seen_of c.join_own.new.pass) (path_in c.join_own.result)) c.take_led-next.ensures.caller c.join_own.ensures.pair

pub returns-in-Some-clause-places : goal.returns-in-Some-clause-places
returns-in-Some-clause-places g c = let at = (goal.at.returns-in-Some-clause-places g c).After-take_led-next in let h = seen_of c.args.pass.now in let h₁ = seen_of c.take_led-next.new.pass in let k = seen_of c.join_own.new.pass in let i : ℕ = c.args.path.node.node in
    places_both (graph_after h) (graph_after h₁) (graph_after k) i i (path_in c.join_own.result).node.node
    (places_took (sort_of g.N.Node.layout g.N.Node.ranged) g.N.Node.body c.args.arena.now.table.shared.table_id.slots c.args.pass.now.caller c.args.place c.in-Some.target (laws g at) h h₁ c.args.path c.take_led-next.result c.requires.pass.sound c.take_led-next.ensures.pass.sound c.requires.pair c.take_led-next.ensures.took)
    c.join_own.ensures.places

pub returns-in-Some-clause-stretch : goal.returns-in-Some-clause-stretch
returns-in-Some-clause-stretch g c = let me : ℕ = c.args.pass.now.caller in let h = seen_of c.args.pass.now in let h₁ = seen_of c.take_led-next.new.pass in let k = seen_of c.join_own.new.pass in
    stretches_both me h h₁ k c.take_led-next.ensures.stretch (stretches_as me c.take_led-next.new.pass.caller h₁ k c.take_led-next.ensures.caller c.join_own.ensures.stretch)

pub returns-in-Some-clause-step : goal.returns-in-Some-clause-step
returns-in-Some-clause-step g c = let sort = sort_of g.N.Node.layout g.N.Node.ranged in let me : ℕ = c.args.pass.now.caller in let h = seen_of c.args.pass.now in let h₁ = seen_of c.take_led-next.new.pass in let k = seen_of c.join_own.new.pass in let path = c.args.path in let r = c.join_own.result in
    did_after sort g.N.Node.body me h h₁ k path r (frees_take me c.in-Some.target h h₁ c.take_led-next.ensures.took.grows)
    (subst (λ (z : ℕ). DidStep sort g.N.Node.body z h₁ k true path r) c.take_led-next.ensures.caller c.join_own.ensures.step)

pub returns-in-Some-clause-dels : goal.returns-in-Some-clause-dels
returns-in-Some-clause-dels g c = λ low. search_dels_on (sort_of g.N.Node.layout g.N.Node.ranged) c.args.pass.now.caller c.take_led-next.new.pass.caller (seen_of c.args.pass.now) (seen_of c.take_led-next.new.pass) (seen_of c.join_own.new.pass) c.take_led-next.ensures.caller c.take_led-next.ensures.leaves (c.join_own.ensures.dels low)

-- there is none: the node leads to none itself, and its parent is not held

pub returns-in-None-parent-clause-pair : goal.returns-in-None-parent-clause-pair
returns-in-None-parent-clause-pair g c = pair_as (sort_of g.N.Node.layout g.N.Node.ranged) g.N.Node.body c.args.pass.now.caller c.args.place (seen_of c.args.pass.now) c.args.path None c.in-None-parent.is c.requires.pair

pub returns-in-None-parent-clause-places : goal.returns-in-None-parent-clause-places
returns-in-None-parent-clause-places g c = places_here (graph_after (seen_of c.args.pass.now)) c.args.path.node.node

pub returns-in-None-parent-clause-stretch : goal.returns-in-None-parent-clause-stretch
returns-in-None-parent-clause-stretch g c = stretches_here c.args.pass.now.caller (seen_of c.args.pass.now) (let few = few_on c.args.path.parent (hand_of c.args.pass.now) c.args.path.node.node c.requires.pair.path.hands in omega (arith, few))

pub returns-in-None-parent-clause-step : goal.returns-in-None-parent-clause-step
returns-in-None-parent-clause-step g c = let sort = sort_of g.N.Node.layout g.N.Node.ranged in let n : ℕ = c.args.arena.now.table.shared.table_id.slots in let me : ℕ = c.args.pass.now.caller in let h = seen_of c.args.pass.now in let x = c.args.path.node in let path = c.requires.pair.path in
    let stands = stands_now sort g.N.Node.body h x path.live path.matches (plain (g.N.Node.body x.body) c.node_law.ensures.sound c.node_law.ensures.framed (c.unlinked_law.ensures.no_link x.body)) in
    let rests : Path g.row.N.Denot = record { parent = None; node = x } in
    did_with sort g.N.Node.body me h h true c.args.path None (Rests rests) c.in-None-parent.is (record {
      same = refl;
      frees = frees_here me h;
      no_sole = tt;
      tested = λ whole which alone. let zero : x.node ≡ 0 = whole refl in
          let at : Stands (graph_after h) (frame_after (blank_of sort) h) 0 (g.N.Node.body x.body) = subst (λ (z : ℕ). Stands (graph_after h) (frame_after (blank_of sort) h) z (g.N.Node.body x.body)) zero stands in
          subst (λ (z : ℕ). FitsNoRight g.N.Node.layout (graph_after h) (frame_after (blank_of sort) h) z) (sym zero)
          (c.alone_law.ensures.root g.N.Node.layout (graph_after h) (frame_after (blank_of sort) h) (g.N.Node.body x.body) ((c.search_law.ensures sort n).facts h c.requires.pass.sound) at (sym c.chained-right.ensures ∙ c.in-None.is));
    })

pub returns-in-None-parent-clause-dels : goal.returns-in-None-parent-clause-dels
returns-in-None-parent-clause-dels g c = λ low. does_none (MayDel (sort_of g.N.Node.layout g.N.Node.ranged)) c.args.pass.now.caller (seen_of c.args.pass.now)

-- below its parent

pub merge_next-requires-clause-pair : goal.merge_next-requires-clause-pair
merge_next-requires-clause-pair g c = pair_as (sort_of g.N.Node.layout g.N.Node.ranged) g.N.Node.body c.args.pass.now.caller c.args.place (seen_of c.args.pass.now) c.args.path (Some c.in-Some-parent.parent) c.in-Some-parent.is c.requires.pair

pub returns-in-Some-parent-clause-step : goal.returns-in-Some-parent-clause-step
returns-in-Some-parent-clause-step g c = did_with (sort_of g.N.Node.layout g.N.Node.ranged) g.N.Node.body c.args.pass.now.caller (seen_of c.args.pass.now) (seen_of c.merge_next.new.pass) true c.args.path (Some c.in-Some-parent.parent) c.merge_next.result c.in-Some-parent.is c.merge_next.ensures.step
