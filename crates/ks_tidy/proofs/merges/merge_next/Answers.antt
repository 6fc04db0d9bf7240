use Rattle.std.proofs.Common.{◌∙◌, ℕ, true, List, length, arith, refl, sym, ap, subst, inl, inr}
use Rattle.std.specs.Prelude.{Some}
use Rattle.ks_history.specs.Trace.{graph_after}
use Rattle.ks_history.specs.Passes.{Has}
use Rattle.ks_arena.specs.Sound.{sort_of, blank_of}
use Rattle.ks_arena.specs.Clauses.{seen_of}
use Rattle.ks_shape.specs.Laws.Places.{places_both}
use Rattle.ks_shape.specs.Laws.Stretches.{stretches_as, stretches_both, stretches_here}
use Rattle.ks_shape.specs.declared.path.Path.{Path}
use Rattle.ks_shape.specs.Laws.Search.{Laws}
use Rattle.ks_shape.specs.Laws.Frees.{frees_take, frees_here}
use Rattle.ks_tidy.specs.Pair.{DidStep, IsPair, IsTrio, path_in}
use Rattle.ks_tidy.proofs.Trio.{did_after, places_took, trio_took}
use Rattle.ks_shape.specs.Laws.Does.{search_dels_on, does_none}
use Rattle.ks_history.specs.Frames.{frame_after}
use Rattle.ks_tidy.proofs.Standing.{plain, stands_now}
use Rattle.ks_tidy.proofs.Steps.{places_here}
use Rattle.ks_shape.specs.Does.{MayDel}
use Rattle.ks_tidy.proofs.merges.merge_next.Given.{Over}
use Rattle.ks_tidy.proofs.merges.merge_next.Goals as goal
use Rattle.ks_tidy.proofs.merges.merge_next.Goals.{After-take_led-right}

laws : (g : Over) (c : After-take_led-right g) → Laws (sort_of g.N.Node.layout g.N.Node.ranged) c.args.arena.now.table.shared.table_id.slots
laws g c = c.search_law.ensures (sort_of g.N.Node.layout g.N.Node.ranged) c.args.arena.now.table.shared.table_id.slots

pub take_led-right-requires-clause-above : goal.take_led-right-requires-clause-above
take_led-right-requires-clause-above g c = let path = c.requires.pair.path in record { has = subst (λ (z : List ℕ). Has z c.args.parent.node) (sym path.hands) (inr (inl refl)); live = path.under.live; matches = path.under.matches }

pub take_led-right-requires-clause-few : goal.take_led-right-requires-clause-few
take_led-right-requires-clause-few g c = omega (arith, ap length c.requires.pair.path.hands)

pub join_beside-requires-clause-trio : goal.join_beside-requires-clause-trio
join_beside-requires-clause-trio g c = let at = (goal.at.join_beside-requires-clause-trio g c).After-take_led-right in let sort = sort_of g.N.Node.layout g.N.Node.ranged in let me : ℕ = c.args.pass.now.caller in let h = seen_of c.args.pass.now in let k = seen_of c.take_led-right.new.pass in let e = c.take_led-right.ensures in
    subst (λ (z : ℕ). IsTrio sort g.N.Node.body z c.args.place k (record { parent = Some c.args.parent; node = c.args.node }) c.take_led-right.result) (sym e.caller)
    (trio_took sort g.N.Node.body c.args.arena.now.table.shared.table_id.slots me c.args.place c.in-Some.target (laws g at) h k (record { parent = Some c.args.parent; node = c.args.node }) c.take_led-right.result c.requires.pass.sound e.pass.sound c.requires.pair e.took e.rest.still)

pub join_beside-requires-clause-beside : goal.join_beside-requires-clause-beside
join_beside-requires-clause-beside g c = sym c.right_of.ensures ∙ c.in-Some.is ∙ ap (λ (z : ℕ). Some z) (sym c.take_led-right.ensures.took.node)

pub returns-in-Some-clause-pair : goal.returns-in-Some-clause-pair
returns-in-Some-clause-pair g c = subst (λ (z : ℕ). IsPair (sort_of g.N.Node.layout g.N.Node.ranged) g.N.Node.body z c.args.place (seen_of c.join_beside.new.pass) (path_in c.join_beside.result)) c.take_led-right.ensures.caller c.join_beside.ensures.pair

pub returns-in-Some-clause-places : goal.returns-in-Some-clause-places
returns-in-Some-clause-places g c = let at = (goal.at.returns-in-Some-clause-places g c).After-take_led-right in let h = seen_of c.args.pass.now in let h₁ = seen_of c.take_led-right.new.pass in let k = seen_of c.join_beside.new.pass in let i : ℕ = c.args.node.node in
    places_both (graph_after h) (graph_after h₁) (graph_after k) i i (path_in c.join_beside.result).node.node
    (places_took (sort_of g.N.Node.layout g.N.Node.ranged) g.N.Node.body c.args.arena.now.table.shared.table_id.slots c.args.pass.now.caller c.args.place c.in-Some.target (laws g at) h h₁ (record { parent = Some c.args.parent; node = c.args.node }) c.take_led-right.result c.requires.pass.sound c.take_led-right.ensures.pass.sound c.requires.pair c.take_led-right.ensures.took)
    c.join_beside.ensures.places

pub returns-in-Some-clause-stretch : goal.returns-in-Some-clause-stretch
returns-in-Some-clause-stretch g c = let me : ℕ = c.args.pass.now.caller in let h = seen_of c.args.pass.now in let h₁ = seen_of c.take_led-right.new.pass in let k = seen_of c.join_beside.new.pass in
    stretches_both me h h₁ k c.take_led-right.ensures.stretch (stretches_as me c.take_led-right.new.pass.caller h₁ k c.take_led-right.ensures.caller c.join_beside.ensures.stretch)

pub returns-in-Some-clause-step : goal.returns-in-Some-clause-step
returns-in-Some-clause-step g c = let sort = sort_of g.N.Node.layout g.N.Node.ranged in let me : ℕ = c.args.pass.now.caller in let h = seen_of c.args.pass.now in let h₁ = seen_of c.take_led-right.new.pass in let k = seen_of c.join_beside.new.pass in let path : Path g.row.N.Denot = record { parent = Some c.args.parent; node = c.args.node } in let r = c.join_beside.result in
    did_after sort g.N.Node.body me h h₁ k path r (frees_take me c.in-Some.target h h₁ c.take_led-right.ensures.took.grows)
    (subst (λ (z : ℕ). DidStep sort g.N.Node.body z h₁ k true path r) c.take_led-right.ensures.caller c.join_beside.ensures.step)

pub returns-in-Some-clause-dels : goal.returns-in-Some-clause-dels
returns-in-Some-clause-dels g c = λ low. search_dels_on (sort_of g.N.Node.layout g.N.Node.ranged) c.args.pass.now.caller c.take_led-right.new.pass.caller (seen_of c.args.pass.now) (seen_of c.take_led-right.new.pass) (seen_of c.join_beside.new.pass) c.take_led-right.ensures.caller c.take_led-right.ensures.leaves (c.join_beside.ensures.dels low)

-- there is none

pub returns-in-None-clause-places : goal.returns-in-None-clause-places
returns-in-None-clause-places g c = places_here (graph_after (seen_of c.args.pass.now)) c.args.node.node

pub returns-in-None-clause-stretch : goal.returns-in-None-clause-stretch
returns-in-None-clause-stretch g c = stretches_here c.args.pass.now.caller (seen_of c.args.pass.now) (omega (arith, ap length c.requires.pair.path.hands))

pub returns-in-None-clause-step : goal.returns-in-None-clause-step
returns-in-None-clause-step g c = let sort = sort_of g.N.Node.layout g.N.Node.ranged in let n : ℕ = c.args.arena.now.table.shared.table_id.slots in let h = seen_of c.args.pass.now in let x = c.args.node in let y = c.args.parent in let path = c.requires.pair.path in let no_link = c.unlinked_law.ensures.no_link in
    record {
      same = refl;
      frees = frees_here c.args.pass.now.caller h;
      no_sole = c.requires.no_sole;
      tested = λ whole which alone. c.alone_law.ensures.last g.N.Node.layout (graph_after h) (frame_after (blank_of sort) h) y.node x.node c.args.place (g.N.Node.body y.body) (g.N.Node.body x.body) ((c.search_law.ensures sort n).facts h c.requires.pass.sound)
          (stands_now sort g.N.Node.body h y path.under.live path.under.matches (plain (g.N.Node.body y.body) c.node_law.ensures.sound c.node_law.ensures.framed (no_link y.body)))
          (stands_now sort g.N.Node.body h x path.live path.matches (plain (g.N.Node.body x.body) c.node_law-in-None.ensures.sound c.node_law-in-None.ensures.framed (no_link x.body)))
          path.under.leads c.requires.unchained (sym c.right_of.ensures ∙ c.in-None.is);
    }

pub returns-in-None-clause-dels : goal.returns-in-None-clause-dels
returns-in-None-clause-dels g c = λ low. does_none (MayDel (sort_of g.N.Node.layout g.N.Node.ranged)) c.args.pass.now.caller (seen_of c.args.pass.now)
