use Rattle.std.proofs.Common.{◌∙◌, ℕ, inr, subst, sym}
use Rattle.std.specs.Prelude.{IsTrue, Option, None}
use Rattle.ks_arena.specs.declared.held.Held.{Held as Hand}
use Rattle.ks_arena.specs.Sound.{sort_of}
use Rattle.ks_arena.specs.Clauses.{seen_of}
use Rattle.ks_node.specs.Body.{is_branch}
use Rattle.ks_node.specs.Room.{is_full}
use Rattle.ks_shape.specs.Does.{MustSplit}
use Rattle.ks_shape.specs.Down.{IsDown}
use Rattle.ks_shape.specs.OnWay.{IsOnWay}
use Rattle.ks_shape.specs.Laws.Does.{search_fills_on}
use Rattle.ks_shape.specs.Laws.Stretches.{stretches_as, stretches_both}
use Rattle.ks_put.specs.Deeper.{IsDownPart, StandsDown}
use Rattle.ks_put.specs.Narrows.{IsNarrower}
use Rattle.ks_put.proofs.Deepening.{down_quiet, path_down, quiet_gave}
use Rattle.ks_put.proofs.Going.{part_since}
use Rattle.ks_put.proofs.Narrowing.{room_narrower}
use Rattle.ks_put.proofs.splits.split.Goals as goal

-- a node that grows in place

pub split_top-requires-clause-path : goal.split_top-requires-clause-path
split_top-requires-clause-path g c = let e = c.let_go-node.ensures in let x = c.let_go-node.result in let k = seen_of c.let_go-node.new.pass in
    let way = subst (λ (z : ℕ). IsOnWay (sort_of g.N.Node.layout g.N.Node.ranged) g.N.Node.body z c.args.place k x) (sym e.caller) e.way in record {
      hands = way.alone;
      live = way.live;
      matches = way.matches;
      inside = way.inside;
      under = inr (inr (sym c.grows_in_place-grows.ensures ∙ c.if-grows.true));
    }

pub split_top-requires-clause-full : goal.split_top-requires-clause-full
split_top-requires-clause-full g c = subst (λ (x : Hand g.row.N.Denot). IsTrue (is_full g.N.Node.layout (g.N.Node.body x.body))) (sym c.let_go-node.ensures.node) c.requires.full

pub returns-then-grows-clause-fills : goal.returns-then-grows-clause-fills
returns-then-grows-clause-fills g c = λ must. let e = c.let_go-node.ensures in
    search_fills_on (sort_of g.N.Node.layout g.N.Node.ranged) c.args.place c.args.pass.now.caller c.let_go-node.new.pass.caller (seen_of c.args.pass.now) (seen_of c.let_go-node.new.pass) (seen_of c.split_top.new.pass) e.caller e.leaves
    (c.split_top.ensures.fills (subst (λ (x : Hand g.row.N.Denot). MustSplit g.N.Node.layout c.args.place (g.N.Node.body x.body)) (sym e.node) must))

pub returns-then-grows-clause-part : goal.returns-then-grows-clause-part
returns-then-grows-clause-part g c = let e = c.let_go-node.ensures in
    part_since (sort_of g.N.Node.layout g.N.Node.ranged) g.N.Node.body c.args.arena.now.nodes c.args.place c.args.pass.now.caller c.let_go-node.new.pass.caller (seen_of c.args.pass.now) (seen_of c.let_go-node.new.pass) (seen_of c.split_top.new.pass) c.args.path (record { parent = None; node = c.let_go-node.result }) c.split_top.result e.caller e.stretch e.node c.split_top.ensures.part

pub returns-then-grows-clause-open : goal.returns-then-grows-clause-open
returns-then-grows-clause-open g c = λ branchy room. c.split_top.ensures.open (λ branch. branchy (subst (λ (x : Hand g.row.N.Denot). IsTrue (is_branch (g.N.Node.body x.body))) c.let_go-node.ensures.node branch))

pub returns-then-grows-clause-stretch : goal.returns-then-grows-clause-stretch
returns-then-grows-clause-stretch g c = let me : ℕ = c.args.pass.now.caller in let h = seen_of c.args.pass.now in let h₁ = seen_of c.let_go-node.new.pass in let h₂ = seen_of c.split_top.new.pass in let e = c.let_go-node.ensures in
    stretches_both me h h₁ h₂ e.stretch (stretches_as me c.let_go-node.new.pass.caller h₁ h₂ e.caller c.split_top.ensures.stretch)

pub returns-then-grows-clause-down : goal.returns-then-grows-clause-down
returns-then-grows-clause-down g c = λ start taken roots steps down. let sort = sort_of g.N.Node.layout g.N.Node.ranged in let slots : ℕ = c.args.arena.now.table.shared.table_id.slots in let n : ℕ = c.args.arena.now.nodes in let me : ℕ = c.args.pass.now.caller in let h = seen_of c.args.pass.now in let k = seen_of c.let_go-node.new.pass in let e = c.let_go-node.ensures in let law = c.search_law.ensures sort slots in
    let there : IsDown n me start k taken roots steps c.let_go-node.result.node = subst (λ (x : Hand g.row.N.Denot). IsDown n me start k taken roots steps x.node) (sym e.node)
    (down_quiet n me start h k taken roots steps c.args.path.node.node (quiet_gave me c.args.path.parent h k e.gave) (law.turns k e.pass.sound)
    (path_down sort g.N.Node.body slots me law n c.args.place start h taken roots steps c.args.path.node c.args.path.parent c.requires.path.under down)) in
    subst (λ (z : ℕ). IsDownPart n z start (seen_of c.split_top.new.pass) taken roots steps c.split_top.result) e.caller
    (c.split_top.ensures.down start taken roots steps (subst (λ (z : ℕ). IsDown n z start k taken roots steps c.let_go-node.result.node) (sym e.caller) there))

pub returns-then-grows-clause-halves : goal.returns-then-grows-clause-halves
returns-then-grows-clause-halves g c = c.split_top.ensures.halves

pub returns-then-grows-clause-narrows : goal.returns-then-grows-clause-narrows
returns-then-grows-clause-narrows g c = room_narrower g.N.Node.layout g.N.Node.body c.args.place c.args.path c.split_top.result c.requires.full (c.split_top.ensures.halves (c.unlinked_law.ensures.stands (sym c.grows_in_place-grows.ensures ∙ c.if-grows.true)).1)

-- one that does not, below its parent

pub split_child-requires-clause-at_root : goal.split_child-requires-clause-at_root
split_child-requires-clause-at_root g c = sym c.grows_in_place-grows.ensures ∙ c.if-grows.false

pub returns-in-Some-clause-down : goal.returns-in-Some-clause-down
returns-in-Some-clause-down g c = λ start taken roots steps down. c.split_child.ensures.down start taken roots steps
    (subst (λ (o : Option (Hand g.row.N.Denot)). StandsDown c.args.arena.now.nodes c.args.pass.now.caller start (seen_of c.args.pass.now) taken roots steps c.args.path.node o) c.in-Some.is down)

pub returns-in-Some-clause-narrows : goal.returns-in-Some-clause-narrows
returns-in-Some-clause-narrows g c = subst (λ (o : Option (Hand g.row.N.Denot)). IsNarrower g.N.Node.layout g.N.Node.body c.args.place (record { parent = o; node = c.args.path.node }) c.split_child.result) (sym c.in-Some.is) c.split_child.ensures.narrows
