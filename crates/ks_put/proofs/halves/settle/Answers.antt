use Rattle.std.proofs.Common.{◌≡◌, ◌∙◌, ◌≤◌, ℕ, List, ◌∷◌, length, true, false, inl, inr, refl, sym, ap, subst, arith}
use Rattle.std.specs.Prelude.{Option, Some, None}
use Rattle.ks_node.specs.Room.{is_full}
use Rattle.ks_arena.specs.declared.held.Held.{Held as Hand}
use Rattle.ks_arena.specs.Clauses.{seen_of, hand_of}
use Rattle.ks_shape.specs.Laws.Stretches.{stretches_here}
use Rattle.ks_shape.specs.OnPath.{numbers}
use Rattle.ks_arena.specs.Sound.{sort_of}
use Rattle.ks_shape.specs.Down.{IsDown}
use Rattle.ks_put.proofs.Deepening.{down_quiet, path_down, quiet_gave}
use Rattle.ks_shape.specs.declared.path.Path.{Path}
use Rattle.ks_put.specs.Narrows.{cuts_left}
use Rattle.ks_put.proofs.Narrowing.{no_cuts}
use Rattle.ks_put.proofs.halves.settle.Goals as goal
use Rattle.ks_shape.specs.Does.{MaySearch}
use Rattle.ks_shape.specs.Laws.Does.{does_none}

few : {N : Type 0} (o : Option (Hand N)) (hs : List ℕ) (i : ℕ) → hs ≡ i ∷ numbers o → length hs ≤ 3
few None hs i is = omega (arith, ap length is)
few (Some y) hs i is = omega (arith, ap length is)

pub returns-then-is_full-clause-stretch : goal.returns-then-is_full-clause-stretch
returns-then-is_full-clause-stretch g c = stretches_here c.args.pass.now.caller (seen_of c.args.pass.now) (few c.args.path.parent (hand_of c.args.pass.now) c.args.path.node.node c.requires.path.hands)

pub returns-clause-path : goal.returns-clause-path
returns-clause-path g c = let e = c.let_go-node.ensures in record {
  hands = e.way.alone;
  live = e.way.live;
  matches = e.way.matches;
  inside = e.way.inside;
  under = inr (inl (subst (λ (x : Hand g.row.N.Denot). is_full g.N.Node.layout (g.N.Node.body x.body) ≡ false) (sym e.node) (sym c.is_full.ensures ∙ c.if-is_full.false)));
}

pub returns-then-is_full-clause-alone : goal.returns-then-is_full-clause-alone
returns-then-is_full-clause-alone g c = λ room. absurd (let q : true ≡ false = sym c.if-is_full.true ∙ c.is_full.ensures ∙ room in let z : ⊥ = cc in z)

pub returns-then-is_full-clause-down : goal.returns-then-is_full-clause-down
returns-then-is_full-clause-down g c = λ start taken roots steps down. down

pub returns-clause-down : goal.returns-clause-down
returns-clause-down g c = λ start taken roots steps down. let sort = sort_of g.N.Node.layout g.N.Node.ranged in let slots : ℕ = c.args.arena.now.table.shared.table_id.slots in let n : ℕ = c.args.arena.now.nodes in let me : ℕ = c.args.pass.now.caller in let h = seen_of c.args.pass.now in let k = seen_of c.let_go-node.new.pass in let e = c.let_go-node.ensures in let law = c.search_law.ensures sort slots in
    subst (λ (x : Hand g.row.N.Denot). IsDown n me start k taken roots steps x.node) (sym e.node)
    (down_quiet n me start h k taken roots steps c.args.path.node.node (quiet_gave me c.args.path.parent h k e.gave) (law.turns k e.pass.sound)
    (path_down sort g.N.Node.body slots me law n c.args.place start h taken roots steps c.args.path.node c.args.path.parent c.requires.path.under down))

pub returns-clause-narrows : goal.returns-clause-narrows
returns-clause-narrows g c = let y : Path g.row.N.Denot = record { parent = None; node = c.let_go-node.result } in
    let room : is_full g.N.Node.layout (g.N.Node.body c.let_go-node.result.body) ≡ false = subst (λ (x : Hand g.row.N.Denot). is_full g.N.Node.layout (g.N.Node.body x.body) ≡ false) (sym c.let_go-node.ensures.node) (sym c.is_full.ensures ∙ c.if-is_full.false) in
    let none : cuts_left g.N.Node.layout g.N.Node.body c.args.place y ≡ 0 = no_cuts g.N.Node.layout g.N.Node.body c.args.place y room in omega (arith, none)

pub returns-then-is_full-clause-leaves : goal.returns-then-is_full-clause-leaves
returns-then-is_full-clause-leaves g c = does_none MaySearch c.args.pass.now.caller (seen_of c.args.pass.now)

pub returns-then-is_full-clause-above : goal.returns-then-is_full-clause-above
returns-then-is_full-clause-above g c = inr refl

pub returns-clause-above : goal.returns-clause-above
returns-clause-above g c = inl refl
