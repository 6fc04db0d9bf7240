use Rattle.std.proofs.Common.{◌≡◌, ◌≤◌, ◌∙◌, ℕ, List, ◌∷◌, length, arith, refl, sym, ap, subst, ◌<◌}
use Rattle.std.specs.Prelude.{Option, Some, None}
use Rattle.ks_keysets.specs.Record.{LeadsTo, top}
use Rattle.ks_keysets.specs.Keyset.{InInset}
use Rattle.ks_history.specs.Trace.{held, graph_after, turn_after}
use Rattle.ks_node.specs.Body.{Body}
use Rattle.ks_node.specs.Edges.{record_of, edges_of}
use Rattle.ks_node.specs.Laws.Spans.{length_edges}
use Rattle.ks_node.specs.Effect.{grown}
use Rattle.ks_arena.specs.declared.held.Held.{Held as Hand}
use Rattle.ks_arena.specs.Sound.{sort_of}
use Rattle.ks_arena.specs.Clauses.{seen_of}
use Rattle.ks_shape.specs.Laws.Single.{record_is}
use Rattle.ks_shape.specs.OnPath.{numbers}
use Rattle.ks_shape.specs.Laws.Stretches.{stretches_as, stretches_both, stretches_shape}
use Rattle.ks_put.specs.Parts.{IsPart}
use Rattle.ks_shape.specs.Laws.Search.{Laws}
use Rattle.ks_shape.specs.Laws.Claims.{may_grow_at}
use Rattle.ks_put.proofs.Keeping.{path_splits, path_turn, path_stays, path_live, full_whole, whole_root}
use Rattle.ks_history.specs.declared.Event.TheVariants.{Shape}
use Rattle.ks_history.specs.Passes.{GrowsWith}
use Rattle.ks_history.specs.Laws.Descent.{HeldUnder, the_node, claimed}
use Rattle.ks_history.specs.Laws.Hand.{is_hand}
use Rattle.ks_node.specs.Room.{is_full, in_place}
use Rattle.ks_bodies.specs.Shapes.{grow as grow_to}
use Rattle.ks_shape.specs.Quiet.{IsQuiet}
use Rattle.ks_shape.specs.Down.{IsDown}
use Rattle.ks_put.specs.Deeper.{StandsDown}
use Rattle.ks_put.proofs.Deepening.{down_quiet, down_shaped, free_none, grow_held}
use Rattle.ks_put.specs.Narrows.{end_at}
use Rattle.ks_put.proofs.Narrowing.{end_below, half_narrower}
use Rattle.ks_shape.specs.Does.{MayFill}
use Rattle.ks_shape.specs.Laws.Does.{does_on, fills_search}
use Rattle.ks_put.proofs.splits.grow_whole.Given.{Over}
use Rattle.ks_put.proofs.splits.grow_whole.Goals as goal
use Rattle.ks_put.proofs.splits.grow_whole.Goals.{After-search_law, After-claim_two, After-grow}

laws : (g : Over) (c : After-search_law g) → Laws (sort_of g.N.Node.layout g.N.Node.ranged) c.args.arena.now.table.shared.table_id.slots
laws g c = c.search_law.ensures (sort_of g.N.Node.layout g.N.Node.ranged) c.args.arena.now.table.shared.table_id.slots

-- c holds the node
mine : (g : Over) (c : After-search_law g) → turn_after (seen_of c.args.pass.now) c.args.node.node ≡ held c.args.pass.now.caller
mine g c = path_turn (sort_of g.N.Node.layout g.N.Node.ranged) g.N.Node.body c.args.arena.now.table.shared.table_id.slots c.args.pass.now.caller (laws g c) c.args.place (seen_of c.args.pass.now) (record { parent = None; node = c.args.node }) c.requires.pass.sound c.requires.path

-- what is in its inset stays there as nodes are claimed
inset : (g : Over) (c : After-claim_two g) (p : ℕ) → InInset (graph_after (seen_of c.args.pass.now)) c.args.node.node p → turn_after (seen_of c.args.pass.now) c.args.node.node ≡ held c.args.pass.now.caller → InInset (graph_after (seen_of c.claim_two.new.pass)) c.args.node.node p
inset g c p inside mine = (c.claim_two.ensures.beside c.args.node.node mine (c.claim_two.ensures.rest.kept c.args.node.node mine).turn).forth p inside

few : {N : Type 0} (o : Option (Hand N)) (hs : List ℕ) (i : ℕ) → hs ≡ i ∷ numbers o → length hs ≤ 2
few None hs i is = omega (arith, ap length is)
few (Some y) hs i is = omega (arith, ap length is)

pub claim_two-requires-clause-few : goal.claim_two-requires-clause-few
claim_two-requires-clause-few g c κs within = omega (arith, ap length c.requires.path.hands)

pub returns-in_default-clause-part : goal.returns-in_default-clause-part
returns-in_default-clause-part g c = let at = (goal.at.returns-in_default-clause-part g c).After-search_law in let told = rw c.in_default.is at c.claim_two.ensures.claimed in let sort = sort_of g.N.Node.layout g.N.Node.ranged in let n : ℕ = c.args.arena.now.table.shared.table_id.slots in let me : ℕ = c.args.pass.now.caller in let h = seen_of c.args.pass.now in let k = seen_of c.claim_two.new.pass in (
  refl,
  path_stays sort g.N.Node.body n me (laws g at) c.args.place h k (record { parent = None; node = c.args.node }) c.requires.pass.sound told.0 c.claim_two.ensures.rest.kept c.claim_two.ensures.beside c.claim_two.ensures.rest.still c.requires.path,
  told.1 c.args.node.node c.args.place (path_live sort g.N.Node.body n me (laws g at) c.args.place h (record { parent = None; node = c.args.node }) c.requires.path) (mine g at)
      (may_grow_at g.N.Node.layout (graph_after h) c.args.node.node c.args.place (g.N.Node.body c.args.node.body) (record_is sort g.N.Node.body h c.args.node c.requires.path.live c.requires.path.matches) (whole_root (in_place g.N.Node.layout) c.args.node.node (full_whole sort g.N.Node.body c.args.node c.requires.full c.requires.path.under)) (λ t. (c.requires.path.inside, ((c.unlinked_law.ensures.stands t).0 c.args.node.body).bare)) c.requires.full (c.node_law.ensures.grows_as c.requires.grows.0)
      (length_edges (g.N.Node.body c.args.node.body) c.node_law.ensures.sound c.node_law.ensures.framed (c.unlinked_law.ensures.no_link c.args.node.body))),
)

pub grow-requires-clause-cut : goal.grow-requires-clause-cut
grow-requires-clause-cut g c = (inset g (goal.at.grow-requires-clause-cut g c).After-claim_two c.args.cut c.requires.cut.0 (mine g (goal.at.grow-requires-clause-cut g c).After-search_law), c.requires.cut.1)

-- the half to which the node leads
half : (g : Over) (c : After-grow g) (x y : Hand g.row.N.Denot) → y.node ≡ x.node → LeadsTo (record_of (grown g.N.Node.branch_kind c.args.cut c.in-Some.left.node c.in-Some.right.node (g.N.Node.body c.args.node.body))) c.args.place x.node × InInset (graph_after (seen_of c.grow.new.pass)) x.node c.args.place → IsPart (sort_of g.N.Node.layout g.N.Node.ranged) g.N.Node.body c.args.place (seen_of c.grow.new.pass) c.grow.new.node y
half g c x y same z = let b : Body = grown g.N.Node.branch_kind c.args.cut c.in-Some.left.node c.in-Some.right.node (g.N.Node.body c.args.node.body) in
    (subst (λ (w : Body). LeadsTo (record_of w) c.args.place y.node) (sym c.grow.ensures.node.body) (subst (λ (w : ℕ). LeadsTo (record_of b) c.args.place w) (sym same) z.0), subst (λ (w : ℕ). InInset (graph_after (seen_of c.grow.new.pass)) w c.args.place) (sym same) z.1)

pub keep_half-requires-clause-below : goal.keep_half-requires-clause-below
keep_half-requires-clause-below g c = λ lt. let at = goal.at.keep_half-requires-clause-below g c in half g at.After-grow c.in-Some.left c.grow.new.left c.grow.ensures.left.node ((c.grow.ensures.parts c.args.place (inset g at.After-claim_two c.args.place c.requires.path.inside (mine g at.After-search_law))).0 lt)

pub keep_half-requires-clause-from : goal.keep_half-requires-clause-from
keep_half-requires-clause-from g c = λ le. let at = goal.at.keep_half-requires-clause-from g c in half g at.After-grow c.in-Some.right c.grow.new.right c.grow.ensures.right.node ((c.grow.ensures.parts c.args.place (inset g at.After-claim_two c.args.place c.requires.path.inside (mine g at.After-search_law))).1 le)

pub returns-clause-stretch : goal.returns-clause-stretch
returns-clause-stretch g c = let me : ℕ = c.args.pass.now.caller in let h = seen_of c.args.pass.now in let h₁ = seen_of c.claim_two.new.pass in let h₂ = seen_of c.grow.new.pass in let h₃ = seen_of c.keep_half.new.pass in let one = c.claim_two.ensures.caller in let two = c.grow.ensures.caller in
    stretches_both me h h₁ h₃ c.claim_two.ensures.stretch (stretches_both me h₁ h₂ h₃
    (stretches_shape me c.claim_two.new.pass.caller c.grow.new.pass.caller h₁ h₂ one two (omega (arith, ap length c.in-Some.ensures.claimed.hands, ap length c.requires.path.hands)) c.grow.ensures.shaped.hand c.grow.ensures.shaped.adds)
    (stretches_as me c.grow.new.pass.caller h₂ h₃ (two ∙ one) c.keep_half.ensures.stretch))

-- how many steps down the search is

pub returns-in_default-clause-down : goal.returns-in_default-clause-down
returns-in_default-clause-down g c = λ start taken roots steps down. let law = laws g (goal.at.returns-in_default-clause-down g c).After-search_law in let k = seen_of c.claim_two.new.pass in
    down_quiet c.args.arena.now.nodes c.args.pass.now.caller start (seen_of c.args.pass.now) k taken roots steps c.args.node.node c.claim_two.ensures.quiet (law.turns k c.claim_two.ensures.pass.sound) down

pub returns-clause-down : goal.returns-clause-down
returns-clause-down g c = λ start taken roots steps down. let law = laws g (goal.at.returns-clause-down g c).After-search_law in let sort = sort_of g.N.Node.layout g.N.Node.ranged in let shows = g.N.Node.body in let slots : ℕ = c.args.arena.now.table.shared.table_id.slots in let n : ℕ = c.args.arena.now.nodes in
    let me : ℕ = c.args.pass.now.caller in let h = seen_of c.args.pass.now in let h₁ = seen_of c.claim_two.new.pass in let h₂ = seen_of c.grow.new.pass in let h₃ = seen_of c.keep_half.new.pass in let one = c.claim_two.ensures.caller in let two = c.grow.ensures.caller in
    let i : ℕ = c.args.node.node in let x = c.in-Some.left in let y = c.in-Some.right in let got = c.in-Some.ensures.claimed in let sound₁ = c.claim_two.ensures.pass.sound in let held₁ = is_hand h₁ me (law.turns h₁ sound₁) in
    let changes = grow_to g.N.Node.branch_kind i x.node y.node c.args.cut (shows c.args.node.body) in
    let d₁ = down_quiet n me start h h₁ taken roots steps i c.claim_two.ensures.quiet (law.turns h₁ sound₁) down in
    let d₂ = down_shaped sort shows slots me law n changes start h₁ h₂ taken roots steps i c.grow.ensures.pass.sound (subst (λ (z : ℕ). GrowsWith z (Shape z changes) h₁ h₂) one c.grow.ensures.shaped.adds)
    (grow_held (HeldUnder h₁ me i) g.N.Node.branch_kind i x.node y.node c.args.cut (shows c.args.node.body) the_node
    (claimed (held₁.held x.node got.left.has) (free_none sort shows h₁ x got.left.free got.left.matches)) (claimed (held₁.held y.node got.right.has) (free_none sort shows h₁ y got.right.free got.right.matches))) d₁ in
    let d₃ = down_quiet n me start h₂ h₃ taken roots steps i (subst (λ (z : ℕ). IsQuiet z h₂ h₃) (two ∙ one) c.keep_half.ensures.quiet) (law.turns h₃ c.keep_half.ensures.pass.sound) d₂ in
    subst (λ (o : Option (Hand g.row.N.Denot)). StandsDown n me start h₃ taken roots steps c.keep_half.result.node o) (sym c.keep_half.ensures.parent)
    (steps, omega arith, subst (λ (z : ℕ). IsDown n me start h₃ taken roots steps z) (sym c.grow.ensures.node.node) d₃)

-- neither half is full, if halves have room

pub returns-clause-halves : goal.returns-clause-halves
returns-clause-halves g c = λ even. let room = c.requires.halves even in
    c.keep_half.ensures.room (ap (is_full g.N.Node.layout) c.grow.ensures.left.body ∙ room.0) (ap (is_full g.N.Node.layout) c.grow.ensures.right.body ∙ room.1)

-- how it narrows the search

pub returns-clause-narrows : goal.returns-clause-narrows
returns-clause-narrows g c = let at = goal.at.returns-clause-narrows g c in let law = laws g at.After-search_law in let sort = sort_of g.N.Node.layout g.N.Node.ranged in let shows = g.N.Node.body in let cut : ℕ = c.args.cut in let place : ℕ = c.args.place in
    let h₂ = seen_of c.grow.new.pass in let y = c.grow.new.node in let made = c.grow.ensures.node in let i : ℕ = c.in-Some.left.node in let j : ℕ = c.in-Some.right.node in let held = mine g at.After-search_law in
    let low : cut ≤ top = omega (arith, c.ranges.cut) in
    let leads : (p m : ℕ) → LeadsTo (record_of (grown g.N.Node.branch_kind cut i j (shows c.args.node.body))) p m → LeadsTo (record_of (shows y.body)) p m = λ p m to. subst (λ (w : Body). LeadsTo (record_of w) p m) (sym made.body) to in
    let below : place < cut → end_at (edges_of (shows y.body)) place < cut = λ lt. end_below (record_of (shows y.body)) place cut i j ((law.good h₂ c.grow.ensures.pass.sound).apart y.node (record_of (shows y.body)) (record_is sort shows h₂ y made.live made.matches)) c.in-Some.ensures.claimed.apart lt
    (leads place i ((c.grow.ensures.parts place (inset g at.After-claim_two place c.requires.path.inside held)).0 lt).0)
    (leads cut j ((c.grow.ensures.parts cut (inset g at.After-claim_two cut c.requires.cut.0 held)).1 (omega arith)).0) in
    half_narrower g.N.Node.layout shows place (record { parent = None; node = c.args.node }) c.keep_half.result y c.grow.new.left c.grow.new.right cut c.requires.full c.requires.cut.1 low low c.grow.ensures.left.body c.grow.ensures.right.body below c.keep_half.ensures.parent c.keep_half.ensures.kept.0 c.keep_half.ensures.kept.1

-- the kinds of its events

pub returns-in_default-clause-fills : goal.returns-in_default-clause-fills
returns-in_default-clause-fills g c = λ must. c.claim_two.ensures.fills c.args.place (path_splits (sort_of g.N.Node.layout g.N.Node.ranged) g.N.Node.body c.args.arena.now.table.shared.table_id.slots c.args.pass.now.caller (laws g (goal.at.returns-in_default-clause-fills g c).After-search_law) c.args.place (seen_of c.args.pass.now) (record { parent = None; node = c.args.node }) c.requires.pass.sound c.requires.path must)

pub returns-clause-fills : goal.returns-clause-fills
returns-clause-fills g c = λ must. let me : ℕ = c.args.pass.now.caller in let h = seen_of c.args.pass.now in let h₁ = seen_of c.claim_two.new.pass in let h₂ = seen_of c.grow.new.pass in let h₃ = seen_of c.keep_half.new.pass in let one = c.claim_two.ensures.caller in let two = c.grow.ensures.caller in let may = MayFill (sort_of g.N.Node.layout g.N.Node.ranged) c.args.place in
    fills_search (sort_of g.N.Node.layout g.N.Node.ranged) c.args.place me c.grow.new.pass.caller h h₂ h₃ (two ∙ one) (does_on may me c.claim_two.new.pass.caller h h₁ h₂ one (c.claim_two.ensures.fills c.args.place (path_splits (sort_of g.N.Node.layout g.N.Node.ranged) g.N.Node.body c.args.arena.now.table.shared.table_id.slots c.args.pass.now.caller (laws g (goal.at.returns-clause-fills g c).After-search_law) c.args.place (seen_of c.args.pass.now) (record { parent = None; node = c.args.node }) c.requires.pass.sound c.requires.path must)) (c.grow.ensures.fills c.args.place must)) c.keep_half.ensures.leaves
