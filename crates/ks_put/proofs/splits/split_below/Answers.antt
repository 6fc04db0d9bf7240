use Rattle.std.proofs.Common.{◌≡◌, ◌≤◌, ◌∙◌, ℕ, List, ◌∷◌, length, arith, refl, sym, ap, subst, inl, inr, ◌<◌, ◌≢◌}
use Rattle.std.specs.Prelude.{Option, Some, None}
use Rattle.ks_keysets.specs.Record.{LeadsTo, top}
use Rattle.ks_keysets.specs.Keyset.{InInset}
use Rattle.ks_history.specs.Own.{hand}
use Rattle.ks_history.specs.Trace.{held, graph_after, turn_after}
use Rattle.ks_history.specs.Frames.{frame_after}
use Rattle.ks_history.specs.Hand.{AreOnce}
use Rattle.ks_history.specs.Laws.Hand.{is_hand}
use Rattle.ks_node.specs.Body.{Body}
use Rattle.ks_node.specs.Edges.{record_of, edges_of}
use Rattle.ks_node.specs.Effect.{adopted}
use Rattle.ks_arena.specs.declared.held.Held.{Held as Hand}
use Rattle.ks_arena.specs.Sound.{blank_of, sort_of}
use Rattle.ks_arena.specs.Clauses.{seen_of}
use Rattle.ks_shape.specs.OnPath.{numbers}
use Rattle.ks_shape.specs.Laws.Stretches.{stretches_as, stretches_both, stretches_shape}
use Rattle.ks_put.specs.Parts.{IsPart}
use Rattle.ks_shape.specs.Laws.Search.{Laws}
use Rattle.ks_put.proofs.Keeping.{path_splits, path_turn, path_stays, path_live}
use Rattle.ks_history.specs.declared.Event.TheVariants.{Shape}
use Rattle.ks_history.specs.Passes.{Has, GrowsWith}
use Rattle.ks_history.specs.Laws.Descent.{HeldUnder, the_node, claimed, target}
use Rattle.ks_node.specs.Room.{is_full}
use Rattle.ks_bodies.specs.Shapes.{split_under as under_to}
use Rattle.ks_shape.specs.Quiet.{IsQuiet}
use Rattle.ks_shape.specs.Laws.Single.{record_is}
use Rattle.ks_shape.specs.Down.{IsDown}
use Rattle.ks_put.specs.Deeper.{StandsDown}
use Rattle.ks_put.proofs.Deepening.{down_quiet, down_shaped, free_none, stands_quiet, under_held}
use Rattle.ks_put.specs.Narrows.{end_at, end_under}
use Rattle.ks_put.proofs.Narrowing.{end_below, half_narrower, under_above}
use Rattle.ks_shape.specs.Does.{MayFill}
use Rattle.ks_shape.specs.Laws.Does.{does_on, fills_search}
use Rattle.ks_put.proofs.splits.split_below.Given.{Over}
use Rattle.ks_put.proofs.splits.split_below.Goals as goal
use Rattle.ks_put.proofs.splits.split_below.Goals.{After-search_law, After-claim_one, After-split_under}

laws : (g : Over) (c : After-search_law g) → Laws (sort_of g.N.Node.layout g.N.Node.ranged) c.args.arena.now.table.shared.table_id.slots
laws g c = c.search_law.ensures (sort_of g.N.Node.layout g.N.Node.ranged) c.args.arena.now.table.shared.table_id.slots

-- c holds the node
mine : (g : Over) (c : After-search_law g) → turn_after (seen_of c.args.pass.now) c.args.node.node ≡ held c.args.pass.now.caller
mine g c = path_turn (sort_of g.N.Node.layout g.N.Node.ranged) g.N.Node.body c.args.arena.now.table.shared.table_id.slots c.args.pass.now.caller (laws g c) c.args.place (seen_of c.args.pass.now) (record { parent = Some c.args.parent; node = c.args.node }) c.requires.pass.sound c.requires.path

-- what is in its inset stays there as nodes are claimed
inset : (g : Over) (c : After-claim_one g) (p : ℕ) → InInset (graph_after (seen_of c.args.pass.now)) c.args.node.node p → turn_after (seen_of c.args.pass.now) c.args.node.node ≡ held c.args.pass.now.caller → InInset (graph_after (seen_of c.claim_one.new.pass)) c.args.node.node p
inset g c p inside mine = (c.claim_one.ensures.beside c.args.node.node mine (c.claim_one.ensures.rest.kept c.args.node.node mine).turn).forth p inside

few : {N : Type 0} (o : Option (Hand N)) (hs : List ℕ) (i : ℕ) → hs ≡ i ∷ numbers o → length hs ≤ 2
few None hs i is = omega (arith, ap length is)
few (Some y) hs i is = omega (arith, ap length is)

pub returns-in_default-clause-part : goal.returns-in_default-clause-part
returns-in_default-clause-part g c = let at = (goal.at.returns-in_default-clause-part g c).After-search_law in let told = rw c.in_default.is at c.claim_one.ensures.claimed in let sort = sort_of g.N.Node.layout g.N.Node.ranged in let n : ℕ = c.args.arena.now.table.shared.table_id.slots in let me : ℕ = c.args.pass.now.caller in let h = seen_of c.args.pass.now in let k = seen_of c.claim_one.new.pass in
    (refl, path_stays sort g.N.Node.body n me (laws g at) c.args.place h k (record { parent = Some c.args.parent; node = c.args.node }) c.requires.pass.sound told.0 c.claim_one.ensures.rest.kept c.claim_one.ensures.beside c.claim_one.ensures.rest.still c.requires.path, told.1 c.args.place (inl (path_live sort g.N.Node.body n me (laws g at) c.args.place h (record { parent = Some c.args.parent; node = c.args.node }) c.requires.path)))

pub split_under-requires-clause-apart : goal.split_under-requires-clause-apart
split_under-requires-clause-apart g c = λ same. (subst AreOnce c.requires.path.hands (is_hand (seen_of c.args.pass.now) c.args.pass.now.caller ((laws g (goal.at.split_under-requires-clause-apart g c).After-search_law).turns (seen_of c.args.pass.now) c.requires.pass.sound)).once).0 (inl same)

pub split_under-requires-clause-cut : goal.split_under-requires-clause-cut
split_under-requires-clause-cut g c = (inset g (goal.at.split_under-requires-clause-cut g c).After-claim_one c.args.cut c.requires.cut.0 (mine g (goal.at.split_under-requires-clause-cut g c).After-search_law), c.requires.cut.1)

-- the half to which the parent leads
half : (g : Over) (c : After-split_under g) (x y : Hand g.row.N.Denot) → y.node ≡ x.node → LeadsTo (record_of (adopted c.args.cut c.in-Some.right.node (g.N.Node.body c.args.parent.body))) c.args.place x.node × InInset (graph_after (seen_of c.split_under.new.pass)) x.node c.args.place → IsPart (sort_of g.N.Node.layout g.N.Node.ranged) g.N.Node.body c.args.place (seen_of c.split_under.new.pass) c.split_under.new.parent y
half g c x y same z = let b : Body = adopted c.args.cut c.in-Some.right.node (g.N.Node.body c.args.parent.body) in
    (subst (λ (w : Body). LeadsTo (record_of w) c.args.place y.node) (sym c.split_under.ensures.parent.body) (subst (λ (w : ℕ). LeadsTo (record_of b) c.args.place w) (sym same) z.0), subst (λ (w : ℕ). InInset (graph_after (seen_of c.split_under.new.pass)) w c.args.place) (sym same) z.1)

pub keep_half-requires-clause-below : goal.keep_half-requires-clause-below
keep_half-requires-clause-below g c = λ lt. let at = goal.at.keep_half-requires-clause-below g c in half g at.After-split_under c.args.node c.split_under.new.node c.split_under.ensures.node.node ((c.split_under.ensures.parts c.args.place (inset g at.After-claim_one c.args.place c.requires.path.inside (mine g at.After-search_law))).0 lt)

pub keep_half-requires-clause-from : goal.keep_half-requires-clause-from
keep_half-requires-clause-from g c = λ le. let at = goal.at.keep_half-requires-clause-from g c in half g at.After-split_under c.in-Some.right c.split_under.new.right c.split_under.ensures.right.node ((c.split_under.ensures.parts c.args.place (inset g at.After-claim_one c.args.place c.requires.path.inside (mine g at.After-search_law))).1 le)

pub returns-clause-stretch : goal.returns-clause-stretch
returns-clause-stretch g c = let me : ℕ = c.args.pass.now.caller in let h = seen_of c.args.pass.now in let h₁ = seen_of c.claim_one.new.pass in let h₂ = seen_of c.split_under.new.pass in let h₃ = seen_of c.keep_half.new.pass in let one = c.claim_one.ensures.caller in let two = c.split_under.ensures.caller in
    stretches_both me h h₁ h₃ c.claim_one.ensures.stretch (stretches_both me h₁ h₂ h₃
    (stretches_shape me c.claim_one.new.pass.caller c.split_under.new.pass.caller h₁ h₂ one two (omega (arith, ap length c.in-Some.ensures.claimed.hands, ap length c.requires.path.hands)) c.split_under.ensures.shaped.hand c.split_under.ensures.shaped.adds)
    (stretches_as me c.split_under.new.pass.caller h₂ h₃ (two ∙ one) c.keep_half.ensures.stretch))

-- how many steps down the search is

pub returns-in_default-clause-down : goal.returns-in_default-clause-down
returns-in_default-clause-down g c = λ start taken roots steps down. let law = laws g (goal.at.returns-in_default-clause-down g c).After-search_law in let k = seen_of c.claim_one.new.pass in
    stands_quiet (sort_of g.N.Node.layout g.N.Node.ranged) g.N.Node.body c.args.arena.now.table.shared.table_id.slots c.args.pass.now.caller law c.args.arena.now.nodes start (seen_of c.args.pass.now) k taken roots steps c.args.node (Some c.args.parent) c.claim_one.ensures.pass.sound c.claim_one.ensures.quiet down

pub returns-clause-down : goal.returns-clause-down
returns-clause-down g c = λ start taken roots steps down. let law = laws g (goal.at.returns-clause-down g c).After-search_law in let sort = sort_of g.N.Node.layout g.N.Node.ranged in let shows = g.N.Node.body in let slots : ℕ = c.args.arena.now.table.shared.table_id.slots in let n : ℕ = c.args.arena.now.nodes in
    let me : ℕ = c.args.pass.now.caller in let h = seen_of c.args.pass.now in let h₁ = seen_of c.claim_one.new.pass in let h₂ = seen_of c.split_under.new.pass in let h₃ = seen_of c.keep_half.new.pass in let one = c.claim_one.ensures.caller in let two = c.split_under.ensures.caller in
    let u = c.args.parent in let i : ℕ = u.node in let x = c.args.node in let y = c.in-Some.right in let got = c.in-Some.ensures.claimed in let sound₁ = c.claim_one.ensures.pass.sound in let held₁ = is_hand h₁ me (law.turns h₁ sound₁) in
    let path = c.requires.path in let above : ℕ = down.0 in let to = path.under.leads in
    let has : Has (hand me h) i = subst (λ (z : List ℕ). Has z i) (sym path.hands) (inr (inl refl)) in
    let mine₁ : turn_after h₁ i ≡ held me = held₁.held i (subst (λ (z : List ℕ). Has z i) (sym got.hands) (inr has)) in
    let is₁ = record_is sort shows h₁ u path.under.live (c.claim_one.ensures.rest.still u has path.under.matches) in
    let changes = under_to i x.node y.node c.args.cut (shows u.body) (shows x.body) in
    let d₁ = down_quiet n me start h h₁ taken roots above i c.claim_one.ensures.quiet (law.turns h₁ sound₁) down.2 in
    let d₂ = down_shaped sort shows slots me law n changes start h₁ h₂ taken roots above i c.split_under.ensures.pass.sound (subst (λ (z : ℕ). GrowsWith z (Shape z changes) h₁ h₂) one c.split_under.ensures.shaped.adds)
    (under_held (HeldUnder h₁ me i) i x.node y.node c.args.cut (shows u.body) (shows x.body) the_node
    (target (record_of (shows u.body)) the_node mine₁ is₁ (to.0, to.1, to.2, to.3, to.4.1)) (claimed (held₁.held y.node got.free.has) (free_none sort shows h₁ y got.free.free got.free.matches))) d₁ in
    let d₃ = down_quiet n me start h₂ h₃ taken roots above i (subst (λ (z : ℕ). IsQuiet z h₂ h₃) (two ∙ one) c.keep_half.ensures.quiet) (law.turns h₃ c.keep_half.ensures.pass.sound) d₂ in
    subst (λ (o : Option (Hand g.row.N.Denot)). StandsDown n me start h₃ taken roots steps c.keep_half.result.node o) (sym c.keep_half.ensures.parent)
    (above, down.1, subst (λ (z : ℕ). IsDown n me start h₃ taken roots above z) (sym c.split_under.ensures.parent.node) d₃)

-- neither half is full, if halves have room

pub returns-clause-halves : goal.returns-clause-halves
returns-clause-halves g c = λ even. let room = c.requires.halves even in
    c.keep_half.ensures.room (ap (is_full g.N.Node.layout) c.split_under.ensures.node.body ∙ room.0) (ap (is_full g.N.Node.layout) c.split_under.ensures.right.body ∙ room.1)

-- how it narrows the search

pub returns-clause-narrows : goal.returns-clause-narrows
returns-clause-narrows g c = let at = goal.at.returns-clause-narrows g c in let law = laws g at.After-search_law in let sort = sort_of g.N.Node.layout g.N.Node.ranged in let shows = g.N.Node.body in let cut : ℕ = c.args.cut in let place : ℕ = c.args.place in let me : ℕ = c.args.pass.now.caller in
    let h = seen_of c.args.pass.now in let h₂ = seen_of c.split_under.new.pass in let y = c.split_under.new.parent in let made = c.split_under.ensures.parent in let i : ℕ = c.args.node.node in let j : ℕ = c.in-Some.right.node in let held = mine g at.After-search_law in
    let low : cut ≤ top = omega (arith, c.ranges.cut) in
    let above : cut ≤ end_under g.N.Node.layout shows place (Some c.args.parent) = under_above (graph_after h) (frame_after (blank_of sort) h) (law.good h c.requires.pass.sound) (law.facts h c.requires.pass.sound) c.tree_facts_law.ensures.child sort g.N.Node.layout shows place cut h c.args.node (Some c.args.parent) refl c.requires.path.under c.requires.cut.0 in
    let other : i ≢ j = λ same. c.in-Some.ensures.claimed.fresh (subst (Has (hand me h)) same (subst (λ (z : List ℕ). Has z i) (sym c.requires.path.hands) (inl refl))) in
    let leads : (p m : ℕ) → LeadsTo (record_of (adopted cut j (shows c.args.parent.body))) p m → LeadsTo (record_of (shows y.body)) p m = λ p m to. subst (λ (w : Body). LeadsTo (record_of w) p m) (sym made.body) to in
    let below : place < cut → end_at (edges_of (shows y.body)) place < cut = λ lt. end_below (record_of (shows y.body)) place cut i j ((law.good h₂ c.split_under.ensures.pass.sound).apart y.node (record_of (shows y.body)) (record_is sort shows h₂ y made.live made.matches)) other lt
    (leads place i ((c.split_under.ensures.parts place (inset g at.After-claim_one place c.requires.path.inside held)).0 lt).0)
    (leads cut j ((c.split_under.ensures.parts cut (inset g at.After-claim_one cut c.requires.cut.0 held)).1 (omega arith)).0) in
    half_narrower g.N.Node.layout shows place (record { parent = Some c.args.parent; node = c.args.node }) c.keep_half.result y c.split_under.new.node c.split_under.new.right cut c.requires.full c.requires.cut.1 low above c.split_under.ensures.node.body c.split_under.ensures.right.body below c.keep_half.ensures.parent c.keep_half.ensures.kept.0 c.keep_half.ensures.kept.1

-- the kinds of its events

pub returns-in_default-clause-fills : goal.returns-in_default-clause-fills
returns-in_default-clause-fills g c = λ must. c.claim_one.ensures.fills c.args.place (path_splits (sort_of g.N.Node.layout g.N.Node.ranged) g.N.Node.body c.args.arena.now.table.shared.table_id.slots c.args.pass.now.caller (laws g (goal.at.returns-in_default-clause-fills g c).After-search_law) c.args.place (seen_of c.args.pass.now) (record { parent = Some c.args.parent; node = c.args.node }) c.requires.pass.sound c.requires.path must)

pub returns-clause-fills : goal.returns-clause-fills
returns-clause-fills g c = λ must. let me : ℕ = c.args.pass.now.caller in let h = seen_of c.args.pass.now in let h₁ = seen_of c.claim_one.new.pass in let h₂ = seen_of c.split_under.new.pass in let h₃ = seen_of c.keep_half.new.pass in let one = c.claim_one.ensures.caller in let two = c.split_under.ensures.caller in let may = MayFill (sort_of g.N.Node.layout g.N.Node.ranged) c.args.place in
    fills_search (sort_of g.N.Node.layout g.N.Node.ranged) c.args.place me c.split_under.new.pass.caller h h₂ h₃ (two ∙ one) (does_on may me c.claim_one.new.pass.caller h h₁ h₂ one (c.claim_one.ensures.fills c.args.place (path_splits (sort_of g.N.Node.layout g.N.Node.ranged) g.N.Node.body c.args.arena.now.table.shared.table_id.slots c.args.pass.now.caller (laws g (goal.at.returns-clause-fills g c).After-search_law) c.args.place (seen_of c.args.pass.now) (record { parent = Some c.args.parent; node = c.args.node }) c.requires.pass.sound c.requires.path must)) (c.split_under.ensures.fills c.args.place must)) c.keep_half.ensures.leaves
