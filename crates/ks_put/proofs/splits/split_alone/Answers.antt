use Rattle.std.proofs.Common.{◌≡◌, ◌≤◌, ◌∙◌, ℕ, suc, false, List, ◌∷◌, length, arith, refl, sym, ap, subst, inl, inr, ◌<◌}
use Rattle.std.specs.Prelude.{Option, Some, None}
use Rattle.ks_keysets.specs.Record.{LeadsTo, top}
use Rattle.ks_keysets.specs.Keyset.{InInset, record_at}
use Rattle.ks_history.specs.Own.{hand}
use Rattle.ks_history.specs.Trace.{held, graph_after, turn_after}
use Rattle.ks_history.specs.Frames.{frame_after}
use Rattle.ks_history.specs.Passes.{Has, GrowsWith}
use Rattle.ks_history.specs.Hand.{AreOnce}
use Rattle.ks_history.specs.Laws.Hand.{is_hand}
use Rattle.ks_node.specs.Body.{Body}
use Rattle.ks_node.specs.Edges.{record_of}
use Rattle.ks_bodies.specs.Shapes.{split_on, split_own as own_to}
use Rattle.ks_arena.specs.declared.held.Held.{Held as Hand}
use Rattle.ks_arena.specs.Sound.{sort_of, Sort, blank_of}
use Rattle.ks_arena.specs.Clauses.{seen_of, hand_of}
use Rattle.ks_shape.specs.OnPath.{IsUnder, numbers}
use Rattle.ks_shape.specs.Laws.Stretches.{stretches_as, stretches_both, stretches_shape}
use Rattle.ks_shape.specs.Laws.Search.{Laws}
use Rattle.ks_put.proofs.Keeping.{path_splits, path_turn, path_stays, path_live, parent_has, parent_apart, under_later}
use Rattle.ks_keysets.specs.declared.Change.{Change}
use Rattle.ks_history.specs.declared.Event.{Event}
use Rattle.ks_history.specs.declared.Event.TheVariants.{Shape}
use Rattle.ks_history.specs.Laws.Descent.{HeldUnder, the_node, claimed, target}
use Rattle.ks_node.specs.Room.{is_full}
use Rattle.ks_shape.specs.Quiet.{IsQuiet}
use Rattle.ks_shape.specs.Laws.Quiet.{quiet_give}
use Rattle.ks_shape.specs.Laws.Single.{record_is}
use Rattle.ks_shape.specs.Down.{IsDown}
use Rattle.ks_shape.specs.Laws.Down.{down_edge}
use Rattle.ks_shape.specs.declared.path.Path.{Path}
use Rattle.ks_put.specs.Deeper.{StandsDown}
use Rattle.ks_put.proofs.Deepening.{down_quiet, down_fewer, down_shaped, free_none, own_full, own_held, path_down, stands_quiet}
use Rattle.ks_put.specs.Narrows.{cuts_left, own_start}
use Rattle.ks_put.proofs.Narrowing.{own_narrower, own_on, own_past, right_narrower, under_above}
use Rattle.ks_shape.specs.Does.{MayFill}
use Rattle.ks_shape.specs.Laws.Does.{does_on, fills_search}
use Rattle.ks_put.proofs.splits.split_alone.Given.{Over}
use Rattle.ks_put.proofs.splits.split_alone.Goals as goal
use Rattle.ks_put.proofs.splits.split_alone.Goals.{After-search_law, After-claim_one, After-split_own}

laws : (g : Over) (c : After-search_law g) → Laws (sort_of g.N.Node.layout g.N.Node.ranged) c.args.arena.now.table.shared.table_id.slots
laws g c = c.search_law.ensures (sort_of g.N.Node.layout g.N.Node.ranged) c.args.arena.now.table.shared.table_id.slots

-- c holds the node
mine : (g : Over) (c : After-search_law g) → turn_after (seen_of c.args.pass.now) c.args.path.node.node ≡ held c.args.pass.now.caller
mine g c = path_turn (sort_of g.N.Node.layout g.N.Node.ranged) g.N.Node.body c.args.arena.now.table.shared.table_id.slots c.args.pass.now.caller (laws g c) c.args.place (seen_of c.args.pass.now) c.args.path c.requires.pass.sound c.requires.path

-- what is in its inset stays there as nodes are claimed
inset : (g : Over) (c : After-claim_one g) (p : ℕ) → InInset (graph_after (seen_of c.args.pass.now)) c.args.path.node.node p → turn_after (seen_of c.args.pass.now) c.args.path.node.node ≡ held c.args.pass.now.caller → InInset (graph_after (seen_of c.claim_one.new.pass)) c.args.path.node.node p
inset g c p inside mine = (c.claim_one.ensures.beside c.args.path.node.node mine (c.claim_one.ensures.rest.kept c.args.path.node.node mine).turn).forth p inside

few : {N : Type 0} (o : Option (Hand N)) (hs : List ℕ) (i : ℕ) → hs ≡ i ∷ numbers o → length hs ≤ 2
few None hs i is = omega (arith, ap length is)
few (Some y) hs i is = omega (arith, ap length is)

pub returns-in_default-clause-part : goal.returns-in_default-clause-part
returns-in_default-clause-part g c = let at = (goal.at.returns-in_default-clause-part g c).After-search_law in let told = rw c.in_default.is at c.claim_one.ensures.claimed in let sort = sort_of g.N.Node.layout g.N.Node.ranged in let n : ℕ = c.args.arena.now.table.shared.table_id.slots in let me : ℕ = c.args.pass.now.caller in let h = seen_of c.args.pass.now in let k = seen_of c.claim_one.new.pass in
    (refl, path_stays sort g.N.Node.body n me (laws g at) c.args.place h k c.args.path c.requires.pass.sound told.0 c.claim_one.ensures.rest.kept c.claim_one.ensures.beside c.claim_one.ensures.rest.still c.requires.path, told.1 c.args.place (inl (path_live sort g.N.Node.body n me (laws g at) c.args.place h c.args.path c.requires.path)))

pub split_own-requires-clause-cut : goal.split_own-requires-clause-cut
split_own-requires-clause-cut g c = (inset g (goal.at.split_own-requires-clause-cut g c).After-claim_one c.args.cut c.requires.cut.0 (mine g (goal.at.split_own-requires-clause-cut g c).After-search_law), c.requires.cut.1)

-- the parent still leads to the node
under : (g : Over) (c : After-split_own g) → Laws (sort_of g.N.Node.layout g.N.Node.ranged) c.args.arena.now.table.shared.table_id.slots → IsUnder (sort_of g.N.Node.layout g.N.Node.ranged) g.N.Node.body c.args.place c.split_own.new.node (seen_of c.split_own.new.pass) c.args.path.parent
under g c law = let sort = sort_of g.N.Node.layout g.N.Node.ranged in let n : ℕ = c.args.arena.now.table.shared.table_id.slots in let me : ℕ = c.args.pass.now.caller in let h = seen_of c.args.pass.now in let h₁ = seen_of c.claim_one.new.pass in let j : ℕ = c.args.path.node.node in let o = c.args.path.parent in let got = c.in-Some.ensures.claimed in
    let has : (y : Hand g.row.N.Denot) → o ≡ Some y → Has (hand me h) y.node = parent_has sort g.N.Node.body n me law j o (hand me h) c.requires.path.hands in
    let once : AreOnce (j ∷ numbers o) = subst AreOnce c.requires.path.hands (is_hand h me (law.turns h c.requires.pass.sound)).once in
    under_later sort g.N.Node.body n me law c.args.place c.args.path.node c.split_own.new.node h h₁ (seen_of c.split_own.new.pass) o c.split_own.ensures.node.node c.requires.full c.claim_one.ensures.rest.still has
    (λ y e m. c.split_own.ensures.shaped.still y (parent_apart sort g.N.Node.body n me law j o once y e, (λ same. got.fresh (subst (Has (hand me h)) same (has y e)), tt)) (subst (λ (z : ℕ). Has (hand z h₁) y.node) (sym c.claim_one.ensures.caller) (subst (λ (z : List ℕ). Has z y.node) (sym got.hands) (inr (has y e)))) m)
    c.requires.path.under

pub keep_left-requires-clause-under : goal.keep_left-requires-clause-under
keep_left-requires-clause-under g c = let at = goal.at.keep_left-requires-clause-under g c in under g at.After-split_own (laws g at.After-search_law)

pub keep_right-requires-clause-under : goal.keep_right-requires-clause-under
keep_right-requires-clause-under g c = let at = goal.at.keep_right-requires-clause-under g c in under g at.After-split_own (laws g at.After-search_law)

pub keep_right_alone-requires-clause-under : goal.keep_right_alone-requires-clause-under
keep_right_alone-requires-clause-under g c = let at = goal.at.keep_right_alone-requires-clause-under g c in under g at.After-split_own (laws g at.After-search_law)

pub keep_left-requires-clause-inside : goal.keep_left-requires-clause-inside
keep_left-requires-clause-inside g c = let at = goal.at.keep_left-requires-clause-inside g c in subst (λ (w : ℕ). InInset (graph_after (seen_of c.split_own.new.pass)) w c.args.place) (sym c.split_own.ensures.node.node) (c.split_own.ensures.parts c.args.place (inset g at.After-claim_one c.args.place c.requires.path.inside (mine g at.After-search_law))).0

pub keep_right_alone-requires-clause-inside : goal.keep_right_alone-requires-clause-inside
keep_right_alone-requires-clause-inside g c = let at = goal.at.keep_right_alone-requires-clause-inside g c in subst (λ (w : ℕ). InInset (graph_after (seen_of c.split_own.new.pass)) w c.args.place) (sym c.split_own.ensures.right.node) ((c.split_own.ensures.parts c.args.place (inset g at.After-claim_one c.args.place c.requires.path.inside (mine g at.After-search_law))).1 (omega (arith, c.if-place-cut.false))).1

pub keep_right-requires-clause-part : goal.keep_right-requires-clause-part
keep_right-requires-clause-part g c = let at = goal.at.keep_right-requires-clause-part g c in let z = (c.split_own.ensures.parts c.args.place (inset g at.After-claim_one c.args.place c.requires.path.inside (mine g at.After-search_law))).1 (omega (arith, c.if-place-cut.false)) in let b : Body = split_on c.args.cut c.in-Some.right.node (g.N.Node.body c.args.path.node.body) in let same = c.split_own.ensures.right.node in
    (subst (λ (w : Body). LeadsTo (record_of w) c.args.place c.split_own.new.right.node) (sym c.split_own.ensures.node.body) (subst (λ (w : ℕ). LeadsTo (record_of b) c.args.place w) (sym same) z.0), subst (λ (w : ℕ). InInset (graph_after (seen_of c.split_own.new.pass)) w c.args.place) (sym same) z.1)

pub returns-then-place-cut-clause-stretch : goal.returns-then-place-cut-clause-stretch
returns-then-place-cut-clause-stretch g c = let me : ℕ = c.args.pass.now.caller in let h = seen_of c.args.pass.now in let h₁ = seen_of c.claim_one.new.pass in let h₂ = seen_of c.split_own.new.pass in let h₃ = seen_of c.keep_left.new.pass in let one = c.claim_one.ensures.caller in let two = c.split_own.ensures.caller in
    stretches_both me h h₁ h₃ c.claim_one.ensures.stretch (stretches_both me h₁ h₂ h₃
    (stretches_shape me c.claim_one.new.pass.caller c.split_own.new.pass.caller h₁ h₂ one two (omega (arith, ap length c.in-Some.ensures.claimed.hands, few c.args.path.parent (hand_of c.args.pass.now) c.args.path.node.node c.requires.path.hands)) c.split_own.ensures.shaped.hand c.split_own.ensures.shaped.adds)
    (stretches_as me c.split_own.new.pass.caller h₂ h₃ (two ∙ one) c.keep_left.ensures.stretch))

pub returns-then-is_full-clause-stretch : goal.returns-then-is_full-clause-stretch
returns-then-is_full-clause-stretch g c = let me : ℕ = c.args.pass.now.caller in let h = seen_of c.args.pass.now in let h₁ = seen_of c.claim_one.new.pass in let h₂ = seen_of c.split_own.new.pass in let h₃ = seen_of c.keep_right.new.pass in let one = c.claim_one.ensures.caller in let two = c.split_own.ensures.caller in
    stretches_both me h h₁ h₃ c.claim_one.ensures.stretch (stretches_both me h₁ h₂ h₃
    (stretches_shape me c.claim_one.new.pass.caller c.split_own.new.pass.caller h₁ h₂ one two (omega (arith, ap length c.in-Some.ensures.claimed.hands, few c.args.path.parent (hand_of c.args.pass.now) c.args.path.node.node c.requires.path.hands)) c.split_own.ensures.shaped.hand c.split_own.ensures.shaped.adds)
    (stretches_as me c.split_own.new.pass.caller h₂ h₃ (two ∙ one) c.keep_right.ensures.stretch))

pub returns-clause-stretch : goal.returns-clause-stretch
returns-clause-stretch g c = let me : ℕ = c.args.pass.now.caller in let h = seen_of c.args.pass.now in let h₁ = seen_of c.claim_one.new.pass in let h₂ = seen_of c.split_own.new.pass in let h₃ = seen_of c.keep_right_alone.new.pass in let one = c.claim_one.ensures.caller in let two = c.split_own.ensures.caller in
    stretches_both me h h₁ h₃ c.claim_one.ensures.stretch (stretches_both me h₁ h₂ h₃
    (stretches_shape me c.claim_one.new.pass.caller c.split_own.new.pass.caller h₁ h₂ one two (omega (arith, ap length c.in-Some.ensures.claimed.hands, few c.args.path.parent (hand_of c.args.pass.now) c.args.path.node.node c.requires.path.hands)) c.split_own.ensures.shaped.hand c.split_own.ensures.shaped.adds)
    (stretches_as me c.split_own.new.pass.caller h₂ h₃ (two ∙ one) c.keep_right_alone.ensures.stretch))

-- how many steps down the search is

pub returns-in_default-clause-down : goal.returns-in_default-clause-down
returns-in_default-clause-down g c = λ start taken roots steps down. let law = laws g (goal.at.returns-in_default-clause-down g c).After-search_law in let k = seen_of c.claim_one.new.pass in
    stands_quiet (sort_of g.N.Node.layout g.N.Node.ranged) g.N.Node.body c.args.arena.now.table.shared.table_id.slots c.args.pass.now.caller law c.args.arena.now.nodes start (seen_of c.args.pass.now) k taken roots steps c.args.path.node c.args.path.parent c.claim_one.ensures.pass.sound c.claim_one.ensures.quiet down

-- a node under which the node lies, through the claim and the Shape
module _ (g : Over) (c : After-split_own g) (law : Laws (sort_of g.N.Node.layout g.N.Node.ranged) c.args.arena.now.table.shared.table_id.slots) where
  abbrev sort : Sort
  sort = sort_of g.N.Node.layout g.N.Node.ranged

  abbrev slots : ℕ
  slots = c.args.arena.now.table.shared.table_id.slots

  abbrev me : ℕ
  me = c.args.pass.now.caller

  abbrev h₁ : List Event
  h₁ = seen_of c.claim_one.new.pass

  abbrev h₂ : List Event
  h₂ = seen_of c.split_own.new.pass

  abbrev changes : List Change
  changes = own_to c.args.path.node.node c.in-Some.right.node c.args.cut (g.N.Node.body c.args.path.node.body)

  right_under : (i : ℕ) → HeldUnder h₁ me i c.in-Some.right.node
  right_under i = let got = c.in-Some.ensures.claimed in
      claimed ((is_hand h₁ me (law.turns h₁ c.claim_one.ensures.pass.sound)).held c.in-Some.right.node got.free.has) (free_none sort g.N.Node.body h₁ c.in-Some.right got.free.free got.free.matches)

  through : (n i : ℕ) (start : List Event) (taken roots steps : ℕ) → HeldUnder h₁ me i c.args.path.node.node → IsDown n me start (seen_of c.args.pass.now) taken roots steps i → IsDown n me start h₂ taken roots steps i
  through n i start taken roots steps under down = down_shaped sort g.N.Node.body slots me law n changes start h₁ h₂ taken roots steps i c.split_own.ensures.pass.sound
      (subst (λ (z : ℕ). GrowsWith z (Shape z changes) h₁ h₂) c.claim_one.ensures.caller c.split_own.ensures.shaped.adds)
      (own_held (HeldUnder h₁ me i) c.args.path.node.node c.in-Some.right.node c.args.cut (g.N.Node.body c.args.path.node.body) under (right_under i))
      (down_quiet n me start (seen_of c.args.pass.now) h₁ taken roots steps i c.claim_one.ensures.quiet (law.turns h₁ c.claim_one.ensures.pass.sound) down)

  -- the node itself
  node_down : (n : ℕ) (start : List Event) (taken roots steps : ℕ) → StandsDown n me start (seen_of c.args.pass.now) taken roots steps c.args.path.node c.args.path.parent → IsDown n me start h₂ taken roots steps c.args.path.node.node
  node_down n start taken roots steps down = through n c.args.path.node.node start taken roots steps the_node
      (path_down sort g.N.Node.body slots me law n c.args.place start (seen_of c.args.pass.now) taken roots steps c.args.path.node c.args.path.parent c.requires.path.under down)

  -- the path
  above_under : (o : Option (Hand g.row.N.Denot)) → c.args.path.parent ≡ o → IsUnder sort g.N.Node.body c.args.place c.args.path.node (seen_of c.args.pass.now) o → (y : Hand g.row.N.Denot) → o ≡ Some y → HeldUnder h₁ me y.node c.args.path.node.node
  above_under None is under y e = absurd (let q : ⊥ = cc in q)
  above_under (Some z) is under y e =
      let same : z ≡ y = cc in let to = under.leads in let got = c.in-Some.ensures.claimed in
      let has : Has (hand me (seen_of c.args.pass.now)) z.node = parent_has sort g.N.Node.body slots me law c.args.path.node.node c.args.path.parent (hand me (seen_of c.args.pass.now)) c.requires.path.hands z is in
      let mine₁ : turn_after h₁ z.node ≡ held me = (is_hand h₁ me (law.turns h₁ c.claim_one.ensures.pass.sound)).held z.node (subst (λ (w : List ℕ). Has w z.node) (sym got.hands) (inr has)) in
      let is₁ = record_is sort g.N.Node.body h₁ z under.live (c.claim_one.ensures.rest.still z has under.matches) in
      subst (λ (w : Hand g.row.N.Denot). HeldUnder h₁ me w.node c.args.path.node.node) same (target (record_of (g.N.Node.body z.body)) the_node mine₁ is₁ (to.0, to.1, to.2, to.3, to.4.1))

  whole_down : (n : ℕ) (start : List Event) (taken roots steps : ℕ) (x : Hand g.row.N.Denot) (o : Option (Hand g.row.N.Denot)) → x.node ≡ c.args.path.node.node → ((y : Hand g.row.N.Denot) → o ≡ Some y → HeldUnder h₁ me y.node c.args.path.node.node) → StandsDown n me start (seen_of c.args.pass.now) taken roots steps c.args.path.node o → StandsDown n me start h₂ taken roots steps x o
  whole_down n start taken roots steps x None same under down = subst (λ (z : ℕ). IsDown n me start h₂ taken roots steps z) (sym same) (through n c.args.path.node.node start taken roots steps the_node down)
  whole_down n start taken roots steps x (Some y) same under down = (down.0, down.1, through n y.node start taken roots down.0 (under y refl) down.2)

pub returns-then-place-cut-clause-down : goal.returns-then-place-cut-clause-down
returns-then-place-cut-clause-down g c = λ start taken roots steps down. let at = goal.at.returns-then-place-cut-clause-down g c in let law = laws g at.After-search_law in let s = at.After-split_own in let n : ℕ = c.args.arena.now.nodes in let me : ℕ = c.args.pass.now.caller in
    let h₂ = seen_of c.split_own.new.pass in let h₃ = seen_of c.keep_left.new.pass in let x = c.split_own.new.node in let o = c.args.path.parent in
    let d₂ = whole_down g s law n start taken roots steps x o c.split_own.ensures.node.node (above_under g s law o refl c.requires.path.under) down in
    let q : IsQuiet me h₂ h₃ = subst (λ (z : ℕ). IsQuiet z h₂ h₃) (c.split_own.ensures.caller ∙ c.claim_one.ensures.caller) (quiet_give c.split_own.new.pass.caller c.split_own.new.right.node h₂ h₃ c.keep_left.ensures.gave) in
    subst (λ (z : Path g.row.N.Denot). StandsDown n me start h₃ taken roots steps z.node z.parent) (sym c.keep_left.ensures.same)
    (stands_quiet (sort_of g.N.Node.layout g.N.Node.ranged) g.N.Node.body c.args.arena.now.table.shared.table_id.slots me law n start h₂ h₃ taken roots steps x o c.keep_left.ensures.pass.sound q d₂)

pub returns-then-is_full-clause-down : goal.returns-then-is_full-clause-down
returns-then-is_full-clause-down g c = λ start taken roots steps down. let at = goal.at.returns-then-is_full-clause-down g c in let law = laws g at.After-search_law in let s = at.After-split_own in let n : ℕ = c.args.arena.now.nodes in let me : ℕ = c.args.pass.now.caller in
    let h₂ = seen_of c.split_own.new.pass in let h₃ = seen_of c.keep_right.new.pass in
    let d₂ = node_down g s law n start taken roots steps down in
    let d₃ = down_quiet n me start h₂ h₃ taken roots steps c.args.path.node.node (subst (λ (z : ℕ). IsQuiet z h₂ h₃) (c.split_own.ensures.caller ∙ c.claim_one.ensures.caller) c.keep_right.ensures.quiet) (law.turns h₃ c.keep_right.ensures.pass.sound) d₂ in
    subst (λ (o : Option (Hand g.row.N.Denot)). StandsDown n me start h₃ taken roots steps c.keep_right.result.node o) (sym c.keep_right.ensures.parent)
    (steps, omega arith, subst (λ (z : ℕ). IsDown n me start h₃ taken roots steps z) (sym c.split_own.ensures.node.node) d₃)

pub returns-clause-down : goal.returns-clause-down
returns-clause-down g c = λ start taken roots steps down. let at = goal.at.returns-clause-down g c in let law = laws g at.After-search_law in let s = at.After-split_own in let n : ℕ = c.args.arena.now.nodes in let me : ℕ = c.args.pass.now.caller in let sort = sort_of g.N.Node.layout g.N.Node.ranged in
    let h₂ = seen_of c.split_own.new.pass in let h₃ = seen_of c.keep_right_alone.new.pass in let x = c.split_own.new.node in let y = c.split_own.new.right in
    let z = (c.split_own.ensures.parts c.args.place (inset g at.After-claim_one c.args.place c.requires.path.inside (mine g at.After-search_law))).1 (omega (arith, c.if-place-cut.false)) in let to = z.0 in
    let b : Body = split_on c.args.cut c.in-Some.right.node (g.N.Node.body c.args.path.node.body) in
    let is₂ : record_at (graph_after h₂) c.args.path.node.node ≡ Some (record_of b) = subst (λ (w : ℕ). record_at (graph_after h₂) w ≡ Some (record_of b)) c.split_own.ensures.node.node (subst (λ (w : Body). record_at (graph_after h₂) x.node ≡ Some (record_of w)) c.split_own.ensures.node.body (record_is sort g.N.Node.body h₂ x c.split_own.ensures.node.live c.split_own.ensures.node.matches)) in
    let d₂ = down_fewer n me start h₂ taken roots steps (suc steps) c.in-Some.right.node (omega arith) (down_edge n me start h₂ taken roots steps c.args.path.node.node c.in-Some.right.node (record_of b) is₂ (to.0, to.1, to.2, to.3, to.4.1) (node_down g s law n start taken roots steps down)) in
    let d₃ = down_quiet n me start h₂ h₃ taken roots steps c.in-Some.right.node (subst (λ (w : ℕ). IsQuiet w h₂ h₃) (c.split_own.ensures.caller ∙ c.claim_one.ensures.caller) c.keep_right_alone.ensures.quiet) (law.turns h₃ c.keep_right_alone.ensures.pass.sound) d₂ in
    subst (λ (o : Option (Hand g.row.N.Denot)). StandsDown n me start h₃ taken roots steps c.keep_right_alone.result.node o) (sym c.keep_right_alone.ensures.parent)
    (subst (λ (w : Hand g.row.N.Denot). IsDown n me start h₃ taken roots steps w.node) (sym c.keep_right_alone.ensures.node) (subst (λ (w : ℕ). IsDown n me start h₃ taken roots steps w) (sym c.split_own.ensures.right.node) d₃))

-- neither half is full, if halves have room

pub returns-then-place-cut-clause-halves : goal.returns-then-place-cut-clause-halves
returns-then-place-cut-clause-halves g c = λ even. let room = c.requires.halves even in
    subst (λ (z : Path g.row.N.Denot). is_full g.N.Node.layout (g.N.Node.body z.node.body) ≡ false) (sym c.keep_left.ensures.same) (ap (is_full g.N.Node.layout) c.split_own.ensures.node.body ∙ own_full g.N.Node.layout c.args.cut c.in-Some.right.node (g.N.Node.body c.args.path.node.body) c.requires.leaf ∙ room.0)

pub returns-then-is_full-clause-halves : goal.returns-then-is_full-clause-halves
returns-then-is_full-clause-halves g c = λ even. let room = c.requires.halves even in let full : is_full g.N.Node.layout (g.N.Node.body c.split_own.new.right.body) ≡ false = ap (is_full g.N.Node.layout) c.split_own.ensures.right.body ∙ room.1 in
    subst (λ (x : Hand g.row.N.Denot). is_full g.N.Node.layout (g.N.Node.body x.body) ≡ false) (sym c.keep_right.ensures.node) full

pub returns-clause-halves : goal.returns-clause-halves
returns-clause-halves g c = λ even. let room = c.requires.halves even in
    subst (λ (x : Hand g.row.N.Denot). is_full g.N.Node.layout (g.N.Node.body x.body) ≡ false) (sym c.keep_right_alone.ensures.node) (ap (is_full g.N.Node.layout) c.split_own.ensures.right.body ∙ room.1)

-- how it narrows the search

pub returns-then-place-cut-clause-narrows : goal.returns-then-place-cut-clause-narrows
returns-then-place-cut-clause-narrows g c = let at = goal.at.returns-then-place-cut-clause-narrows g c in let law = laws g at.After-search_law in let sort = sort_of g.N.Node.layout g.N.Node.ranged in let shows = g.N.Node.body in let layout = g.N.Node.layout in let cut : ℕ = c.args.cut in let place : ℕ = c.args.place in
    let h = seen_of c.args.pass.now in let x = c.args.path in let b : Body = shows x.node.body in let y : Path g.row.N.Denot = record { parent = x.parent; node = c.split_own.new.node } in let low : cut ≤ top = omega (arith, c.ranges.cut) in
    let above = under_above (graph_after h) (frame_after (blank_of sort) h) (law.good h c.requires.pass.sound) (law.facts h c.requires.pass.sound) c.tree_facts_law.ensures.child sort layout shows place cut h x.node x.parent refl c.requires.path.under c.requires.cut.0 in
    subst (λ (z : Path g.row.N.Denot). cuts_left layout shows place z < cuts_left layout shows place x) (sym c.keep_left.ensures.same)
    (own_narrower layout shows place x y cut c.requires.full above (own_past b cut c.requires.leaf low c.requires.cut.1 c.requires.none_starts) refl (ap (λ (z : Body). z.low) c.split_own.ensures.node.body) (ap own_start c.split_own.ensures.node.body ∙ own_on b cut c.in-Some.right.node c.requires.leaf))

pub returns-then-is_full-clause-narrows : goal.returns-then-is_full-clause-narrows
returns-then-is_full-clause-narrows g c = let shows = g.N.Node.body in let cut : ℕ = c.args.cut in let low : cut ≤ top = omega (arith, c.ranges.cut) in
    right_narrower g.N.Node.layout shows c.args.place c.args.path c.keep_right.result cut c.requires.full low c.requires.cut.1.0.0 (ap (λ (z : Hand g.row.N.Denot). (shows z.body).low) c.keep_right.ensures.node ∙ ap (λ (z : Body). z.low) c.split_own.ensures.right.body)

pub returns-clause-narrows : goal.returns-clause-narrows
returns-clause-narrows g c = let shows = g.N.Node.body in let cut : ℕ = c.args.cut in let low : cut ≤ top = omega (arith, c.ranges.cut) in
    right_narrower g.N.Node.layout shows c.args.place c.args.path c.keep_right_alone.result cut c.requires.full low c.requires.cut.1.0.0 (ap (λ (z : Hand g.row.N.Denot). (shows z.body).low) c.keep_right_alone.ensures.node ∙ ap (λ (z : Body). z.low) c.split_own.ensures.right.body)

-- the kinds of its events

pub returns-in_default-clause-fills : goal.returns-in_default-clause-fills
returns-in_default-clause-fills g c = λ must. c.claim_one.ensures.fills c.args.place (path_splits (sort_of g.N.Node.layout g.N.Node.ranged) g.N.Node.body c.args.arena.now.table.shared.table_id.slots c.args.pass.now.caller (laws g (goal.at.returns-in_default-clause-fills g c).After-search_law) c.args.place (seen_of c.args.pass.now) c.args.path c.requires.pass.sound c.requires.path must)

pub returns-then-place-cut-clause-fills : goal.returns-then-place-cut-clause-fills
returns-then-place-cut-clause-fills g c = λ must. let me : ℕ = c.args.pass.now.caller in let h = seen_of c.args.pass.now in let h₁ = seen_of c.claim_one.new.pass in let h₂ = seen_of c.split_own.new.pass in let h₃ = seen_of c.keep_left.new.pass in let one = c.claim_one.ensures.caller in let two = c.split_own.ensures.caller in let may = MayFill (sort_of g.N.Node.layout g.N.Node.ranged) c.args.place in
    fills_search (sort_of g.N.Node.layout g.N.Node.ranged) c.args.place me c.split_own.new.pass.caller h h₂ h₃ (two ∙ one) (does_on may me c.claim_one.new.pass.caller h h₁ h₂ one (c.claim_one.ensures.fills c.args.place (path_splits (sort_of g.N.Node.layout g.N.Node.ranged) g.N.Node.body c.args.arena.now.table.shared.table_id.slots c.args.pass.now.caller (laws g (goal.at.returns-then-place-cut-clause-fills g c).After-search_law) c.args.place (seen_of c.args.pass.now) c.args.path c.requires.pass.sound c.requires.path must)) (c.split_own.ensures.fills c.args.place must)) c.keep_left.ensures.leaves

pub returns-then-is_full-clause-fills : goal.returns-then-is_full-clause-fills
returns-then-is_full-clause-fills g c = λ must. let me : ℕ = c.args.pass.now.caller in let h = seen_of c.args.pass.now in let h₁ = seen_of c.claim_one.new.pass in let h₂ = seen_of c.split_own.new.pass in let h₃ = seen_of c.keep_right.new.pass in let one = c.claim_one.ensures.caller in let two = c.split_own.ensures.caller in let may = MayFill (sort_of g.N.Node.layout g.N.Node.ranged) c.args.place in
    fills_search (sort_of g.N.Node.layout g.N.Node.ranged) c.args.place me c.split_own.new.pass.caller h h₂ h₃ (two ∙ one) (does_on may me c.claim_one.new.pass.caller h h₁ h₂ one (c.claim_one.ensures.fills c.args.place (path_splits (sort_of g.N.Node.layout g.N.Node.ranged) g.N.Node.body c.args.arena.now.table.shared.table_id.slots c.args.pass.now.caller (laws g (goal.at.returns-then-is_full-clause-fills g c).After-search_law) c.args.place (seen_of c.args.pass.now) c.args.path c.requires.pass.sound c.requires.path must)) (c.split_own.ensures.fills c.args.place must)) c.keep_right.ensures.leaves

pub returns-clause-fills : goal.returns-clause-fills
returns-clause-fills g c = λ must. let me : ℕ = c.args.pass.now.caller in let h = seen_of c.args.pass.now in let h₁ = seen_of c.claim_one.new.pass in let h₂ = seen_of c.split_own.new.pass in let h₃ = seen_of c.keep_right_alone.new.pass in let one = c.claim_one.ensures.caller in let two = c.split_own.ensures.caller in let may = MayFill (sort_of g.N.Node.layout g.N.Node.ranged) c.args.place in
    fills_search (sort_of g.N.Node.layout g.N.Node.ranged) c.args.place me c.split_own.new.pass.caller h h₂ h₃ (two ∙ one) (does_on may me c.claim_one.new.pass.caller h h₁ h₂ one (c.claim_one.ensures.fills c.args.place (path_splits (sort_of g.N.Node.layout g.N.Node.ranged) g.N.Node.body c.args.arena.now.table.shared.table_id.slots c.args.pass.now.caller (laws g (goal.at.returns-clause-fills g c).After-search_law) c.args.place (seen_of c.args.pass.now) c.args.path c.requires.pass.sound c.requires.path must)) (c.split_own.ensures.fills c.args.place must)) c.keep_right_alone.ensures.leaves
