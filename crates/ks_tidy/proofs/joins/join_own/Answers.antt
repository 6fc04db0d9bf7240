use Rattle.std.proofs.Common.{◌≡◌, ◌∙◌, ℕ, List, ◌∷◌, arith, refl, sym, ap, subst, inl, inr}
use Rattle.ks_keysets.specs.Keyset.{InInset}
use Rattle.ks_keysets.specs.Tight.{FitsNoRight}
use Rattle.ks_history.specs.Hand.{AreOnce}
use Rattle.ks_history.specs.Own.{hand}
use Rattle.ks_history.specs.Trace.{graph_after}
use Rattle.ks_history.specs.Frames.{frame_after}
use Rattle.ks_history.specs.Passes.{Has, GrowsWith}
use Rattle.ks_history.specs.declared.Event.TheVariants.{Give}
use Rattle.ks_arena.specs.Sound.{blank_of, sort_of}
use Rattle.ks_arena.specs.Clauses.{seen_of}
use Rattle.ks_shape.specs.Places.{HasPlacesOf}
use Rattle.ks_shape.specs.Laws.Places.{places_both}
use Rattle.ks_shape.specs.Laws.Stretches.{stretches_as, stretches_both, stretches_shape}
use Rattle.ks_shape.specs.declared.path.Path.{Path}
use Rattle.ks_shape.specs.Laws.Search.{Laws}
use Rattle.ks_shape.specs.OnPath.{IsOnPath, numbers}
use Rattle.ks_shape.specs.Laws.Frees.{frees_both, frees_give, frees_shape, undisturbed_same}
use Rattle.ks_tidy.specs.Pair.{TakesOver}
use Rattle.ks_tidy.proofs.Keeping.{few_right, once_in, parent_apart, parent_has, places_kept, under_with}
use Rattle.ks_tidy.proofs.Standing.{fits_along, plain, stands_now}
use Rattle.ks_shape.specs.Laws.Does.{dels_search, searched_dels}
use Rattle.ks_tidy.proofs.joins.join_own.Given.{Over}
use Rattle.ks_tidy.proofs.joins.join_own.Goals as goal
use Rattle.ks_tidy.proofs.joins.join_own.Goals.{After-node_law-2, After-absorb_own, After-keep_left, After-keep_left-2}

laws : (g : Over) (c : After-node_law-2 g) → Laws (sort_of g.N.Node.layout g.N.Node.ranged) c.args.arena.now.table.shared.table_id.slots
laws g c = c.search_law.ensures (sort_of g.N.Node.layout g.N.Node.ranged) c.args.arena.now.table.shared.table_id.slots

-- the held nodes are distinct
once : (g : Over) (c : After-node_law-2 g) → AreOnce (c.args.next.node ∷ c.args.path.node.node ∷ numbers c.args.path.parent)
once g c = once_in (sort_of g.N.Node.layout g.N.Node.ranged) c.args.arena.now.table.shared.table_id.slots c.args.pass.now.caller (laws g c) (seen_of c.args.pass.now) (c.args.next.node ∷ c.args.path.node.node ∷ numbers c.args.path.parent) c.requires.pass.sound c.requires.trio.hands

-- both fit

pub absorb_own-requires-clause-node : goal.absorb_own-requires-clause-node
absorb_own-requires-clause-node g c = let trio = c.requires.trio in record { has = subst (λ (z : List ℕ). Has z c.args.path.node.node) (sym trio.hands) (inr (inl refl)); live = trio.live; matches = trio.matches }

pub absorb_own-requires-clause-right : goal.absorb_own-requires-clause-right
absorb_own-requires-clause-right g c = let trio = c.requires.trio in record { has = subst (λ (z : List ℕ). Has z c.args.next.node) (sym trio.hands) (inl refl); live = trio.right_live; matches = trio.right_matches }

pub absorb_own-requires-clause-apart : goal.absorb_own-requires-clause-apart
absorb_own-requires-clause-apart g c = λ same. (once g (goal.at.absorb_own-requires-clause-apart g c).After-node_law-2).0 (inl same)

absorbed_hands : (g : Over) (c : After-absorb_own g) → hand c.absorb_own.new.pass.caller (seen_of c.absorb_own.new.pass) ≡ c.args.next.node ∷ c.args.path.node.node ∷ numbers c.args.path.parent
absorbed_hands g c = c.absorb_own.ensures.shaped.hand ∙ c.requires.trio.hands

pub keep_left-requires-clause-hands : goal.keep_left-requires-clause-hands
keep_left-requires-clause-hands g c = let e = c.absorb_own.ensures in absorbed_hands g (goal.at.keep_left-requires-clause-hands g c).After-absorb_own
    ∙ ap (λ (z : ℕ). z ∷ c.args.path.node.node ∷ numbers c.args.path.parent) (sym e.right.node) ∙ ap (λ (z : ℕ). c.absorb_own.new.right.node ∷ z ∷ numbers c.args.path.parent) (sym e.node.node)

pub keep_left-requires-clause-under : goal.keep_left-requires-clause-under
keep_left-requires-clause-under g c = let at = goal.at.keep_left-requires-clause-under g c in let h = seen_of c.args.pass.now in let e = c.absorb_own.ensures in let j : ℕ = c.args.path.node.node in let o = c.args.path.parent in let trio = c.requires.trio in
    let apart : AreOnce (c.args.next.node ∷ j ∷ numbers o) = once g at.After-node_law-2 in
    under_with (sort_of g.N.Node.layout g.N.Node.ranged) g.N.Node.body c.args.place c.args.path.node c.absorb_own.new.node h (seen_of c.absorb_own.new.pass) o e.node.node trio.rooted
    (λ y is m. let has : Has (j ∷ numbers o) y.node = parent_has j o (j ∷ numbers o) refl y is in
    e.shaped.still y (parent_apart j o apart.1 y is, ((λ same. apart.0 (subst (Has (j ∷ numbers o)) same has)), tt)) (subst (λ (z : List ℕ). Has z y.node) (sym trio.hands) (inr has)) m)
    trio.under

pub keep_left-requires-clause-inside : goal.keep_left-requires-clause-inside
keep_left-requires-clause-inside g c = let e = c.absorb_own.ensures in
    subst (λ (w : ℕ). InInset (graph_after (seen_of c.absorb_own.new.pass)) w c.args.place) (sym e.node.node) (e.places.inset c.args.place c.requires.trio.inside)

result_node : (g : Over) (c : After-keep_left g) → c.keep_left.result.node.node ≡ c.args.path.node.node
result_node g c = ap (λ (z : Path g.row.N.Denot). z.node.node) c.keep_left.ensures.same ∙ c.absorb_own.ensures.node.node

gave : (g : Over) (c : After-keep_left g) → GrowsWith c.args.pass.now.caller (Give c.args.pass.now.caller c.absorb_own.new.right.node) (seen_of c.absorb_own.new.pass) (seen_of c.keep_left.new.pass)
gave g c = subst (λ (z : ℕ). GrowsWith z (Give z c.absorb_own.new.right.node) (seen_of c.absorb_own.new.pass) (seen_of c.keep_left.new.pass)) c.absorb_own.ensures.caller c.keep_left.ensures.gave

on_path : (g : Over) (c : After-keep_left g) → IsOnPath (sort_of g.N.Node.layout g.N.Node.ranged) g.N.Node.body c.args.pass.now.caller c.args.place (seen_of c.keep_left.new.pass) c.keep_left.result
on_path g c = subst (λ (z : ℕ). IsOnPath (sort_of g.N.Node.layout g.N.Node.ranged) g.N.Node.body z c.args.place (seen_of c.keep_left.new.pass) c.keep_left.result) c.absorb_own.ensures.caller c.keep_left.ensures.path

pub returns-then-fits-clause-pair : goal.returns-then-fits-clause-pair
returns-then-fits-clause-pair g c = let at = (goal.at.returns-then-fits-clause-pair g c).After-keep_left in record {
  path = on_path g at;
  rooted = λ none. subst (TakesOver g.N.Node.layout) (sym (result_node g at)) (c.requires.trio.rooted (sym (ap (λ (z : Path g.row.N.Denot). z.parent) c.keep_left.ensures.same) ∙ none));
}

pub returns-then-fits-clause-places : goal.returns-then-fits-clause-places
returns-then-fits-clause-places g c = let at = goal.at.returns-then-fits-clause-places g c in let sort = sort_of g.N.Node.layout g.N.Node.ranged in let n : ℕ = c.args.arena.now.table.shared.table_id.slots in let me : ℕ = c.args.pass.now.caller in let h = seen_of c.args.pass.now in let h₁ = seen_of c.absorb_own.new.pass in let k = seen_of c.keep_left.new.pass in let i : ℕ = c.args.path.node.node in let law = laws g at.After-node_law-2 in
    let has : Has (hand me h₁) i = subst (λ (z : List ℕ). Has z i) (sym (ap (λ (z : ℕ). hand z h₁) (sym c.absorb_own.ensures.caller) ∙ absorbed_hands g at.After-absorb_own)) (inr (inl refl)) in
    let has' : Has (hand me k) i = subst (λ (z : List ℕ). Has z i) (sym (on_path g at.After-keep_left).hands) (inl (result_node g at.After-keep_left)) in
    subst (λ (z : ℕ). HasPlacesOf (graph_after h) (graph_after k) i z) (sym (result_node g at.After-keep_left))
    (places_both (graph_after h) (graph_after h₁) (graph_after k) i i i c.absorb_own.ensures.places
    (places_kept sort n me law (Give me c.absorb_own.new.right.node) h₁ k i tt (gave g at.After-keep_left) c.absorb_own.ensures.pass.sound c.keep_left.ensures.pass.sound has has'))

pub returns-then-fits-clause-stretch : goal.returns-then-fits-clause-stretch
returns-then-fits-clause-stretch g c = let me : ℕ = c.args.pass.now.caller in let h = seen_of c.args.pass.now in let h₁ = seen_of c.absorb_own.new.pass in let k = seen_of c.keep_left.new.pass in let one = c.absorb_own.ensures.caller in
    stretches_both me h h₁ k
    (stretches_shape me me c.absorb_own.new.pass.caller h h₁ refl one (few_right c.args.path.parent (hand me h) c.args.next.node c.args.path.node.node c.requires.trio.hands) c.absorb_own.ensures.shaped.hand c.absorb_own.ensures.shaped.adds)
    (stretches_as me c.absorb_own.new.pass.caller h₁ k one c.keep_left.ensures.stretch)

pub returns-then-fits-clause-step : goal.returns-then-fits-clause-step
returns-then-fits-clause-step g c = let at = goal.at.returns-then-fits-clause-step g c in let me : ℕ = c.args.pass.now.caller in let h = seen_of c.args.pass.now in let h₁ = seen_of c.absorb_own.new.pass in let k = seen_of c.keep_left.new.pass in
    frees_both me 1 0 h h₁ k (frees_shape me h h₁ (omega arith) c.absorb_own.ensures.shaped.adds) (frees_give me c.absorb_own.new.right.node h₁ k (gave g at.After-keep_left))

-- they do not fit

pub keep_left-requires-2-clause-hands : goal.keep_left-requires-2-clause-hands
keep_left-requires-2-clause-hands g c = c.requires.trio.hands

pub keep_left-requires-2-clause-under : goal.keep_left-requires-2-clause-under
keep_left-requires-2-clause-under g c = c.requires.trio.under

pub keep_left-requires-2-clause-node : goal.keep_left-requires-2-clause-node
keep_left-requires-2-clause-node g c = (c.requires.trio.live, c.requires.trio.matches)

pub keep_left-requires-2-clause-right : goal.keep_left-requires-2-clause-right
keep_left-requires-2-clause-right g c = c.requires.trio.right_matches

pub keep_left-requires-2-clause-inside : goal.keep_left-requires-2-clause-inside
keep_left-requires-2-clause-inside g c = c.requires.trio.inside

result_path : (g : Over) (c : After-keep_left-2 g) → c.keep_left-2.result.node.node ≡ c.args.path.node.node
result_path g c = ap (λ (z : Path g.row.N.Denot). z.node.node) c.keep_left-2.ensures.same

pub returns-clause-pair : goal.returns-clause-pair
returns-clause-pair g c = let at = (goal.at.returns-clause-pair g c).After-keep_left-2 in record {
  path = c.keep_left-2.ensures.path;
  rooted = λ none. subst (TakesOver g.N.Node.layout) (sym (result_path g at)) (c.requires.trio.rooted (sym (ap (λ (z : Path g.row.N.Denot). z.parent) c.keep_left-2.ensures.same) ∙ none));
}

pub returns-clause-places : goal.returns-clause-places
returns-clause-places g c = let at = goal.at.returns-clause-places g c in let sort = sort_of g.N.Node.layout g.N.Node.ranged in let n : ℕ = c.args.arena.now.table.shared.table_id.slots in let me : ℕ = c.args.pass.now.caller in let h = seen_of c.args.pass.now in let k = seen_of c.keep_left-2.new.pass in let i : ℕ = c.args.path.node.node in let law = laws g at.After-node_law-2 in
    let has : Has (hand me h) i = subst (λ (z : List ℕ). Has z i) (sym c.requires.trio.hands) (inr (inl refl)) in
    let has' : Has (hand me k) i = subst (λ (z : List ℕ). Has z i) (sym c.keep_left-2.ensures.path.hands) (inl (result_path g at.After-keep_left-2)) in
    subst (λ (z : ℕ). HasPlacesOf (graph_after h) (graph_after k) i z) (sym (result_path g at.After-keep_left-2))
    (places_kept sort n me law (Give me c.args.next.node) h k i tt c.keep_left-2.ensures.gave c.requires.pass.sound c.keep_left-2.ensures.pass.sound has has')

-- what was seen of the two held nodes holds at the end, if nobody else acts
fits_none : (g : Over) (c : After-keep_left-2 g) → FitsNoRight g.N.Node.layout (graph_after (seen_of c.args.pass.now)) (frame_after (blank_of (sort_of g.N.Node.layout g.N.Node.ranged)) (seen_of c.args.pass.now)) c.args.path.node.node
fits_none g c = let sort = sort_of g.N.Node.layout g.N.Node.ranged in let h = seen_of c.args.pass.now in let x = c.args.path.node in let right = c.args.next in let trio = c.requires.trio in let no_link = c.unlinked_law.ensures.no_link in
    c.alone_law.ensures.own g.N.Node.layout (graph_after h) (frame_after (blank_of sort) h) x.node right.node (g.N.Node.body x.body) (g.N.Node.body right.body)
    (stands_now sort g.N.Node.body h x trio.live trio.matches (plain (g.N.Node.body x.body) c.node_law.ensures.sound c.node_law.ensures.framed (no_link x.body)))
    (stands_now sort g.N.Node.body h right trio.right_live trio.right_matches (plain (g.N.Node.body right.body) c.node_law-2.ensures.sound c.node_law-2.ensures.framed (no_link right.body)))
    c.requires.chained (sym c.fits.ensures ∙ c.if-fits.false)

pub returns-clause-step : goal.returns-clause-step
returns-clause-step g c = let at = goal.at.returns-clause-step g c in let sort = sort_of g.N.Node.layout g.N.Node.ranged in let me : ℕ = c.args.pass.now.caller in let h = seen_of c.args.pass.now in let k = seen_of c.keep_left-2.new.pass in
    let back = frees_give me c.args.next.node h k c.keep_left-2.ensures.gave in
    record {
      same = c.keep_left-2.ensures.same;
      frees = back;
      no_sole = c.requires.no_sole;
      tested = λ whole which alone. fits_along g.N.Node.layout (graph_after h) (graph_after k) (frame_after (blank_of sort) h) (frame_after (blank_of sort) k)
          (undisturbed_same me (blank_of sort) h k (record { alone = alone; none = back }))
          c.args.path.node.node (fits_none g at.After-keep_left-2);
    }

-- the kinds of its events

pub returns-then-fits-clause-dels : goal.returns-then-fits-clause-dels
returns-then-fits-clause-dels g c = λ low. dels_search (sort_of g.N.Node.layout g.N.Node.ranged) c.args.pass.now.caller c.absorb_own.new.pass.caller (seen_of c.args.pass.now) (seen_of c.absorb_own.new.pass) (seen_of c.keep_left.new.pass) c.absorb_own.ensures.caller (c.absorb_own.ensures.dels low) c.keep_left.ensures.leaves

pub returns-clause-dels : goal.returns-clause-dels
returns-clause-dels g c = λ low. searched_dels (sort_of g.N.Node.layout g.N.Node.ranged) c.args.pass.now.caller (seen_of c.args.pass.now) (seen_of c.keep_left-2.new.pass) c.keep_left-2.ensures.leaves
