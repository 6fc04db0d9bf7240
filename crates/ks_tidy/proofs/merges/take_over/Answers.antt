use Rattle.std.proofs.Common.{◌≡◌, ◌≢◌, ◌∙◌, ℕ, List, [], ◌∷◌, length, arith, refl, sym, ap, subst, inl, inr}
use Rattle.ks_history.specs.Own.{hand, drop_one}
use Rattle.ks_history.specs.Trace.{graph_after}
use Rattle.ks_history.specs.Passes.{Has, GrowsWith}
use Rattle.ks_history.specs.declared.Event.TheVariants.{Give}
use Rattle.ks_arena.specs.Sound.{sort_of}
use Rattle.ks_arena.specs.Clauses.{seen_of}
use Rattle.ks_shape.specs.Places.{HasPlacesOf}
use Rattle.ks_shape.specs.Laws.Places.{places_both}
use Rattle.ks_shape.specs.Laws.Stretches.{stretches_both, stretches_give, stretches_shape}
use Rattle.ks_shape.specs.Laws.Search.{Laws}
use Rattle.ks_shape.specs.Laws.Frees.{frees_both, frees_give, frees_shape}
use Rattle.ks_tidy.specs.Pair.{TakesOver}
use Rattle.ks_tidy.proofs.Keeping.{drop_first, once_in, places_kept, under_none}
use Rattle.ks_shape.specs.Laws.Does.{dels_search, searches_give}
use Rattle.ks_tidy.proofs.merges.take_over.Given.{Over}
use Rattle.ks_tidy.proofs.merges.take_over.Goals as goal
use Rattle.ks_tidy.proofs.merges.take_over.Goals.{After-search_law, After-give}

laws : (g : Over) (c : After-search_law g) → Laws (sort_of g.N.Node.layout g.N.Node.ranged) c.args.arena.now.table.shared.table_id.slots
laws g c = c.search_law.ensures (sort_of g.N.Node.layout g.N.Node.ranged) c.args.arena.now.table.shared.table_id.slots

both : (g : Over) (c : After-search_law g) → hand c.args.pass.now.caller (seen_of c.args.pass.now) ≡ c.args.child.node ∷ c.args.parent.node ∷ []
both g c = c.requires.pair.path.hands

apart : (g : Over) (c : After-search_law g) → c.args.parent.node ≢ c.args.child.node
apart g c = λ same. (once_in (sort_of g.N.Node.layout g.N.Node.ranged) c.args.arena.now.table.shared.table_id.slots c.args.pass.now.caller (laws g c) (seen_of c.args.pass.now) (c.args.child.node ∷ c.args.parent.node ∷ []) c.requires.pass.sound (both g c)).0 (inl same)

pub collapse-requires-clause-node : goal.collapse-requires-clause-node
collapse-requires-clause-node g c = let under = c.requires.pair.path.under in record { has = subst (λ (z : List ℕ). Has z c.args.parent.node) (sym (both g (goal.at.collapse-requires-clause-node g c).After-search_law)) (inr (inl refl)); live = under.live; matches = under.matches }

pub collapse-requires-clause-child : goal.collapse-requires-clause-child
collapse-requires-clause-child g c = let path = c.requires.pair.path in record { has = subst (λ (z : List ℕ). Has z c.args.child.node) (sym (both g (goal.at.collapse-requires-clause-child g c).After-search_law)) (inl refl); live = path.live; matches = path.matches }

pub collapse-requires-clause-apart : goal.collapse-requires-clause-apart
collapse-requires-clause-apart g c = apart g (goal.at.collapse-requires-clause-apart g c).After-search_law

-- the hands after the shape, and after the release
shaped_hands : (g : Over) (c : After-give g) → hand c.args.pass.now.caller (seen_of c.collapse.new.pass) ≡ c.args.child.node ∷ c.args.parent.node ∷ []
shaped_hands g c = let h₁ = seen_of c.collapse.new.pass in subst (λ (z : ℕ). hand z h₁ ≡ c.args.child.node ∷ c.args.parent.node ∷ []) c.collapse.ensures.caller (c.collapse.ensures.shaped.hand ∙ c.requires.pair.path.hands)

gave_hands : (g : Over) (c : After-give g) → hand c.args.pass.now.caller (seen_of c.give.new.pass) ≡ c.args.parent.node ∷ []
gave_hands g c = let me : ℕ = c.args.pass.now.caller in let h₁ = seen_of c.collapse.new.pass in let k = seen_of c.give.new.pass in let i : ℕ = c.args.child.node in let j : ℕ = c.collapse.new.child.node in
    let gone : hand me k ≡ drop_one j (hand me h₁) = subst (λ (z : ℕ). hand z k ≡ drop_one j (hand z h₁)) c.collapse.ensures.caller (subst (λ (z : ℕ). hand z k ≡ drop_one j (hand c.collapse.new.pass.caller h₁)) c.give.ensures.caller c.give.ensures.hand) in
    gone ∙ ap (λ (z : ℕ). drop_one z (hand me h₁)) c.collapse.ensures.child.node ∙ ap (drop_one i) (shaped_hands g c) ∙ drop_first i (c.args.parent.node ∷ [])

gave : (g : Over) (c : After-give g) → GrowsWith c.args.pass.now.caller (Give c.args.pass.now.caller c.collapse.new.child.node) (seen_of c.collapse.new.pass) (seen_of c.give.new.pass)
gave g c = subst (λ (z : ℕ). GrowsWith z (Give z c.collapse.new.child.node) (seen_of c.collapse.new.pass) (seen_of c.give.new.pass)) c.collapse.ensures.caller c.give.ensures.gave

pub give-requires-clause-holds : goal.give-requires-clause-holds
give-requires-clause-holds g c κs within = let h₁ = seen_of c.collapse.new.pass in
    subst (λ (z : List ℕ). Has z c.collapse.new.child.node) (sym (c.collapse.ensures.shaped.hand ∙ c.requires.pair.path.hands)) (inl (sym c.collapse.ensures.child.node))

-- the node has the places that its child had
placed : (g : Over) (c : After-give g) → Laws (sort_of g.N.Node.layout g.N.Node.ranged) c.args.arena.now.table.shared.table_id.slots → HasPlacesOf (graph_after (seen_of c.args.pass.now)) (graph_after (seen_of c.give.new.pass)) c.args.child.node c.collapse.new.node.node
placed g c law = let me : ℕ = c.args.pass.now.caller in let h = seen_of c.args.pass.now in let h₁ = seen_of c.collapse.new.pass in let k = seen_of c.give.new.pass in let i : ℕ = c.args.child.node in let r : ℕ = c.args.parent.node in let sort = sort_of g.N.Node.layout g.N.Node.ranged in let n : ℕ = c.args.arena.now.table.shared.table_id.slots in
    let has : Has (hand me h₁) r = subst (λ (z : List ℕ). Has z r) (sym (shaped_hands g c)) (inr (inl refl)) in
    let has' : Has (hand me k) r = subst (λ (z : List ℕ). Has z r) (sym (gave_hands g c)) (inl refl) in
    subst (λ (z : ℕ). HasPlacesOf (graph_after h) (graph_after k) i z) (sym c.collapse.ensures.node.node)
    (places_both (graph_after h) (graph_after h₁) (graph_after k) i r r c.collapse.ensures.places
    (places_kept sort n me law (Give me c.collapse.new.child.node) h₁ k r tt (gave g c) c.collapse.ensures.pass.sound c.give.ensures.pass.sound has has'))

pub returns-clause-pair : goal.returns-clause-pair
returns-clause-pair g c = let at = goal.at.returns-clause-pair g c in let k = seen_of c.give.new.pass in let e = c.collapse.ensures in let sort = sort_of g.N.Node.layout g.N.Node.ranged in
    let takes : TakesOver g.N.Node.layout c.collapse.new.node.node = subst (TakesOver g.N.Node.layout) (sym e.node.node) c.requires.takes in
    let still = c.give.ensures.rest.still c.collapse.new.node (λ same. apart g at.After-search_law (sym e.node.node ∙ same ∙ e.child.node))
    (subst (λ (z : List ℕ). Has z c.collapse.new.node.node) (sym (c.collapse.ensures.shaped.hand ∙ c.requires.pair.path.hands)) (inr (inl (sym e.node.node)))) e.node.matches in
    record {
      path = record {
        hands = gave_hands g at.After-give ∙ ap (λ (z : ℕ). z ∷ []) (sym e.node.node);
        live = e.node.live;
        matches = still;
        inside = (placed g at.After-give (laws g at.After-search_law)).inset c.args.place c.requires.pair.path.inside;
        under = under_none sort g.N.Node.body c.args.place c.collapse.new.node k takes;
      };
      rooted = λ none. takes;
    }

pub returns-clause-places : goal.returns-clause-places
returns-clause-places g c = let at = goal.at.returns-clause-places g c in placed g at.After-give (laws g at.After-search_law)

pub returns-clause-stretch : goal.returns-clause-stretch
returns-clause-stretch g c = let at = goal.at.returns-clause-stretch g c in let me : ℕ = c.args.pass.now.caller in let h = seen_of c.args.pass.now in let h₁ = seen_of c.collapse.new.pass in let k = seen_of c.give.new.pass in
    stretches_both me h h₁ k
    (stretches_shape me me c.collapse.new.pass.caller h h₁ refl c.collapse.ensures.caller (omega (arith, ap length c.requires.pair.path.hands)) c.collapse.ensures.shaped.hand c.collapse.ensures.shaped.adds)
    (stretches_give me c.collapse.new.child.node h₁ k (omega (arith, ap length (shaped_hands g at.After-give))) (gave g at.After-give))

pub returns-clause-frees : goal.returns-clause-frees
returns-clause-frees g c = let at = goal.at.returns-clause-frees g c in let me : ℕ = c.args.pass.now.caller in let h = seen_of c.args.pass.now in let h₁ = seen_of c.collapse.new.pass in let k = seen_of c.give.new.pass in
    frees_both me 1 0 h h₁ k (frees_shape me h h₁ (omega arith) c.collapse.ensures.shaped.adds) (frees_give me c.collapse.new.child.node h₁ k (gave g at.After-give))

pub returns-clause-dels : goal.returns-clause-dels
returns-clause-dels g c = let own : ℕ = c.collapse.new.pass.caller in let h₁ = seen_of c.collapse.new.pass in let k = seen_of c.give.new.pass in dels_search (sort_of g.N.Node.layout g.N.Node.ranged) c.args.pass.now.caller own (seen_of c.args.pass.now) h₁ k c.collapse.ensures.caller c.collapse.ensures.dels (searches_give own c.collapse.new.child.node h₁ k c.give.ensures.gave)
