use Rattle.std.proofs.Common.{◌≡◌, ◌∙◌, ℕ, List, [], ◌∷◌, sym, ap, subst}
use Rattle.std.proofs.lemmas.Bool.Decides.{not_from_Decides}
use Rattle.ks_keysets.specs.declared.Frame.{Frame}
use Rattle.ks_keysets.specs.Keyset.{InInset}
use Rattle.ks_keysets.specs.Laws.Found.{reached_live}
use Rattle.ks_history.specs.declared.Event.TheVariants.{Give, Take}
use Rattle.ks_history.specs.Own.{hand}
use Rattle.ks_history.specs.Trace.{graph_after}
use Rattle.ks_history.specs.Frames.{frame_after}
use Rattle.ks_history.specs.Passes.{GrowsWith}
use Rattle.ks_history.specs.Laws.Stays.{lawful_in_turn}
use Rattle.ks_history.specs.Laws.Turns.{live_not_free}
use Rattle.ks_history.specs.Laws.Begins.{begins_self, begins_both, by_others_begins, with_begins}
use Rattle.ks_history.specs.Laws.Beside.{spare_others, quiet_spares}
use Rattle.ks_history.specs.Done.{give_up, first_taken}
use Rattle.ks_history.specs.Underway.{Underway}
use Rattle.ks_history.specs.Laws.Underway.{underway_others}
use Rattle.ks_flow.specs.Tree.{IsInset}
use Rattle.ks_node.specs.Body.{Body, first_of, last_of}
use Rattle.ks_node.specs.Edges.{record_of}
use Rattle.ks_arena.specs.Sound.{sort_of, blank_of}
use Rattle.ks_arena.specs.Clauses.{seen_of}
use Rattle.ks_shape.specs.Laws.Single.{takes, shown, record_is}
use Rattle.ks_shape.specs.Laws.Down.{busy_since}
use Rattle.ks_giveup.specs.Laws.Tries.{was_later, was_moved}
use Rattle.ks_giveup.proofs.Visits.{ranged_inset}
use Rattle.ks_giveup.specs.Goes.{at_first}
use Rattle.ks_giveup.proofs.Way.{goes_others, goes_with, visited}
use Rattle.ks_shape.specs.Does.{MaySearch}
use Rattle.ks_shape.specs.Laws.Does.{does_on, does_others, searches_take}
use Rattle.ks_giveup.proofs.try_descent.try_visit.Goals as goal

pub returns-in-Busy-clause-came : goal.returns-in-Busy-clause-came
returns-in-Busy-clause-came g c = λ start sought. let me : ℕ = c.args.pass.now.caller in let h = seen_of c.args.pass.now in let k = seen_of c.try_take.new.pass in let took = c.in-Busy.ensures.took in
    (took.0.hand ∙ c.requires.pass.1, λ op touched. busy_since me c.args.node c.in-Busy.holder c.args.place op start sought.moment k sought.since (begins_both sought.moment h k sought.later (by_others_begins me h k took.0.grows)) touched sought.on_way took.1 took.2)

pub returns-in-Busy-clause-under : goal.returns-in-Busy-clause-under
returns-in-Busy-clause-under g c = λ op start under. underway_others give_up c.args.pass.now.caller op start (seen_of c.args.pass.now) (seen_of c.try_take.new.pass) c.in-Busy.ensures.took.0.grows under

pub returns-in-Gone-clause-came : goal.returns-in-Gone-clause-came
returns-in-Gone-clause-came g c = λ start sought. let sort = sort_of g.N.Node.layout g.N.Node.ranged in let slots : ℕ = c.args.arena.now.table.shared.table_id.slots in let me : ℕ = c.args.pass.now.caller in let j : ℕ = c.args.node in let h = seen_of c.args.pass.now in let k = seen_of c.try_take.new.pass in let took = c.in-Gone.ensures.took in
    let sound = c.try_take.ensures.pass.sound in let turns = lawful_in_turn k (c.sound_law.ensures.lawful sort slots k sound) in (
      took.0.hand ∙ c.requires.pass.1,
      λ op touched. (
        tt,
        was_moved me c.args.place op start k k j touched (begins_self k) turns (c.tree_beside_law.ensures.insets sort slots k sound) (λ inside. live_not_free k j turns (reached_live inside.1) took.1)
            (was_later me c.args.place start h k j (by_others_begins me h k took.0.grows) (spare_others me j took.0.grows.rest took.0.grows.others) sought),
      ),
    )

pub returns-in-Gone-clause-under : goal.returns-in-Gone-clause-under
returns-in-Gone-clause-under g c = λ op start under. underway_others give_up c.args.pass.now.caller op start (seen_of c.args.pass.now) (seen_of c.try_take.new.pass) c.in-Gone.ensures.took.0.grows under

pub returns-then-is_in_range-clause-came : goal.returns-then-is_in_range-clause-came
returns-then-is_in_range-clause-came g c = λ start sought. let sort = sort_of g.N.Node.layout g.N.Node.ranged in let slots : ℕ = c.args.arena.now.table.shared.table_id.slots in let k = seen_of c.try_take.new.pass in let x = c.in-Held.held in let took = c.in-Held.ensures.took in let b : Body = g.N.Node.body x.body in let within = c.is_in_range.ensures.within.0 c.if-is_in_range.true in
    let inset : IsInset (graph_after k) x.node (first_of b.range) (last_of b.range) = ranged_inset (graph_after k) (frame_after (blank_of sort) k) x.node b.range (c.sound_law.ensures.facts sort slots k c.in-Held.ensures.pass.sound) (record_of b, record_is sort g.N.Node.body k x took.live took.matches) (ap (λ (f : Frame). f.range) (shown sort g.N.Node.body k x took.live took.matches).1) c.is_in_range.ensures.ranged in (
      record {
        alone = took.hand ∙ ap (λ (z : List ℕ). c.args.node ∷ z) c.requires.pass.1 ∙ ap (λ (z : ℕ). z ∷ []) (sym took.node);
        live = took.live;
        matches = took.matches;
        inside = inset.back c.args.place within.0 within.1;
      },
      took.node,
      took.grows,
    )

pub returns-then-is_in_range-clause-under : goal.returns-then-is_in_range-clause-under
returns-then-is_in_range-clause-under g c = λ op start under. takes (sort_of g.N.Node.layout g.N.Node.ranged) g.N.Node.body give_up c.args.pass.now.caller c.args.node op start (seen_of c.args.pass.now) (seen_of c.try_take.new.pass) c.in-Held.held (λ k q. first_taken q tt) c.requires.pass.1 c.in-Held.ensures.took under

pub give_last-requires-clause-alone : goal.give_last-requires-clause-alone
give_last-requires-clause-alone g c κs within = let e = c.in-Held.ensures in let i : ℕ = c.in-Held.held.node in
    subst (λ (z : ℕ). hand z (seen_of c.try_take.new.pass) ≡ i ∷ []) (sym e.caller) (e.took.hand ∙ ap (λ (z : List ℕ). c.args.node ∷ z) c.requires.pass.1 ∙ ap (λ (z : ℕ). z ∷ []) (sym e.took.node))

pub returns-else-is_in_range-clause-came : goal.returns-else-is_in_range-clause-came
returns-else-is_in_range-clause-came g c = λ start sought. let sort = sort_of g.N.Node.layout g.N.Node.ranged in let slots : ℕ = c.args.arena.now.table.shared.table_id.slots in let me : ℕ = c.args.pass.now.caller in let place : ℕ = c.args.place in let j : ℕ = c.args.node in let h = seen_of c.args.pass.now in let h₁ = seen_of c.try_take.new.pass in let h₂ = seen_of c.give_last.new.pass in
    let x = c.in-Held.held in let i : ℕ = x.node in let e = c.in-Held.ensures in let took = e.took in let b : Body = g.N.Node.body x.body in let law = c.sound_law.ensures in
    let inset : IsInset (graph_after h₁) i (first_of b.range) (last_of b.range) = ranged_inset (graph_after h₁) (frame_after (blank_of sort) h₁) i b.range (law.facts sort slots h₁ e.pass.sound) (record_of b, record_is sort g.N.Node.body h₁ x took.live took.matches) (ap (λ (f : Frame). f.range) (shown sort g.N.Node.body h₁ x took.live took.matches).1) c.is_in_range.ensures.ranged in
    let gone : InInset (graph_after h₁) j place → ⊥ = λ inside. not_from_Decides c.is_in_range.result c.is_in_range.ensures.within c.if-is_in_range.false (inset.forth place (subst (λ (z : ℕ). InInset (graph_after h₁) z place) (sym took.node) inside)) in
    let gave : GrowsWith me (Give me i) h₁ h₂ = subst (λ (z : ℕ). GrowsWith z (Give z i) h₁ h₂) e.caller c.give_last.ensures.gave in (
      subst (λ (z : ℕ). hand z h₂ ≡ []) (c.give_last.ensures.caller ∙ e.caller) c.give_last.ensures.pass.1,
      λ op touched. (
        tt,
        was_moved me place op start h₁ h₂ j touched (with_begins me (Give me i) h₁ h₂ gave) (lawful_in_turn h₁ (law.lawful sort slots h₁ e.pass.sound)) (c.tree_beside_law.ensures.insets sort slots h₁ e.pass.sound) gone
            (was_later me place start h h₁ j (with_begins me (Take me j) h h₁ took.grows) ((λ own. quiet_spares j (Take me j) tt), spare_others me j took.grows.rest took.grows.others) sought),
      ),
    )

pub returns-else-is_in_range-clause-under : goal.returns-else-is_in_range-clause-under
returns-else-is_in_range-clause-under g c = λ op start under. let me : ℕ = c.args.pass.now.caller in let h = seen_of c.args.pass.now in let h₁ = seen_of c.try_take.new.pass in let h₂ = seen_of c.give_last.new.pass in let e = c.in-Held.ensures in
    subst (λ (z : ℕ). Underway give_up z op start h₁ → Underway give_up z op start h₂) e.caller (c.give_last.ensures.under give_up op start)
    (takes (sort_of g.N.Node.layout g.N.Node.ranged) g.N.Node.body give_up me c.args.node op start h h₁ c.in-Held.held (λ k q. first_taken q tt) c.requires.pass.1 e.took under)

-- the nodes that it takes

pub returns-in-Busy-clause-goes : goal.returns-in-Busy-clause-goes
returns-in-Busy-clause-goes g c = let h = seen_of c.args.pass.now in goes_others c.args.pass.now.caller c.args.place h h (seen_of c.try_take.new.pass) c.in-Busy.ensures.took.0.grows at_first

pub returns-in-Gone-clause-goes : goal.returns-in-Gone-clause-goes
returns-in-Gone-clause-goes g c = let h = seen_of c.args.pass.now in goes_others c.args.pass.now.caller c.args.place h h (seen_of c.try_take.new.pass) c.in-Gone.ensures.took.0.grows at_first

pub returns-then-is_in_range-clause-goes : goal.returns-then-is_in_range-clause-goes
returns-then-is_in_range-clause-goes g c = visited (sort_of g.N.Node.layout g.N.Node.ranged) g.N.Node.body c.args.pass.now.caller c.args.place c.args.node (seen_of c.args.pass.now) (seen_of c.try_take.new.pass) c.in-Held.held c.requires.next c.in-Held.ensures.took

pub returns-else-is_in_range-clause-goes : goal.returns-else-is_in_range-clause-goes
returns-else-is_in_range-clause-goes g c = let me : ℕ = c.args.pass.now.caller in let h = seen_of c.args.pass.now in let h₁ = seen_of c.try_take.new.pass in let h₂ = seen_of c.give_last.new.pass in let e = c.in-Held.ensures in let i : ℕ = c.in-Held.held.node in
    goes_with me c.args.place (Give me i) h h₁ h₂ (subst (λ (z : ℕ). GrowsWith z (Give z i) h₁ h₂) e.caller c.give_last.ensures.gave) tt
    (visited (sort_of g.N.Node.layout g.N.Node.ranged) g.N.Node.body me c.args.place c.args.node h h₁ c.in-Held.held c.requires.next e.took)

-- the kinds of its events

pub returns-in-Busy-clause-leaves : goal.returns-in-Busy-clause-leaves
returns-in-Busy-clause-leaves g c = does_others MaySearch c.args.pass.now.caller (seen_of c.args.pass.now) (seen_of c.try_take.new.pass) c.in-Busy.ensures.took.0.grows

pub returns-in-Gone-clause-leaves : goal.returns-in-Gone-clause-leaves
returns-in-Gone-clause-leaves g c = does_others MaySearch c.args.pass.now.caller (seen_of c.args.pass.now) (seen_of c.try_take.new.pass) c.in-Gone.ensures.took.0.grows

pub returns-then-is_in_range-clause-leaves : goal.returns-then-is_in_range-clause-leaves
returns-then-is_in_range-clause-leaves g c = searches_take c.args.pass.now.caller c.args.node (seen_of c.args.pass.now) (seen_of c.try_take.new.pass) c.in-Held.ensures.took.grows

pub returns-else-is_in_range-clause-leaves : goal.returns-else-is_in_range-clause-leaves
returns-else-is_in_range-clause-leaves g c = let me : ℕ = c.args.pass.now.caller in let h = seen_of c.args.pass.now in let h₁ = seen_of c.try_take.new.pass in let e = c.in-Held.ensures in
    does_on MaySearch me c.try_take.new.pass.caller h h₁ (seen_of c.give_last.new.pass) e.caller (searches_take me c.args.node h h₁ e.took.grows) c.give_last.ensures.leaves
