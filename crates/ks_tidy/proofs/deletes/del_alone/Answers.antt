use Rattle.std.proofs.Common.{◌≡◌, ◌∙◌, ℕ, true, false, List, [], ◌∷◌, length, arith, refl, sym, ap, subst, inl}
use Rattle.ks_history.specs.Alone.{ActsAlone}
use Rattle.ks_history.specs.Laws.Alone.{alone_then}
use Rattle.ks_history.specs.Laws.Begins.{begins_both, with_begins}
use Rattle.ks_history.specs.Passes.{Has, GrowsWith}
use Rattle.ks_history.specs.Own.{hand}
use Rattle.ks_history.specs.Trace.{graph_after}
use Rattle.ks_history.specs.Frames.{frame_after}
use Rattle.ks_history.specs.declared.Event.TheVariants.{Give}
use Rattle.ks_history.specs.declared.Op.{Op}
use Rattle.ks_history.specs.declared.Op.TheVariants.{Del}
use Rattle.ks_history.specs.Map.{told}
use Rattle.ks_keysets.specs.Keyset.{InKeyset}
use Rattle.ks_arena.specs.Sound.{blank_of, sort_of}
use Rattle.ks_arena.specs.Clauses.{seen_of}
use Rattle.ks_shape.specs.Laws.Single.{gave_last}
use Rattle.ks_shape.specs.Stretches.{Stretches}
use Rattle.ks_shape.specs.Laws.Stretches.{stretches_as, stretches_both, stretches_begins, stretches_give}
use Rattle.ks_node.specs.Body.{frame_of}
use Rattle.ks_tidy.specs.Laws.Deciding.{decided_at_on, decided_on}
use Rattle.ks_shape.specs.Laws.Frees.{frees_give, undisturbed_same}
use Rattle.ks_tidy.proofs.Standing.{plain, stands_now}
use Rattle.ks_shape.specs.Does.{DoesOnly, MaySearch}
use Rattle.ks_shape.specs.Laws.Does.{does_on, search_dels_on, searched_dels, searches_give}
use Rattle.ks_tidy.proofs.deletes.del_alone.Given.{Over}
use Rattle.ks_tidy.proofs.deletes.del_alone.Goals as goal
use Rattle.ks_tidy.proofs.deletes.del_alone.Goals.{After-give}

pub delete-answer-requires-clause-holds : goal.delete-answer-requires-clause-holds
delete-answer-requires-clause-holds g c = subst (λ (z : List ℕ). Has z c.args.held.node) (sym c.requires.ends.alone) (inl refl)

pub delete-answer-requires-clause-few : goal.delete-answer-requires-clause-few
delete-answer-requires-clause-few g c = omega (arith, ap length c.requires.ends.alone)

pub delete-answer-requires-clause-body : goal.delete-answer-requires-clause-body
delete-answer-requires-clause-body g c = (c.requires.ends.live, c.requires.ends.matches)

pub delete-answer-requires-clause-inside : goal.delete-answer-requires-clause-inside
delete-answer-requires-clause-inside g c = c.requires.ends.inside

pub delete-answer-requires-clause-ends : goal.delete-answer-requires-clause-ends
delete-answer-requires-clause-ends g c = c.requires.ends.here

pub give-requires-clause-holds : goal.give-requires-clause-holds
give-requires-clause-holds g c κs within = let e = c.delete-answer.ensures in subst (λ (z : List ℕ). Has z c.delete-answer.new.held.node) (sym (e.hand ∙ c.requires.ends.alone)) (inl (sym e.node.0))

-- the caller after the Call, and its hand
now : (g : Over) (c : After-give g) → c.give.new.pass.caller ≡ c.args.pass.now.caller
now g c = c.give.ensures.caller ∙ c.delete-answer.ensures.caller

one : (g : Over) (c : After-give g) → hand c.delete-answer.new.pass.caller (seen_of c.delete-answer.new.pass) ≡ c.delete-answer.new.held.node ∷ []
one g c = c.delete-answer.ensures.hand ∙ c.requires.ends.alone ∙ ap (λ (z : ℕ). z ∷ []) (sym c.delete-answer.ensures.node.0)

none : (g : Over) (c : After-give g) → hand c.give.new.pass.caller (seen_of c.give.new.pass) ≡ []
none g c = let k = seen_of c.give.new.pass in ap (λ (z : ℕ). hand z k) c.give.ensures.caller ∙ gave_last c.delete-answer.new.pass.caller c.delete-answer.new.held.node (seen_of c.delete-answer.new.pass) k (one g c) (ap (λ (z : ℕ). hand z k) (sym c.give.ensures.caller) ∙ c.give.ensures.hand)

gave : (g : Over) (c : After-give g) → GrowsWith c.args.pass.now.caller (Give c.args.pass.now.caller c.delete-answer.new.held.node) (seen_of c.delete-answer.new.pass) (seen_of c.give.new.pass)
gave g c = subst (λ (z : ℕ). GrowsWith z (Give z c.delete-answer.new.held.node) (seen_of c.delete-answer.new.pass) (seen_of c.give.new.pass)) c.delete-answer.ensures.caller c.give.ensures.gave

gives : (g : Over) (c : After-give g) → Stretches c.args.pass.now.caller (seen_of c.delete-answer.new.pass) (seen_of c.give.new.pass)
gives g c = let me : ℕ = c.args.pass.now.caller in let h₁ = seen_of c.delete-answer.new.pass in
    stretches_give me c.delete-answer.new.held.node h₁ (seen_of c.give.new.pass) (omega (arith, ap length (ap (λ (z : ℕ). hand z h₁) (sym c.delete-answer.ensures.caller) ∙ one g c))) (gave g c)

pub returns-then-is_none-clause-pass : goal.returns-then-is_none-clause-pass
returns-then-is_none-clause-pass g c = (c.give.ensures.pass, none g (goal.at.returns-then-is_none-clause-pass g c).After-give)

pub returns-then-is_none-clause-done : goal.returns-then-is_none-clause-done
returns-then-is_none-clause-done g c = λ template start under. let at = (goal.at.returns-then-is_none-clause-done g c).After-give in let me : ℕ = c.args.pass.now.caller in let h₁ = seen_of c.delete-answer.new.pass in let k = seen_of c.give.new.pass in let op : Op = Del c.args.place in
    decided_on g.N.Node.layout template c.args.arena.now.nodes me op start h₁ k (told c.delete-answer.result.found) c.delete-answer.result.number (c.delete-answer.ensures.decided template start under)
    (gives g at template op (omega arith)) (ap (λ (z : ℕ). hand z k) (sym (now g at)) ∙ none g at)

pub pair_tidy-requires : goal.pair_tidy-requires
pair_tidy-requires g c = record { pass = (c.give.ensures.pass, none g (goal.at.pair_tidy-requires g c).After-give) }

pub returns-then-low-clause-done : goal.returns-then-low-clause-done
returns-then-low-clause-done g c = λ template start under. let at = (goal.at.returns-then-low-clause-done g c).After-give in let me : ℕ = c.args.pass.now.caller in let h₁ = seen_of c.delete-answer.new.pass in let h₂ = seen_of c.give.new.pass in let k = seen_of c.pair_tidy.new.pass in let op : Op = Del c.args.place in
    decided_on g.N.Node.layout template c.args.arena.now.nodes me op start h₁ k (told c.delete-answer.result.found) c.delete-answer.result.number (c.delete-answer.ensures.decided template start under)
    (stretches_both me h₁ h₂ k (gives g at) (stretches_as me c.give.new.pass.caller h₂ k (now g at) c.pair_tidy.ensures.stretch) template op (omega arith))
    (ap (λ (z : ℕ). hand z k) (sym (c.pair_tidy.ensures.caller ∙ now g at)) ∙ c.pair_tidy.ensures.pass.1)

pub returns-then-low-clause-tidy : goal.returns-then-low-clause-tidy
returns-then-low-clause-tidy g c = λ removed alone. let at = (goal.at.returns-then-low-clause-tidy g c).After-give in let me : ℕ = c.args.pass.now.caller in let h = seen_of c.args.pass.now in let h₁ = seen_of c.delete-answer.new.pass in let h₂ = seen_of c.give.new.pass in let k = seen_of c.pair_tidy.new.pass in
    let on = stretches_as me c.give.new.pass.caller h₂ k (now g at) c.pair_tidy.ensures.stretch in
    let later : ActsAlone me h₁ k = alone_then me h h₁ k c.delete-answer.ensures.begins (stretches_begins me h₁ k (stretches_both me h₁ h₂ k (gives g at) on)) alone in
    let then : ActsAlone me h₂ k = alone_then me h₁ h₂ k (stretches_begins me h₁ h₂ (gives g at)) (stretches_begins me h₂ k on) later in
    c.pair_tidy.ensures.tidy (subst (λ (z : ℕ). ActsAlone z h₂ k) (sym (now g at)) then)

pub returns-clause-pass : goal.returns-clause-pass
returns-clause-pass g c = (c.give.ensures.pass, none g (goal.at.returns-clause-pass g c).After-give)

pub returns-clause-done : goal.returns-clause-done
returns-clause-done g c = λ template start under. let at = (goal.at.returns-clause-done g c).After-give in let me : ℕ = c.args.pass.now.caller in let h₁ = seen_of c.delete-answer.new.pass in let k = seen_of c.give.new.pass in let op : Op = Del c.args.place in
    decided_on g.N.Node.layout template c.args.arena.now.nodes me op start h₁ k (told c.delete-answer.result.found) c.delete-answer.result.number (c.delete-answer.ensures.decided template start under)
    (gives g at template op (omega arith)) (ap (λ (z : ℕ). hand z k) (sym (now g at)) ∙ none g at)

-- a node that is not low is tidy
pub returns-clause-tidy : goal.returns-clause-tidy
returns-clause-tidy g c = λ removed alone. let at = (goal.at.returns-clause-tidy g c).After-give in let sort = sort_of g.N.Node.layout g.N.Node.ranged in let n : ℕ = c.args.arena.now.table.shared.table_id.slots in let me : ℕ = c.args.pass.now.caller in let h = seen_of c.args.pass.now in let h₁ = seen_of c.delete-answer.new.pass in let k = seen_of c.give.new.pass in let e = c.delete-answer.ensures in let x = c.delete-answer.new.held in
    let stands = stands_now sort g.N.Node.body h₁ x e.node.1 e.body (plain (g.N.Node.body x.body) c.node_law.ensures.sound c.node_law.ensures.framed (c.unlinked_law.ensures.no_link x.body)) in
    let keys = subst (λ (z : ℕ). InKeyset (graph_after h₁) z c.args.place) (sym e.node.0) e.keyset in
    let done = c.tidied_law.ensures.tidy g.N.Node.layout (graph_after h₁) (frame_after (blank_of sort) h₁) x.node c.args.place (g.N.Node.body x.body) ((c.search_law.ensures sort n).good h₁ e.pass.sound) stands keys
    (λ low. absurd (let q : false ≡ true = sym (sym c.is_low-low.ensures ∙ c.if-low.false) ∙ low in let z : ⊥ = cc in z)) in
    c.tidy_law.ensures.along g.N.Node.layout (graph_after h₁) (graph_after k) (frame_after (blank_of sort) h₁) (frame_after (blank_of sort) k) c.args.place
    (undisturbed_same me (blank_of sort) h₁ k (record { alone = alone_then me h h₁ k e.begins (with_begins me (Give me x.node) h₁ k (gave g at)) alone; none = frees_give me x.node h₁ k (gave g at) })) done

pub returns-then-is_none-clause-begins : goal.returns-then-is_none-clause-begins
returns-then-is_none-clause-begins g c = let at = (goal.at.returns-then-is_none-clause-begins g c).After-give in let h₁ = seen_of c.delete-answer.new.pass in let k = seen_of c.give.new.pass in
    begins_both (seen_of c.args.pass.now) h₁ k c.delete-answer.ensures.begins (stretches_begins c.args.pass.now.caller h₁ k (gives g at))

pub returns-clause-begins : goal.returns-clause-begins
returns-clause-begins g c = let at = (goal.at.returns-clause-begins g c).After-give in let h₁ = seen_of c.delete-answer.new.pass in let k = seen_of c.give.new.pass in
    begins_both (seen_of c.args.pass.now) h₁ k c.delete-answer.ensures.begins (stretches_begins c.args.pass.now.caller h₁ k (gives g at))

pub returns-then-low-clause-begins : goal.returns-then-low-clause-begins
returns-then-low-clause-begins g c = let at = (goal.at.returns-then-low-clause-begins g c).After-give in let h₁ = seen_of c.delete-answer.new.pass in let h₂ = seen_of c.give.new.pass in let k = seen_of c.pair_tidy.new.pass in
    begins_both (seen_of c.args.pass.now) h₁ k c.delete-answer.ensures.begins
    (begins_both h₁ h₂ k (stretches_begins c.args.pass.now.caller h₁ h₂ (gives g at)) (stretches_begins c.give.new.pass.caller h₂ k c.pair_tidy.ensures.stretch))

-- the kinds of its events

left : (g : Over) (c : After-give g) → DoesOnly MaySearch c.args.pass.now.caller (seen_of c.args.pass.now) (seen_of c.give.new.pass)
left g c = let own : ℕ = c.delete-answer.new.pass.caller in let h₁ = seen_of c.delete-answer.new.pass in let k = seen_of c.give.new.pass in
    does_on MaySearch c.args.pass.now.caller own (seen_of c.args.pass.now) h₁ k c.delete-answer.ensures.caller c.delete-answer.ensures.leaves (searches_give own c.delete-answer.new.held.node h₁ k c.give.ensures.gave)

pub returns-then-is_none-clause-dels : goal.returns-then-is_none-clause-dels
returns-then-is_none-clause-dels g c = searched_dels (sort_of g.N.Node.layout g.N.Node.ranged) c.args.pass.now.caller (seen_of c.args.pass.now) (seen_of c.give.new.pass) (left g (goal.at.returns-then-is_none-clause-dels g c).After-give)

pub returns-then-low-clause-dels : goal.returns-then-low-clause-dels
returns-then-low-clause-dels g c = let at = (goal.at.returns-then-low-clause-dels g c).After-give in search_dels_on (sort_of g.N.Node.layout g.N.Node.ranged) c.args.pass.now.caller c.give.new.pass.caller (seen_of c.args.pass.now) (seen_of c.give.new.pass) (seen_of c.pair_tidy.new.pass) (now g at) (left g at) c.pair_tidy.ensures.dels

pub returns-clause-dels : goal.returns-clause-dels
returns-clause-dels g c = searched_dels (sort_of g.N.Node.layout g.N.Node.ranged) c.args.pass.now.caller (seen_of c.args.pass.now) (seen_of c.give.new.pass) (left g (goal.at.returns-clause-dels g c).After-give)

-- where it was decided

pub returns-then-is_none-clause-at : goal.returns-then-is_none-clause-at
returns-then-is_none-clause-at g c = λ template start under. let at = (goal.at.returns-then-is_none-clause-at g c).After-give in let me : ℕ = c.args.pass.now.caller in let h₁ = seen_of c.delete-answer.new.pass in let k = seen_of c.give.new.pass in let op : Op = Del c.args.place in
    decided_at_on g.N.Node.layout template c.args.arena.now.nodes me op start h₁ k (told c.delete-answer.result.found) c.delete-answer.result.number c.args.held.node (blank_of (sort_of g.N.Node.layout g.N.Node.ranged)) (frame_of (g.N.Node.body c.args.held.body)) (c.delete-answer.ensures.at template start under)
    (gives g at template op (omega arith)) (ap (λ (z : ℕ). hand z k) (sym (now g at)) ∙ none g at)

pub returns-then-low-clause-at : goal.returns-then-low-clause-at
returns-then-low-clause-at g c = λ template start under. let at = (goal.at.returns-then-low-clause-at g c).After-give in let me : ℕ = c.args.pass.now.caller in let h₁ = seen_of c.delete-answer.new.pass in let h₂ = seen_of c.give.new.pass in let k = seen_of c.pair_tidy.new.pass in let op : Op = Del c.args.place in
    decided_at_on g.N.Node.layout template c.args.arena.now.nodes me op start h₁ k (told c.delete-answer.result.found) c.delete-answer.result.number c.args.held.node (blank_of (sort_of g.N.Node.layout g.N.Node.ranged)) (frame_of (g.N.Node.body c.args.held.body)) (c.delete-answer.ensures.at template start under)
    (stretches_both me h₁ h₂ k (gives g at) (stretches_as me c.give.new.pass.caller h₂ k (now g at) c.pair_tidy.ensures.stretch) template op (omega arith))
    (ap (λ (z : ℕ). hand z k) (sym (c.pair_tidy.ensures.caller ∙ now g at)) ∙ c.pair_tidy.ensures.pass.1)

pub returns-clause-at : goal.returns-clause-at
returns-clause-at g c = λ template start under. let at = (goal.at.returns-clause-at g c).After-give in let me : ℕ = c.args.pass.now.caller in let h₁ = seen_of c.delete-answer.new.pass in let k = seen_of c.give.new.pass in let op : Op = Del c.args.place in
    decided_at_on g.N.Node.layout template c.args.arena.now.nodes me op start h₁ k (told c.delete-answer.result.found) c.delete-answer.result.number c.args.held.node (blank_of (sort_of g.N.Node.layout g.N.Node.ranged)) (frame_of (g.N.Node.body c.args.held.body)) (c.delete-answer.ensures.at template start under)
    (gives g at template op (omega arith)) (ap (λ (z : ℕ). hand z k) (sym (now g at)) ∙ none g at)
