use Rattle.std.proofs.Common.{◌≡◌, ◌∙◌, ℕ, List, [], ◌∷◌, arith, refl, sym, ap, subst, inl}
use Rattle.ks_history.specs.Alone.{ActsAlone}
use Rattle.ks_history.specs.Laws.Alone.{alone_then}
use Rattle.ks_history.specs.Laws.Begins.{begins_both}
use Rattle.ks_history.specs.Hand.{AreOnce}
use Rattle.ks_history.specs.Passes.{Has}
use Rattle.ks_history.specs.Own.{hand}
use Rattle.ks_history.specs.Trace.{graph_after}
use Rattle.ks_history.specs.declared.Op.{Op}
use Rattle.ks_history.specs.declared.Op.TheVariants.{Del}
use Rattle.ks_history.specs.Map.{told}
use Rattle.ks_keysets.specs.Keyset.{InInset, InKeyset}
use Rattle.ks_arena.specs.Sound.{sort_of}
use Rattle.ks_arena.specs.Clauses.{hand_of, seen_of}
use Rattle.ks_shape.specs.Laws.Search.{Laws}
use Rattle.ks_shape.specs.OnPath.{numbers}
use Rattle.ks_shape.specs.Laws.Stretches.{stretches_as, stretches_begins}
use Rattle.ks_tidy.specs.Laws.Deciding.{decided_on}
use Rattle.ks_tidy.specs.Pair.{IsPair, TakesOver}
use Rattle.ks_tidy.proofs.Keeping.{few_on, once_in, parent_apart, parent_has, under_with}
use Rattle.ks_shape.specs.Does.{MaySearch}
use Rattle.ks_shape.specs.Laws.Does.{does_on, search_dels_on, searched_dels}
use Rattle.ks_tidy.proofs.deletes.del_on.Given.{Over}
use Rattle.ks_tidy.proofs.deletes.del_on.Goals as goal
use Rattle.ks_tidy.proofs.deletes.del_on.Goals.{After-search_law, After-delete-answer}

pub delete-answer-requires-clause-holds : goal.delete-answer-requires-clause-holds
delete-answer-requires-clause-holds g c = subst (λ (z : List ℕ). Has z c.args.path.node.node) (sym c.requires.pair.path.hands) (inl refl)

pub delete-answer-requires-clause-few : goal.delete-answer-requires-clause-few
delete-answer-requires-clause-few g c = let few = few_on c.args.path.parent (hand_of c.args.pass.now) c.args.path.node.node c.requires.pair.path.hands in omega (arith, few)

-- the path after the Call
pair : (g : Over) (c : After-delete-answer g) → Laws (sort_of g.N.Node.layout g.N.Node.ranged) c.args.arena.now.table.shared.table_id.slots
    → IsPair (sort_of g.N.Node.layout g.N.Node.ranged) g.N.Node.body c.delete-answer.new.pass.caller c.args.place (seen_of c.delete-answer.new.pass) (record { parent = c.args.path.parent; node = c.delete-answer.new.held })
pair g c law = let sort = sort_of g.N.Node.layout g.N.Node.ranged in let n : ℕ = c.args.arena.now.table.shared.table_id.slots in let me : ℕ = c.args.pass.now.caller in let h = seen_of c.args.pass.now in let k = seen_of c.delete-answer.new.pass in let e = c.delete-answer.ensures in let o = c.args.path.parent in let j : ℕ = c.args.path.node.node in let path = c.requires.pair.path in
    let once : AreOnce (j ∷ numbers o) = once_in sort n me law h (j ∷ numbers o) c.requires.pass.sound path.hands in
    record {
      path = record {
        hands = e.hand ∙ path.hands ∙ ap (λ (z : ℕ). z ∷ numbers o) (sym e.node.0);
        live = e.node.1;
        matches = e.body;
        inside = subst (λ (z : ℕ). InInset (graph_after k) z c.args.place) (sym e.node.0) e.keyset.0;
        under = under_with sort g.N.Node.body c.args.place c.args.path.node c.delete-answer.new.held h k o e.node.0 c.requires.pair.rooted (λ y is m. e.still y (parent_apart j o once y is) (parent_has j o (hand me h) path.hands y is) m) path.under;
      };
      rooted = λ none. subst (TakesOver g.N.Node.layout) (sym e.node.0) (c.requires.pair.rooted none);
    }

pub leave-requires-clause-pair : goal.leave-requires-clause-pair
leave-requires-clause-pair g c = let at = goal.at.leave-requires-clause-pair g c in pair g at.After-delete-answer (at.After-search_law.search_law.ensures (sort_of g.N.Node.layout g.N.Node.ranged) c.args.arena.now.table.shared.table_id.slots)

pub tidy_on-requires-clause-pair : goal.tidy_on-requires-clause-pair
tidy_on-requires-clause-pair g c = let at = goal.at.tidy_on-requires-clause-pair g c in pair g at.After-delete-answer (at.After-search_law.search_law.ensures (sort_of g.N.Node.layout g.N.Node.ranged) c.args.arena.now.table.shared.table_id.slots)

pub tidy_on-requires-clause-ends : goal.tidy_on-requires-clause-ends
tidy_on-requires-clause-ends g c = let k = seen_of c.delete-answer.new.pass in subst (λ (z : ℕ). InKeyset (graph_after k) z c.args.place) (sym c.delete-answer.ensures.node.0) c.delete-answer.ensures.keyset

pub tidy_on-requires-clause-whole : goal.tidy_on-requires-clause-whole
tidy_on-requires-clause-whole g c = λ off none. c.delete-answer.ensures.node.0 ∙ c.requires.whole off none

pub returns-then-is_none-clause-done : goal.returns-then-is_none-clause-done
returns-then-is_none-clause-done g c = λ template start under. let me : ℕ = c.args.pass.now.caller in let h₁ = seen_of c.delete-answer.new.pass in let k = seen_of c.leave.new.pass in let e = c.delete-answer.ensures in let op : Op = Del c.args.place in
    decided_on g.N.Node.layout template c.args.arena.now.nodes me op start h₁ k (told c.delete-answer.result.found) c.delete-answer.result.number (e.decided template start under)
    (stretches_as me c.delete-answer.new.pass.caller h₁ k e.caller c.leave.ensures.stretch template op (omega arith)) (subst (λ (z : ℕ). hand z k ≡ []) (c.leave.ensures.caller ∙ e.caller) c.leave.ensures.pass.1)

pub returns-clause-done : goal.returns-clause-done
returns-clause-done g c = λ template start under. let me : ℕ = c.args.pass.now.caller in let h₁ = seen_of c.delete-answer.new.pass in let k = seen_of c.tidy_on.new.pass in let e = c.delete-answer.ensures in let op : Op = Del c.args.place in
    decided_on g.N.Node.layout template c.args.arena.now.nodes me op start h₁ k (told c.delete-answer.result.found) c.delete-answer.result.number (e.decided template start under)
    (stretches_as me c.delete-answer.new.pass.caller h₁ k e.caller c.tidy_on.ensures.stretch template op (omega arith)) (subst (λ (z : ℕ). hand z k ≡ []) (c.tidy_on.ensures.caller ∙ e.caller) c.tidy_on.ensures.pass.1)

pub returns-clause-tidy : goal.returns-clause-tidy
returns-clause-tidy g c = λ removed alone. let me : ℕ = c.args.pass.now.caller in let h = seen_of c.args.pass.now in let h₁ = seen_of c.delete-answer.new.pass in let k = seen_of c.tidy_on.new.pass in let e = c.delete-answer.ensures in
    let on = stretches_as me c.delete-answer.new.pass.caller h₁ k e.caller c.tidy_on.ensures.stretch in
    let then : ActsAlone me h₁ k = alone_then me h h₁ k e.begins (stretches_begins me h₁ k on) alone in
    c.tidy_on.ensures.tidy (subst (λ (z : ℕ). ActsAlone z h₁ k) (sym e.caller) then)

pub returns-then-is_none-clause-begins : goal.returns-then-is_none-clause-begins
returns-then-is_none-clause-begins g c = let me : ℕ = c.args.pass.now.caller in let h₁ = seen_of c.delete-answer.new.pass in let k = seen_of c.leave.new.pass in
    begins_both (seen_of c.args.pass.now) h₁ k c.delete-answer.ensures.begins (stretches_begins c.delete-answer.new.pass.caller h₁ k c.leave.ensures.stretch)

pub returns-clause-begins : goal.returns-clause-begins
returns-clause-begins g c = let h₁ = seen_of c.delete-answer.new.pass in let k = seen_of c.tidy_on.new.pass in
    begins_both (seen_of c.args.pass.now) h₁ k c.delete-answer.ensures.begins (stretches_begins c.delete-answer.new.pass.caller h₁ k c.tidy_on.ensures.stretch)

-- the kinds of its events

pub returns-then-is_none-clause-dels : goal.returns-then-is_none-clause-dels
returns-then-is_none-clause-dels g c = searched_dels (sort_of g.N.Node.layout g.N.Node.ranged) c.args.pass.now.caller (seen_of c.args.pass.now) (seen_of c.leave.new.pass) (does_on MaySearch c.args.pass.now.caller c.delete-answer.new.pass.caller (seen_of c.args.pass.now) (seen_of c.delete-answer.new.pass) (seen_of c.leave.new.pass) c.delete-answer.ensures.caller c.delete-answer.ensures.leaves c.leave.ensures.leaves)

pub returns-clause-dels : goal.returns-clause-dels
returns-clause-dels g c = search_dels_on (sort_of g.N.Node.layout g.N.Node.ranged) c.args.pass.now.caller c.delete-answer.new.pass.caller (seen_of c.args.pass.now) (seen_of c.delete-answer.new.pass) (seen_of c.tidy_on.new.pass) c.delete-answer.ensures.caller c.delete-answer.ensures.leaves c.tidy_on.ensures.dels
