use Rattle.std.proofs.Common.{ℕ, sym, subst, inl, inr, refl}
use Rattle.ks_history.specs.Laws.Alone.{alone_first, alone_then}
use Rattle.ks_history.specs.Trace.{graph_after}
use Rattle.ks_history.specs.Frames.{frame_after}
use Rattle.ks_arena.specs.Sound.{blank_of, sort_of}
use Rattle.ks_arena.specs.Clauses.{seen_of}
use Rattle.ks_shape.specs.Laws.Stretches.{stretches_as, stretches_both}
use Rattle.ks_shape.specs.Laws.Frees.{counts_on, frees_as, frees_begins, undisturbed_same}
use Rattle.ks_tidy.specs.Pair.{IsPair, IsWhole}
use Rattle.ks_tidy.proofs.Again.{again_on}
use Rattle.ks_node.specs.Room.{in_place}
use Rattle.ks_tidy.proofs.Standing.{plain, stands_now}
use Rattle.ks_shape.specs.Laws.Does.{dels_search}
use Rattle.ks_tidy.proofs.descent.tidy_end.Goals as goal

pub leave-requires-clause-pair : goal.leave-requires-clause-pair
leave-requires-clause-pair g c = subst (λ (z : ℕ). IsPair (sort_of g.N.Node.layout g.N.Node.ranged) g.N.Node.body z c.args.place (seen_of c.tidy_node-path.new.pass) c.tidy_node-path.result.path) (sym c.tidy_node-path.ensures.caller) c.tidy_node-path.ensures.pair

pub returns-clause-stretch : goal.returns-clause-stretch
returns-clause-stretch g c = let me : ℕ = c.args.pass.now.caller in let h = seen_of c.args.pass.now in let h₁ = seen_of c.tidy_node-path.new.pass in let k = seen_of c.leave.new.pass in
    stretches_both me h h₁ k c.tidy_node-path.ensures.stretch (stretches_as me c.tidy_node-path.new.pass.caller h₁ k c.tidy_node-path.ensures.caller c.leave.ensures.stretch)

pub returns-clause-counts : goal.returns-clause-counts
returns-clause-counts g c = let me : ℕ = c.args.pass.now.caller in let h = seen_of c.args.pass.now in let h₁ = seen_of c.tidy_node-path.new.pass in let k = seen_of c.leave.new.pass in
    counts_on me c.tidy_node-path.result.freed h h₁ k c.tidy_node-path.ensures.counts (frees_as me c.tidy_node-path.new.pass.caller h₁ k c.tidy_node-path.ensures.caller c.leave.ensures.frees)

pub returns-clause-again : goal.returns-clause-again
returns-clause-again g c = let me : ℕ = c.args.pass.now.caller in let h = seen_of c.args.pass.now in let h₁ = seen_of c.tidy_node-path.new.pass in let k = seen_of c.leave.new.pass in let e = c.tidy_node-path.ensures in
    again_on (in_place g.N.Node.layout) me e.counts.count h h₁ k c.tidy_node-path.result.again e.counts.frees e.again (frees_as me c.tidy_node-path.new.pass.caller h₁ k e.caller c.leave.ensures.frees)

pub returns-clause-tidy : goal.returns-clause-tidy
returns-clause-tidy g c = λ last alone. let sort = sort_of g.N.Node.layout g.N.Node.ranged in let n : ℕ = c.args.arena.now.table.shared.table_id.slots in let me : ℕ = c.args.pass.now.caller in let h = seen_of c.args.pass.now in let h₁ = seen_of c.tidy_node-path.new.pass in let k = seen_of c.leave.new.pass in let e = c.tidy_node-path.ensures in let x = c.tidy_node-path.result.path.node in
    let left = frees_as me c.tidy_node-path.new.pass.caller h₁ k e.caller c.leave.ensures.frees in let a = frees_begins me h h₁ e.counts.frees in let b = frees_begins me h₁ k left in
    let stands = stands_now sort g.N.Node.body h₁ x e.pair.path.live e.pair.path.matches (plain (g.N.Node.body x.body) c.node_law.ensures.sound c.node_law.ensures.framed (c.unlinked_law.ensures.no_link x.body)) in
    let whole : IsWhole c.tidy_node-path.result.path = λ none. elim (e.pair.rooted none) [
      | inl root ↦ root
      | inr on ↦ (let at = last on in subst IsWhole (sym (e.rests at.1 on)) at.0 none)
    ] in
    let done = c.tidied_law.ensures.tidy g.N.Node.layout (graph_after h₁) (frame_after (blank_of sort) h₁) x.node c.args.place (g.N.Node.body x.body) ((c.search_law.ensures sort n).good h₁ e.pass.sound) stands (e.places.keyset c.args.place c.requires.ends) (λ low. e.tested whole (inr low) (alone_first me h h₁ k a b alone)) in
    c.tidy_law.ensures.along g.N.Node.layout (graph_after h₁) (graph_after k) (frame_after (blank_of sort) h₁) (frame_after (blank_of sort) k) c.args.place (undisturbed_same me (blank_of sort) h₁ k (record { alone = alone_then me h h₁ k a b alone; none = left })) done

pub returns-clause-dels : goal.returns-clause-dels
returns-clause-dels g c = dels_search (sort_of g.N.Node.layout g.N.Node.ranged) c.args.pass.now.caller c.tidy_node-path.new.pass.caller (seen_of c.args.pass.now) (seen_of c.tidy_node-path.new.pass) (seen_of c.leave.new.pass) c.tidy_node-path.ensures.caller (c.tidy_node-path.ensures.dels refl) c.leave.ensures.leaves
