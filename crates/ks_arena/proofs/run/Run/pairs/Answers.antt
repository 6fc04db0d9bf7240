use Rattle.ks_arena.proofs.run.Run.pairs.Given.{Over}
use Rattle.std.proofs.Common.{rules, ℕ, ◌≤◌, List, length, subst}
use Rattle.std.specs.Slots.{slots_items}
use Rattle.std.specs.List.Sorted.{IsPermutation}
use Rattle.std.proofs.lemmas.List.Sorted.{IsNonDecreasingBy-from_sort_by_key}
use Rattle.ks_history.specs.Laws.Begins.{good_now}
use Rattle.ks_history.specs.Trace.{graph_after}
use Rattle.ks_arena.specs.Clauses.{trace_of}
use Rattle.ks_arena.specs.Ended.{AreFound}
use Rattle.ks_arena.proofs.Entries.{sorted_found, listing_of}
use Rattle.ks_arena.proofs.run.Run.pairs.Goals as goal
use Rattle.ks_arena.proofs.run.Run.pairs.Goals.{After-sort_unstable_by_key}

found : (g : Over) (c : After-sort_unstable_by_key g) → AreFound (graph_after (trace_of c.args.self.now)) c.sort_unstable_by_key.new.self.items
found g c = let run = c.requires.1 in let n : ℕ = length (slots_items c.args.self.now.remains.closed.slots) in
    sorted_found (graph_after (trace_of c.args.self.now)) n c.sort_unstable_by_key.new.self.items (good_now run.good) (λ i le. run.beyond i (subst (λ (z : ℕ). z ≤ i) run.sized le))
    (subst (λ (xs : List (ℕ × ℕ)). IsPermutation xs c.sort_unstable_by_key.new.self.items) c.in_ok-entries.ensures c.sort_unstable_by_key.ensures.permutation)
    (IsNonDecreasingBy-from_sort_by_key (λ z. z.0) _ c.sort_unstable_by_key.ensures.sorted (λ a r q k. search rules))

pub returns-clause-found : goal.returns-clause-found
returns-clause-found g c = found g c

pub returns-clause-map : goal.returns-clause-map
returns-clause-map g c = listing_of (trace_of c.args.self.now) c.sort_unstable_by_key.new.self.items (c.keyset_theorem.ensures.found (trace_of c.args.self.now) c.requires.1.lawful c.requires.1.good) (found g c)
