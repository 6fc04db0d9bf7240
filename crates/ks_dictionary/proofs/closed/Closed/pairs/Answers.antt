use Rattle.std.proofs.Common.{◌≡◌, ◌∙◌, ◌++◌, ◌<◌, ◌≤◌, ◌^◌, ℕ, All, List, length, map, take, drop, subst, ap, take_all, rules, arith}
use Rattle.std.specs.List.Sorted.{IsPermutation}
use Rattle.std.proofs.lemmas.List.Sorted.{IsNonDecreasingBy-from_sort_by_key}
use Rattle.ks_history.specs.Map.{map_after}
use Rattle.ks_history.specs.Trace.{calls_of, graph_after}
use Rattle.ks_dictionary.specs.Ended.{history}
use Rattle.ks_dictionary.proofs.Keyed.{keyed, written, keyed_more, small_more, all_keyed, are_small, listed_by_key}
use Rattle.ks_dictionary.proofs.Stored.{stored_at_places}
use Rattle.ks_dictionary.proofs.closed.Closed.pairs.Goals as goal

pub loop-entry-preserved : goal.loop-entry-preserved
loop-entry-preserved g c =
    let i = c.loop-entry.invariant in
    let xs = c.as_mut_slice-entry-items.result.now in
    let more = keyed_more g.N.Places.Placing.key_at xs c.loop-entry.entry-items c.loop-entry.entry-index c.key_of-entry.result c.loop-entry-test.true c.loop-entry.auto.entry-items c.key_of-entry.ensures (i.made, i.left) in record {
      made = more.0;
      left = more.1;
      small = small_more c.loop-entry.entry-items c.loop-entry.entry-index c.key_of-entry.result (omega (arith, c.loop-entry-test.true, c.loop-entry.auto.entry-items)) c.key_of-entry.type_inv i.small;
    }

pub returns : goal.returns
returns g c =
    let h = history c.args.self.now in
    let run = c.requires.1 in
    let xs : List (ℕ × ℕ) = c.in_ok-entries.entries.items in
    let ys : List (ℕ × ℕ) = c.loop-entry.entry-items in
    let value : c.as_mut_slice-entry-items.result.now ≡ xs = c.as_mut_slice-entry-items.ensures.value in
    let long : length ys ≡ length xs = c.loop-entry.auto.entry-items ∙ ap length value in
    let key = g.N.Places.Placing.key_at in
    let far : length xs ≤ c.loop-entry.entry-index = omega (arith, c.loop-entry-test.false, ap length value) in
    let made : ys ≡ map (keyed key) xs = all_keyed key xs ys c.loop-entry.entry-index far long (c.loop-entry.invariant.made ∙ ap (λ zs. map (keyed key) (take c.loop-entry.entry-index zs)) value) in
    let keys : All (λ z. z.0 < 2 ^ 64) (map (keyed key) xs) = subst (All (λ (z : ℕ × ℕ). z.0 < 2 ^ 64)) (take_all c.loop-entry.entry-index ys (omega (arith, far, long)) ∙ made) c.loop-entry.invariant.small in
    let whole : take c.in_ok-entries.entries.len (ys ++ drop (length ys) xs) ≡ map (keyed key) xs = written c.in_ok-entries.entries.len xs ys c.in_ok-entries.entries.ok.0 long ∙ made in
    listed_by_key g.N.Places.Placing.place_of key g.met.N.Places.Placing.key_of_place g.met.N.Places.Placing.place_of_key (map_after (calls_of h)) xs c.sort_unstable_by_key.new.self.items
    (stored_at_places h run.lawful) (are_small (graph_after h) xs c.in_ok-entries.ensures.found) keys c.in_ok-entries.ensures.map
    (subst (λ (zs : List (ℕ × ℕ)). IsPermutation zs c.sort_unstable_by_key.new.self.items) whole c.sort_unstable_by_key.ensures.permutation)
    (IsNonDecreasingBy-from_sort_by_key (λ z. z.0) _ c.sort_unstable_by_key.ensures.sorted (λ a r q k. search rules))
