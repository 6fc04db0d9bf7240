use Rattle.std.proofs.Common.{ℕ, ◌<◌, sym, ap, subst}
use Rattle.ks_history.specs.Own.{hand}
use Rattle.ks_arena_tests.proofs.Ends.{there}
use Rattle.ks_arena_tests.proofs.ended.ended_at_once.Goals as goal

pub close-requires-after_bounds : goal.close-requires-after_bounds
close-requires-after_bounds g c κs within =
    let start = c.in_ok-arena.ensures in
    let new = start.2 in
    let passes = c.in_ok-arena.passes.items in
    record {
      each = λ j p at. let one = new.each j p at in (one.pass, ap (hand p.caller) one.seen);
      all = λ k lt. let p = there passes k (subst (λ (n : ℕ). k < n) (sym new.long) lt) in (k, p.0, p.1, (new.each k p.0 p.1).caller);
    }
