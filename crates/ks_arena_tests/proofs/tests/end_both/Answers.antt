use Rattle.std.proofs.Common.{◌≡◌, [], subst, ◌<◌}
use Rattle.ks_arena.specs.Clauses.{IsPass, hand_of}
use Rattle.ks_arena.specs.Sound.{sort_of}
use Rattle.ks_flow.specs.Discipline.{BeginsTree, TreeStep}
use Rattle.ks_arena_tests.proofs.Crews.{each_of, all_of}
use Rattle.ks_arena_tests.proofs.tests.end_both.Goals as goal

pub close-requires-after_bounds : goal.close-requires-after_bounds
close-requires-after_bounds g c κs within =
    let arena = c.args.arena in
    record {
      each = each_of (λ p. IsPass (sort_of g.N.Node.layout g.N.Node.ranged) BeginsTree TreeStep arena.table.shared.table_id arena.callers p × (hand_of p ≡ []))
          c.in_ok-all.all.items c.args.one c.args.two c.in_ok-all.ensures c.requires.one.0 c.requires.two.0;
      all = λ k lt. all_of (λ p. p.caller) c.in_ok-all.all.items c.args.one c.args.two c.in_ok-all.ensures c.requires.one.1 c.requires.two.1 k (subst (λ n. k < n) c.requires.callers lt);
    }
