use Rattle.std.proofs.Common.{◌∙◌, sym, subst}
use Rattle.ks_arena.specs.Sound.{sort_of}
use Rattle.ks_shape.specs.Idle.{Site}
use Rattle.ks_dictionary.specs.Crew.{AreInOrder}
use Rattle.ks_trials.proofs.Written.{written}
use Rattle.ks_trials.proofs.trial.goes_right_under_trees.Goals as goal

pub end-requires-after_bounds : goal.end-requires-after_bounds
end-requires-after_bounds g c κs within =
    let site : Site = record { sort = sort_of g.N.Node.layout g.N.Node.ranged; begins = g.T.Rule.Discipline.begins; step = g.T.Rule.Discipline.step; table = c.in_ok-map.map.arena.table.shared.table_id; callers = c.in_ok-map.map.arena.callers; nodes = c.in_ok-map.map.arena.nodes } in
    subst (AreInOrder site)
    (sym (written c.in_ok-map.passes.len c.in_ok-map.passes.items c.play_and_compact-freed.new.passes c.in_ok-map.passes.ok.0 (c.play_and_compact-freed.ensures.long ∙ sym c.in_ok-map.ensures.passes.long)))
    c.play_and_compact-freed.ensures
