use Rattle.std.proofs.Common.{◌∙◌, inl, subst}
use Rattle.ks_history.specs.Hand.{AreOnce}
use Rattle.ks_history.specs.Laws.Hand.{is_hand}
use Rattle.ks_arena.specs.Sound.{sort_of}
use Rattle.ks_arena.specs.Clauses.{seen_of}
use Rattle.ks_shape.proofs.visits.lift_path.Goals as goal

pub lift_under-parent-requires-clause-lies : goal.lift_under-parent-requires-clause-lies
lift_under-parent-requires-clause-lies g c κs within = let h = seen_of c.args.pass.now in let laws = c.search_law.ensures (sort_of g.N.Node.layout g.N.Node.ranged) c.args.arena.now.table.shared.table_id.slots in
    c.lift-node.ensures.slots c.args.above.node (λ same. (subst AreOnce c.requires.hands (is_hand h c.args.pass.now.caller (laws.turns h c.requires.pass.sound)).once).0 (inl same)) ∙ c.requires.above
