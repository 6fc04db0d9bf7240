use Rattle.std.proofs.Common.{◌≡◌, sym, subst}
use Rattle.ks_node.specs.declared.start.Next.TheVariants.{Here}
use Rattle.ks_node.specs.Body.{next_at}
use Rattle.ks_arena.specs.declared.held.Held.{Held as Hand}
use Rattle.ks_put.proofs.room.come_to_end.Goals as goal

pub tree_end_law-requires-clause-here : goal.tree_end_law-requires-clause-here
tree_end_law-requires-clause-here g c = subst (λ (x : Hand g.row.N.Denot). next_at (g.N.Node.body x.body) c.args.place ≡ Here) (sym c.let_go-held.ensures.node) c.requires.here
