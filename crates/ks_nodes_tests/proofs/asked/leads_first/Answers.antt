use Rattle.std.proofs.Common.{sym, ◌∙◌}
use Rattle.std.proofs.lemmas.Bool.{eq-eqb}
use Rattle.ks_node.specs.Laws.Starts.{differ}
use Rattle.ks_nodes_tests.proofs.FirstEdge.{next_first, same_target}
use Rattle.ks_nodes_tests.proofs.asked.leads_first.Goals as goal

pub returns-in-Go : goal.returns-in-Go
returns-in-Go g c =
    let b = g.N.Node.body c.args.node.now in
    let r = c.range.result in
    let law = c.node_law.ensures in
    λ other leads.
    let first = next_first b r c.args.id c.range.ensures (law.framed r c.range.ensures) (law.sound.branch_covers c.requires) leads in
    differ other (eq-eqb _ _ (same_target c.in-Go.first c.args.id (sym c.in-Go.is ∙ c.next.ensures ∙ first)))
