use Rattle.std.proofs.Common.{rules, ◌≤◌, refl}
use Rattle.std.specs.Prelude.{All, IsTrue}
use Rattle.ks_node.specs.Body.{all_places, content_of}
use Rattle.ks_nodes_tests.proofs.Whole.{suits_all, all_handed}
use Rattle.ks_nodes_tests.proofs.bare.grow.Goals as goal

pub grow-requires-clause-cut : goal.grow-requires-clause-cut
grow-requires-clause-cut g c =
    let b = g.N.Node.body c.args.node.now in
    let inside : All (λ x. (all_places.low ≤ x.place) × (x.place ≤ all_places.last)) b.pairs = search rules in
    (c.cut-cut.ensures.good all_places (suits_all b c.requires.leaf inside) all_handed).splits

pub grow-requires-clause-at : goal.grow-requires-clause-at
grow-requires-clause-at g c =
    let b = g.N.Node.body c.args.node.now in
    let inside : All (λ x. (all_places.low ≤ x.place) × (x.place ≤ all_places.last)) b.pairs = search rules in
    let grows : IsTrue (g.N.Node.grows_at (content_of b)) = search rules in
    c.cut-cut.ensures.grows all_places (suits_all b c.requires.leaf inside) all_handed grows (λ e. refl)
