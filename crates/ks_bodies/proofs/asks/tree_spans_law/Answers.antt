use Rattle.ks_node.specs.Edges.{record_of}
use Rattle.ks_bodies.proofs.Used.{inset_suits}
use Rattle.ks_bodies.proofs.Rooted.{root_all, child_span}
use Rattle.ks_bodies.proofs.asks.tree_spans_law.Goals as goal

pub returns-clause-some : goal.returns-clause-some
returns-clause-some c g f n b good tree stands =
    let y = tree.spans n (record_of b, stands.has) in
    (record { low = (f n).low; last = y.0 }, y.1, inset_suits g f n b good tree (λ e m p s. c.tree_facts_law.ensures.child g e m p s tree.edges) stands (record { low = (f n).low; last = y.0 }) y.1)

pub returns-clause-suits : goal.returns-clause-suits
returns-clause-suits c g f n b span good tree stands inset = inset_suits g f n b good tree (λ e m p s. c.tree_facts_law.ensures.child g e m p s tree.edges) stands span inset

pub returns-clause-root : goal.returns-clause-root
returns-clause-root c = root_all

pub returns-clause-below : goal.returns-clause-below
returns-clause-below c g f n place span u b good tree root stands to is = child_span g f n place span u b tree (λ e m p s. c.tree_facts_law.ensures.child g e m p s tree.edges) root stands to is
