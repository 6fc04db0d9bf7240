use Rattle.std.proofs.Common.{rules, ◌≤◌, sym, ◌∙◌}
use Rattle.std.specs.Prelude.{All}
use Rattle.ks_asked.proofs.Own.{suits_own, own_handed}
use Rattle.ks_asked.proofs.cut_of.Goals as goal

pub returns-clause-splits : goal.returns-clause-splits
returns-clause-splits g c =
    let b = g.N.Node.body c.args.node.now in
    let r = c.range-range.result in
    let inside : All (λ x. (r.low ≤ x.place) × (x.place ≤ r.last)) b.pairs = search rules in
    let suits = suits_own b r c.range-range.ensures (c.node_law.ensures.framed r c.range-range.ensures) inside in
    (c.cut.ensures.good r suits (own_handed r)).splits

pub returns-clause-grows : goal.returns-clause-grows
returns-clause-grows g c =
    let b = g.N.Node.body c.args.node.now in
    let r = c.range-range.result in
    let inside : All (λ x. (r.low ≤ x.place) × (x.place ≤ r.last)) b.pairs = search rules in
    let suits = suits_own b r c.range-range.ensures (c.node_law.ensures.framed r c.range-range.ensures) inside in
    λ all grows. c.cut.ensures.grows r suits (own_handed r) grows (λ e. sym c.range-range.ensures ∙ all e)
