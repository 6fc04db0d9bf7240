use Rattle.std.proofs.Common.{List, ◌≡◌, Some, None, sym, ◌∙◌, ap, subst}
use Rattle.std.specs.Prelude.{All}
use Rattle.std.proofs.lemmas.Option.{same_Some}
use Rattle.ks_keysets.specs.declared.Edge.{Edge}
use Rattle.ks_keysets.specs.declared.Record.{Record}
use Rattle.ks_keysets.specs.Keyset.{record_at}
use Rattle.ks_keysets.specs.Listed.{graph_of}
use Rattle.ks_keysets.specs.Spans.{CarriesAlike, AllCarryAlike}
use Rattle.ks_keysets.proofs.Ways.{record_listed}
use Rattle.ks_keysets.proofs.readers.node_cut.Goals as goal

pub returns-in-Some-clause-same : goal.returns-in-Some-clause-same
returns-in-Some-clause-same c = λ q r le le' is.
    let here : record_at (graph_of c.args.graph.now) c.args.node ≡ Some c.in-Some.record.now = record_listed c.args.graph.now c.args.node ∙ sym c.in-Some.ensures in
    subst (λ (s : Record). AllCarryAlike s c.args.place q) (same_Some c.in-Some.record.now r (sym here ∙ is))
    (subst (λ (es : List Edge). All (λ e. CarriesAlike e c.args.place q) es) (c.deref.ensures.value ∙ ap (λ (z : Record). z.edges) c.record.view_is) (c.edges_cut.ensures.same q le le'))

pub returns-in-None-clause-same : goal.returns-in-None-clause-same
returns-in-None-clause-same c = λ q r le le' is.
    let none : None ≡ Some r = c.in-None.ensures ∙ sym (record_listed c.args.graph.now c.args.node) ∙ is in absurd (cc)
