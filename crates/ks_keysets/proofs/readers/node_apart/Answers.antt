use Rattle.std.proofs.Common.{◌≡◌, Some, None, refl, sym, ◌∙◌, ap, subst}
use Rattle.std.proofs.lemmas.Option.{same_Some}
use Rattle.ks_keysets.specs.declared.Record.{Record}
use Rattle.ks_keysets.specs.Keyset.{record_at}
use Rattle.ks_keysets.specs.Listed.{graph_of}
use Rattle.ks_keysets.specs.Apart.{AreEdgesApart}
use Rattle.ks_keysets.proofs.Ways.{record_listed}
use Rattle.ks_keysets.proofs.readers.node_apart.Goals as goal

pub returns-in-Some : goal.returns-in-Some
returns-in-Some c =
    let here : record_at (graph_of c.args.graph.now) c.args.node ≡ Some c.in-Some.record.now = record_listed c.args.graph.now c.args.node ∙ sym c.in-Some.ensures in
    let edges : c.deref.result.now ≡ c.in-Some.record.now.edges = c.deref.ensures.value ∙ ap (λ (z : Record). z.edges) c.record.view_is in (
      λ t r is. subst (λ (s : Record). AreEdgesApart s.edges) (same_Some c.in-Some.record.now r (sym here ∙ is)) (subst AreEdgesApart edges (c.list_apart.ensures.0 t)),
      λ all. c.list_apart.ensures.1 (subst AreEdgesApart (sym edges) (all c.in-Some.record.now here)),
    )

pub returns-in-None : goal.returns-in-None
returns-in-None c = (λ t r is. let none : None ≡ Some r = c.in-None.ensures ∙ sym (record_listed c.args.graph.now c.args.node) ∙ is in absurd (cc), λ all. refl)
