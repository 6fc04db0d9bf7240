-- What is known once all callers are served, by the nodes over which they are served: of their replies, the pairs and the trace.
use Rattle.std.specs.Prelude.{ℕ, List, length}
use Rattle.ks_keysets.specs.Layout.{Layout}
use Rattle.ks_history.specs.Due.{FullsDue}
use Rattle.ks_history.specs.Lawful.{Lawful, GoodThroughout}
use Rattle.ks_history.specs.Callers.{CallersBelow}
use Rattle.ks_lines.specs.declared.Line.{Line}
use Rattle.ks_lines.specs.ServedLines.{ServedLines}
use Rattle.ks_arena.specs.Named.{AllNamedBelow}
use Rattle.ks_serving.specs.declared.serving.Told.{Told}

-- over this number of nodes, of the layout, with these places for keys, the trace served the script; what is printed reports it
pub record IsServedBy (layout : Layout) (place : ℕ → ℕ) (nodes : ℕ) (script : List (List Line)) (told : Told) : Type 0 where
  pub served : ServedLines place script told.printed.callers told.printed.pairs told.trace
  pub lawful : Lawful told.trace
  pub good : GoodThroughout told.trace
  pub due : FullsDue layout nodes told.trace
  pub named : AllNamedBelow nodes told.trace
  pub callers : CallersBelow (length script) told.trace
