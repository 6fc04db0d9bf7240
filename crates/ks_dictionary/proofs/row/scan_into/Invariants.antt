use Rattle.std.proofs.Common.{◌≡◌, ◌≤◌, length}
use Rattle.std.specs.Prelude.{vec_capacity}
use Rattle.ks_arena.specs.Clauses.{seen_of}
use Rattle.ks_dictionary.specs.Scan.{DoneParts, HasSearched}
use Rattle.ks_lines.specs.Scan.{PartsAscend}
use Rattle.ks_dictionary.proofs.Rows.{next_from}
use Rattle.ks_dictionary.proofs.row.scan_into.Given as goal

abbrev pub invariant-loop : goal.invariant-loop
invariant-loop g l = record {
  searched : HasSearched (g.A.Shelf.site l.arena) l.fn.pass l.pass;
  long : length l.into.items ≡ l.counter;
  capacity : vec_capacity l.into ≡ vec_capacity l.fn.into;
  done : DoneParts g.N.Node.layout g.T.Ruled.technique (g.A.Shelf.site l.arena).nodes l.fn.pass.caller l.low l.last (seen_of l.fn.pass) l.into.items (seen_of l.pass);
  ascend : PartsAscend l.low l.last l.into.items;
  from : l.from ≡ next_from l.low l.into.items;
  to : l.from ≤ l.last;
}
