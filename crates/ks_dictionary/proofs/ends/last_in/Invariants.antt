use Rattle.std.proofs.Common.{◌≡◌, ◌≤◌, ◌-◌, List}
use Rattle.ks_arena.specs.Clauses.{seen_of}
use Rattle.ks_lines.specs.declared.parts.Part.{Part}
use Rattle.ks_dictionary.specs.Scan.{DoneParts, HasSearched}
use Rattle.ks_dictionary.proofs.Rows.{next_from}
use Rattle.ks_dictionary.specs.Ends.{last_found}
use Rattle.ks_dictionary.proofs.ends.last_in.Given as goal

abbrev pub invariant-loop-part : goal.invariant-loop-part
invariant-loop-part g l = record {
  searched : HasSearched (g.A.Shelf.site l.arena) l.fn.pass l.pass;
  row : (parts : List Part) × DoneParts g.N.Node.layout g.T.Ruled.technique (g.A.Shelf.site l.arena).nodes l.fn.pass.caller l.low l.last (seen_of l.fn.pass) parts (seen_of l.pass) × (l.found ≡ last_found parts) × (l.from ≡ next_from l.low parts);
  to : l.from ≤ l.last;
}

abbrev pub decreases-loop-part : goal.decreases-loop-part
decreases-loop-part g l = l.last - l.from
