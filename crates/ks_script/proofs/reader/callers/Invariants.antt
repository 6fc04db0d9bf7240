use Rattle.ks_script.proofs.Common.{◌≡◌, ◌+◌, ◌-◌, ◌<◌, ◌≤◌, ◌++◌, length, lines_of, version_line, IsScript, line_text, script_lines, calls_in, parts_in, NoneFirst, HasBegun, Reads, IsLineWithin}
use Rattle.ks_script.proofs.reader.callers.Given as goal

abbrev pub invariant-callers : goal.invariant-callers
invariant-callers l = record {
  is : IsScript l.front.version l.front.callers.items;
  reads : Reads (version_line l.front.version ++ script_lines l.front.callers.items) l.bytes l.front.rest.now l.front.lines;
  few : l.front.lines ≤ 1 + length l.front.callers.items + l.front.calls;
  calls : l.front.calls ≡ calls_in l.front.callers.items;
  parts : l.front.parts ≡ 65536 - parts_in l.front.callers.items;
  begun : length l.front.callers.items ≡ 0 → HasBegun l.front.version (lines_of l.front.rest.now);
  line : 0 < length l.front.callers.items → calls_in l.front.callers.items < 1048576 → NoneFirst (IsLineWithin l.front.version (65536 - parts_in l.front.callers.items)) line_text (lines_of l.front.rest.now);
}

abbrev pub decreases-callers : goal.decreases-callers
decreases-callers l = length l.front.rest.now
