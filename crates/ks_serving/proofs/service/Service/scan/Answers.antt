use Rattle.std.proofs.Common.{◌++◌, List, map, sym, ap, ◌∙◌, arith}
use Rattle.ks_history.specs.Trace.{calls_by}
use Rattle.ks_lines.specs.declared.parts.Part.{Part}
use Rattle.ks_lines.specs.Lines.{part_calls}
use Rattle.ks_arena.specs.Clauses.{seen_of}
use Rattle.ks_serving.specs.Called.{call_at}
use Rattle.ks_serving.proofs.Calling.{scan_calls}
use Rattle.ks_serving.proofs.service.Service.scan.Goals as goal

pub returns-clause-calls : goal.returns-clause-calls
returns-clause-calls g c =
    let place = g.N.Places.Placing.place_of in
    let made = c.scan_into-stop.ensures in
    let parts = c.scan_into-stop.new.into.items in
    scan_calls _ _ _ c.args.pass.now.caller c.args.low c.args.last _ (seen_of c.args.pass.now) parts c.scan_into-stop.result (seen_of c.scan_into-stop.new.pass) place made.done made.scan made.keys (omega (arith, c.ranges.last))
    ∙ ap (λ (xs : List Part). calls_by c.args.pass.now.caller (seen_of c.args.pass.now) ++ map (call_at place) (part_calls c.args.low xs)) (sym c.of.ensures)
