use Rattle.std.proofs.Common.{sym, subst}
use Rattle.ks_lines.specs.Asked.{AreServedLines}
use Rattle.ks_generator.specs.Laws.Asked.{made_served}
use Rattle.ks_words.specs.Pairings.{technique_row, does_scan}
use Rattle.ks_ends.specs.Laws.Drafted.{few_callers}
use Rattle.ks_ends.proofs.request.Request.made.Goals as goal

pub returns-clause-callers : goal.returns-clause-callers
returns-clause-callers c = few_callers c.in_ok-script.script c.args.draft c.requires c.in_ok-script.ensures

pub returns-clause-served : goal.returns-clause-served
returns-clause-served c =
    let scans = does_scan c.args.pairing.structure c.args.pairing.technique in
    let moves = (technique_row c.args.pairing.technique).moves in
    subst (AreServedLines scans moves) (sym c.in_ok-script.ensures) (made_served scans moves c.args.draft.callers c.args.draft.calls c.args.draft.first)
