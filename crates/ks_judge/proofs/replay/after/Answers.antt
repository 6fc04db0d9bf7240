use Rattle.std.proofs.Common.{ℕ, ◌≡◌, List, sym, ◌∙◌, ap, subst}
use Rattle.std.specs.Prelude.{IfSome}
use Rattle.ks_lines.specs.declared.parts.Part.{Part}
use Rattle.ks_lines.specs.declared.Line.TheVariants.{Scan}
use Rattle.ks_lines.specs.declared.Said.TheVariants as said
use Rattle.ks_script.specs.PackedReplies.{said_at}
use Rattle.ks_judge.specs.Places.{line_in, call_in, next_place, HasMade}
use Rattle.ks_judge.proofs.Scans.{scan_ascends, scan_long, scan_within, scan_keeps, always}
use Rattle.ks_judge.proofs.replay.after.Goals as goal

pub after_part-requires-clause-ascend : goal.after_part-requires-clause-ascend
after_part-requires-clause-ascend g c =
    let ls = c.args.lines.now in
    let ss = c.args.said.now in
    let parts : List Part = c.as_slice.result.now in
    let is_l : line_in ls c.args.at.line ≡ Scan c.in-Scan.first c.in-Scan.field-1 c.in-Scan.field-2 = sym c.get.ensures ∙ c.in-Scan.is in
    let slice : parts ≡ c.in-Some.parts.now = c.as_slice.ensures in
    let is_s : said_at ss c.args.at.line ≡ said.Scan parts c.in-Some.field-0-1 = c.in-Some.ensures.some ∙ ap (λ (ps : List Part). said.Scan ps c.in-Some.field-0-1) (sym slice) in
    (c.in-Scan.field-1, scan_ascends ls ss c.requires.answered c.args.at c.requires.place c.in-Scan.first c.in-Scan.field-1 c.in-Scan.field-2 parts c.in-Some.field-0-1 is_l is_s)

pub after_part-requires-clause-within : goal.after_part-requires-clause-within
after_part-requires-clause-within g c =
    let ls = c.args.lines.now in
    let ss = c.args.said.now in
    let parts : List Part = c.as_slice.result.now in
    let is_l : line_in ls c.args.at.line ≡ Scan c.in-Scan.first c.in-Scan.field-1 c.in-Scan.field-2 = sym c.get.ensures ∙ c.in-Scan.is in
    let slice : parts ≡ c.in-Some.parts.now = c.as_slice.ensures in
    let is_s : said_at ss c.args.at.line ≡ said.Scan parts c.in-Some.field-0-1 = c.in-Some.ensures.some ∙ ap (λ (ps : List Part). said.Scan ps c.in-Some.field-0-1) (sym slice) in
    scan_within ls ss c.requires.answered c.args.at c.requires.place c.in-Scan.first c.in-Scan.field-1 c.in-Scan.field-2 parts c.in-Some.field-0-1 is_l is_s

pub returns-clause-next : goal.returns-clause-next
returns-clause-next g c =
    let ls = c.args.lines.now in
    let ss = c.args.said.now in
    let parts : List Part = c.as_slice.result.now in
    let is_l : line_in ls c.args.at.line ≡ Scan c.in-Scan.first c.in-Scan.field-1 c.in-Scan.field-2 = sym c.get.ensures ∙ c.in-Scan.is in
    let slice : parts ≡ c.in-Some.parts.now = c.as_slice.ensures in
    let is_s : said_at ss c.args.at.line ≡ said.Scan parts c.in-Some.field-0-1 = c.in-Some.ensures.some ∙ ap (λ (ps : List Part). said.Scan ps c.in-Some.field-0-1) (sym slice) in
    subst (λ (k : ℕ). IfSome c.after_part.result (λ next. next ≡ next_place c.args.at k)) (sym (scan_long ls ss c.requires.answered c.args.at c.requires.place c.in-Scan.first c.in-Scan.field-1 c.in-Scan.field-2 parts c.in-Some.field-0-1 is_l is_s)) c.after_part.ensures.next

pub returns-clause-map : goal.returns-clause-map
returns-clause-map g c =
    let ls = c.args.lines.now in
    let ss = c.args.said.now in
    let parts : List Part = c.as_slice.result.now in
    let is_l : line_in ls c.args.at.line ≡ Scan c.in-Scan.first c.in-Scan.field-1 c.in-Scan.field-2 = sym c.get.ensures ∙ c.in-Scan.is in
    let slice : parts ≡ c.in-Some.parts.now = c.as_slice.ensures in
    let is_s : said_at ss c.args.at.line ≡ said.Scan parts c.in-Some.field-0-1 = c.in-Some.ensures.some ∙ ap (λ (ps : List Part). said.Scan ps c.in-Some.field-0-1) (sym slice) in
    let m = g.M.Store.has c.args.map.now in
    always c.after_part.result (HasMade m (call_in ls ss c.args.at).call m) (scan_keeps ls ss c.requires.answered c.args.at c.requires.place c.in-Scan.first c.in-Scan.field-1 c.in-Scan.field-2 parts c.in-Some.field-0-1 is_l is_s m)
