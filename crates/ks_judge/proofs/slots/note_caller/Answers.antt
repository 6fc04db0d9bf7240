use Rattle.std.proofs.Common.{ℕ, ◌≡◌, ◌<◌, ◌+◌, List, [], take, get_or, length, sym, ◌∙◌, ap, subst, arith}
use Rattle.std.proofs.lemmas.List.{get_or_read, get_or-map, length-map, take_all}
use Rattle.ks_lines.specs.declared.Said.{Said}
use Rattle.ks_lines.specs.declared.Said.TheVariants.{Scan}
use Rattle.ks_lines.specs.declared.parts.Part.{Part}
use Rattle.ks_script.specs.PackedReplies.{said_at}
use Rattle.ks_judge.specs.Judgment.{Lines}
use Rattle.ks_judge.specs.Flat.{replies_all, lines_said}
use Rattle.ks_judge.specs.declared.slots.PackedSlot.{PackedSlot}
use Rattle.ks_judge.specs.Slots.{Notes, carriers_to}
use Rattle.ks_judge.proofs.Notes.{carriers_to-caller, notes_along}
use Rattle.ks_judge.proofs.Parted.{call_noted, scan_noted}
use Rattle.ks_judge.proofs.slots.note_caller.Goals.{in-Some, in-None}
use Rattle.ks_judge.proofs.slots.note_caller.Goals as goal

pub loop-at-preserved : goal.loop-at-preserved
loop-at-preserved c =
    let lines : Lines = lines_said c.args.callers.now in
    let caller = c.args.caller in
    let ss : List Said = c.index-callers-caller.result in
    let at = c.loop-at.at in
    let is : get_or c.args.callers.now caller [] ≡ ss = sym (get_or_read c.args.callers.now caller ss c.requires.which c.index-callers-caller.is []) in
    let row : get_or lines caller [] ≡ replies_all ss = get_or-map replies_all c.args.callers.now caller [] [] c.requires.which ∙ ap replies_all is in
    let there : caller < length lines = omega (arith, c.requires.which, length-map c.args.callers.now replies_all) in
    let lt : at < length ss = omega (arith, c.loop-at-test.true, c.len-at-end.ensures) in
    let After : List PackedSlot → Type 0 = λ slots. Notes lines slots (carriers_to lines caller (length (replies_all (take (at + 1) ss)))) in
    elim c.match-scan_at.branch [
      | in-Some w ↦
          (let parts : List Part = w.as_slice.result.now in
          let slice : parts ≡ w.in-Some.parts.now = w.as_slice.ensures in
          let said_is : said_at ss at ≡ Scan parts w.in-Some.field-0-1 = w.in-Some.ensures.some ∙ ap (λ (ps : List Part). Scan ps w.in-Some.field-0-1) (sym slice) in
          subst After (sym w.slots-is) (scan_noted lines caller ss at there row lt c.loop-at.slots w.note_parts.new.slots c.loop-at.invariant parts w.in-Some.field-0-1 said_is w.note_parts.ensures))
      | in-None w ↦ (subst After (sym w.slots-is) (call_noted lines caller ss at there row lt c.loop-at.slots w.note.new.slots c.loop-at.invariant w.number_at.result w.in-None.ensures.none w.number_at.ensures w.note.ensures))
    ]

pub returns : goal.returns
returns c =
    let lines : Lines = lines_said c.args.callers.now in
    let caller = c.args.caller in
    let ss : List Said = c.index-callers-caller.result in
    let is : get_or c.args.callers.now caller [] ≡ ss = sym (get_or_read c.args.callers.now caller ss c.requires.which c.index-callers-caller.is []) in
    let row : get_or lines caller [] ≡ replies_all ss = get_or-map replies_all c.args.callers.now caller [] [] c.requires.which ∙ ap replies_all is in
    let whole : replies_all (take c.loop-at.at ss) ≡ replies_all ss = ap replies_all (take_all c.loop-at.at ss (omega (arith, c.loop-at-test.false, c.len-at-end.ensures))) in
    let all : length (get_or lines caller []) ≡ length (replies_all (take c.loop-at.at ss)) = ap length (row ∙ sym whole) in
    let there : caller < length lines = omega (arith, c.requires.which, length-map c.args.callers.now replies_all) in
    notes_along lines c.loop-at.slots (carriers_to lines caller (length (replies_all (take c.loop-at.at ss)))) (carriers_to lines (caller + 1) 0)
    (λ n. ap (λ (k : ℕ). carriers_to lines caller k n) (sym all) ∙ carriers_to-caller lines caller n there)
    c.loop-at.invariant
