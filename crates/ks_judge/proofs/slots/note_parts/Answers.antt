use Rattle.std.proofs.Common.{ℕ, ◌≡◌, ◌+◌, length, sym, ap, subst, arith}
use Rattle.ks_lines.specs.declared.parts.Part.{Part}
use Rattle.ks_judge.specs.Slots.{Notes, carriers_to}
use Rattle.ks_judge.proofs.Parted.{part_noted}
use Rattle.ks_judge.proofs.slots.note_parts.Goals as goal

pub parts-preserved : goal.parts-preserved
parts-preserved c = λ lines front back stop there is notes.
    let p : Part = c.index-parts-at.result in
    part_noted lines c.args.caller c.parts.at _ front back c.args.parts.now stop p c.parts.slots c.note.new.slots there is c.parts-test.true c.index-parts-at.is (ap (λ (q : Part). q.number) (sym c.index-parts-at.is)) c.note.ensures (c.parts.invariant lines front back stop there is notes)

pub returns : goal.returns
returns c = λ lines front back stop there is notes.
    let all : length front + c.parts.at ≡ length front + length c.args.parts.now = omega (arith, c.parts-test.false, c.parts.auto.at-end) in
    subst (λ (k : ℕ). Notes lines c.parts.slots (carriers_to lines c.args.caller k)) all (c.parts.invariant lines front back stop there is notes)
