use Rattle.ks_script.proofs.Common.{◌≡◌, ◌+◌, List, length, sym, subst, arith, Scan, Whole, Until, IsSaidOf}
use Rattle.ks_lines.specs.declared.parts.Part.{Part}
use Rattle.ks_lines.specs.declared.Said.TheVariants as said
use Rattle.ks_script.proofs.Saids.{part_read, last_read, stops_there, until, part_unsaid, stop_unsaid}
use Rattle.ks_script.proofs.scan_lines.scan_said.Goals as goal

pub parts-preserved : goal.parts-preserved
parts-preserved c =
    let some = c.in-Some.ensures.some in
    let most = some.0.1 in
    record {
      read = part_read c.args.low c.args.last c.args.most c.parts.parts.items c.parts.next c.args.bytes.now c.parts.rest.now c.parts.invariant.read c.push.new.self.items c.in-Some.part c.in-Some.more.now c.in_ok-push.ensures.items (omega (arith, c.len.ensures)) some.0 some.1;
      within = omega (arith, c.if-end-last.false);
      shorter = omega (arith, c.parts.invariant.shorter, c.in-Some.ensures.shorter, c.in_ok-push.ensures.len);
    }

pub returns-in_default-clause-refused : goal.returns-in_default-clause-refused
returns-in_default-clause-refused c = λ n e.
    let is : c.args.before + c.len-in_default.result + 1 ≡ n = cc in
    let ps = c.parts.parts.items in (
      length ps + 1,
      omega (arith, c.len-in_default.ensures),
      part_unsaid c.args.low c.args.last c.args.most ps c.parts.next c.args.bytes.now c.parts.rest.now c.parts.invariant.read c.requires.scan.1 (omega (arith, c.len.ensures)) c.parts.invariant.within c.in_default.ensures.none,
    )

pub returns-in_default-word_line-clause-refused : goal.returns-in_default-word_line-clause-refused
returns-in_default-word_line-clause-refused c = λ n e.
    let is : c.args.before + (c.len-then-end-last.result + 1) ≡ n = cc in
    let ps = c.push.new.self.items in
    let p = c.in-Some.part in
    let some = c.in-Some.ensures.some in
    let end = last_read c.args.low c.args.last c.args.most c.parts.parts.items c.parts.next c.args.bytes.now c.parts.rest.now c.parts.invariant.read ps p c.in-Some.more.now c.in_ok-push.ensures.items (omega (arith, c.len.ensures)) some.0 some.1 c.if-end-last.true in (
      length ps + 1,
      omega (arith, c.len-then-end-last.ensures),
      stop_unsaid c.args.low c.args.last c.args.most ps (p.last + 1) c.args.bytes.now c.in-Some.more.now end.0 Whole end.1 tt c.in_default-word_line.ensures.none,
    )

pub returns-then-end-last-clause-said : goal.returns-then-end-last-clause-said
returns-then-end-last-clause-said c =
    let ps = c.push.new.self.items in
    let p = c.in-Some.part in
    let some = c.in-Some.ensures.some in
    let end = last_read c.args.low c.args.last c.args.most c.parts.parts.items c.parts.next c.args.bytes.now c.parts.rest.now c.parts.invariant.read ps p c.in-Some.more.now c.in_ok-push.ensures.items (omega (arith, c.len.ensures)) some.0 some.1 c.if-end-last.true in
    subst (λ (xs : List Part). IsSaidOf (Scan c.args.low c.args.last c.args.most) (said.Scan xs Whole)) (sym c.of.ensures)
    (stops_there c.args.low c.args.last c.args.most ps (p.last + 1) c.args.bytes.now c.in-Some.more.now end.0 Whole end.1 tt)

pub returns-in_default-numbered_line-clause-refused : goal.returns-in_default-numbered_line-clause-refused
returns-in_default-numbered_line-clause-refused c = λ n e.
    let is : c.args.before + (c.len-2.result + 1) ≡ n = cc in
    let ps = c.parts.parts.items in
    let inv = c.parts.invariant in (
      length ps + 1,
      omega (arith, c.len-2.ensures),
      stop_unsaid c.args.low c.args.last c.args.most ps c.parts.next c.args.bytes.now c.parts.rest.now inv.read (Until c.parts.next) (until c.args.low c.args.last c.args.most ps c.parts.next c.args.bytes.now c.parts.rest.now inv.read (omega (arith, c.len.ensures)) c.requires.scan.2 inv.within) (omega (arith, c.requires.scan.1, inv.within)) c.in_default-numbered_line.ensures.none,
    )

pub returns-clause-said : goal.returns-clause-said
returns-clause-said c =
    let ps = c.parts.parts.items in
    let inv = c.parts.invariant in
    subst (λ (xs : List Part). IsSaidOf (Scan c.args.low c.args.last c.args.most) (said.Scan xs (Until c.parts.next))) (sym c.of-2.ensures)
    (stops_there c.args.low c.args.last c.args.most ps c.parts.next c.args.bytes.now c.parts.rest.now inv.read (Until c.parts.next) (until c.args.low c.args.last c.args.most ps c.parts.next c.args.bytes.now c.parts.rest.now inv.read (omega (arith, c.len.ensures)) c.requires.scan.2 inv.within) (omega (arith, c.requires.scan.1, inv.within)))
