use Rattle.ks_script.proofs.Common.{[], ◌∷◌, ◌++◌, map, sym, ap, arith, append_assoc, append-nil, Scanned, text_of, part_line, stop_line}
use Rattle.ks_script.proofs.Putting.{puts_on, puts_as, owes_more, owes_next, owes_last}
use Rattle.ks_script.proofs.printed.put_scan.Goals as goal

pub loop-part-preserved : goal.loop-part-preserved
loop-part-preserved g c =
    owes_more c.put_part.ensures (owes_next (λ parts. text_of (map part_line parts ++ stop_line c.args.stop ∷ [])) c.args.parts.now c.loop-part.part-index c.part-item.result c.part-item.result c.loop-part-test.true c.part-item.is c.loop-part.invariant)

pub returns-in-Whole : goal.returns-in-Whole
returns-in-Whole g c = owes_last (λ parts. text_of (map part_line parts ++ stop_line c.args.stop ∷ [])) c.args.parts.now c.loop-part.part-index (omega arith) c.loop-part.invariant (puts_as c.put.ensures (ap (λ (s : Scanned). text_of (stop_line s ∷ [])) (sym c.in-Whole.is)))

pub returns-in-Until : goal.returns-in-Until
returns-in-Until g c = owes_last (λ parts. text_of (map part_line parts ++ stop_line c.args.stop ∷ [])) c.args.parts.now c.loop-part.part-index (omega arith) c.loop-part.invariant (puts_as (puts_on c.put-in-Until.ensures c.put_one.ensures) (rw c.in-Until.is (simp (append_assoc, append-nil))))
