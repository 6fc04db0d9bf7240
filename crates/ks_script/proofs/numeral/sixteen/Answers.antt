use Rattle.ks_script.proofs.Common.{ℕ, ◌-◌, ◌∙◌, List, take, drop, arith, ap, all_ascii_digits, digits_value, length-drop}
use Rattle.std.proofs.lemmas.Grind.{common_steps}
use Rattle.ks_script.proofs.Fronts.{parts, digits_parts, value_more}
use Rattle.ks_script.proofs.numeral.sixteen.Goals as goal

pub eight-requires-2-clause-digits : goal.eight-requires-2-clause-digits
eight-requires-2-clause-digits c =
    let count = c.digits_in-count.result in
    (digits_parts c.args.bytes.now 8 (count - 8) count (omega arith) c.digits_in-count.ensures.digits).0

pub eight-requires-3-clause-digits : goal.eight-requires-3-clause-digits
eight-requires-3-clause-digits c =
    let count = c.digits_in-count.result in
    ap (λ (x : List ℕ). all_ascii_digits (take (count - 8) x)) c.split_at.ensures.back ∙ (digits_parts c.args.bytes.now 8 (count - 8) count (omega arith) c.digits_in-count.ensures.digits).1

pub returns : goal.returns
returns c =
    let bytes = c.args.bytes.now in
    let count = c.digits_in-count.result in
    let digits = c.digits_in-count.ensures.digits in
    let back = rw c.split_at.ensures.back at c.eight-3.ensures.value in
    record {
      within = omega arith;
      most = omega arith;
      digits = digits;
      value = ap (digits_value 10) (parts bytes 8 (count - 8) count (omega arith))
          ∙ value_more (take 8 bytes) (drop 8 bytes) (count - 8) c.eight-2.result c.eight-3.result c.power.result (omega (arith, length-drop 8 bytes)) c.eight-2.ensures.value back c.power.ensures;
      stops = grind (arith, common_steps);
    }
