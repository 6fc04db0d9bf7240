use Rattle.ks_script.proofs.Common.{ℕ, ◌≡◌, ◌-◌, ◌+◌, ◌^◌, ◌<◌, ◌++◌, List, length, take, replicate, ap, ◌∙◌, arith, length-append, length-take, take-replicate, append_assoc, decimal}
use Rattle.std.proofs.lemmas.Fmt.{length-decimal-le_wide}
use Rattle.ks_script.proofs.ending.Ending.nineteen.Goals as goal

pub digits-requires : goal.digits-requires
digits-requires c = omega (arith, length-decimal-le_wide 19 c.args.number (omega arith) (omega arith) (omega arith))

-- as many digits 0 as make 19 digits
zeros : (n : ℕ) (old before new : List ℕ) → n < 10 ^ 19 → before ≡ old → new ≡ decimal n ++ old → 19 + length before ≡ length new + (19 - length (decimal n))
zeros n old before new small e f = omega (arith, length-decimal-le_wide 19 n (omega arith) (omega arith) (omega arith), ap length e, simp length-append at (ap length f))

pub slice_bounds-word-count : goal.slice_bounds-word-count
slice_bounds-word-count c = omega (arith, zeros c.args.number _ _ _ c.requires.small c.bytes.ensures (c.bytes-2.ensures ∙ c.digits.ensures))

pub word-requires : goal.word-requires
word-requires c = omega (arith, length-take {A = ℕ}, zeros c.args.number _ _ _ c.requires.small c.bytes.ensures (c.bytes-2.ensures ∙ c.digits.ensures), ap length c.bytes.ensures, ap length c.bytes-2.ensures)

pub returns : goal.returns
returns c =
    let k : ℕ = 19 - length (decimal c.args.number) in
    let is : 19 + length c.bytes.result.now - length c.bytes-2.result.now ≡ k = omega (arith, zeros c.args.number _ _ _ c.requires.small c.bytes.ensures (c.bytes-2.ensures ∙ c.digits.ensures)) in
    c.word.ensures ∙ (ap (λ (n : ℕ). take n (replicate 19 48) ++ c.digits.new.self) is ∙ simp (take-replicate {X = ℕ} k 19 48 (omega arith), c.digits.ensures, append_assoc))
