use Rattle.ks_script.proofs.Common.{ℕ, ◌≡◌, List, [], ◌++◌, ap, ◌∙◌, append_assoc, append-nil, codes, decimal}
use Rattle.ks_script.proofs.Putting.{holds_none, puts_on, puts_as}
use Rattle.ks_script.proofs.line.send_refusal.Goals as goal

flat : (a b c d e : List ℕ) → (((a ++ (b ++ [])) ++ c) ++ d) ++ e ≡ a ++ (b ++ (c ++ (d ++ e)))
flat a b c d e = simp (append_assoc, append-nil)

pub returns : goal.returns
returns g c =
    let line = decimal c.args.line in
    let text = flat (codes "line ") line (codes " refused\n") c.as_bytes.result.now (codes "\n") ∙ ap (λ (why : List ℕ). codes "line " ++ (line ++ (codes " refused\n" ++ (why ++ codes "\n")))) (c.as_bytes.ensures.value ∙ c.text.ensures) in
    let puts = puts_as (puts_on (puts_on (puts_on (puts_on c.put.ensures c.put_one.ensures) c.put-2.ensures) c.put-3.ensures) c.put-4.ensures) text in
    let takes = c.finish.ensures _ _ _ (puts.on _ _ [] (holds_none _ _ _ c.new-text.ensures.0 c.new-text.ensures.1)) in
    record { ok = takes.ok; front = takes.front; cause = takes.cause; count = takes.count }
