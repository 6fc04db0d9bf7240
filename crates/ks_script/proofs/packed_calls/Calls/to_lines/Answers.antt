use Rattle.ks_script.proofs.Common.{ℕ, ◌∷◌, ◌++◌, [], sym, ◌∙◌, ◌<◌, subst, take_more, Call, Get}
use Rattle.ks_script.proofs.packed_calls.Calls.to_lines.Goals as goal

pub loop-at-preserved : goal.loop-at-preserved
loop-at-preserved c =
    let i : ℕ = c.loop-at.at in
    c.in_ok-push.ensures.items
    ∙ ((λ k. c.loop-at.invariant k ++ c.get.ensures k ∷ [])
    ∙ sym (take_more c.args.self.now i (Call (Get 0)) (subst (λ (n : ℕ). i < n) c.len-at-end.ensures c.loop-at-test.true)))
