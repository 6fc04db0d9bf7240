-- How many callers a made script has.
use Rattle.std.proofs.Common.{ℕ, zero, suc, ◌≡◌, ◌≤◌, ◌+◌, List, length, ◌∙◌, ap, arith}
use Rattle.ks_lines.specs.declared.Line.{Line}
use Rattle.ks_words.specs.declared.words.Draft.{Draft}
use Rattle.ks_generator.specs.Made.{callers_made, made, after_calls}

made_length : (callers n c k x : ℕ) → length (callers_made callers n c k x) ≡ k
made_length callers n c zero x = omega arith
made_length callers n c (suc k) x = let e = made_length callers n (c + 1) k (after_calls n x) in omega (arith, e)

pub many_callers : (script : List (List Line)) (draft : Draft) → script ≡ made draft.callers draft.calls draft.first → length script ≡ draft.callers
many_callers script draft is = ap length is ∙ made_length draft.callers draft.calls 0 draft.callers draft.first

pub few_callers : (script : List (List Line)) (draft : Draft) → draft.callers ≤ 64 → script ≡ made draft.callers draft.calls draft.first → length script ≤ 1024
few_callers script draft le is = let e = many_callers script draft is in omega (arith, e, le)
