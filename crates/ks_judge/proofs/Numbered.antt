-- Calls in the order of their numbers.
use Rattle.std.proofs.Common.{ℕ, suc, ◌≡◌, ◌+◌, List, [], ◌∷◌, ◌++◌, map, ◌∙◌, ap, subst, arith}
use Rattle.ks_history.specs.declared.Op.{Op}
use Rattle.ks_judge.specs.declared.slots.Slot.{Slot}
use Rattle.ks_judge.specs.declared.slots.Slot.TheVariants.{One}
use Rattle.ks_judge.specs.Judgment.{Lines, answered_at, carriers, calls_below}
use Rattle.ks_judge.specs.Slots.{Carries, TellsSlot}

-- a slot that names one line
pub one_tells : (lines : Lines) (n : ℕ) (slot : Slot) (c : ℕ) (places : List (ℕ × ℕ)) → slot ≡ One c → TellsSlot lines n slot places → (j : ℕ) × (places ≡ (c, j) ∷ []) × Carries lines c j n
one_tells lines n slot c places is tells = subst (λ (s : Slot). TellsSlot lines n s places) is tells

pub below_more : (script : List (List Op)) (lines : Lines) (n c j : ℕ) → carriers lines n ≡ (c, j) ∷ [] → calls_below script lines (n + 1) ≡ calls_below script lines n ++ answered_at script lines (c, j) ∷ []
below_more script lines n c j only =
    let e : n + 1 ≡ suc n = omega arith in
    ap (calls_below script lines) e ∙ ap (λ (ps : List (ℕ × ℕ)). calls_below script lines n ++ map (answered_at script lines) ps) only
