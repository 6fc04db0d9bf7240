-- What is noted of the lines that carry a number.
use Rattle.std.specs.Prelude.{ℕ, ◌≡◌, ◌==◌, ◌<◌, ◌≤◌, ◌-◌, List, [], ◌∷◌, ◌++◌, length, take, slice_index_or, if◌then◌else◌}
use Rattle.ks_judge.specs.declared.slots.PackedSlot.{PackedSlot}
use Rattle.ks_judge.specs.declared.slots.Slot.{Slot}
use Rattle.ks_judge.specs.declared.slots.Slot.TheVariants.{Empty, One, Many}
use Rattle.ks_judge.specs.Judgment.{Lines, line_at, carriers_in, carriers_from}

-- line j of caller c is there
abbrev pub Stands : Lines → ℕ → ℕ → Type 0
Stands lines c j = (c < length lines) × (j < length (slice_index_or lines c []))

-- line j of caller c is there, and carries n
abbrev pub Carries : Lines → ℕ → ℕ → ℕ → Type 0
Carries lines c j n = Stands lines c j × ((line_at lines c j).0 ≡ n)

-- the slot of the number n says whose lines carry it, if the places of these lines are given
abbrev pub TellsSlot : Lines → ℕ → Slot → List (ℕ × ℕ) → Type 0
TellsSlot lines n Empty places = places ≡ []
TellsSlot lines n (One c) places = (j : ℕ) × (places ≡ (c, j) ∷ []) × Carries lines c j n
TellsSlot lines n Many places = 2 ≤ length places

-- what a slot in 4 bytes says
abbrev pub slot_in : PackedSlot → Slot
slot_in s = if s.code == 0 then Empty else if s.code == 4294967295 then Many else One (s.code - 1)

-- each slot says the places that P has for its number
abbrev pub Notes : Lines → List PackedSlot → (ℕ → List (ℕ × ℕ)) → Type 0
Notes lines slots P = (n : ℕ) → n < length slots → TellsSlot lines n (slot_in (slice_index_or slots n (record { code = 0 }))) (P n)

-- the places of the lines that carry n: those of the callers before c, and of caller c the first j
abbrev pub carriers_to : Lines → ℕ → ℕ → ℕ → List (ℕ × ℕ)
carriers_to lines c j n = carriers_from n 0 (take c lines) ++ carriers_in n c 0 (take j (slice_index_or lines c []))

-- the place, if the line there carries n
abbrev pub if_carries : ℕ → ℕ → ℕ × ℕ → List (ℕ × ℕ)
if_carries number n place = if number == n then place ∷ [] else []

-- a slot with one line of caller c more
abbrev pub noted_slot : Slot → ℕ → Slot
noted_slot Empty c = One c
noted_slot (One d) c = Many
noted_slot Many c = Many
