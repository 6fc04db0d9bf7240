-- What a reader of texts returns.
use Rattle.std.specs.Prelude.{ℕ, ◌≡◌, Result, Ok, Err}
use Rattle.ks_script.specs.declared.reasons.Reason.{Reason}
use Rattle.ks_script.specs.declared.fault.TextFault.{TextFault}
use Rattle.ks_script.specs.declared.fault.TextFault.TheVariants.{Refused, Memory}

-- the result is a value with this property, or the refusal of a line with that one, or memory ran out
abbrev pub Answers : {X : Type 0} → Result X TextFault → (X → Type 0) → (ℕ → Type 0) → Type 0
Answers (Ok x) IsText IsBad = IsText x
Answers (Err (Refused n why)) IsText IsBad = IsBad n
Answers (Err Memory) IsText IsBad = Unit {0}

-- the result is this one, unless memory ran out
abbrev pub Gives : {X : Type 0} → Result X TextFault → Result X TextFault → Type 0
Gives (Err Memory) due = Unit {0}
Gives (Err (Refused n why)) due = Err (Refused n why) ≡ due
Gives (Ok x) due = Ok x ≡ due

-- the result is that this line is refused, unless memory ran out
abbrev pub Refuses : {X : Type 0} → Result X TextFault → ℕ → Type 0
Refuses (Ok x) n = ⊥
Refuses (Err (Refused line why)) n = line ≡ n
Refuses (Err Memory) n = Unit {0}

-- the reason for which a line is refused is this
abbrev pub Says : {X : Type 0} → Result X TextFault → (ℕ → Reason → Type 0) → Type 0
Says (Ok x) Is = Unit {0}
Says (Err (Refused line why)) Is = Is line why
Says (Err Memory) Is = Unit {0}
