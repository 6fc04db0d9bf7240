-- Why an input is not used.
use Rattle.std.specs.Prelude.{ℕ, ◌≡◌, ◌≢◌, List, [], Option, Some, None, IfSome, IsSome}
use Rattle.ks_words.specs.declared.pairing.Pairing.{Pairing}
use Rattle.ks_words.specs.declared.words.Text.{Text}
use Rattle.ks_ends.specs.declared.input.Stop.{Stop}
use Rattle.ks_ends.specs.declared.input.Stop.TheVariants.{Refused, Source, Memory}
use Rattle.ks_ends.specs.declared.request.Halt.{Halt}
use Rattle.ks_ends.specs.declared.request.Halt.TheVariants.{Unread, Unfit}
use Rattle.ks_words.specs.declared.words.Text.TheVariants.{Script}
use Rattle.ks_words.specs.declared.status.TheConstants.{REFUSED, SOURCE_FAILED, NO_MEMORY, UNFIT}
use Rattle.ks_script.specs.declared.reasons.Reason.{Reason}
use Rattle.ks_ends.specs.Serve.{RefusedAt, UnfitAt, FirstBadOf, IsReasonAt, SaysWhy}

-- the cause of a stop: a line at which the bytes, if they are known, are refused, and why; or that the source's count of faults rose;
-- if memory ran out nothing is said
abbrev pub IsCause : Stop → Text → Option (List ℕ) → Type 0 → Type 0
IsCause (Refused n why) text left rose = IfSome left (λ bytes. RefusedAt text bytes n) × SaysWhy text left n why
IsCause Source text left rose = rose
IsCause Memory text left rose = Unit {0}

-- the bytes are refused at a line, or memory ran out
abbrev pub IsRefusal : Stop → Text → List ℕ → Type 0
IsRefusal (Refused n why) text bytes = FirstBadOf text bytes n × IsSome why × IsReasonAt text bytes n why
IsRefusal Source text bytes = ⊥
IsRefusal Memory text bytes = Unit {0}

-- if a line was refused, all bytes that were left, if they are known, had been read
abbrev pub ReadToEnd : Stop → Option (List ℕ) → Option (List ℕ) → Type 0
ReadToEnd (Refused n why) left after = n ≢ 0 → IfSome left (λ _. after ≡ Some [])
ReadToEnd Source left after = Unit {0}
ReadToEnd Memory left after = Unit {0}

-- the status and the line with which the program ends after the stop
abbrev pub IsUnread : Stop → ℕ → ℕ → Type 0
IsUnread (Refused n why) status line = (status ≡ REFUSED) × (line ≡ n)
IsUnread Source status line = (status ≡ SOURCE_FAILED) × (line ≡ 0)
IsUnread Memory status line = (status ≡ NO_MEMORY) × (line ≡ 0)

-- the reason that is said after it
abbrev pub reason_of : Stop → Option Reason
reason_of (Refused n why) = why
reason_of Source = None
reason_of Memory = None

-- and if a script is not served
abbrev pub halt_reason : Halt → Option Reason
halt_reason (Unread stop) = reason_of stop
halt_reason (Unfit n) = None

-- the status and the line with which the program ends if a script is not served
abbrev pub IsHalted : Halt → ℕ → ℕ → Type 0
IsHalted (Unread stop) status line = IsUnread stop status line
IsHalted (Unfit n) status line = (status ≡ UNFIT) × (line ≡ n)

-- why a script is not served: for the cause of a stop, or since the bytes, if they are known, have line n as the first that
-- the pairing does not serve
abbrev pub IsHaltCause : Pairing → Halt → Option (List ℕ) → Type 0 → Type 0
IsHaltCause pairing (Unread stop) left rose = IsCause stop Script left rose
IsHaltCause pairing (Unfit n) left rose = IfSome left (λ bytes. UnfitAt pairing bytes n)

-- if a line is not served and the bytes are known, no other line is the first such
abbrev pub IsOneHalt : Pairing → Halt → Option (List ℕ) → Type 0
IsOneHalt pairing (Unread stop) left = Unit {0}
IsOneHalt pairing (Unfit n) left = IfSome left (λ bytes. (m : ℕ) → UnfitAt pairing bytes m → n ≡ m)

-- if a line is named, all bytes that were left, if they are known, had been read
abbrev pub HaltsAtEnd : Halt → Option (List ℕ) → Option (List ℕ) → Type 0
HaltsAtEnd (Unread stop) left after = ReadToEnd stop left after
HaltsAtEnd (Unfit n) left after = IfSome left (λ _. after ≡ Some [])
