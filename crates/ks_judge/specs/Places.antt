-- Where a caller's next call is: on which of its lines, and if that is a scan at which of its parts.
use Rattle.std.specs.Prelude.{ℕ, zero, suc, ◌≡◌, ◌<◌, ◌+◌, nat_lt, List, [], length, slice_index_or, if◌then◌else◌}
use Rattle.ks_history.specs.declared.Op.TheVariants.{Get}
use Rattle.ks_history.specs.declared.Reply.TheVariants.{Nothing}
use Rattle.ks_history.specs.declared.Answered.{Answered}
use Rattle.ks_history.specs.Trace.{NumberedCall}
use Rattle.ks_history.specs.Calls.{numbered}
use Rattle.ks_history.specs.Write.{Map, map_with, written}
use Rattle.ks_history.specs.Map.{IsAnswer}
use Rattle.ks_lines.specs.declared.Line.{Line}
use Rattle.ks_lines.specs.declared.Line.TheVariants.{Call}
use Rattle.ks_lines.specs.declared.Said.{Said}
use Rattle.ks_lines.specs.declared.parts.Part.{Part}
use Rattle.ks_lines.specs.Lines.{calls_of_line}
use Rattle.ks_script.specs.PackedReplies.{said_at}
use Rattle.ks_judge.specs.declared.replay.Place.{Place}

-- the line at a number
abbrev pub line_in : List Line → ℕ → Line
line_in ls l = slice_index_or ls l (Call (Get 0))

-- its calls
abbrev pub calls_on : List Line → List Said → ℕ → List NumberedCall
calls_on ls said l = calls_of_line (line_in ls l) (said_at said l)

-- a call that is read past the end of a list
abbrev pub no_call : NumberedCall
no_call = numbered 0 (Get 0) Nothing

-- the call at a place
abbrev pub call_in : List Line → List Said → Place → NumberedCall
call_in ls said x = slice_index_or (calls_on ls said x.line) x.part no_call

-- a call is there
abbrev pub IsPlaceIn : List Line → List Said → Place → Type 0
IsPlaceIn ls said x = (x.line < length ls) × (x.line < length said) × (x.part < length (calls_on ls said x.line))

-- the place after it, on a line of `count` calls: that of the next part, or else of the first call of the next line
abbrev pub next_place : Place → ℕ → Place
next_place x count = if nat_lt (x.part + 1) count then record { line = x.line; part = x.part + 1 } else record { line = x.line + 1; part = 0 }

-- the place after it
abbrev pub place_after : List Line → List Said → Place → Place
place_after ls said x = next_place x (length (calls_on ls said x.line))

-- the first key of a part of a scan: that of the scan, or the one after the last key of the part before it
abbrev pub begin_at : ℕ → List Part → ℕ → ℕ
begin_at first parts zero = first
begin_at first parts (suc at) = suc (slice_index_or parts at (record { number = 0; last = 0; pairs = [] })).last

-- the call has the number n, and its reply is the answer of the map
abbrev pub IsAnswered : Map → ℕ → NumberedCall → Type 0
IsAnswered m n x = (x.number ≡ n) × IsAnswer m x.call.op x.call.reply

-- the map k is the map m after the call
abbrev pub HasMade : Map → Answered → Map → Type 0
HasMade m a k = (p : ℕ) → k p ≡ map_with m (written a.op a.reply) p
