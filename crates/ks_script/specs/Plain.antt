-- What a printed run can say of a line.
use Rattle.std.specs.Prelude.{ℕ}
use Rattle.ks_history.specs.declared.Reply.{Reply}
use Rattle.ks_history.specs.declared.Reply.TheVariants.{Nothing, Value, Full, Listed, Kept}
use Rattle.ks_lines.specs.declared.Said.{Said}
use Rattle.ks_lines.specs.declared.Said.TheVariants.{Call, Scan}

-- the reply is plain: the line of a call can have it
abbrev pub IsPlain : Reply → Type 0
IsPlain Nothing = Unit {0}
IsPlain (Value v) = Unit {0}
IsPlain Full = Unit {0}
IsPlain (Listed pairs) = ⊥
IsPlain Kept = Unit {0}

-- it can be printed: the reply to a call is plain
abbrev pub IsPrintable : Said → Type 0
IsPrintable (Call n reply) = IsPlain reply
IsPrintable (Scan parts stop) = Unit {0}

-- it is said of a call
abbrev pub IsOfCall : Said → Type 0
IsOfCall (Call n reply) = Unit {0}
IsOfCall (Scan parts stop) = ⊥

-- the number of a call
abbrev pub number_of : Said → ℕ
number_of (Call n reply) = n
number_of (Scan parts stop) = 0
