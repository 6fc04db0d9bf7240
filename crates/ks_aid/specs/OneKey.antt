-- Operations at one key, and their replies: what calls with an aid serve.
use Rattle.ks_history.specs.declared.Op.{Op}
use Rattle.ks_history.specs.declared.Op.TheVariants.{Get, Put, Del, Add, Swap, Move, Part}
use Rattle.ks_history.specs.declared.Reply.{Reply}
use Rattle.ks_history.specs.declared.Reply.TheVariants.{Nothing, Value, Full, Listed, Kept}

-- the operation is at one key: it is no part of a scan, and no move
abbrev pub IsAtOneKey : Op → Type 0
IsAtOneKey (Get k) = Unit {0}
IsAtOneKey (Put k v) = Unit {0}
IsAtOneKey (Del k) = Unit {0}
IsAtOneKey (Add k v) = Unit {0}
IsAtOneKey (Swap k old new) = Unit {0}
IsAtOneKey (Part low last) = ⊥
IsAtOneKey (Move from to) = ⊥

-- the reply is what was found at a key: a value, or nothing
abbrev pub IsFound : Reply → Type 0
IsFound Nothing = Unit {0}
IsFound (Value v) = Unit {0}
IsFound Full = ⊥
IsFound (Listed pairs) = ⊥
IsFound Kept = ⊥

-- the same, or Full
abbrev pub IsFoundOrFull : Reply → Type 0
IsFoundOrFull Nothing = Unit {0}
IsFoundOrFull (Value v) = Unit {0}
IsFoundOrFull Full = Unit {0}
IsFoundOrFull (Listed pairs) = ⊥
IsFoundOrFull Kept = ⊥

-- the reply may be that to the operation, which is at one key: only that of a put and an add may be Full
abbrev pub IsReplyAtOneKey : Op → Reply → Type 0
IsReplyAtOneKey (Get k) reply = IsFound reply
IsReplyAtOneKey (Put k v) reply = IsFoundOrFull reply
IsReplyAtOneKey (Del k) reply = IsFound reply
IsReplyAtOneKey (Add k v) reply = IsFoundOrFull reply
IsReplyAtOneKey (Swap k old new) reply = IsFound reply
IsReplyAtOneKey (Part low last) reply = ⊥
IsReplyAtOneKey (Move from to) reply = ⊥
