-- What the small calls of a caller represent, which are its lines.
use Rattle.std.specs.Prelude.{◌≡◌, ◌<◌, length, slice_index_or, ⊤}
use Rattle.ks_history.specs.declared.Op.TheVariants as op
use Rattle.ks_lines.specs.declared.Line.{Line}
use Rattle.ks_lines.specs.declared.Line.TheVariants.{Call}
use Rattle.ks_script.specs.declared.packed_calls.LongCalls.{LongCalls}
use Rattle.ks_script.specs.declared.packed_calls.SmallCall.{SmallCall}
use Rattle.ks_script.specs.declared.packed_calls.SmallCall.TheVariants.{Get, Put, Del, LongGet, LongPut, LongDel, Other}
use Rattle.ks_script.specs.Parts.{joined}

-- the line that a small call represents, beside the longer ones
abbrev pub call_in : LongCalls → SmallCall → Line
call_in long (Get key) = Call (op.Get key)
call_in long (Put high low value) = Call (op.Put (joined high low) value)
call_in long (Del key) = Call (op.Del key)
call_in long (LongGet at) = Call (op.Get (slice_index_or long.pairs.items at (0, 0)).0)
call_in long (LongPut at) = Call (op.Put (slice_index_or long.pairs.items at (0, 0)).0 (slice_index_or long.pairs.items at (0, 0)).1)
call_in long (LongDel at) = Call (op.Del (slice_index_or long.pairs.items at (0, 0)).0)
call_in long (Other at) = slice_index_or long.others.items at (Call (op.Get 0))

-- where it names a place, a line is there
abbrev pub IsCallIn : LongCalls → SmallCall → Type 0
IsCallIn long (Get key) = ⊤
IsCallIn long (Put high low value) = ⊤
IsCallIn long (Del key) = ⊤
IsCallIn long (LongGet at) = at < length long.pairs.items
IsCallIn long (LongPut at) = at < length long.pairs.items
IsCallIn long (LongDel at) = at < length long.pairs.items
IsCallIn long (Other at) = at < length long.others.items

-- what represented a line still does
abbrev pub KeepsCalls : LongCalls → LongCalls → Type 0
KeepsCalls old new = (s : SmallCall) → IsCallIn old s → IsCallIn new s × (call_in new s ≡ call_in old s)
