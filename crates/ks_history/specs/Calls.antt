-- Laws of traces: which calls of a caller are in a trace as it grows, and after a call that is done or left.
use Rattle.std.proofs.Common.{ℕ}
use Rattle.ks_history.specs.declared.Op.{Op}
use Rattle.ks_history.specs.declared.Reply.{Reply}
use Rattle.ks_history.specs.Trace.{NumberedCall}

-- a call with its number
abbrev pub numbered : ℕ → Op → Reply → NumberedCall
numbered n op reply = record { number = n; call = record { op = op; reply = reply } }
