-- What becomes of a handle that lends its caller.
use Rattle.std.specs.Prelude.{Option, Some}
use Rattle.std.specs.Borrow.{Fml, LendsIf, MutBor}
use Rattle.ks_c.specs.declared.caller.Caller.{Caller}
use Rattle.ks_c.specs.declared.handle.Handle.{Handle}
use Rattle.ks_c.specs.contracts.caller.Caller as inner
use Rattle.ks_c.specs.contracts.handle.Handle as handle

-- the handle with this caller behind it
abbrev pub with_caller : Handle → Caller → Handle
with_caller h c = record { at = h.at; inside = Some c }

-- an open handle ends with the caller as it is behind r at last, a closed one stays as it is
abbrev pub LendsCaller : MutBor Handle → Option (MutBor Caller) → Fml
LendsCaller h r = LendsIf handle.the_row inner.the_row h r (with_caller h.now) h.now
