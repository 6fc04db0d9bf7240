-- A handle may go to another thread, as its caller may, and as memory of `Global` may be freed anywhere.
use base.Shift.{Keyless}
use mir.Raw.{raw}
use denote.Memory.{lone}
use denote.RawPtr.{Ptr, block_ptr, null_ptr}
use denote.Struct.Struct.{exits_of}
use denote.Struct.Owning.{shape, fields, to}
use denote.Param.Send.{IsSend, AllSend, owning_send, struct_send, sendable}
use Rattle.std.specs.declared.option.Option.{Option}
use Rattle.std.proofs.Crossing as heap
use Rattle.std_alloc.proofs.SendSync.{quiet, lies}
use Rattle.ks_c.specs.Handle.{held}
use Rattle.ks_c.specs.contracts.caller.Caller as inner
use Rattle.ks_c.specs.contracts.handle.Handle.{the_row, the_type}
use Rattle.ks_c.proofs.caller.Caller.TheSendSync.{the_send as caller}

held-Keyless : (p : Ptr) (x : Option inner.the_row.Denot) → Keyless (held inner.the_row p x)
held-Keyless null_ptr x = tt
held-Keyless (block_ptr b o) x = λ c. (tt, (lies inner.the_row caller (block_ptr b o) c, heap.frees.frees (record { memory = record { seal = tt } }) (raw (lone inner.the_row.mir)) (block_ptr b o)))

pub send : IsSend the_row
send =
    let all : AllSend (fields the_type) = (search sendable, tt) in
    owning_send the_type all (λ d. held-Keyless d.at d.inside) (λ k. quiet (to the_type) (exits_of k (fields the_type)) ((struct_send (shape the_type) all).leaving k))
