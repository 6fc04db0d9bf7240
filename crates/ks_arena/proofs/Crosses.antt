-- What a closed table owns may cross threads as its slots may.
use Rattle.std.specs.Prelude.{List, [], ◌∷◌, Bool, true, false}
use mir.Syntax.{Ty}
use base.Fml.{Fml}
use base.Shift.{Keyless}
use denote.RattleType.{RattleType}
use denote.RawPtr.{Ptr, block_ptr, null_ptr, room_for, in_block, ◌+ₚ◌}
use denote.Builtin.{u64}
use denote.Struct.Declared as declared
use denote.Struct.Struct.{Struct, exits_of}
use denote.Struct.Owning.{shape, fields, to}
use denote.Param.Send.{IsSend, AllSend, owning_send, struct_send, struct_send_at, recorded_send_at, sendable}
use denote.Param.SendFields.{declared_send}
use Rattle.core.specs.declared.alloc.Allocator.{Ghosts}
use Rattle.core.specs.Mem.Slots.Ownership.{bytes_of, slot, slots}
use Rattle.core.specs.contracts.slots.Slots as Slots
use Rattle.core.specs.contracts.slots.Lease as Lease
use Rattle.std.proofs.Crossing as heap
use Rattle.std_alloc.proofs.SendSync.{FreesAnywhere, quiet, lies}
use Rattle.std.specs.contracts.alloc.Global as Heap
use Rattle.std.specs.contracts.impls.GlobalAllocator.TheImpl.{ghosts}
use Rattle.atomic_table.specs.contracts.owned.Closed as Closed
use Rattle.ks_arena.specs.contracts.send_closed.SendClosed as C
use Rattle.ks_arena.specs.contracts.send_closed.SendClosed.TheInside as Inside

room : (τ : Ty) (p : Ptr) → Keyless (room_for τ p)
room τ (block_ptr b o) = tt
room τ null_ptr = tt

in_a_block : (p : Ptr) (F : Fml) → Keyless F → Keyless (in_block p F)
in_a_block (block_ptr b o) F k = k
in_a_block null_ptr F k = tt

module _ (R : RattleType) where
  slot-Keyless : IsSend R → (f : Bool) (p : Ptr) (x : R.Denot) → Keyless (slot R f p x)
  slot-Keyless s true p x = lies R s p x
  slot-Keyless s false p x = room _ p

  slots-Keyless : IsSend R → (p : Ptr) (xs : List R.Denot) (fs : List Bool) → Keyless (slots R p xs fs)
  slots-Keyless s p [] fs = tt
  slots-Keyless s p (x ∷ xs) [] = tt
  slots-Keyless s p (x ∷ xs) (f ∷ fs) = (slot-Keyless s f p x, slots-Keyless s (p +ₚ bytes_of R) xs fs)

  pub Slots-send : IsSend R → IsSend (Slots.the_row R)
  Slots-send s =
      let O = Slots.the_type R in let all : AllSend (fields O) = (search sendable, (search sendable, tt)) in
      owning_send O all (λ d. (tt, in_a_block d.ptr _ (slots-Keyless s d.ptr d.items d.filled))) (λ k. quiet (to O) (exits_of k (fields O)) ((struct_send (shape O) all).leaving k))

  module _ (A : RattleType) (g : Ghosts A.Denot) where
    pub Lease-send : IsSend A → FreesAnywhere A.Denot g → IsSend (Lease.the_row R A g)
    Lease-send a f =
        let O = Lease.the_type R A g in let all : AllSend (fields O) = (search sendable, (search sendable, (search sendable, tt))) in
        owning_send O all (λ d. f.frees d.alloc _ d.ptr) (λ k. quiet (to O) (exits_of k (fields O)) ((struct_send (shape O) all).leaving k))

pub SendClosed-send : (S : RattleType) → IsSend S → IsSend (C.the_row S)
SendClosed-send S s =
    let n : IsSend u64 = search sendable in let a : IsSend Heap.the_row = heap.send in
    let closed : IsSend (Closed.the_row S Heap.the_row ghosts) = declared_send (Closed.the_type S Heap.the_row ghosts) (Slots-send u64 n, (Slots-send S s, (Lease-send u64 Heap.the_row ghosts a heap.frees, (Lease-send S Heap.the_row ghosts a heap.frees, (a, tt))))) in
    let T = Closed.the_type S Heap.the_row ghosts in let O = Inside.the_type S in record {
      owned = λ d vs x. (((struct_send_at (shape O) (to O x.0) (recorded_send_at (Struct (declared.shape T)) T.D T.to T.to_one closed x.0.closed, tt)).0 vs, tt), tt);
      leaving = λ k d w. tt;
    }
