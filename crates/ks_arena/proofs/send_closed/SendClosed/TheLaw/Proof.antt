-- A `&` to a closed table holds a `&` to its field. Assumes `Logic`.
use denote.RattleType.{RattleType}
use denote.Param.Laws.{Laws}
use denote.SharingLaws.{nothing_shr_laws}
use denote.Struct.Lending.{of_Lends, Lends-nothing}
use Rattle.std.specs.contracts.alloc.Global as Heap
use Rattle.std.specs.contracts.impls.GlobalAllocator.TheImpl.{ghosts}
use Rattle.std.proofs.alloc.Global.TheLaws as heap
use Rattle.atomic_table.proofs.owned.Closed.TheLaws as closed
use Rattle.ks_arena.specs.contracts.send_closed.SendClosed.TheInside as C
use Rattle.ks_arena.proofs.send_closed.SendClosed.TheLaw.Statement.{statement}

pub shares : (S : RattleType) (L : Laws S) → statement S L
shares S L =
    of_Lends (C.struct S) (C.the_codes S.Denot S.coded) (C.the_heap S) (C.the_lent S) (λ d p. nothing_shr_laws)
    (closed.the_field_shared S Heap.the_row ghosts L heap.the_row_laws, tt) (λ M 𝓤 𝓛 d p. Lends-nothing 𝓛 (C.the_heap S d) (C.the_row S).lives)
