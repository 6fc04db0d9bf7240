use Rattle.std.proofs.Common.{◌≡◌, ◌≢◌, ℕ, List, ap, subst, sym}
use Rattle.ks_keysets.specs.declared.Change.{Change}
use Rattle.ks_keysets.specs.declared.Frame.{Frame}
use Rattle.ks_keysets.specs.declared.NewState.TheVariants.{BecomesLive, BecomesFree}
use Rattle.ks_keysets.specs.declared.Record.{Record}
use Rattle.ks_keysets.specs.Keyset.{IsLive, live_record}
use Rattle.ks_history.specs.declared.Event.{Event}
use Rattle.ks_history.specs.Trace.{graph_after}
use Rattle.ks_node.specs.Body.{Body}
use Rattle.ks_node.specs.Edges.{record_of}
use Rattle.ks_arena.specs.Sound.{Sort}
use Rattle.ks_shape.specs.Does.{FreesNone, HasBody, LivedBefore, MakesRoom, Merges}
use Rattle.ks_shape.proofs.leaves.leaves_law.Goals as goal

-- a node that becomes live is not made free
stays : (node : Record) (frame : Frame) → BecomesLive node frame ≢ BecomesFree
stays node frame e = absurd (let q : ⊥ = cc in q)

-- nor is a node that is made free made live
never : (h : List Event) (i : ℕ) (node : Record) (frame : Frame) → BecomesFree ≡ BecomesLive node frame → IsLive (graph_after h) i
never h i node frame e = absurd (let q : ⊥ = cc in q)

was : (sort : Sort) (h : List Event) (i : ℕ) (b : Body) → HasBody sort h i b → IsLive (graph_after h) i
was sort h i b has = (record_of b, ap live_record has.state)

frees : (sort : Sort) (place : ℕ) (h : List Event) (changes : List Change) → MakesRoom sort place h changes → FreesNone changes
frees sort place h changes (MakesRoom.by_own i j cut b has must is) = subst FreesNone (sym is) (stays _ _, (stays _ _, tt))
frees sort place h changes (MakesRoom.by_parent u i j cut v b above has must is) = subst FreesNone (sym is) (stays _ _, (stays _ _, (stays _ _, tt)))
frees sort place h changes (MakesRoom.by_growth kind i j k cut b has must is) = subst FreesNone (sym is) (stays _ _, (stays _ _, (stays _ _, tt)))
frees sort place h changes (MakesRoom.by_link i j cut b has must is) = subst FreesNone (sym is) (stays _ _, (stays _ _, tt))
frees sort place h changes (MakesRoom.by_linked_growth kind i j k cut b has must is) = subst FreesNone (sym is) (stays _ _, (stays _ _, (stays _ _, tt)))
frees sort place h changes (MakesRoom.by_attach i j cut b has branch is) = subst FreesNone (sym is) (stays _ _, tt)

lived : (sort : Sort) (h : List Event) (changes : List Change) → Merges sort h changes → LivedBefore h changes
lived sort h changes (Merges.by_own i j b q has other low is) = subst (LivedBefore h) (sym is) ((λ node frame e. was sort h i b has), (never h j, tt))
lived sort h changes (Merges.by_parent u i j v b q above has other low is) = subst (LivedBefore h) (sym is) ((λ node frame e. was sort h u v above), ((λ node frame e. was sort h i b has), (never h j, tt)))
lived sort h changes (Merges.by_collapse i j b q has other sole is) = subst (LivedBefore h) (sym is) ((λ node frame e. was sort h i b has), (never h j, tt))

pub returns-clause-fills : goal.returns-clause-fills
returns-clause-fills c = frees

pub returns-clause-dels : goal.returns-clause-dels
returns-clause-dels c = lived
