-- The closed table goes into the struct.
use Rattle.std.proofs.Common.{◌≡◌, List, [], ◌∷◌, ◌++◌, refl}
use mir.Syntax.{a_type}
use mir.MapTy.{inst_fn}
use mir.Val.{Val, vcons, vnil, vstruct, of_list}
use base.Logic.{SProp, emp}
use base.Fml.{ftrue, feq, fsep}
use prog.Wp.{WpFn}
use contract.Monad.{fact, fact_i}
use contract.Running.{tables}
use types.Kit.{‵, raw, ◌⊛◌, prop, ◌$◌, ◌∵◌, !, qed, by, move, keep, drop, use0, split, rewrite, regoal, fsplit, fjoin, fpack, feq_i}
use types.Part.{agg}
use types.Run.{of_opd, no_more, and_then, returns, enter}
use types.ByLocal.{alloc_all, pass_all, free_all, look_at, get, sets}
use denote.Exit.{no, rest}
use denote.RattleType.{RattleType, Valss, owns}
use denote.Param.{param, layout, layouts}
use denote.Param.Laws.{param_laws}
use denote.Signature.{types_at, plain}
use denote.Steps.{nothing}
use denote.Triple.Entry.{alive}
use denote.Triple.Walked.{Stays, stay_dropped, walk_of}
use Rattle.core.proofs.alloc.Calls.{Goes-blank}
use Rattle.core.proofs.cell.Inside.{one}
use Rattle.std_alloc.proofs.ResultValues.{and_tt}
use Rattle.std.proofs.raw_atomic.Walks.{proved_at, leaves}
use Rattle.std.specs.contracts.alloc.Global as Heap
use Rattle.std.specs.contracts.impls.GlobalAllocator.TheImpl.{ghosts}
use Rattle.atomic_table.specs.contracts.owned.Closed as Closed
use Rattle.std.proofs.alloc.Global.TheLaws as heap
use Rattle.atomic_table.proofs.owned.Closed.TheLaws as closed
use Rattle.ks_arena.specs.contracts.send_closed.SendClosed.TheInside as Inside
use Rattle.ks_arena.specs.contracts.send_closed.SendClosed.of.{ended, clauses}
use Rattle.ks_arena.specs.contracts.send_closed.SendClosed.of.Key.{name as #self}
use Rattle.ks_arena.proofs.send_closed.SendClosed.of.Statement.{statement}
use Rattle.ks_arena.proofs.send_closed.SendClosed.of.Code as code

pub of_spec : {M : Type 1} → statement M
of_spec 𝓤 𝓛 𝓜 𝓡 wired S LS =
    let H = 𝓛.H in let 𝓣 = tables 𝓤 H 𝓜 𝓡 𝓡.env in let En = ended S in let c = clauses S 𝓛 𝓜.mem 𝓡.returns in
    let R : RattleType = Closed.the_row (param 0 S) Heap.the_row ghosts in
    let inst = layouts (a_type ∷ []) (S, tt) in let fn = inst_fn inst code.function in
    let hs : Stays En.signature.params En.kept = (stay_dropped (plain (λ _. R)) no, tt) in
    proved_at 𝓛 En hs c 𝓜 𝓡 (Goes-blank 𝓛 1 (plain (λ _. R)) no (λ κs x f. tt), tt) (#self inst) fn (code.unfolded 𝓤 H 𝓜 𝓡 wired (S, tt)) (λ z are.
    let Post : Val → SProp 𝓤 = (walk_of 𝓛 En hs c).post z in let x = z.0.3.0 in let vss = z.0.4 in
    let got = one (layout R) vss.0 (((closed.the_row_laws (param 0 S) Heap.the_row ghosts (param_laws 0 S LS) heap.the_row_laws).lawful 𝓛).typed x vss.0 are.0) in
    let w : Val = got.0 in let good = got.2 in let v : Val = vstruct (vcons w vnil) in
    let I : RattleType = Inside.the_row (param 0 S) in
    qed 𝓛 ((raw (alive 𝓛 En.signature z.0.0 z.0.1) ⊛ ‵ (owns (types_at En.signature.params z.0.0) z.0.3 vss)) ∷ raw ((c z.0.0 z.0.3).requires z.1) ∷ []) ∵
    split ! $ keep ! (1 ∷ 0 ∷ []) $ fsplit ! $ move ! (1 ∷ []) $ drop ! $ rewrite ! 0 (λ (us : List Val). ‵ (R.own_val x us)) got.1 refl $
    regoal ! (λ (us : List Val). prop (WpFn 𝓤 H 𝓣.C 𝓣.Λ fn us Post)) (λ i. got.1 i ++ []) refl $
    nothing ! $ move ! (1 ∷ 0 ∷ []) $ fjoin ! $ feq_i ! (List Val) (v ∷ []) (v ∷ []) refl $ fjoin ! $
    fpack ! (Valss (R ∷ [])) (λ us. fsep (feq (List Val) (v ∷ []) (vstruct (of_list (us.0 ++ [])) ∷ [])) (owns (R ∷ []) (x, tt) us)) (w ∷ [], tt) $ nothing ! $ move ! (1 ∷ 0 ∷ []) $ fjoin ! $
    nothing ! $ move ! (1 ∷ 0 ∷ []) $ fjoin ! $
    fpack ! ((b : I.Denot) × ((b.closed ≡ x) × Unit {0})) (λ b. fsep (I.own_val b.0 (v ∷ [])) ftrue) (record { closed = x }, (refl, tt)) $
    enter ! 𝓣.C 𝓣.Λ fn (w ∷ []) Post $ alloc_all ! (λ l. pass_all ! refl (good, tt) $
    sets ! (of_opd ! (get ! refl)) refl good $ sets ! (agg ! (and_then ! (get ! refl) (no_more !))) refl (and_tt _ good.0, (good.1, tt)) $
    use0 𝓛 (raw (fact 𝓤 (x ≡ x))) (fact_i 𝓤 (x ≡ x) (emp 𝓤) refl) $ nothing ! $ nothing ! $ fjoin ! $
    returns ! (look_at ! 0 refl) $ free_all ! refl $ keep ! (3 ∷ 0 ∷ 2 ∷ 1 ∷ []) $ by ! (leaves 𝓛 En hs c z v x (rest (R.exit no) x, tt) (tt, tt))))
