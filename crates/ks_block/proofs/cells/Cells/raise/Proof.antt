-- `raise` hands `ptr::copy` a run of values and the empty place behind it, and puts both back. Assumes `Logic`.
use mathlib.Core.Path.{◌≡◌, refl, sym, subst, ap, ◌∙◌}
use mathlib.Core.Bool.{true}
use Prim.Native.Nat.{ℕ, ◌+◌, ◌*◌, ◌<◌, ◌≤◌, ◌^◌}
use native.Mathlib.Omega.{arith}
use mathlib.Core.List.{List, [], ◌∷◌, ◌++◌, map}
use lib.Dec.{T}
use lib.ListN.{length, get_or}
use seplogic.Ra.Ura.{Ura}
use base.Fraction.{full_share}
use mir.Syntax.{Fn, named, w64, ty_unit, ty_array}
use mir.MapTy.{inst_fn}
use mir.Val.{Val, vint, vptr, vunit, has_ty, WT}
use base.Logic.{SProp, ent, emp, id⊢}
use base.Fml.{ftrue, fsep, froom, flft}
use prog.Memory.{Memory}
use prog.Routine.{Routine}
use prog.Wp.{Env, WpFn, Tables}
use types.Logic.{Logic}
use contract.BorrowLft.{◌⊑◌}
use contract.Monad.{Fun, fact, fact_i}
use contract.Running.{tables, tables_of}
use sound.WpLaws.{fm_of, WpFn-mono}
use types.Kit.{‵, raw, ◌⊛◌, some, later, at_ret, ◌$◌, ◌∵◌, !, qed, move, keep, use0, use1, use2, drop as let_go, split, split3, join, pick, rewrite, fsplit, fsplit3, fjoin, fjoin3, feq_i, feq_l, suffices, await, done}
use types.Part.{whole, sub, look_in}
use types.Run.{stop, fld, load, lit, size_lit, unit_lit, no_more, and_then, of_opd, bin, first, blocks, exec, returns, enter}
use types.ByLocal.{alloc_all, pass_all, free_all, look_at, get, through, sets, lands_last, env}
use denote.Exit.{yes}
use denote.Array.{Array}
use denote.Builtin.{usize, unit}
use denote.Memory.{part_at}
use denote.Plain.{uint_vals, uint_Tells}
use denote.RattleType.{owns}
use denote.RawPtr.{RawPtr, block_ptr, count_of, rawptr_vals}
use denote.Ref.{mut_vals, mut_Tells}
use denote.Shadow.{pure_i}
use denote.Signature.{plain, types_at}
use denote.Steps.{heard, nothing, only}
use denote.Triple.Call.{calls_at_last}
use denote.Triple.Clauses.{Clauses, Ended, closing}
use denote.Triple.Spec.{Meets, triple_of}
use denote.Triple.Statement.{Triple, Contract}
use denote.Triple.Table.{entered}
use denote.Triple.Walked.{says, Stays, stay_dropped, stay_ref, walk_of, ends_at, walked, Goes-dropped, Goes-ref, walk_Meets}
use Rattle.std.specs.Prelude.{Some, None}
use Rattle.core.specs.Ptr.{IsShiftWithinBlock}
use Rattle.core.proofs.mem.Param.{El, R, args, el_x, elτ}
use Rattle.core.proofs.ptr.Rows.{times_below, times_above, one_below, add_times}
use Rattle.core.proofs.slots.Bodies.{after}
use Rattle.std.proofs.lemmas.List.{length-map}
use Rattle.ks_block.specs.Ownership.{slots, IsWhole}
use Rattle.ks_block.specs.Places.{IsRun, run, spliced, raised}
use Rattle.ks_block.proofs.Rows.{Cr, sz, Place, cells_open, cells_close, cut, glue, Around, run_out, run_in, to_values, of_values, to_room, of_room}
use Rattle.ks_block.proofs.Runs.{length-run, length-spliced, run_behind}
use Rattle.core.specs.contracts.ptr.copy as copy
use Rattle.core.specs.contracts.ptr.copy.Key as copy_key
use Rattle.core.proofs.ptr.copy.Met as copy_thm
use Rattle.ks_block.specs.contracts.cells.Cells.raise as F
use Rattle.ks_block.specs.contracts.cells.Cells.raise.Key.{name as #self}
use Rattle.ks_block.proofs.cells.Cells.raise.Statement as stated
use Rattle.ks_block.proofs.cells.Cells.raise.Code as code

module _ (E : El) where
  abbrev here : Fn
  here = inst_fn (args E) code.function

  abbrev ended : Ended
  ended = F.ended E.row

  abbrev stayed : Stays ended.signature.params ended.kept
  stayed = (stay_ref (0 ∷ []) tt (plain (λ _. Cr E)), (stay_dropped (plain (λ _. usize)) yes, (stay_dropped (plain (λ _. usize)) yes, tt)))

  abbrev Copies : {M : Type 1} {𝓤 : Ura M} (𝓛 : Logic 𝓤) → (Memory → SProp 𝓤) → (Routine → Fun 𝓤) → Contract 𝓤
  Copies 𝓛 at_mem run = triple_of 𝓛 (copy.signature E.row) (copy.spec E.row 𝓛 at_mem run)

  module _ {M : Type 1} {𝓤 : Ura M} (𝓛 : Logic 𝓤) (at_mem : Memory → SProp 𝓤) (run' : Routine → Fun 𝓤) (𝓣 : Tables 𝓤 𝓛.H)
      (callee : Triple 𝓤 (𝓣.C (copy_key.name (args E))) (Copies 𝓛 at_mem run')) where
    open 𝓛 use {H}

    abbrev held : Clauses 𝓤 ended
    held = F.clauses E.row 𝓛 at_mem run'

    abbrev Bound : Type 0
    Bound = (walk_of 𝓛 ended stayed held).Ghost

    abbrev Goes : Bound → Type 1
    Goes y = ent 𝓤 ((walk_of 𝓛 ended stayed held).pre y) (WpFn 𝓤 H 𝓣.C 𝓣.Λ here ((walk_of 𝓛 ended stayed held).args y) ((walk_of 𝓛 ended stayed held).post y))

    abbrev spelled : Bound → Bound
    spelled z = let a = z.0.3 in ((z.0.0, z.0.1, z.0.2, a, (mut_vals a.0, (uint_vals w64 a.1.0, (uint_vals w64 a.1.1.0, tt)))), z.1)

    walk : (z : Bound) → z.0.3.1.0 < 2 ^ 64 → z.0.3.1.1.0 < 2 ^ 64 → Goes (spelled z)
    walk z fi fn =
        let κ₀ = z.0.0.0 in let κ₁ = z.0.0.1.0 in let q₀ = z.0.1.0 in let q₁ = z.0.1.1.0 in
        let a = z.0.3 in let d : (Cr E).Denot = a.0.now in let i : ℕ = a.1.0 in let n : ℕ = a.1.1.0 in
        let rb : ℕ = a.0.ref_ptr.0 in let ro : ℕ = a.0.ref_ptr.1 in
        let Post : Val → SProp 𝓤 = (walk_of 𝓛 ended stayed held).post (spelled z) in
        let Whole : Type 0 = IsWhole (R E) d.base in
        let Ok : Type 0 = IsRun d.slots i n × (i + n < length d.slots) × (get_or d.slots (i + n) None ≡ None) in
        let s : ℕ = sz E in
        let new : (Cr E).Denot = record { base = d.base; slots = raised d.slots i n } in
        qed 𝓛 (((‵ (flft κ₀ q₀) ⊛ ‵ (flft κ₁ q₁) ⊛ ‵ ftrue) ⊛ ‵ (owns (types_at ended.signature.params z.0.0) a (spelled z).0.4)) ∷ (raw (fact 𝓤 (κ₁ ⊑ E.row.lives)) ⊛ raw (fact 𝓤 Whole) ⊛ raw (fact 𝓤 Ok)) ∷ []) ∵
        move ! (1 ∷ []) $ split3 ! $ heard ! (κ₁ ⊑ E.row.lives) (λ lives. heard ! Whole (λ starts. heard ! Ok (λ ok.
        let xs : List (el_x E) = ok.0.1.0 in let inside = ok.1 in
        let long : length xs ≡ n = omega (arith, length-run d.slots i n ok.0.0, sym (ap length ok.0.1.1), length-map xs Some) in
        let parts : run d.slots i (n + 1) ≡ map Some xs ++ None ∷ [] = run_behind d.slots i n inside ∙ (λ j. ok.0.1.1 j ++ ok.2 j ∷ []) in
        split ! $ split ! $ move ! (2 ∷ []) $ fsplit ! $ fsplit3 ! $ keep ! (1 ∷ 2 ∷ 4 ∷ 5 ∷ []) $
        enter ! 𝓣.C 𝓣.Λ here ((walk_of 𝓛 ended stayed held).args (spelled z)) _ $
        alloc_all ! (λ l. pass_all ! refl ((tt, tt), ((tt, record { fits = fi }), ((tt, record { fits = fn }), tt))) $
        let En : Env 𝓤 H = env here.locals l in
        cells_open E ! tt d rb ro (λ b o at_b small.
        let start : o ≡ 0 = ap count_of (sym at_b) ∙ starts.0 in
        let tiny : s < 2 ^ 64 = omega (arith, one_below (length d.slots) s (2 ^ 63) (omega arith) small) in
        let below : (i + n + 1) * s < 2 ^ 63 = times_below (i + n + 1) (length d.slots) s (2 ^ 63) (omega arith) small in
        let far : i * s < 2 ^ 64 = omega (arith, times_below i (i + n + 1) s (2 ^ 63) (omega arith) below) in
        let far' : (i + 1) * s < 2 ^ 64 = omega (arith, times_below (i + 1) (i + n + 1) s (2 ^ 63) (omega arith) below) in
        let fits' : i + 1 < 2 ^ 64 = omega (arith, times_above (i + n + 1) s starts.1) in
        let src : ℕ = i * s + o in let dst : ℕ = (i + 1) * s + o in
        let up : dst ≡ 1 * s + src = omega (arith, add_times i 1 s) in
        let ends : (n + 1) * s + src < 2 ^ 63 = omega (arith, add_times (n + 1) i s, ap (λ (k : ℕ). k * s) (let e : n + 1 + i ≡ i + n + 1 = omega arith in e)) in
        let shift : IsShiftWithinBlock (R E) true 1 n (block_ptr b src) (block_ptr b dst) = (ap (block_ptr b) up, ends) in
        let room : i + (n + 1) ≤ length d.slots = omega arith in
        let moved : List (Place E) = None ∷ map Some xs in
        let count : n + 1 ≡ length moved = omega (arith, length-map xs Some) in
        let same : length new.slots * s < 2 ^ 63 = subst (λ (k : ℕ). k * s < 2 ^ 63) (sym (length-spliced d.slots i (n + 1) (None ∷ run d.slots i n) room (omega (arith, length-run d.slots i n ok.0.0)))) small in
        first ! $ blocks ! $
        sets ! (of_opd ! (load ! (through ! refl (fld ! refl (stop !))) (look_in ! 1 (sub ! 0 refl (whole !))))) refl (tt, tt) $
        sets ! (bin ! (get ! refl) (size_lit ! (record { fits = tiny })) (record { fits = far })) refl (tt, record { fits = far }) $ sets ! (bin ! (get ! refl) (get ! refl) tt) refl (tt, tt) $
        sets ! (of_opd ! (load ! (through ! refl (fld ! refl (stop !))) (look_in ! 1 (sub ! 0 refl (whole !))))) refl (tt, tt) $
        sets ! (bin ! (get ! refl) (lit ! tt) (record { fits = fits' })) refl (tt, record { fits = fits' }) $
        sets ! (bin ! (get ! refl) (size_lit ! (record { fits = tiny })) (record { fits = far' })) refl (tt, record { fits = far' }) $ sets ! (bin ! (get ! refl) (get ! refl) tt) refl (tt, tt) $
        use1 𝓛 (‵ (slots (R E) b src (run d.slots i (n + 1))) ⊛ ‵ (Around E 𝓛 b o d.slots i (n + 1))) (run_out E 𝓛 b o d.slots i (n + 1) room) $ split ! $
        rewrite ! 0 (λ (l : List (Place E)). ‵ (slots (R E) b src l)) parts refl $
        use1 𝓛 (‵ (slots (R E) b src (map Some xs)) ⊛ ‵ (slots (R E) b (n * s + src) (None ∷ []))) (cut E 𝓛 b (map Some xs) (None ∷ []) src (n * s + src) (ap (λ (k : ℕ). k * s + src) (sym (length-map xs Some ∙ long)))) $ split ! $
        use1 𝓛 (‵ (part_at (Array (R E) n) full_share xs b src)) (to_values E 𝓛 b src n xs long) $ move ! (1 ∷ []) $
        use1 𝓛 (‵ (froom (ty_array (elτ E) 1) b (n * s + src))) (to_room E 𝓛 b (None ∷ []) (n * s + src)) $ move ! (1 ∷ 0 ∷ []) $ fjoin ! $
        -- [the run and the place behind it; the other places; the word, the borrow and its names; the token]
        let y : (Copies 𝓛 at_mem run').Ghost = (((κ₁, tt), (q₁, tt), tt, (block_ptr b src, (block_ptr b dst, (n, tt))), (rawptr_vals (block_ptr b src), (rawptr_vals (block_ptr b dst), (vint w64 n ∷ [], tt)))), record { up = true; distance = 1; items = xs }) in
        use0 𝓛 (raw (fact 𝓤 (IsShiftWithinBlock (R E) true 1 n (block_ptr b src) (block_ptr b dst)))) (fact_i 𝓤 (IsShiftWithinBlock (R E) true 1 n (block_ptr b src) (block_ptr b dst)) (emp 𝓤) shift) $ join ! $
        use0 𝓛 (raw (fact 𝓤 (κ₁ ⊑ E.row.lives))) (fact_i 𝓤 (κ₁ ⊑ E.row.lives) (emp 𝓤) lives) $ join ! $
        pure_i ! (owns (RawPtr ∷ RawPtr ∷ usize ∷ []) y.0.3 y.0.4) (tt, (tt, ((tt, tt), tt))) (refl, (refl, ((refl, fn), tt))) $ move ! (7 ∷ 0 ∷ []) $ join ! $ join ! $
        use1 𝓛 (raw ((Copies 𝓛 at_mem run').pre y)) (id⊢ 𝓤 _) $
        calls_at_last ! (fm_of 𝓤 H 𝓛.laws 𝓣) (Copies 𝓛 at_mem run') callee y (and_then ! (get ! refl) (and_then ! (get ! refl) (and_then ! (get ! refl) (no_more !)))) (λ v.
        use1 𝓛 (later (some (λ (r : Unit {0}). ((‵ (flft κ₁ q₁) ⊛ ‵ ftrue) ⊛ ‵ (unit.own_val r (v ∷ []))) ⊛ some (λ (ws : Unit {0} × (Unit {0} × (Unit {0} × Unit {0}))). ‵ (fsep ftrue (fsep ftrue (fsep ftrue ftrue))) ⊛ ‵ (fsep (part_at (Array (R E) n) full_share xs b dst) (froom (ty_array (elτ E) 1) b src)))))) (id⊢ 𝓤 _) $
        await ! tt $ pick ! (λ r. split ! $ split ! $ move ! (1 ∷ []) $ feq_l ! (λ e. move ! (1 ∷ []) $ pick ! (λ ws. split ! $ let_go ! $ fsplit ! $
        lands_last ! refl (subst (λ (u : Val). T (has_ty ty_unit u) × WT u) (sym (ap only e)) (tt, tt)) $ exec ! 𝓣.C 𝓣.Λ En (after 1 here.body) (at_ret En Post) $ sets ! (of_opd ! (unit_lit !)) refl (tt, tt) $
        use1 𝓛 (‵ (slots (R E) b dst (map Some xs))) (of_values E 𝓛 b dst n xs long) $ move ! (1 ∷ []) $
        use1 𝓛 (‵ (slots (R E) b src (None ∷ []))) (of_room E 𝓛 b 1 src) $
        use2 𝓛 (‵ (slots (R E) b src moved)) (glue E 𝓛 b (None ∷ []) (map Some xs) src dst up) $ move ! (0 ∷ 2 ∷ []) $
        use2 𝓛 (‵ (slots (R E) b o (spliced d.slots i (n + 1) moved))) (run_in E 𝓛 b o d.slots i (n + 1) room moved count) $
        rewrite ! 0 (λ (l : List (Place E)). ‵ (slots (R E) b o (spliced d.slots i (n + 1) (None ∷ l)))) (sym ok.0.1.1) refl $
        move ! (0 ∷ 2 ∷ 3 ∷ 4 ∷ 5 ∷ []) $ cells_close E ! tt new b o rb ro at_b same $
        returns ! (look_at ! 0 refl) $ free_all ! refl $
        suffices ! _ (ends_at 𝓛 ended stayed held (spelled z) vunit tt (new, (tt, (tt, tt))) (tt, (tt, (tt, tt)))) $ says ! (refl, refl) $
        feq_i ! (List Val) (vptr rb ro ∷ []) (vptr rb ro ∷ []) refl $ fjoin3 ! $ nothing ! $ nothing ! $ fjoin ! $ nothing ! $ fjoin ! $ move ! (1 ∷ 0 ∷ []) $ fjoin ! $
        move ! (1 ∷ 2 ∷ []) $ join ! $ feq_i ! (List Val) (vunit ∷ []) (vunit ∷ []) refl $ keep ! (1 ∷ 2 ∷ 0 ∷ []) $ done !)))))))))

    meets : Meets 𝓛 ended.signature (WpFn 𝓤 H 𝓣.C 𝓣.Λ here) (closing 𝓛 ended held)
    meets =
        let word = Goes-dropped 𝓛 2 (plain (λ _. usize)) yes (λ κs x f. refl) in
        walk_Meets 𝓛 ended stayed (Goes-ref 𝓛 2 0 tt (plain (λ _. Cr E)), (word, (word, tt))) held (WpFn 𝓤 H 𝓣.C 𝓣.Λ here) (WpFn-mono 𝓤 H 𝓛.laws 𝓣 here)
        (walked 𝓛 ended stayed held (WpFn 𝓤 H 𝓣.C 𝓣.Λ here) (λ κs. (mut_vals, (uint_vals w64, (uint_vals w64, tt))))
        (λ κs. (mut_Tells (named 0) κs.0 (Cr E), (uint_Tells w64, (uint_Tells w64, tt))))
        (λ κs qs bounds a g are. walk ((κs, qs, bounds, a, (mut_vals a.0, (uint_vals w64 a.1.0, (uint_vals w64 a.1.1.0, tt)))), g) are.1.0.1 are.1.1.0.1))

pub raise_spec : {M : Type 1} → stated.statement M
unfolding tables_of
raise_spec 𝓤 𝓛 𝓜 𝓡 wired X L =
    let E : El = record { row = X; laws = L } in
    let 𝓣 : Tables 𝓤 𝓛.H = tables_of 𝓤 𝓛.H 𝓜 (tables 𝓤 𝓛.H 𝓜 𝓡 𝓡.env) in
    entered 𝓤 𝓛.H (triple_of 𝓛 (F.signature X) (F.spec X 𝓛 𝓜.mem 𝓡.returns)) 𝓣.C 𝓣.Λ (#self (args E)) (here E) (code.unfolded 𝓤 𝓛.H 𝓜 𝓡 wired (X, tt))
    (meets E 𝓛 𝓜.mem 𝓡.returns 𝓣 (copy_thm.met 𝓤 𝓛 𝓜 𝓡 (code.calls-core::ptr::copy 𝓡.env wired) X L))
