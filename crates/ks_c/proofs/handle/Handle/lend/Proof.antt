-- `lend` tests the pointer, and lends the caller if it is not null; the handle's word stays.
use Rattle.std.proofs.Common.{◌≡◌, ℕ, List, [], ◌∷◌, ◌++◌, refl, sym, subst, lit<}
use seplogic.Ra.Ura.{Ura}
use mir.Syntax.{named}
use mir.Raw.{raw as bare}
use mir.Val.{Val, vptr, vcons, vnil}
use base.Fraction.{full_share}
use base.Logic.{SProp, ent, emp, sep, id⊢}
use base.Fml.{Fml, GName, feq, flft, fres, fsep, ftrue}
use prog.Wp.{WpFn}
use types.Logic.{Logic, sem}
use types.Kit.{‵, raw, ◌⊛◌, some, later, at_ret, ◌$◌, ◌∵◌, !, qed, by, move, keep, split, split3, join, group, fsplit, fsplit3, fjoin, fpack, feq_i, feq_l, suffices, use0, use1, rewrite, await, pick, done}
use types.Run.{stop, fld, load, addr, lit, of_opd, bin, no_more, and_then, first, blocks, branches, exec, returns, returns_within, skips, enter}
use types.ByLocal.{alloc_all, pass_all, free_all, look_at, get, through, sets, sets_last, env}
use types.Part.{agg, look_in, sub, whole}
use types.Match.{live}
use contract.Monad.{fact, fact_i}
use contract.Running.{tables}
use denote.Follow.{follows, follows_by, lends_Part}
use denote.Memory.{lone, mem, cell_at, part_at, part_of}
use denote.Param.{layout}
use denote.RattleType.{RattleType, owns}
use denote.RawPtr.{Ptr, block_ptr, null_ptr, ptr_val, tests_null}
use denote.Ref.{MutBor, MutRef}
use denote.Signature.{type_at, types_at, plain, mut_ref_to}
use denote.Steps.{nothing, opens, closes}
use denote.Triple.Walked.{Stays, stay_dropped, walk_of, Goes-spent_ref}
use Rattle.core.proofs.alloc.Shapes.{after}
use Rattle.core.proofs.cell.Inside.{Good}
use Rattle.core.proofs.option.Made.{Some-of, none_of}
use Rattle.std.proofs.raw_atomic.Walks.{proved_at, leaves}
use Rattle.std.specs.contracts.impls.GlobalAllocator.TheImpl.{ghosts}
use Rattle.std.specs.declared.option.Option.{Option}
use Rattle.std.specs.declared.option.Option.TheVariants.{None, Some}
use Rattle.ks_c.specs.Handle.{boxed}
use Rattle.ks_c.specs.Lends.{with_caller}
use Rattle.ks_c.specs.contracts.caller.Caller as inner
use Rattle.ks_c.specs.contracts.handle.Handle as handle
use Rattle.ks_c.proofs.Handles.{lone_val, handle_in, handle_out, either}
use Rattle.ks_c.specs.contracts.handle.Handle.lend.{ended, clauses}
use Rattle.ks_c.specs.contracts.handle.Handle.lend.Key.{name as #self}
use Rattle.ks_c.proofs.handle.Handle.lend.Statement.{statement}
use Rattle.ks_c.proofs.handle.Handle.lend.Code as code

abbrev R : RattleType
R = inner.the_row

abbrev Self : RattleType
Self = handle.the_row

module _ (d : Self.Denot) (b o rb ro : ℕ) where
  -- all of an open handle but its caller
  abbrev Rest : Fml
  Rest = fsep (ghosts.dealloc_token (record { memory = record { seal = tt } }) (bare (lone R.mir)) (block_ptr b o)) (cell_at full_share Self.mir (lone_val (vptr b o) ∷ []) rb ro)

  back : {M : Type 1} {𝓤 : Ura M} (𝓛 : Logic 𝓤) → d.at ≡ block_ptr b o → (w : R.Denot) → ent 𝓤 (sep 𝓤 (sem 𝓛 ((mem R).own_at w b o)) (sem 𝓛 Rest)) (sem 𝓛 ((mem Self).own_at (with_caller d w) rb ro))
  unfolding part_of
  back 𝓛 at_b w = let O = Option R.Denot in let inside : O = Some w in
      qed 𝓛 (‵ (part_at R full_share w b o) ∷ ‵ Rest ∷ []) ∵ move ! (1 ∷ []) $ fsplit ! $ move ! (2 ∷ 0 ∷ []) $ fjoin ! $
      feq_i ! O inside inside refl $ fjoin ! $ fpack ! R.Denot (λ x. fsep (feq O inside (Some x)) (boxed R (block_ptr b o) x)) w $ handle_in ! (block_ptr b o) inside $
      rewrite ! 0 (λ (p : Ptr). ‵ (Self.own_val (record { at = p; inside = inside }) (lone_val (vptr b o) ∷ []))) (sym at_b) refl $
      move ! (1 ∷ 0 ∷ []) $ fjoin ! $ fpack ! (List Val) (λ us. fsep (cell_at full_share Self.mir us rb ro) (Self.own_val (with_caller d w) us)) (lone_val (vptr b o) ∷ []) $ done !

pub lend_spec : {M : Type 1} → statement M
unfolding follows_by
lend_spec 𝓤 𝓛 𝓜 𝓡 wired =
    let H = 𝓛.H in let 𝓣 = tables 𝓤 H 𝓜 𝓡 𝓡.env in let En = ended in let c = clauses 𝓛 𝓜.mem 𝓡.returns in let fn = code.function in let O = Option R.Denot in let none : O = None in
    let hs : Stays En.signature.params En.kept = (stay_dropped (mut_ref_to (0 ∷ []) tt (plain (λ _. Self))) En.kept.0, tt) in
    proved_at 𝓛 En hs c 𝓜 𝓡 (Goes-spent_ref 𝓛 1 (0 ∷ []) tt (plain (λ _. Self)), tt) #self fn (code.unfolded 𝓤 H 𝓜 𝓡 wired) (λ z are.
    let κ = z.0.0.0 in let q = z.0.1.0 in let s = z.0.3.0 in let d = s.now in let rb = s.ref_ptr.0 in let ro = s.ref_ptr.1 in let γ = s.ghost_name in
    let Post : Val → SProp 𝓤 = (walk_of 𝓛 En hs c).post z in let Run : List Val → SProp 𝓤 = λ ws. WpFn 𝓤 H 𝓣.C 𝓣.Λ fn ws Post in let Lent : RattleType = MutRef (named 0) κ R in let Out : RattleType = type_at En.signature.result z.0.0 in let at : Val = vptr rb ro in
    qed 𝓛 (((‵ (flft κ q) ⊛ ‵ ftrue) ⊛ ‵ (owns (types_at En.signature.params z.0.0) z.0.3 z.0.4)) ∷ raw ((c z.0.0 z.0.3).requires z.1) ∷ []) ∵ split ! $ split ! $ move ! (2 ∷ []) $ fsplit ! $ fsplit3 ! $ feq_l ! (λ e.
    keep ! (0 ∷ 1 ∷ 3 ∷ []) $ suffices ! (Run (at ∷ [])) (subst (λ (us : List Val). ent 𝓤 (Run (at ∷ [])) (Run us)) (sym (λ i. e i ++ [])) (id⊢ 𝓤 (Run (at ∷ [])))) $
    enter ! 𝓣.C 𝓣.Λ fn (at ∷ []) Post $ alloc_all ! (λ l. pass_all ! refl ((tt, tt), tt) $ let Ev = env fn.locals l in
    opens ! tt Self {h = d} rb ro (λ vs. move ! (1 ∷ []) $ handle_out ! d vs (λ ev. rewrite ! 1 (λ (us : List Val). ‵ (cell_at full_share Self.mir us rb ro)) ev refl $
    either ! d.at d.inside
    (λ is empty. let w : Val = lone_val (ptr_val null_ptr) in let v : Val = live 0 vnil in let good : Good (layout Out) v = (tt, (record { fits = lit< tt }, tt)) in
    rewrite ! 0 (λ (p : Ptr). ‵ (cell_at full_share Self.mir (lone_val (ptr_val p) ∷ []) rb ro)) is refl $
    sets ! (of_opd ! (load ! (through ! refl (fld ! refl (stop !))) (look_in ! 0 (sub ! 0 refl (whole !))))) refl (tt, record { fits = lit< tt }) $ sets ! (bin ! (get ! refl) (lit ! tt) tt) refl (tt, tt) $ first ! $ branches ! (get ! refl)
    (λ _. sets ! (agg ! (and_then ! (lit ! tt) (no_more !))) refl good $
    feq_i ! O none none refl $ handle_in ! null_ptr none $ rewrite ! 0 (λ (p : Ptr). ‵ (Self.own_val (record { at = p; inside = none }) (w ∷ []))) (sym is) refl $ rewrite ! 0 (λ (x : O). ‵ (Self.own_val (record { at = d.at; inside = x }) (w ∷ []))) (sym empty) refl $
    move ! (1 ∷ 0 ∷ 2 ∷ 3 ∷ 4 ∷ []) $ closes ! tt Self d (w ∷ []) rb ro $
    use1 𝓛 (‵ (fres γ (Self.coded.code d))) (𝓛.names.obs-res γ (Self.coded.code d)) $
    -- [what the handle ends as; the borrow; the lifetime]
    use0 𝓛 (raw (fact 𝓤 (d.inside ≡ none))) (fact_i 𝓤 (d.inside ≡ none) (emp 𝓤) empty) $ move ! (1 ∷ 0 ∷ []) $ join ! $
    use0 𝓛 (‵ (Out.own_val None (v ∷ []))) (none_of 𝓛 Lent) $ nothing ! $ nothing ! $ fjoin ! $ nothing ! $ move ! (5 ∷ 0 ∷ []) $ join ! $
    returns_within ! Post refl (look_at ! 0 refl) $ free_all ! refl $ keep ! (0 ∷ 1 ∷ 2 ∷ 3 ∷ []) $ by ! (leaves 𝓛 En hs c z v None (tt, tt) (tt, tt)))
    (λ wrong. absurd wrong))
    (λ b o y is full t. let w : Val = lone_val (vptr b o) in let inside : O = Some y in
    rewrite ! 1 (λ (p : Ptr). ‵ (cell_at full_share Self.mir (lone_val (ptr_val p) ∷ []) rb ro)) is refl $ fsplit ! $
    -- [the caller; the right to free its block; the word; the open borrow; obs; auth]
    sets ! (of_opd ! (load ! (through ! refl (fld ! refl (stop !))) (look_in ! 2 (sub ! 0 refl (whole !))))) refl (tt, tt) $ sets ! (bin ! (get ! refl) (lit ! tt) (tests_null (block_ptr b o) t)) refl (tt, tt) $ first ! $ branches ! (get ! refl)
    (λ wrong. absurd wrong)
    (λ _. let v : Val = live 1 (vcons (vptr b o) vnil) in let good : Good (layout Out) v = (tt, (record { fits = lit< tt }, (tt, tt))) in
    skips ! $ exec ! 𝓣.C 𝓣.Λ Ev (after 3 fn.body) (at_ret Ev Post) $ sets ! (of_opd ! (get ! refl)) refl (tt, tt) $ first ! $ blocks ! $ sets ! (addr ! (through ! refl (stop !))) refl (tt, tt) $
    sets_last ! (agg ! (and_then ! (lit ! tt) (and_then ! (get ! refl) (no_more !)))) refl good $ exec ! 𝓣.C 𝓣.Λ Ev (after 5 fn.body) (at_ret Ev Post) $ sets ! (of_opd ! (get ! refl)) refl good $
    move ! (1 ∷ 2 ∷ []) $ fjoin ! $ move ! (2 ∷ 3 ∷ 4 ∷ 1 ∷ 0 ∷ []) $ group ! 5 $
    use1 𝓛 (later (some (λ (γ' : GName). ‵ (Lent.own_val (record { ref_ptr = (b, o); ghost_name = γ'; now = y }) (vptr b o ∷ [])) ⊛ ‵ (flft κ q) ⊛ ‵ (follows Self R γ γ' (with_caller d)))))
    (lends_Part 𝓛 Self R (with_caller d) (named 0) κ q rb ro b o γ (sem 𝓛 (Rest d b o rb ro)) (back d b o rb ro 𝓛 is) (Self.coded.code d) (Self.coded.code d) y) $ await ! tt $ pick ! (λ γ'.
    let r : MutBor R.Denot = record { ref_ptr = (b, o); ghost_name = γ'; now = y } in
    split3 ! $ use1 𝓛 (‵ (Out.own_val (Some r) (v ∷ []))) (Some-of 𝓛 Lent r (vptr b o)) $
    -- [the result; the lifetime; what the handle ends as]
    use0 𝓛 (raw (fact 𝓤 (d.inside ≡ inside))) (fact_i 𝓤 (d.inside ≡ inside) (emp 𝓤) full) $ move ! (3 ∷ 0 ∷ []) $ join ! $ move ! (1 ∷ 0 ∷ []) $
    nothing ! $ nothing ! $ fjoin ! $ nothing ! $ move ! (4 ∷ 0 ∷ []) $ join ! $
    returns ! (look_at ! 0 refl) $ free_all ! refl $ keep ! (0 ∷ 1 ∷ 2 ∷ 3 ∷ []) $ by ! (leaves 𝓛 En hs c z v (Some r) (tt, tt) (tt, tt))))))))))
