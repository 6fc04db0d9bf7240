-- What a `Deed` owns is taken apart and made. Assumes `Logic`.
use mathlib.Core.Path.{◌≡◌, refl, subst}
use mathlib.Core.List.{List, [], ◌∷◌, ◌++◌}
use seplogic.Ra.Ura.{Ura}
use mir.Val.{Val, vstruct, vcons, vnil, of_list}
use base.Logic.{ent, emp, sep}
use types.Logic.{Logic, sem}
use types.Kit.{Item, Goal, Seq, ‵, ◌$◌, ◌∵◌, !, qed, move, drop as skip, fsplit, fjoin, fpick, fpack, feq_i, feq_l, done}
use denote.RattleType.{RattleType, Valss}
use denote.Shadow.{makes_shadow}
use denote.Steps.{nothing}
use denote.Struct.Declared as Declared
use denote.Struct.Owning.{shape}
use denote.Struct.Struct.{Struct, within}
use denote.Struct.Tuple.{Tuple, tuple_type}
use Rattle.core.proofs.alloc.Calls.{Al}
use Rattle.core.proofs.mem.Param.{El, R}
use Rattle.core.proofs.slots.Leases.{P}
use Rattle.ks_block.specs.contracts.cells.Deed as D

-- the one field of `Deed`, which takes no bytes
abbrev pub mark : Val
mark = vstruct (vcons (vstruct vnil) vnil)

module _ (E : El) (Z : Al) where
  abbrev pub Dd : RattleType
  Dd = D.the_row (R E) (P E Z) Z.g

  abbrev pub Mark : RattleType
  Mark = Struct (shape (D.the_type (R E) (P E Z) Z.g))

  pub mark_made : {M : Type 1} {𝓤 : Ura M} (𝓛 : Logic 𝓤) → ent 𝓤 (emp 𝓤) (sem 𝓛 (Mark.own_val (tt, tt) (mark ∷ [])))
  mark_made 𝓛 = makes_shadow 𝓛 (Mark.own_val (tt, tt) (mark ∷ [])) (λ vss. (tt, ((λ uss. (tt, tt)), tt))) ((vstruct vnil ∷ [], tt), (refl, ((tt, (refl, tt)), tt)))

module _ {M : Type 1} {𝓤 : Ura M} {𝓛 : Logic 𝓤} {K : Type 0} {Γ : List (Item 𝓤)} {G : Goal 𝓤 𝓛.H} where
  pub mark_had : K → (E : El) (Z : Al) (vs : List Val) → (vs ≡ mark ∷ [] → Seq K 𝓛 Γ G) → Seq K 𝓛 (‵ ((Mark E Z).own_val (tt, tt) vs) ∷ Γ) G
  mark_had t E Z vs k = fpick t (λ vss. fsplit t $ feq_l t (λ ev. fsplit t $ fpick t (λ uss. fsplit t $ feq_l t (λ e. skip t $ skip t $
      k (subst (λ (ws : List Val). vs ≡ vstruct (of_list (ws ++ [])) ∷ []) e ev)))))

abbrev pub two_val : Val → Val → Val
two_val u v = vstruct (vcons u (vcons v vnil))

pub two_of : {M : Type 1} {𝓤 : Ura M} (𝓛 : Logic 𝓤) (Q S : RattleType) (x : Q.Denot) (y : S.Denot) (u v : Val)
    → ent 𝓤 (sep 𝓤 (sem 𝓛 (Q.own_val x (u ∷ []))) (sem 𝓛 (S.own_val y (v ∷ [])))) (sem 𝓛 ((Tuple (Q ∷ S ∷ [])).own_val (x, y) (two_val u v ∷ [])))
two_of 𝓛 Q S x y u v =
    qed 𝓛 (‵ (Q.own_val x (u ∷ [])) ∷ ‵ (S.own_val y (v ∷ [])) ∷ []) ∵ nothing ! $ move ! (2 ∷ 0 ∷ []) $ fjoin ! $ move ! (1 ∷ 0 ∷ []) $ fjoin ! $
    feq_i ! (List Val) (two_val u v ∷ []) (two_val u v ∷ []) refl $ fjoin ! $
    fpack ! (Valss (Q ∷ S ∷ [])) (within (Declared.shape (tuple_type (Q ∷ S ∷ []))) (x, (y, tt)) (two_val u v ∷ [])) (u ∷ [], (v ∷ [], tt)) $ done !
