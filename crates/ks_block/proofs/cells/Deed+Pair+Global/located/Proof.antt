-- `located` reads off the token of `Global` where the memory begins. Assumes `Logic`.
use Rattle.std.proofs.Common.{◌≡◌, ℕ, List, [], ◌∷◌, ◌++◌, take, drop, take-append-drop, refl, subst, ◌∙◌}
use seplogic.Ra.Ura.{Ura}
use mir.Syntax.{Fn, ty_array}
use mir.Raw.{raw as bare}
use mir.Val.{Val, vstruct, vnil, of_list}
use base.Logic.{SProp, ent, emp, via, fst∗}
use base.Fml.{Fml, ftrue}
use prog.Wp.{Env, WpFn}
use types.Logic.{Logic, sem}
use contract.Monad.{fact, fact_i, fact_use}
use contract.Running.{tables}
use types.Kit.{Item, Goal, Seq, ⋆, ⊢++, ‵, raw, ◌⊛◌, prop, ◌$◌, ◌∵◌, !, qed, by, move, drop as skip, use0, split, regoal, fsplit, fjoin}
use types.Part.{whole, sub, agg}
use types.Run.{stop, fld, of_opd, no_more, and_then, returns, enter}
use types.ByLocal.{alloc_all, pass_all, free_all, look_at, get, get_in, sets, env}
use denote.Builtin.{u64, u128}
use denote.Exit.{yes}
use denote.Memory.{lone}
use denote.RattleType.{RattleType, owns}
use denote.RawPtr.{count_of}
use denote.Shadow.{shadow, makes_shadow}
use denote.Signature.{plain, types_at}
use denote.Steps.{nothing}
use denote.Struct.Struct.{Struct}
use denote.Struct.Tuple.{Tuple}
use denote.Triple.Entry.{alive}
use denote.Triple.Walked.{Stays, stay_dropped, walk_of}
use Rattle.core.proofs.alloc.Calls.{Goes-blank}
use Rattle.std.proofs.raw_atomic.Walks.{proved_at, leaves}
use Rattle.std.proofs.GlobalToken.{dealloc_token_start}
use Rattle.std.specs.contracts.alloc.Global as G
use Rattle.std.specs.contracts.impls.GlobalAllocator.TheImpl.{ghosts}
use Rattle.ks_block.proofs.Deeds.{mark}
use Rattle.ks_block.specs.contracts.cells.Deed as D
use Rattle.ks_block.specs.contracts.cells.Deed+Pair+Global.located.{ended, clauses}
use Rattle.ks_block.specs.contracts.cells.Deed+Pair+Global.located.Key.{name as #self}
use Rattle.ks_block.proofs.cells.Deed+Pair+Global.located.Statement.{statement}
use Rattle.ks_block.proofs.cells.Deed+Pair+Global.located.Code as code

abbrev Pair : RattleType
Pair = Tuple (u64 ∷ u128 ∷ [])

abbrev Dd : RattleType
Dd = D.the_row Pair G.the_row ghosts

-- a struct with fields only: what it owns does not depend on its name
abbrev plainly : List RattleType → RattleType
plainly Rs = Struct (record { name = []; args = []; types = []; fields = Rs })

abbrev mark_own : List Val → Fml
mark_own = (plainly (plainly [] ∷ [])).own_val (tt, tt)

mark_told : (vs : List Val) → shadow (mark_own vs) → vs ≡ mark ∷ []
mark_told vs s = s.1.0 ∙ (λ i. vstruct (of_list (s.1.1.0.1.0 i ++ [])) ∷ [])

mark_made : {M : Type 1} {𝓤 : Ura M} (𝓛 : Logic 𝓤) → ent 𝓤 (emp 𝓤) (sem 𝓛 (mark_own (mark ∷ [])))
mark_made 𝓛 = makes_shadow 𝓛 (mark_own (mark ∷ [])) (λ _. (tt, ((λ _. (tt, tt)), tt))) ((vstruct vnil ∷ [], tt), (refl, ((tt, (refl, tt)), tt)))

module _ {M : Type 1} {𝓤 : Ura M} {𝓛 : Logic 𝓤} {K : Type 0} {Γ : List (Item 𝓤)} {G : Goal 𝓤 𝓛.H} where
  -- a fact is learned from the first n entries, which stay
  learns : K → (n : ℕ) (φ : Type 0) → ent 𝓤 (⋆ 𝓛 (take n Γ)) (fact 𝓤 φ) → (φ → Seq K 𝓛 Γ G) → Seq K 𝓛 Γ G
  learns t n φ shown k = record {
    prf = fact_use 𝓤 φ (via 𝓤 (⋆ 𝓛 (take n Γ)) (subst (λ (Δ : List (Item 𝓤)). ent 𝓤 (⋆ 𝓛 Δ) (⋆ 𝓛 (take n Γ))) (take-append-drop n Γ)
        (via 𝓤 _ (⊢++ 𝓛 (take n Γ) (drop n Γ)) (fst∗ 𝓤 (⋆ 𝓛 (take n Γ)) (⋆ 𝓛 (drop n Γ))))) shown) (λ x. (k x).prf);
  }

pub located_spec : {M : Type 1} → statement M
located_spec 𝓤 𝓛 𝓜 𝓡 wired =
    let H = 𝓛.H in
    let c = clauses 𝓛 𝓜.mem 𝓡.returns in
    let fn : Fn = code.function in
    let stays : Stays ended.signature.params ended.kept = (stay_dropped (plain (λ _. Dd)) yes, tt) in
    let C = (tables 𝓤 H 𝓜 𝓡 𝓡.env).C in
    let Λ = (tables 𝓤 H 𝓜 𝓡 𝓡.env).Λ in
    proved_at 𝓛 ended stays c 𝓜 𝓡 (Goes-blank 𝓛 0 (plain (λ _. Dd)) yes (λ κs x f. tt), tt) #self fn (code.unfolded 𝓤 H 𝓜 𝓡 wired) (λ z are.
    let Post : Val → SProp 𝓤 = (walk_of 𝓛 ended stays c).post z in
    let a = z.0.3 in
    let vss = z.0.4 in
    let x = a.0 in
    qed 𝓛 ((raw (alive 𝓛 ended.signature z.0.0 z.0.1) ⊛ ‵ (owns (types_at ended.signature.params z.0.0) a vss)) ∷ ‵ ftrue ∷ []) ∵ move ! (1 ∷ []) $ skip ! $ split ! $ move ! (1 ∷ []) $
    fsplit ! $ fsplit ! $ skip ! $ move ! (1 ∷ []) $ skip ! $ learns ! 1 (count_of x.at ≡ 0) (dealloc_token_start 𝓛 x.alloc (bare (ty_array (lone Pair.mir) x.len)) x.at) (λ start.
    regoal ! (λ (us : List Val). prop (WpFn 𝓤 H C Λ fn us Post)) (λ i. mark_told vss.0 are.0.0 i ++ []) refl $
    enter ! C Λ fn (mark ∷ []) Post $
    alloc_all ! (λ l. pass_all ! refl ((tt, (tt, tt)), tt) $ let En : Env 𝓤 𝓛.H = env fn.locals l in
    sets ! (of_opd ! (get_in ! (fld ! refl (stop !)) (sub ! 0 refl (whole !)))) refl (tt, tt) $
    sets ! (agg ! (and_then ! (get ! refl) (no_more !))) refl (tt, (tt, tt)) $
    returns ! (look_at ! 0 refl) $ free_all ! refl $
    use0 𝓛 (‵ (mark_own (mark ∷ []))) (mark_made 𝓛) $ fjoin ! $ use0 𝓛 (raw (fact 𝓤 ((x ≡ x) × (count_of x.at ≡ 0)))) (fact_i 𝓤 ((x ≡ x) × (count_of x.at ≡ 0)) (emp 𝓤) (refl, start)) $ nothing ! $ nothing ! $ fjoin ! $ move ! (3 ∷ 0 ∷ 2 ∷ 1 ∷ []) $
    by ! (leaves 𝓛 ended stays c z mark x (tt, tt) (tt, tt)))))
