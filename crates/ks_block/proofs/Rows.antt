-- What the walks of the functions over `Cells` share. Assumes `Logic`.
--     cells_had, cells_made, cells_open, cells_close      what a row owns is taken apart and made, and a `&mut` to one is opened and closed
--     slot_out, slot_in, run_out, run_in, slot_seen      one place or a run of places is taken out of the row, put back, or seen
--     to_values, of_values, to_room, of_room      a run of values is an array, and any run is room for one
use mathlib.Core.Path.{◌≡◌, refl, sym, ap, subst, ◌∙◌}
use Prim.Native.Nat.{ℕ, zero, suc, ◌+◌, ◌*◌, ◌<◌, ◌≤◌, ◌^◌}
use native.Mathlib.Omega.{arith}
use native.Mathlib.Nat.{zero-mul, suc-mul}
use mathlib.Core.List.{List, [], ◌∷◌, ◌++◌, map}
use lib.ListN.{length, take, drop, set, get_or, replicate, take-append-drop, length-take, length-drop}
use lib.Seq.{drop-cons, drop-drop, set_split}
use seplogic.Ra.Ura.{Ura}
use base.Fraction.{full_share}
use mir.Syntax.{ty_array}
use mir.Val.{Val, vstruct, of_list}
use base.Logic.{SProp, ent, sep, emp, ex, guard, via, snd∗, id⊢, mono_r, never}
use base.Fml.{Fml, Lft, GName, Share, ftrue, fsep, fat, froom, flft, fobs, fauth, fbor, fobor}
use base.Stored.{Gv}
use types.Logic.{Logic, sem}
use types.SemTy.{Body}
use contract.Monad.{fact, fact_i}
use types.Kit.{Item, Goal, Soaks, Seq, Step, step, prop, ‵, raw, some, given, ◌⊛◌, ◌$◌, ◌∵◌, !, qed, by, move, keep, drop as skip, use0, use1, use2, pick, learn, split, check, show, frame, fsplit, fjoin, fpick, fpack, feq_i, feq_l, flt_i, flt_l, rewrite, done}
use denote.RattleType.{RattleType, Valss}
use denote.Laws.{Is, shows}
use denote.Param.{param, layout}
use denote.Param.Laws.{Laws, param_laws}
use denote.Memory.{cell_at, part_at, mem}
use denote.Array.{Array}
use denote.Index.{row}
use denote.RawPtr.{Ptr, RawPtr, block_ptr, ptr_val, in_a_block}
use denote.Steps.{nothing, peeks, opens, closes}
use denote.Struct.Struct.{Shape, Struct, within}
use borrow.Table.OneValue.{part_in, part_out}
use Rattle.std.specs.Prelude.{Option, Some, None}
use Rattle.std.specs.Mem.{type_size}
use Rattle.core.proofs.mem.Param.{El, R, el_x, elτ}
use Rattle.core.proofs.ptr.Rows as arrays
use Rattle.std_alloc.proofs.RcSteps.{Good, word}
use Rattle.ks_block.specs.Ownership.{slot, slots, slot_lent, slots_lent, cells_own}
use Rattle.ks_block.specs.Places.{run, spliced}
use Rattle.ks_block.specs.contracts.cells.Cells as C

module _ (E : El) where
  abbrev pub Cr : RattleType
  Cr = C.the_row (R E)

  abbrev pub sz : ℕ
  sz = type_size (R E)

  abbrev pub Place : Type 0
  Place = Option (el_x E)

-- the one field of `Cells`
abbrev one_field : Shape
one_field = record { name = []; args = []; types = []; fields = RawPtr ∷ [] }

abbrev pub Word : RattleType
Word = Struct one_field

abbrev pub word_at : ℕ → ℕ → Val
word_at b o = word (block_ptr b o)

module _ {M : Type 1} {𝓤 : Ura M} {𝓛 : Logic 𝓤} {K : Type 0} {Γ : List (Item 𝓤)} {G : Goal 𝓤 𝓛.H} where
  pub word_had : K → (c : Ptr) (vs : List Val) → (vs ≡ word c ∷ [] → Seq K 𝓛 Γ G) → Seq K 𝓛 (‵ (Word.own_val (c, tt) vs) ∷ Γ) G
  word_had t c vs k = fpick t (λ vss. fsplit t $ feq_l t (λ ev. fsplit t $ feq_l t (λ e. skip t $ k (subst (λ (ws : List Val). vs ≡ vstruct (of_list (ws ++ [])) ∷ []) e ev))))

  pub word_made : K → (c : Ptr) → Step K 𝓛 (‵ (Word.own_val (c, tt) (word c ∷ [])) ∷ Γ) G Γ G
  word_made t c = step (λ s.
      nothing t $ feq_i t (List Val) (ptr_val c ∷ []) (ptr_val c ∷ []) refl $ fjoin t $ feq_i t (List Val) (word c ∷ []) (word c ∷ []) refl $ fjoin t $
      fpack t (Valss (RawPtr ∷ [])) (within one_field (c, tt) (word c ∷ [])) (ptr_val c ∷ [], tt) $ s)

module _ {M : Type 1} {𝓤 : Ura M} {𝓛 : Logic 𝓤} {K : Type 0} {Γ : List (Item 𝓤)} where
  -- an `ensures` of two facts
  pub says_both : K → {φ ψ : Type 0} {P : SProp 𝓤} → φ → ψ → Step K 𝓛 Γ (prop P) Γ (prop (sep 𝓤 P (sep 𝓤 (fact 𝓤 φ) (fact 𝓤 ψ))))
  says_both t {φ} {ψ} {P} x y = step (λ s. record {
    prf = via 𝓤 P s.prf (qed 𝓛 (raw P ∷ []) {P = sep 𝓤 P (sep 𝓤 (fact 𝓤 φ) (fact 𝓤 ψ))} (
        frame ! $ use0 𝓛 (raw (fact 𝓤 ψ)) (fact_i 𝓤 ψ (emp 𝓤) y) $ use0 𝓛 (raw (fact 𝓤 φ)) (fact_i 𝓤 φ (emp 𝓤) x) $ done !));
  })

module _ (E : El) {M : Type 1} {𝓤 : Ura M} {𝓛 : Logic 𝓤} {K : Type 0} {Γ : List (Item 𝓤)} {G : Goal 𝓤 𝓛.H} where
  pub cells_had : K → (d : (Cr E).Denot) (vs : List Val)
      → ((b o : ℕ) → d.base ≡ block_ptr b o → vs ≡ word_at b o ∷ [] → length d.slots * sz E < 2 ^ 63 → Seq K 𝓛 (‵ (slots (R E) b o d.slots) ∷ Γ) G)
      → Seq K 𝓛 (‵ ((Cr E).own_val d vs) ∷ Γ) G
  cells_had t d vs k =
      fsplit t $ word_had t d.base vs (λ is.
      in_a_block t d.base (λ p. cells_own (R E) p d.slots) (id⊢ 𝓤 (never 𝓤)) (λ b o e. fsplit t $ flt_l t (λ small.
      k b o e (is ∙ ap (λ (p : Ptr). word p ∷ []) e) small)))

  pub cells_made : K → (d : (Cr E).Denot) (b o : ℕ) → d.base ≡ block_ptr b o → length d.slots * sz E < 2 ^ 63
      → Step K 𝓛 (‵ ((Cr E).own_val d (word_at b o ∷ [])) ∷ Γ) G (‵ (slots (R E) b o d.slots) ∷ Γ) G
  cells_made t d b o at small = step (λ s.
      flt_i t (length d.slots * sz E) (2 ^ 63) small $ fjoin t $ word_made t (block_ptr b o) $ fjoin t $
      rewrite t 0 (λ (p : Ptr). ‵ (fsep (Word.own_val (p, tt) (word_at b o ∷ [])) (cells_own (R E) p d.slots))) (sym at) refl $ s)

module _ (E : El) {M : Type 1} {𝓤 : Ura M} {𝓛 : Logic 𝓤} {K : Type 0} {Γ : List (Item 𝓤)} {G : Goal 𝓤 𝓛.H} where
  -- [the places; the word; the open borrow; obs; auth]
  pub cells_open : K → Soaks G → {κ : Lft} {q : Share} {γ : GName} (d : (Cr E).Denot) (rb ro : ℕ)
      → ((b o : ℕ) → d.base ≡ block_ptr b o → length d.slots * sz E < 2 ^ 63
      → Seq K 𝓛 (‵ (slots (R E) b o d.slots) ∷ ‵ (cell_at full_share (Cr E).mir (word_at b o ∷ []) rb ro) ∷ ‵ (fobor κ q (Body (mem (Cr E)) rb ro γ)) ∷ ‵ (fobs γ ((Cr E).coded.code d)) ∷ ‵ (fauth γ ((Cr E).coded.code d)) ∷ Γ) G)
      → Seq K 𝓛 (‵ (fobs γ ((Cr E).coded.code d)) ∷ ‵ (fbor κ (Body (mem (Cr E)) rb ro γ)) ∷ ‵ (flft κ q) ∷ Γ) G
  cells_open t z d rb ro k =
      opens t z (Cr E) {h = d} rb ro (λ vs. move t (1 ∷ []) $ cells_had E t d vs (λ b o e is small.
      rewrite t 1 (λ (ws : List Val). ‵ (cell_at full_share (Cr E).mir ws rb ro)) is refl $ k b o e small))

  pub cells_close : K → Soaks G → {κ : Lft} {q : Share} {u v : Gv} {γ : GName} (d : (Cr E).Denot) (b o rb ro : ℕ) → d.base ≡ block_ptr b o → length d.slots * sz E < 2 ^ 63
      → Step K 𝓛 (‵ (fobs γ ((Cr E).coded.code d)) ∷ ‵ (fbor κ (Body (mem (Cr E)) rb ro γ)) ∷ ‵ (flft κ q) ∷ Γ) G
      (‵ (slots (R E) b o d.slots) ∷ ‵ (cell_at full_share (Cr E).mir (word_at b o ∷ []) rb ro) ∷ ‵ (fobor κ q (Body (mem (Cr E)) rb ro γ)) ∷ ‵ (fobs γ u) ∷ ‵ (fauth γ v) ∷ Γ) G
  cells_close t z d b o rb ro at small = step (λ s. cells_made E t d b o at small $ move t (1 ∷ 0 ∷ []) $ closes t z (Cr E) d (word_at b o ∷ []) rb ro $ s)

module _ (i : ℕ) (Y : RattleType) (L : Laws Y) {M : Type 1} {𝓤 : Ura M} (𝓛 : Logic 𝓤) where
  open 𝓛 use {H}

  pub value_out : (x : Y.Denot) (b o : ℕ) → ent 𝓤 (sem 𝓛 (part_at (param i Y) full_share x b o)) (ex 𝓤 (λ (v : Val). guard 𝓤 (Good (layout Y) v) (sep 𝓤 (H.at full_share (layout Y) b o v) (sem 𝓛 (Y.own_val x (v ∷ []))))))
  value_out x b o = qed 𝓛 (‵ (part_at (param i Y) full_share x b o) ∷ []) ∵
      use1 𝓛 (some (λ (v : Val). ‵ (fat full_share (layout Y) b o v) ⊛ ‵ (Y.own_val x (v ∷ [])))) (part_out 𝓛 (param i Y) refl full_share x b o) $ pick ! (λ v. split ! $ move ! (1 ∷ []) $
      peeks ! (param i Y) (Is (param i Y)) (shows 𝓛 (param i Y)) x (v ∷ []) (λ p.
      show ! (λ (w : Val). guard 𝓤 (Good (layout Y) w) (sep 𝓤 (H.at full_share (layout Y) b o w) (sem 𝓛 (Y.own_val x (w ∷ []))))) v $ check ! (((param_laws i Y L).lawful 𝓛).typed x (v ∷ []) p).0 $ move ! (1 ∷ 0 ∷ []) $ done !))

  pub value_in : (x : Y.Denot) (b o : ℕ) (v : Val) → ent 𝓤 (sep 𝓤 (H.at full_share (layout Y) b o v) (sem 𝓛 (Y.own_val x (v ∷ [])))) (sem 𝓛 (part_at (param i Y) full_share x b o))
  value_in x b o v = part_in 𝓛 (param i Y) refl full_share x b o v

pub filled_within : {X : Type 0} (cs : List (Option X)) (i : ℕ) (x : X) → get_or cs i None ≡ Some x → i < length cs
filled_within [] i x e = cc
filled_within (c ∷ cs) zero x e = omega arith
filled_within (c ∷ cs) (suc i) x e = omega (arith, filled_within cs i x e)

module _ (E : El) {M : Type 1} {𝓤 : Ura M} (𝓛 : Logic 𝓤) (b : ℕ) where
  open 𝓛 use {H}

  abbrev s : ℕ
  s = sz E

  abbrev Row : ℕ → List (Place E) → Fml
  Row = slots (R E) b

  pub cut : (xs ys : List (Place E)) (o at : ℕ) → at ≡ length xs * s + o → ent 𝓤 (sem 𝓛 (Row o (xs ++ ys))) (sep 𝓤 (sem 𝓛 (Row o xs)) (sem 𝓛 (Row at ys)))
  cut [] ys o at e = qed 𝓛 (‵ (Row o ys) ∷ []) ∵ rewrite ! 0 (λ (k : ℕ). ‵ (Row k ys)) {x = at} (omega (arith, zero-mul s)) refl $ nothing ! $ done !
  cut (x ∷ xs) ys o at e = let more : at ≡ suc (length xs) * s + o = e in qed 𝓛 (‵ (Row o (x ∷ xs ++ ys)) ∷ []) ∵ fsplit ! $ move ! (1 ∷ []) $
      use1 𝓛 (‵ (Row (o + s) xs) ⊛ ‵ (Row at ys)) (cut xs ys (o + s) at (omega (arith, suc-mul (length xs) s))) $ split ! $ move ! (2 ∷ 0 ∷ []) $ fjoin ! $ done !

  pub glue : (xs ys : List (Place E)) (o at : ℕ) → at ≡ length xs * s + o → ent 𝓤 (sep 𝓤 (sem 𝓛 (Row o xs)) (sem 𝓛 (Row at ys))) (sem 𝓛 (Row o (xs ++ ys)))
  glue [] ys o at e = qed 𝓛 (‵ ftrue ∷ ‵ (Row at ys) ∷ []) ∵ skip ! $ rewrite ! 0 (λ (k : ℕ). ‵ (Row k ys)) {x = o} (omega (arith, zero-mul s)) refl $ done !
  glue (x ∷ xs) ys o at e = let more : at ≡ suc (length xs) * s + o = e in qed 𝓛 (‵ (Row o (x ∷ xs)) ∷ ‵ (Row at ys) ∷ []) ∵ fsplit ! $ move ! (1 ∷ 2 ∷ []) $
      use2 𝓛 (‵ (Row (o + s) (xs ++ ys))) (glue xs ys (o + s) at (omega (arith, suc-mul (length xs) s))) $ move ! (1 ∷ 0 ∷ []) $ fjoin ! $ done !

  module _ (o : ℕ) (cs : List (Place E)) (i : ℕ) where
    -- the places except the i-th
    abbrev pub Besides : Fml
    Besides = fsep (Row o (take i cs)) (Row (i * s + o + s) (drop (suc i) cs))

    before : i ≤ length cs → i * s + o ≡ length (take i cs) * s + o
    before le = let long : i ≡ length (take i cs) = omega (arith, length-take i cs) in ap (λ k. k * s + o) long

    pub slot_out : i < length cs → ent 𝓤 (sem 𝓛 (Row o cs)) (sep 𝓤 (sem 𝓛 (slot (R E) b (i * s + o) (get_or cs i None))) (sem 𝓛 Besides))
    slot_out lt = qed 𝓛 (‵ (Row o cs) ∷ []) ∵
        rewrite ! 0 (λ (l : List (Place E)). ‵ (Row o l)) (sym (take-append-drop i cs) ∙ ap (λ l. take i cs ++ l) (drop-cons cs i None lt)) refl $
        use1 𝓛 (‵ (Row o (take i cs)) ⊛ ‵ (Row (i * s + o) (get_or cs i None ∷ drop (suc i) cs))) (cut (take i cs) (get_or cs i None ∷ drop (suc i) cs) o (i * s + o) (before (omega arith))) $
        split ! $ move ! (1 ∷ []) $ fsplit ! $ move ! (2 ∷ 1 ∷ []) $ fjoin ! $ move ! (1 ∷ []) $ done !

    pub slot_in : i < length cs → (c : Place E) → ent 𝓤 (sep 𝓤 (sem 𝓛 (slot (R E) b (i * s + o) c)) (sem 𝓛 Besides)) (sem 𝓛 (Row o (set cs i c)))
    slot_in lt c = qed 𝓛 (‵ (slot (R E) b (i * s + o) c) ∷ ‵ Besides ∷ []) ∵ move ! (1 ∷ []) $ fsplit ! $ move ! (2 ∷ 1 ∷ []) $ fjoin ! $ move ! (1 ∷ 0 ∷ []) $
        use2 𝓛 (‵ (Row o (take i cs ++ c ∷ drop (suc i) cs))) (glue (take i cs) (c ∷ drop (suc i) cs) o (i * s + o) (before (omega arith))) $
        rewrite ! 0 (λ (l : List (Place E)). ‵ (Row o l)) (sym (set_split cs i c lt)) refl $ done !

    module _ (n : ℕ) where
      -- the places except the n from the i-th on
      abbrev pub Around : Fml
      Around = fsep (Row o (take i cs)) (Row (n * s + (i * s + o)) (drop (i + n) cs))

      pub run_out : i + n ≤ length cs → ent 𝓤 (sem 𝓛 (Row o cs)) (sep 𝓤 (sem 𝓛 (Row (i * s + o) (run cs i n))) (sem 𝓛 Around))
      run_out le =
          let part = run cs i n in let long : n ≡ length part = omega (arith, length-take n (drop i cs), length-drop i cs) in
          qed 𝓛 (‵ (Row o cs) ∷ []) ∵
          rewrite ! 0 (λ (l : List (Place E)). ‵ (Row o l)) (sym (take-append-drop i cs) ∙ ap (λ l. take i cs ++ l) (sym (take-append-drop n (drop i cs)) ∙ ap (λ l. part ++ l) (drop-drop n i cs))) refl $
          use1 𝓛 (‵ (Row o (take i cs)) ⊛ ‵ (Row (i * s + o) (part ++ drop (i + n) cs))) (cut (take i cs) (part ++ drop (i + n) cs) o (i * s + o) (before (omega arith))) $ split ! $ move ! (1 ∷ []) $
          use1 𝓛 (‵ (Row (i * s + o) part) ⊛ ‵ (Row (n * s + (i * s + o)) (drop (i + n) cs))) (cut part (drop (i + n) cs) (i * s + o) (n * s + (i * s + o)) (ap (λ k. k * s + (i * s + o)) long)) $
          split ! $ move ! (2 ∷ 1 ∷ []) $ fjoin ! $ move ! (1 ∷ []) $ done !

      pub run_in : i + n ≤ length cs → (ws : List (Place E)) → n ≡ length ws → ent 𝓤 (sep 𝓤 (sem 𝓛 (Row (i * s + o) ws)) (sem 𝓛 Around)) (sem 𝓛 (Row o (spliced cs i n ws)))
      run_in le ws long = qed 𝓛 (‵ (Row (i * s + o) ws) ∷ ‵ Around ∷ []) ∵ move ! (1 ∷ []) $ fsplit ! $ move ! (2 ∷ 1 ∷ []) $
          use2 𝓛 (‵ (Row (i * s + o) (ws ++ drop (i + n) cs))) (glue ws (drop (i + n) cs) (i * s + o) (n * s + (i * s + o)) (ap (λ k. k * s + (i * s + o)) long)) $ move ! (1 ∷ 0 ∷ []) $
          by ! (glue (take i cs) (ws ++ drop (i + n) cs) o (i * s + o) (before (omega arith)))

  to_row : (xs : List (el_x E)) (o : ℕ) → ent 𝓤 (sem 𝓛 (Row o (map Some xs))) (sem 𝓛 (row (R E) full_share xs b o))
  to_row [] o = id⊢ 𝓤 (emp 𝓤)
  to_row (x ∷ xs) o = mono_r 𝓤 (sem 𝓛 (part_at (R E) full_share x b o)) (to_row xs (o + s))

  of_row : (xs : List (el_x E)) (o : ℕ) → ent 𝓤 (sem 𝓛 (row (R E) full_share xs b o)) (sem 𝓛 (Row o (map Some xs)))
  of_row [] o = id⊢ 𝓤 (emp 𝓤)
  of_row (x ∷ xs) o = mono_r 𝓤 (sem 𝓛 (part_at (R E) full_share x b o)) (of_row xs (o + s))

  -- n values side by side are an array
  module _ (o n : ℕ) (xs : List (el_x E)) (long : length xs ≡ n) where
    pub to_values : ent 𝓤 (sem 𝓛 (Row o (map Some xs))) (sem 𝓛 (part_at (Array (R E) n) full_share xs b o))
    to_values = qed 𝓛 (‵ (Row o (map Some xs)) ∷ []) ∵ use1 𝓛 (‵ (row (R E) full_share xs b o)) (to_row xs o) $ by ! (arrays.whole (record { row = E.row; laws = E.laws }) 𝓛 full_share n xs b o long)

    pub of_values : ent 𝓤 (sem 𝓛 (part_at (Array (R E) n) full_share xs b o)) (sem 𝓛 (Row o (map Some xs)))
    of_values = qed 𝓛 (‵ (part_at (Array (R E) n) full_share xs b o) ∷ []) ∵
        use1 𝓛 (given (length xs ≡ n) (‵ (row (R E) full_share xs b o))) (arrays.apart (record { row = E.row; laws = E.laws }) 𝓛 full_share n xs b o) $ learn ! (λ _. by ! (of_row xs o))

  pub of_room : (n o : ℕ) → ent 𝓤 (H.room (ty_array (elτ E) n) b o) (sem 𝓛 (Row o (replicate n None)))
  of_room zero o = qed 𝓛 (‵ (froom (ty_array (elτ E) 0) b o) ∷ []) ∵ keep ! [] $ done !
  of_room (suc n) o = qed 𝓛 (‵ (froom (ty_array (elτ E) (suc n)) b o) ∷ []) ∵
      use1 𝓛 (‵ (froom (elτ E) b o) ⊛ ‵ (froom (ty_array (elτ E) n) b (o + s))) (𝓛.laws.room_uncons (elτ E) n b o) $ split ! $
      use1 𝓛 (‵ (slot (R E) b o None)) (𝓛.laws.room-raw (elτ E) b o) $ frame ! $ by ! (of_room n (o + s))

  -- a place is room, whether or not it holds a value
  emptied : (c : Place E) (o : ℕ) → ent 𝓤 (sem 𝓛 (slot (R E) b o c)) (H.room (elτ E) b o)
  emptied None o = 𝓛.laws.raw-room (elτ E) b o
  emptied (Some x) o = qed 𝓛 (‵ (part_at (R E) full_share x b o) ∷ []) ∵
      use1 𝓛 (some (λ (v : Val). given (Good (elτ E) v) (‵ (fat full_share (elτ E) b o v) ⊛ ‵ (E.row.own_val x (v ∷ []))))) (value_out 0 E.row E.laws 𝓛 x b o) $
      pick ! (λ v. learn ! (λ good. split ! $ keep ! (0 ∷ []) $ by ! (𝓛.laws.at_room (elτ E) b o v)))

  pub to_room : (cs : List (Place E)) (o : ℕ) → ent 𝓤 (sem 𝓛 (Row o cs)) (H.room (ty_array (elτ E) (length cs)) b o)
  to_room [] o = 𝓛.laws.room_nil (elτ E) b o
  to_room (c ∷ cs) o = qed 𝓛 (‵ (slot (R E) b o c) ∷ ‵ (Row (o + s) cs) ∷ []) ∵
      use1 𝓛 (‵ (froom (elτ E) b o)) (emptied c o) $ move ! (1 ∷ []) $
      use1 𝓛 (‵ (froom (ty_array (elτ E) (length cs)) b (o + s))) (to_room cs (o + s)) $ move ! (1 ∷ []) $ by ! (𝓛.laws.room_cons (elτ E) (length cs) b o)

  module _ (κ : Lft) where
    abbrev Seen : ℕ → List (Place E) → Fml
    Seen o cs = slots_lent (R E) b o cs κ

    from_on : (cs : List (Place E)) (i o at : ℕ) → i ≤ length cs → at ≡ i * s + o → ent 𝓤 (sem 𝓛 (Seen o cs)) (sem 𝓛 (Seen at (drop i cs)))
    from_on cs zero o at le e = let same : o ≡ at = omega (arith, zero-mul s) in subst (λ k. ent 𝓤 (sem 𝓛 (Seen o cs)) (sem 𝓛 (Seen k cs))) same (id⊢ 𝓤 _)
    from_on [] (suc i) o at le e = absurd (omega arith)
    from_on (c ∷ cs) (suc i) o at le e =
        via 𝓤 (sem 𝓛 (Seen (o + s) cs)) (snd∗ 𝓤 (sem 𝓛 (slot_lent (R E) b o c κ)) (sem 𝓛 (Seen (o + s) cs))) (from_on cs i (o + s) at (omega arith) (omega (arith, suc-mul i s)))

    pub slot_seen : (o : ℕ) (cs : List (Place E)) (i : ℕ) → i < length cs → ent 𝓤 (sem 𝓛 (Seen o cs)) (sem 𝓛 (slot_lent (R E) b (i * s + o) (get_or cs i None) κ))
    slot_seen o cs i lt = qed 𝓛 (‵ (Seen o cs) ∷ []) ∵ use1 𝓛 (‵ (Seen (i * s + o) (drop i cs))) (from_on cs i o (i * s + o) (omega arith) refl) $
        rewrite ! 0 (λ (l : List (Place E)). ‵ (Seen (i * s + o) l)) (drop-cons cs i None lt) refl $ fsplit ! $ keep ! (0 ∷ []) $ done !
