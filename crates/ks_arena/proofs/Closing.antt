-- The list of passes, as it is made and as it is joined.
use Rattle.std.proofs.Common.{map, ◌≡◌, ℕ, zero, suc, ◌+◌, ◌^◌, ◌<◌, ◌⊎◌, cond, eqb, max, List, [], ◌∷◌, ◌++◌, length, sym, refl, ap, ◌∙◌, subst, inl, inr, ⊎_elim, arith, length-append}
use Rattle.std.specs.Prelude.{Option, Some}
use mathlib.Core.Option.{some, some-injective, some-ne-none}
use mathlib.Core.Logic.{dite}
use native.Mathlib.Decide.{ℕ_discrete}
use lib.ListN.{get_elem?}
use Rattle.atomic_table.specs.Seated.{TableId}
use Rattle.atomic_table.specs.Table.{Step}
use Rattle.atomic_table.specs.declared.shared.Seat.{Seat}
use Rattle.atomic_table.proofs.Lists.{at_snoc, at_longer, at_last}
use Rattle.ks_keysets.specs.declared.Frame.{Frame}
use Rattle.ks_keysets.specs.declared.NodeState.{NodeState}
use Rattle.ks_keysets.specs.declared.Change.{Change}
use Rattle.ks_history.specs.declared.Event.{Event}
use Rattle.ks_history.specs.Own.{hand}
use Rattle.ks_history.specs.Trace.{free, idle, held, turn_after}
use Rattle.ks_history.specs.Passes.{Has}
use Rattle.ks_history.specs.Callers.{CallersBelow}
use Rattle.ks_history.specs.Laws.Stays.{cond_here, cond_else, others_turn}
use Rattle.ks_history.specs.Laws.Hand.{held_in_hand}
use Rattle.ks_history.specs.Laws.Begins.{none_by}
use Rattle.ks_node.specs.Body.{Body, blank_body}
use Rattle.ks_arena.specs.declared.held.Pass.{Pass}
use Rattle.ks_arena.specs.declared.view.Mark.TheVariants.{Quiet}
use Rattle.ks_arena.specs.declared.view.Part.{Part}
use Rattle.ks_arena.specs.declared.view.View.{View}
use Rattle.ks_arena.specs.Sound.{Sort, blank_of, Sound}
use Rattle.ks_arena.specs.Rule.{Fits, FitsAll, callers_in, all_callers, part_of, both_views, AllBlank}
use Rattle.ks_arena.specs.Plays.{Seated, Carries, gathered}
use Rattle.ks_arena.specs.Clauses.{IsNewPass, IsNewCrew, IsCrew, EndsAll}
use Rattle.ks_arena.proofs.Bits.{inside}
use Rattle.ks_arena.proofs.Seen.{has_left, has_right}

there : {A : Type 0} (l : List A) (i : ℕ) → i < length l → (a : A) × (get_elem? l i ≡ some a)
there [] i h = absurd (omega arith)
there (x ∷ xs) zero h = (x, refl)
there (x ∷ xs) (suc i) h = there xs i (omega arith)

maxes : (n a b m : ℕ) → m ≡ max a b → (a ≡ 0) ⊎ (a ≡ n) → (b ≡ 0) ⊎ (b ≡ n) → (m ≡ 0) ⊎ (m ≡ n)
maxes n a b m e (inl x) (inl y) = inl (omega arith)
maxes n a b m e (inl x) (inr y) = inr (omega arith)
maxes n a b m e (inr x) (inl y) = inr (omega arith)
maxes n a b m e (inr x) (inr y) = inr (omega arith)

max_right : (n a b m : ℕ) → m ≡ max a b → (a ≡ 0) ⊎ (a ≡ n) → b ≡ n → m ≡ n
max_right n a b m e (inl x) y = omega arith
max_right n a b m e (inr x) y = omega arith

max_left : (n a b m : ℕ) → m ≡ max a b → a ≡ n → (b ≡ 0) ⊎ (b ≡ n) → m ≡ n
max_left n a b m e x (inl y) = omega arith
max_left n a b m e x (inr y) = omega arith

abbrev pub fresh : ℕ → ℕ → View
fresh c m = record { callers = c ∷ []; seen = []; absorbed = []; made = m; mark = Quiet }

pub more_blank : {N : Type 0} (sort : Sort) (shows : N → Body) (xs : List (Option N)) (b : N) → AllBlank sort shows xs → shows b ≡ blank_body sort.ranged → AllBlank sort shows (xs ++ Some b ∷ [])
more_blank sort shows xs b so is i near = dite (ℕ_discrete i (length xs)) (λ e. (b, ap (get_elem? (xs ++ Some b ∷ [])) e ∙ at_last xs (Some b) (length xs) refl, is))
    (λ ne. let n : i < length xs = let l = length-append xs (Some b ∷ []) in omega arith in let x = so i n in (x.0, at_longer xs (Some b ∷ []) i (Some x.0) x.1, x.2))

pub none_blank : {N : Type 0} (sort : Sort) (shows : N → Body) (xs : List (Option N)) → xs ≡ [] → AllBlank sort shows xs
none_blank sort shows xs e i near = let l : length xs ≡ 0 = ap length e in absurd (omega arith)

pub carries_none : {N : Type 0} (n c : ℕ) → Carries {N = N} n [] c []
carries_none n c = record { hands = tt; all = λ i e. dite (ℕ_discrete i 0) (λ z. let f : idle ≡ held c = sym (cond_here i 0 idle free z) ∙ e in absurd (let q : ⊥ = cc in q)) (λ z. let f : free ≡ held c = sym (cond_else i 0 idle free z) ∙ e in absurd (let q : ⊥ = cc in q)) }

no_slots : {S : Type 0} (xs : List (ℕ × S)) → map (λ x. x.0) xs ≡ [] → xs ≡ []
no_slots {S = S} [] e = refl
no_slots {S = S} (x ∷ xs) e = absurd (let l : suc (length (map (λ (y : ℕ × S). y.0) xs)) ≡ 0 = ap length e in omega arith)

module _ {N D : Type 0} (sort : Sort) (begins : Frame → Type 0) (asks : (ℕ → NodeState) → (ℕ → Frame) → List Change → Type 0) where
  abbrev pub IsNew : TableId → ℕ → ℕ → Pass N D → Type 0
  IsNew t n c p = IsNewPass sort begins asks t n c p

  -- the passes after the first, so far
  abbrev pub Later : TableId → ℕ → List (Pass N D) → Type 0
  Later t n ps = (j : ℕ) (p : Pass N D) → get_elem? ps j ≡ some p → IsNew t n (j + 1) p

  -- a pass whose seat has the fresh view
  pub is_new : (t : TableId) (n c m : ℕ) (p : Pass N D) → begins (blank_of sort) → c < 2 ^ 32 → c < n → p.seat.table_id ≡ t → p.seat.me ≡ (fresh c m, []) → p.caller ≡ c → m ≡ cond (eqb c 0) n 0 → IsNew t n c p
  is_new t n c m p fits few low table is own made = record {
    pass = record {
      table = table;
      bare = ap (λ z. z.0.absorbed) is;
      few = subst (λ (z : ℕ). z < 2 ^ 32) (sym own) few;
      low = subst (λ (z : ℕ). z < n) (sym own) low;
      own = ap (λ z. z.0.callers) is ∙ ap (λ (z : ℕ). z ∷ []) (sym own);
      carries = subst (λ z. Carries t.slots z.0.seen p.caller z.1) (sym is) (carries_none t.slots p.caller);
      made = ap (λ z. z.0.made) is ∙ made ∙ ap (λ (z : ℕ). cond (eqb z 0) n 0) (sym own);
      known = λ some_made. subst (λ z. CallersBelow z.0.made z.0.seen) (sym is) tt;
      slots = ap (λ z. map (λ x. x.0) z.1) is ∙ ap (λ z. hand p.caller z.0.seen) (sym is);
      mark = ap (λ z. z.0.mark) is;
      sound = subst (λ z. Sound sort begins asks t.slots z.0.seen) (sym is) fits;
    };
    caller = own;
    seen = ap (λ z. z.0.seen) is;
  }

  pub none_later : (t : TableId) (n : ℕ) (ps : List (Pass N D)) → ps ≡ [] → Later t n ps
  none_later t n ps e j p at = absurd (some-ne-none p (sym at ∙ ap (λ (z : List (Pass N D)). get_elem? z j) e))

  pub one_later : (t : TableId) (n : ℕ) (ps : List (Pass N D)) (p : Pass N D) → Later t n ps → IsNew t n (length ps + 1) p → Later t n (ps ++ p ∷ [])
  one_later t n ps p so new j q e = dite (ℕ_discrete j (length ps))
      (λ x. subst (IsNew t n (j + 1)) (some-injective p q (sym (at_last ps p j (sym x)) ∙ e)) (subst (λ (z : ℕ). IsNew t n (z + 1) p) (sym x) new))
      (λ x. ⊎_elim (λ old. so j q old) (λ _. let l = length-append ps (p ∷ []) in let near : j < length (ps ++ p ∷ []) = inside (ps ++ p ∷ []) j q e in let low : j < length ps = omega arith in let y = there ps j low in so j q (y.1 ∙ (sym (at_longer ps (p ∷ []) j y.0 y.1) ∙ e))) (at_snoc ps p q j e))

  crew_at : (t : TableId) (n : ℕ) (ps : List (Pass N D)) (p : Pass N D) → Later t n ps → IsNew t n 0 p → (j : ℕ) (q : Pass N D) → get_elem? (p ∷ ps) j ≡ some q → IsNew t n j q
  crew_at t n ps p so new zero q e = subst (IsNew t n 0) (some-injective p q e) new
  crew_at t n ps p so new (suc j) q e = let o : IsNew t n (j + 1) q = so j q e in let k : j + 1 ≡ suc j = omega arith in subst (λ (z : ℕ). IsNew t n z q) k o

  pub whole_crew : (t : TableId) (n : ℕ) (ps : List (Pass N D)) (p : Pass N D) → length ps + 1 ≡ n → Later t n ps → IsNew t n 0 p → IsNewCrew sort begins asks t n (p ∷ ps)
  whole_crew t n ps p long so new = record { long = let l : length (p ∷ ps) ≡ suc (length ps) = refl in omega arith; each = crew_at t n ps p so new }

  pub InParts : Pass N D → List Part → Type 0
  InParts p [] = ⊥
  InParts p (q ∷ qs) = (part_of p.seat.me.0 ≡ q) ⊎ InParts p qs

  fits_among : (h : List Event) (p : Pass N D) (qs : List Part) → FitsAll h qs → InParts p qs → Fits h p.seat.me.0.callers p.seat.me.0.seen
  unfolding InParts
  fits_among h p [] all a = absurd a
  fits_among h p (q ∷ qs) all (inl e) = subst (λ (z : Part). Fits h z.callers z.seen) (sym e) all.0
  fits_among h p (q ∷ qs) all (inr a) = fits_among h p qs all.1 a

  has_among : (p : Pass N D) (c : ℕ) (qs : List Part) → p.seat.me.0.callers ≡ c ∷ [] → InParts p qs → Has (callers_in qs) c
  unfolding InParts
  has_among p c [] own a = absurd a
  has_among p c (q ∷ qs) own (inl e) = has_left q.callers (callers_in qs) c (subst (λ (z : Part). Has z.callers c) e (subst (λ (z : List ℕ). Has z c) (sym own) (inl refl)))
  has_among p c (q ∷ qs) own (inr a) = has_right q.callers (callers_in qs) c (has_among p c qs own a)

  -- the view has what the pass had
  pub Inside : Pass N D → View → Type 0
  Inside p v = (part_of p.seat.me.0 ≡ part_of v) ⊎ InParts p v.absorbed

  pub record Joining (t : TableId) (n : ℕ) (o r : List (Pass N D)) (base : Seat (Option N) View) : Type 0 where
    pub table : base.table_id ≡ t
    pub bare : base.me.1 ≡ []
    pub left : (j : ℕ) (p : Pass N D) → get_elem? r j ≡ some p → get_elem? o j ≡ some p
    pub taken : (j : ℕ) (p : Pass N D) → get_elem? o j ≡ some p → (get_elem? r j ≡ some p) ⊎ Inside p base.me.0
    pub made : (base.me.0.made ≡ 0) ⊎ (base.me.0.made ≡ n)
    pub maker : (j : ℕ) (p : Pass N D) → get_elem? o j ≡ some p → p.caller ≡ 0 → (get_elem? r j ≡ some p) ⊎ (base.me.0.made ≡ n)

  made_is : (n : ℕ) (p : Pass N D) → p.seat.me.0.made ≡ cond (eqb p.caller 0) n 0 → ((p.seat.me.0.made ≡ 0) ⊎ (p.seat.me.0.made ≡ n)) × (p.caller ≡ 0 → p.seat.me.0.made ≡ n)
  made_is n p e = (dite (ℕ_discrete p.caller 0) (λ z. inr (e ∙ cond_here p.caller 0 n 0 z)) (λ z. inl (e ∙ cond_else p.caller 0 n 0 z)), λ z. e ∙ cond_here p.caller 0 n 0 z)

  -- the first pass is the seat that takes the others in
  pub begins_joining : (t : TableId) (n : ℕ) (o r : List (Pass N D)) (p : Pass N D) → IsCrew sort begins asks t n o → o ≡ r ++ p ∷ [] → Joining t n o r p.seat
  unfolding Inside
  begins_joining t n o r p crew is = let last : get_elem? o (length r) ≡ some p = ap (λ (z : List (Pass N D)). get_elem? z (length r)) is ∙ at_last r p (length r) refl in let so = crew.each (length r) p last in let m = made_is n p so.0.made in record {
    table = so.0.table;
    bare = no_slots p.seat.me.1 (so.0.slots ∙ so.1);
    left = λ j q e. ap (λ (z : List (Pass N D)). get_elem? z j) is ∙ at_longer r (p ∷ []) j q e;
    taken = λ j q e. ⊎_elim (λ a. inl a) (λ a. inr (inl (ap (λ (z : Pass N D). part_of z.seat.me.0) (sym a)))) (at_snoc r p q j (sym (ap (λ (z : List (Pass N D)). get_elem? z j) is) ∙ e));
    made = m.0;
    maker = λ j q e zero. ⊎_elim (λ a. inl a) (λ a. inr (m.1 (ap (λ (z : Pass N D). z.caller) a ∙ zero))) (at_snoc r p q j (sym (ap (λ (z : List (Pass N D)). get_elem? z j) is) ∙ e));
  }

  parts_right : (p : Pass N D) (ps qs : List Part) → InParts p qs → InParts p (ps ++ qs)
  unfolding InParts
  parts_right p [] qs a = a
  parts_right p (x ∷ ps) qs a = inr (parts_right p ps qs a)

  parts_left : (p : Pass N D) (ps qs : List Part) → InParts p ps → InParts p (ps ++ qs)
  unfolding InParts
  parts_left p [] qs a = absurd a
  parts_left p (x ∷ ps) qs (inl e) = inl e
  parts_left p (x ∷ ps) qs (inr a) = inr (parts_left p ps qs a)

  -- the last of the passes that are left is taken in
  pub takes_in : (t : TableId) (n : ℕ) (o r s : List (Pass N D)) (p : Pass N D) (base now : Seat (Option N) View) → IsCrew sort begins asks t n o → Joining t n o r base → r ≡ s ++ p ∷ [] → now.table_id ≡ base.table_id → now.me ≡ (both_views base.me.0 p.seat.me.0, base.me.1) → Joining t n o s now
  unfolding Inside InParts
  takes_in t n o r s p base now crew so is table then = let v : View = base.me.0 in let w : View = p.seat.me.0 in let last : get_elem? r (length s) ≡ some p = ap (λ (z : List (Pass N D)). get_elem? z (length s)) is ∙ at_last s p (length s) refl in
      let got = crew.each (length s) p (so.left (length s) p last) in let m = made_is n p got.0.made in let view : now.me.0 ≡ both_views v w = ap (λ z. z.0) then in let count : now.me.0.made ≡ max v.made w.made = ap (λ (z : View). z.made) view in
      let back : (j : ℕ) (q : Pass N D) → get_elem? r j ≡ some q → (get_elem? s j ≡ some q) ⊎ (p ≡ q) = λ j q e. at_snoc s p q j (sym (ap (λ (z : List (Pass N D)). get_elem? z j) is) ∙ e) in record {
        table = table ∙ so.table;
        bare = ap (λ z. z.1) then ∙ so.bare;
        left = λ j q e. so.left j q (ap (λ (z : List (Pass N D)). get_elem? z j) is ∙ at_longer s (p ∷ []) j q e);
        taken = λ j q e. ⊎_elim (λ a. ⊎_elim (λ b. inl b) (λ b. inr (subst (Inside q) (sym view) (inr (parts_right q v.absorbed (part_of w ∷ w.absorbed) (inl (ap (λ (z : Pass N D). part_of z.seat.me.0) (sym b))))))) (back j q a))
            (λ a. inr (subst (Inside q) (sym view) (⊎_elim (λ b. inl b) (λ b. inr (parts_left q v.absorbed (part_of w ∷ w.absorbed) b)) a))) (so.taken j q e);
        made = maxes n v.made w.made now.me.0.made count so.made m.0;
        maker = λ j q e zero. ⊎_elim (λ a. ⊎_elim (λ b. inl b) (λ b. inr (max_right n v.made w.made now.me.0.made count so.made (m.1 (ap (λ (z : Pass N D). z.caller) b ∙ zero)))) (back j q a)) (λ a. inr (max_left n v.made w.made now.me.0.made count a m.0)) (so.maker j q e zero);
      }

  pub fits_inside : (h : List Event) (v : View) (p : Pass N D) → Fits h v.callers v.seen → FitsAll h v.absorbed → Inside p v → Fits h p.seat.me.0.callers p.seat.me.0.seen
  unfolding Inside
  fits_inside h v p f all (inl e) = subst (λ (z : Part). Fits h z.callers z.seen) (sym e) record { rest = f.rest; is = f.is; others = f.others }
  fits_inside h v p f all (inr a) = fits_among h p v.absorbed all a

  pub has_inside : (v : View) (p : Pass N D) (c : ℕ) → p.seat.me.0.callers ≡ c ∷ [] → Inside p v → Has (all_callers v) c
  unfolding Inside
  has_inside v p c own (inl e) = has_left v.callers (callers_in v.absorbed) c (subst (λ (z : Part). Has z.callers c) e (subst (λ (z : List ℕ). Has z c) (sym own) (inl refl)))
  has_inside v p c own (inr a) = has_right v.callers (callers_in v.absorbed) c (has_among p c v.absorbed own a)

  pub emptied : (r : List (Pass N D)) → length r ≡ 0 → r ≡ []
  emptied [] e = refl
  emptied (x ∷ r) e = absurd (omega arith)

  nowhere : (j : ℕ) (p : Pass N D) → ¬ (get_elem? [] j ≡ some p)
  nowhere j p e = some-ne-none p (sym e)

  -- what the seat that took in all passes knows
  pub record Ended (n nodes : ℕ) (o : List (Pass N D)) (v : View) : Type 0 where
    pub made : v.made ≡ n
    pub all : (c : ℕ) → c < n → Has v.callers c
    pub quiet : (c i : ℕ) → c < n → ¬ (turn_after v.seen i ≡ held c)
    pub ends : EndsAll v.seen o

  pub ended : (shows : N → Body) (st : Step (Option N)) (t : TableId) (n nodes : ℕ) (o r : List (Pass N D)) (base : Seat (Option N) View) (m : Seated N) → 0 < n → IsCrew sort begins asks t n o → Joining t n o r base → r ≡ [] → gathered sort begins asks shows st base.me m → Ended n nodes o m.0
  ended shows st t n nodes o r base m pos crew so none_left got = let v : View = base.me.0 in let h : List Event = m.0.seen in let gone : (j : ℕ) (p : Pass N D) → ¬ (get_elem? r j ≡ some p) = λ j p e. nowhere j p (sym (ap (λ (z : List (Pass N D)). get_elem? z j) none_left) ∙ e) in
      let within : (j : ℕ) (p : Pass N D) → get_elem? o j ≡ some p → Inside p v = λ j p e. ⊎_elim (λ a. absurd (gone j p a)) (λ b. b) (so.taken j p e) in
      let ends : EndsAll h o = λ j p e. let f = fits_inside h v p got.2 got.3 (within j p e) in record { rest = f.rest; is = f.is; others = none_by p.seat.me.0.callers f.rest p.caller f.others (subst (λ (z : List ℕ). Has z p.caller) (sym (crew.each j p e).0.own) (inl refl)) } in record {
        made = let f = crew.all 0 pos in ap (λ (z : View). z.made) got.1 ∙ ⊎_elim (λ a. absurd (gone f.0 f.1 a)) (λ b. b) (so.maker f.0 f.1 f.2 f.3);
        all = λ c low. let f = crew.all c low in let p = crew.each f.0 f.1 f.2 in subst (λ (z : View). Has z.callers c) (sym got.1) (has_inside v f.1 c (p.0.own ∙ ap (λ (z : ℕ). z ∷ []) f.3) (within f.0 f.1 f.2));
        quiet = λ c i low now. let f = crew.all c low in let p = crew.each f.0 f.1 f.2 in let e = ends f.0 f.1 f.2 in
            let then : turn_after f.1.seat.me.0.seen i ≡ held f.1.caller = others_turn e.rest f.1.seat.me.0.seen f.1.caller i e.others (subst (λ (z : List Event). turn_after z i ≡ held f.1.caller) e.is (now ∙ ap held (sym f.3))) in
            subst (λ (z : List ℕ). Has z i) p.1 (held_in_hand f.1.seat.me.0.seen f.1.caller i then);
        ends = ends;
      }

  -- the last of the passes that are left fits the table and holds nothing
  pub next_in : (t : TableId) (n : ℕ) (o r s : List (Pass N D)) (p : Pass N D) (base : Seat (Option N) View) → IsCrew sort begins asks t n o → Joining t n o r base → r ≡ s ++ p ∷ [] → (p.seat.table_id ≡ t) × (p.seat.me.1 ≡ []) × (p.seat.me.0.mark ≡ Quiet)
  next_in t n o r s p base crew so is = let got = crew.each (length s) p (so.left (length s) p (ap (λ (z : List (Pass N D)). get_elem? z (length s)) is ∙ at_last s p (length s) refl)) in (got.0.table, no_slots p.seat.me.1 (got.0.slots ∙ got.1), got.0.mark)
