-- The desks of a table, as they are made and as they come together again.
use Rattle.std.proofs.Common.{zero, suc, ◌≡◌, ◌≢◌, ℕ, ◌+◌, ◌-◌, ◌<◌, List, [], ◌∷◌, ◌++◌, length, length-append, sym, refl, ap, ◌∙◌, subst, ⊎_elim, arith}
use Rattle.std.specs.Prelude.{Option}
use Rattle.std.specs.List.{insert}
use mathlib.Core.Option.{some, some-injective, some-ne-none}
use mathlib.Core.Logic.{dite}
use Rattle.std.proofs.Math.Decide.{dec_lt}
use lib.ListN.{get_elem?}
use Rattle.atomic_table.specs.Seated.{TableId}
use Rattle.atomic_table.specs.declared.shared.Seat.{Seat}
use Rattle.atomic_table.proofs.Lists.{at_snoc, at_longer, at_last}
use Rattle.ks_tickets.specs.declared.desk.Desk.{Desk}
use Rattle.ks_tickets.specs.declared.view.View.{View}
use Rattle.ks_tickets.specs.Rule.{total, first_view, maker_view, next_view, both_views}
use Rattle.ks_tickets.specs.Clauses.{parts_of, view_of, IsFreeAt, HasEndedAt, AreFreeAt, HaveEndedAt, AreNumbered}
use Rattle.ks_tickets.proofs.Totals.{total_append}

abbrev pub fresh : ℕ → ℕ → View
fresh p n = record { parts = p; ended = 0; known = 0; desks = 0 ∷ []; made = n + 1; drawn = []; held = [] }

module _ {A : Type 0} where
  at_shorter : (xs ys : List A) (i : ℕ) → i < length xs → get_elem? (xs ++ ys) i ≡ get_elem? xs i
  at_shorter [] ys i lt = absurd (omega (arith, lt))
  at_shorter (x ∷ xs) ys zero lt = refl
  at_shorter (x ∷ xs) ys (suc i) lt = at_shorter xs ys i (omega (arith, lt))

  index_last : (xs : List A) (x : A) (i : ℕ) (y : A) → get_elem? (xs ++ x ∷ []) i ≡ some y → ¬ (i < length xs) → i ≡ length xs
  index_last [] x zero y e far = refl
  index_last [] x (suc i) y e far = absurd (some-ne-none y (sym e))
  index_last (z ∷ xs) x zero y e far = absurd (far (omega arith))
  index_last (z ∷ xs) x (suc i) y e far = ap suc (index_last xs x i y e (λ lt. far (omega (arith, lt))))

module _ {J : Type 0} where
  -- the desks made so far, and the seat that makes them
  pub record Made (t : TableId) (ds : List (Desk J)) (maker : Seat (Option J) View) : Type 0 where
    pub table : maker.table_id ≡ t
    pub me : maker.me ≡ (fresh (64 - length ds) (length ds), [])
    pub each : (i : ℕ) (d : Desk J) → get_elem? ds i ≡ some d → IsFreeAt t d
    pub numbers : (i : ℕ) (d : Desk J) → get_elem? ds i ≡ some d → (view_of d).desks ≡ suc i ∷ []
    pub all : total parts_of ds ≡ length ds

  pub none_made : (t : TableId) (ds : List (Desk J)) (maker : Seat (Option J) View) → ds ≡ [] → maker.table_id ≡ t → maker.me ≡ (first_view, []) → Made t ds maker
  none_made t ds maker none_yet table me = record {
    table = table;
    me = me ∙ ap (λ (z : List (Desk J)). (fresh (64 - length z) (length z), [])) (sym none_yet);
    each = λ i d e. absurd (some-ne-none d (sym e ∙ ap (λ (z : List (Desk J)). get_elem? z i) none_yet));
    numbers = λ i d e. absurd (some-ne-none d (sym e ∙ ap (λ (z : List (Desk J)). get_elem? z i) none_yet));
    all = ap (λ (z : List (Desk J)). total parts_of z) none_yet ∙ ap length (sym none_yet);
  }

  free : (t : TableId) (d : Desk J) (v : View) → 0 < v.parts → v.ended ≡ 0 → v.held ≡ [] → d.seat.table_id ≡ t → d.seat.me ≡ (v, []) → IsFreeAt t d
  free t d v some_part goes closed table me = record { table = table; some_part = subst (λ z. 0 < z.0.parts) (sym me) some_part; goes_on = ap (λ z. z.0.ended) me ∙ goes; closed = ap (λ z. z.0.held) me ∙ closed; bare = ap (λ z. z.1) me }

  each_more : (P : Desk J → Type 0) (ds : List (Desk J)) (d : Desk J) → ((i : ℕ) (x : Desk J) → get_elem? ds i ≡ some x → P x) → P d → (i : ℕ) (x : Desk J) → get_elem? (ds ++ d ∷ []) i ≡ some x → P x
  each_more P ds d so last i x e = ⊎_elim (λ a. so i x a) (λ a. subst P a last) (at_snoc ds d x i e)

  numbered_more : (ds : List (Desk J)) (d : Desk J) → ((i : ℕ) (x : Desk J) → get_elem? ds i ≡ some x → (view_of x).desks ≡ suc i ∷ []) → (view_of d).desks ≡ suc (length ds) ∷ []
      → (i : ℕ) (x : Desk J) → get_elem? (ds ++ d ∷ []) i ≡ some x → (view_of x).desks ≡ suc i ∷ []
  numbered_more ds d so last i x e = dite (dec_lt i (length ds))
      (λ lt. so i x (sym (at_shorter ds (d ∷ []) i lt) ∙ e))
      (λ far. let n : i ≡ length ds = index_last ds d i x e far in let is : d ≡ x = some-injective d x (sym (at_last ds d i (sym n)) ∙ e) in
      subst (λ (z : Desk J). (view_of z).desks ≡ suc i ∷ []) is (last ∙ ap (λ (z : ℕ). suc z ∷ []) (sym n)))

  one_more : (ds : List (Desk J)) (d : Desk J) → length (ds ++ d ∷ []) ≡ length ds + 1
  one_more ds d = length-append ds (d ∷ [])

  total_more : (ds : List (Desk J)) (d : Desk J) → total parts_of (ds ++ d ∷ []) ≡ total parts_of ds + parts_of d
  total_more ds d = let a = total_append parts_of ds (d ∷ []) in omega arith

  pub more_made : (t : TableId) (ds : List (Desk J)) (maker now : Seat (Option J) View) (d : Desk J) → Made t ds maker → now.table_id ≡ maker.table_id → now.me ≡ (maker_view maker.me.0, maker.me.1) → d.seat.table_id ≡ maker.table_id → d.seat.me ≡ (next_view maker.me.0, []) → Made t (ds ++ d ∷ []) now
  more_made t ds maker now d so table me table' me' = let long = one_more ds d in let long' : length ds + 1 ≡ length (ds ++ d ∷ []) = sym long in let parts : 64 - length ds - 1 ≡ 64 - length (ds ++ d ∷ []) = omega arith in record {
    table = table ∙ so.table;
    me = me ∙ ap (λ m. (maker_view m.0, m.1)) so.me ∙ (λ k. (fresh (parts k) (long' k), []));
    each = each_more (IsFreeAt t) ds d so.each (free t d (next_view maker.me.0) (omega arith) refl refl (table' ∙ so.table) me');
    numbers = let next : length ds + 1 ≡ suc (length ds) = omega arith in numbered_more ds d so.numbers (ap (λ z. z.0.desks) me' ∙ ap (λ m. m.0.made ∷ []) so.me ∙ ap (λ (z : ℕ). z ∷ []) next);
    all = let a = total_more ds d in let b = so.all in let p : parts_of d ≡ 1 = ap (λ z. z.0.parts) me' in omega arith;
  }

  pub inserted : (ds : List (Desk J)) (d : Desk J) → insert ds 0 d ≡ d ∷ ds
  inserted [] d = refl
  inserted (x ∷ xs) d = refl

  each_first : (P : ℕ → Desk J → Type 0) (d : Desk J) (ds : List (Desk J)) → P 0 d → ((i : ℕ) (x : Desk J) → get_elem? ds i ≡ some x → P (suc i) x) → (i : ℕ) (x : Desk J) → get_elem? (d ∷ ds) i ≡ some x → P i x
  each_first P d ds first so zero x e = subst (P 0) (some-injective d x e) first
  each_first P d ds first so (suc i) x e = so i x e

  pub all_made : (t : TableId) (ds : List (Desk J)) (maker : Seat (Option J) View) (d : Desk J) → length ds < 64 → Made t ds maker → d.seat ≡ maker → AreFreeAt t (d ∷ ds)
  all_made t ds maker d few so is = let me : d.seat.me ≡ (fresh (64 - length ds) (length ds), []) = ap (λ z. z.me) is ∙ so.me in record {
    each = each_first (λ _ x. IsFreeAt t x) d ds (free t d (fresh (64 - length ds) (length ds)) (omega arith) refl refl (ap (λ z. z.table_id) is ∙ so.table) me) so.each;
    all = let b = so.all in let p : parts_of d ≡ 64 - length ds = ap (λ z. z.0.parts) me in omega arith;
  }

  pub all_numbered : (t : TableId) (ds : List (Desk J)) (maker : Seat (Option J) View) (d : Desk J) → Made t ds maker → d.seat ≡ maker → AreNumbered (d ∷ ds)
  all_numbered t ds maker d so is = each_first (λ i x. (view_of x).desks ≡ i ∷ []) d ds (ap (λ z. z.me.0.desks) is ∙ ap (λ m. m.0.desks) so.me) so.numbers

  -- the desks that are left, and the seat that took the others in
  pub record Joining (t : TableId) (ds : List (Desk J)) (base : Seat (Option J) View) : Type 0 where
    pub table : base.table_id ≡ t
    pub bare : base.me.1 ≡ []
    pub some_part : 0 < base.me.0.parts
    pub all : base.me.0.parts + total parts_of ds ≡ 64
    pub ended : base.me.0.ended ≢ 0
    pub closed : base.me.0.held ≡ []
    pub each : (i : ℕ) (d : Desk J) → get_elem? ds i ≡ some d → HasEndedAt t d

  last_of : (t : TableId) (o r : List (Desk J)) (d : Desk J) → o ≡ r ++ d ∷ [] → ((i : ℕ) (x : Desk J) → get_elem? o i ≡ some x → HasEndedAt t x) → HasEndedAt t d
  last_of t o r d is each = each (length r) d (ap (λ (z : List (Desk J)). get_elem? z (length r)) is ∙ at_last r d (length r) refl)

  rest_of : (t : TableId) (o r : List (Desk J)) (d : Desk J) → o ≡ r ++ d ∷ [] → ((i : ℕ) (x : Desk J) → get_elem? o i ≡ some x → HasEndedAt t x) → (i : ℕ) (x : Desk J) → get_elem? r i ≡ some x → HasEndedAt t x
  rest_of t o r d is each i x e = each i x (ap (λ (z : List (Desk J)). get_elem? z i) is ∙ at_longer r (d ∷ []) i x e)

  pub begins_joining : (t : TableId) (o r : List (Desk J)) (d : Desk J) → HaveEndedAt t o → o ≡ r ++ d ∷ [] → Joining t r d.seat
  begins_joining t o r d so is = let x = last_of t o r d is so.each in record { table = x.table; bare = x.bare; some_part = x.some_part; all = (let a = so.all in let b = ap (λ (z : List (Desk J)). total parts_of z) is in let e = total_more r d in omega arith); ended = x.ended; closed = x.closed; each = rest_of t o r d is so.each }

  pub next_in : (t : TableId) (o r : List (Desk J)) (d : Desk J) (base : Seat (Option J) View) → Joining t o base → o ≡ r ++ d ∷ [] → HasEndedAt t d
  next_in t o r d base so is = last_of t o r d is so.each

  pub takes_in : (t : TableId) (o r : List (Desk J)) (d : Desk J) (base now : Seat (Option J) View) → Joining t o base → o ≡ r ++ d ∷ [] → now.table_id ≡ base.table_id → now.me ≡ (both_views base.me.0 d.seat.me.0, base.me.1) → Joining t r now
  takes_in t o r d base now so is table me = let x = last_of t o r d is so.each in let parts : now.me.0.parts ≡ base.me.0.parts + parts_of d = ap (λ m. m.0.parts) me in let ends : now.me.0.ended ≡ base.me.0.ended + d.seat.me.0.ended = ap (λ m. m.0.ended) me in record {
    table = table ∙ so.table;
    bare = ap (λ m. m.1) me ∙ so.bare;
    some_part = (let p = so.some_part in omega arith);
    all = (let a = so.all in let b = ap (λ (z : List (Desk J)). total parts_of z) is in let e = total_more r d in omega arith);
    ended = λ z. so.ended (omega arith);
    closed = ap (λ m. m.0.held) me ∙ ap (λ (z : List ℕ). z ++ d.seat.me.0.held) so.closed ∙ x.closed;
    each = rest_of t o r d is so.each;
  }

  pub some_desk : (t : TableId) (o : List (Desk J)) → HaveEndedAt t o → ¬ (o ≡ [])
  some_desk t o so none_left = let a = so.all in let b = ap (λ (z : List (Desk J)). total parts_of z) none_left in omega arith

  pub all_in : (t : TableId) (ds : List (Desk J)) (base : Seat (Option J) View) → Joining t ds base → length ds ≡ 0 → base.me.0.parts ≡ 64
  all_in t [] base so none_left = let a = so.all in omega arith
  all_in t (d ∷ ds) base so none_left = absurd (omega arith)
