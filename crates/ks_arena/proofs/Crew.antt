-- How passes are made and joined, and what the last one knows.
use Rattle.std.proofs.Common.{◌≡◌, ◌≢◌, ℕ, zero, suc, ◌+◌, ◌*◌, ◌<◌, ◌⊎◌, Bool, true, false, cond, eqb, List, [], ◌∷◌, ◌++◌, length, map, max, get_or, set, sym, refl, ap, ◌∙◌, subst, inl, inr, ⊎_elim, arith, length-set}
use Rattle.std.specs.Prelude.{Option, Some}
use Rattle.std.proofs.lemmas.List.{set-get_or}
use mathlib.Core.Option.{none, some, some-injective, some-ne-none}
use mathlib.Core.Option as maybe
use mathlib.Core.Logic.{dite}
use native.Mathlib.Decide.{ℕ_discrete}
use lib.ListN.{get_elem?, length-map}
use Rattle.atomic_table.specs.Table.{keeps, Allows, Splits, Joins, opening, Final, Seen, step}
use Rattle.atomic_table.proofs.Lists.{at_set, set_here, set_else, set_again, at_longer, at_map}
use Rattle.ks_keysets.specs.declared.Frame.{Frame}
use Rattle.ks_keysets.specs.declared.NodeState.{NodeState}
use Rattle.ks_keysets.specs.declared.NodeState.TheVariants.{Live}
use Rattle.ks_keysets.specs.declared.Change.{Change}
use Rattle.ks_keysets.specs.Frame.{empty_record}
use Rattle.ks_history.specs.declared.Event.{Event}
use Rattle.ks_history.specs.Trace.{Turn, free, idle, held, graph_after, turn_after, caller_of}
use Rattle.ks_history.specs.Frames.{frame_after}
use Rattle.ks_history.specs.Passes.{Has, NoneOf}
use Rattle.ks_history.specs.Callers.{CallersBelow}
use Rattle.ks_history.specs.Laws.Stays.{cond_here, cond_else}
use Rattle.ks_node.specs.Body.{Body, frame_of, blank_body}
use Rattle.ks_node.specs.Edges.{record_of}
use Rattle.ks_arena.specs.declared.view.Mark.{Mark}
use Rattle.ks_arena.specs.declared.view.Mark.TheVariants.{Quiet}
use Rattle.ks_arena.specs.declared.view.Part.{Part}
use Rattle.ks_arena.specs.declared.view.View.{View}
use Rattle.ks_arena.specs.Sound.{Sort, blank_of, Sound}
use Rattle.ks_arena.specs.Spots.{calls_at, shapes_at, turn_at, words_for}
use Rattle.ks_arena.specs.Rule.{Marks, SomeMarks, FreeBits, FirstBits, Fits, FitsAll, callers_in, all_callers, SomeWhole, IsWhole, AllBelow, Views, Rests, Running, turn_word, first_view, next_view, maker_view, note_view, part_of, both_views, spent_view, Ends, Closes, AllBlank}
use Rattle.ks_arena.specs.Plays.{Seated, gathered}
use Rattle.ks_arena.proofs.Words.{held_below}
use Rattle.ks_arena.proofs.Seen.{has_left, has_right, view_at, grows_to}
use Rattle.ks_arena.proofs.Bits.{inside, bits_view, bits_longer}

at_end : {A : Type 0} (l : List A) (a b : A) (j : ℕ) → get_elem? (l ++ a ∷ []) j ≡ some b → (get_elem? l j ≡ some b) ⊎ ((j ≡ length l) × (a ≡ b))
at_end [] a b zero e = inr (refl, some-injective a b e)
at_end [] a b (suc j) e = absurd (some-ne-none b (sym e))
at_end (x ∷ xs) a b zero e = inl e
at_end (x ∷ xs) a b (suc j) e = ⊎_elim inl (λ t. inr (ap suc t.0, t.1)) (at_end xs a b j e)

-- what a view of the new roster is: the maker's, an old one, or the new one
abbrev Kinds : List View → ℕ → View → ℕ → View → Type 0
Kinds vs id v j x = ((j ≡ id) × (x ≡ maker_view v)) ⊎ (((j ≢ id) × (get_elem? vs j ≡ some x)) ⊎ ((j ≡ length vs) × (x ≡ next_view v)))

kinds : (vs : List View) (id : ℕ) (v : View) (j : ℕ) (x : View) → get_elem? (set vs id (maker_view v) ++ next_view v ∷ []) j ≡ some x → Kinds vs id v j x
kinds vs id v j x e = ⊎_elim (λ old. ⊎_elim (λ (t : (j ≡ id) × (maker_view v ≡ x)). inl (t.0, sym t.1)) (λ (t : (j ≢ id) × (get_elem? vs j ≡ some x)). inr (inl t)) (at_set vs id j (maker_view v) x old))
    (λ (t : (j ≡ length (set vs id (maker_view v))) × (next_view v ≡ x)). inr (inr (t.0 ∙ length-set vs id (maker_view v), sym t.1))) (at_end (set vs id (maker_view v)) (next_view v) x j e)

below_next : (n : ℕ) (es : List Event) → CallersBelow n es → CallersBelow (n + 1) es
below_next n [] b = tt
below_next n (e ∷ es) b = let x = b.0 in (omega arith, below_next n es b.1)

none_new : (n : ℕ) (es : List Event) → CallersBelow n es → NoneOf (n ∷ []) es
none_new n [] b = tt
none_new n (e ∷ es) b = let x : caller_of e < n = b.0 in ((λ h. ⊎_elim (λ (s : n ≡ caller_of e). omega arith) (λ z. z) h), none_new n es b.1)

below_part : (n : ℕ) (xs ys : List Event) → CallersBelow n (xs ++ ys) → CallersBelow n xs
below_part n [] ys b = tt
below_part n (x ∷ xs) ys b = (b.0, below_part n xs ys b.1)

below_rest : (n : ℕ) (xs ys : List Event) → CallersBelow n (xs ++ ys) → CallersBelow n ys
below_rest n [] ys b = b
below_rest n (x ∷ xs) ys b = below_rest n xs ys b.1

-- a view after a pass is made is the new one, or an old one in which only the count of passes may differ
abbrev Comes : List View → View → ℕ → View → Type 0
Comes vs v j x = ((j ≡ length vs) × (x ≡ next_view v)) ⊎ ((y : View) × (get_elem? vs j ≡ some y) × (x ≡ record { callers = y.callers; seen = y.seen; absorbed = y.absorbed; made = x.made; mark = y.mark }))

comes : (vs : List View) (id : ℕ) (v : View) → get_elem? vs id ≡ some v → (j : ℕ) (x : View) → Kinds vs id v j x → Comes vs v j x
comes vs id v at j x (inl t) = inr (v, ap (get_elem? vs) t.0 ∙ at, t.1 ∙ ap (λ (m : ℕ). record { callers = v.callers; seen = v.seen; absorbed = v.absorbed; made = m; mark = v.mark }) (sym (ap (λ (z : View). z.made) t.1)))
comes vs id v at j x (inr (inl t)) = inr (x, t.1, refl)
comes vs id v at j x (inr (inr t)) = inl t

-- the maker is the old one
makers : (h : List Event) (vs : List View) (id : ℕ) (v : View) → Views h vs → get_elem? vs id ≡ some v → v.made ≢ 0 → (j : ℕ) (x : View) → Kinds vs id v j x → x.made ≢ 0 → (j ≡ id) × (x ≡ maker_view v)
makers h vs id v r at m j x (inl t) w = t
makers h vs id v r at m j x (inr (inl t)) w = absurd (t.0 (sym ((r.maker id j v x at t.1 m).1 w)))
makers h vs id v r at m j x (inr (inr t)) w = absurd (w (ap (λ (z : View). z.made) t.1))

new_has : (n c : ℕ) → Has ((n ∷ []) ++ []) c → n ≡ c
new_has n c (inl e) = e
new_has n c (inr h) = absurd h

abbrev Low : List View → ℕ → Type 0
Low vs n = (k : ℕ) (w : View) → get_elem? vs k ≡ some w → AllBelow n (all_callers w)

same_callers : (x y : View) (m c : ℕ) → x ≡ record { callers = y.callers; seen = y.seen; absorbed = y.absorbed; made = m; mark = y.mark } → Has (all_callers x) c → Has (all_callers y) c
same_callers x y m c e has = subst (λ (z : View). Has (all_callers z) c) e has

makes_apart : (h : List Event) (vs : List View) (v : View) (j k c : ℕ) (x y : View) → Views h vs → Low vs v.made → Comes vs v j x → Comes vs v k y → Has (all_callers x) c → Has (all_callers y) c → j ≡ k
makes_apart h vs v j k c x y r low (inl s) (inl t) a b = s.0 ∙ sym t.0
makes_apart h vs v j k c x y r low (inl s) (inr t) a b = let q : c < v.made = low k t.0 t.1 c (same_callers y t.0 y.made c t.2 b) in let e = new_has v.made c (subst (λ (z : View). Has (all_callers z) c) s.1 a) in absurd (omega arith)
makes_apart h vs v j k c x y r low (inr s) (inl t) a b = let q : c < v.made = low j s.0 s.1 c (same_callers x s.0 x.made c s.2 a) in let e = new_has v.made c (subst (λ (z : View). Has (all_callers z) c) t.1 b) in absurd (omega arith)
makes_apart h vs v j k c x y r low (inr s) (inr t) a b = r.apart j k c s.0 t.0 s.1 t.1 (same_callers x s.0 x.made c s.2 a) (same_callers y t.0 y.made c t.2 b)

makes_below : (vs : List View) (v : View) (j : ℕ) (x : View) → Low vs v.made → Comes vs v j x → AllBelow (v.made + 1) (all_callers x)
makes_below vs v j x low (inl t) c has = let e = new_has v.made c (subst (λ (z : View). Has (all_callers z) c) t.1 has) in omega arith
makes_below vs v j x low (inr t) c has = let q : c < v.made = low j t.0 t.1 c (same_callers x t.0 x.made c t.2 has) in omega arith

makes_fits : (h : List Event) (vs : List View) (v : View) (j : ℕ) (x : View) → Views h vs → Fits h v.callers v.seen → CallersBelow v.made h → Comes vs v j x → Fits h x.callers x.seen × FitsAll h x.absorbed
makes_fits h vs v j x r f low (inl t) = subst (λ (z : View). Fits h z.callers z.seen × FitsAll h z.absorbed) (sym t.1) (record { rest = f.rest; is = f.is; others = none_new v.made f.rest (below_part v.made f.rest v.seen (subst (CallersBelow v.made) f.is low)) }, tt)
makes_fits h vs v j x r f low (inr t) = let g : Fits h t.0.callers t.0.seen = r.each j t.0 t.1 in subst (λ (z : View). Fits h z.callers z.seen × FitsAll h z.absorbed) (sym t.2) (record { rest = g.rest; is = g.is; others = g.others }, r.parts j t.0 t.1)

-- a pass is made: its caller is the next number
pub makes : (h : List Event) (vs : List View) (id : ℕ) (v : View) → Views h vs → get_elem? vs id ≡ some v → v.made ≢ 0 → Views h (set vs id (maker_view v) ++ next_view v ∷ [])
makes h vs id v r at m = let low : Low vs v.made = λ k w e. (r.maker id k v w at e m).0 in let known : CallersBelow v.made h = r.known id v at m in record {
  each = λ j x e. (makes_fits h vs v j x r (r.each id v at) known (comes vs id v at j x (kinds vs id v j x e))).0;
  parts = λ j x e. (makes_fits h vs v j x r (r.each id v at) known (comes vs id v at j x (kinds vs id v j x e))).1;
  longest = let l = r.longest in dite (ℕ_discrete l.0 id)
      (λ s. (id, maker_view v, at_longer (set vs id (maker_view v)) (next_view v ∷ []) id (maker_view v) (set_here vs id (maker_view v) (inside vs id v at)), subst (IsWhole h) (sym (some-injective v l.1 (sym at ∙ ap (get_elem? vs) (sym s) ∙ l.2))) l.3))
      (λ ne. (l.0, l.1, at_longer (set vs id (maker_view v)) (next_view v ∷ []) l.0 l.1 (set_else vs id l.0 (maker_view v) ne ∙ l.2), l.3));
  apart = λ j k c x y e f a b. makes_apart h vs v j k c x y r low (comes vs id v at j x (kinds vs id v j x e)) (comes vs id v at k y (kinds vs id v k y f)) a b;
  maker = λ j k x y e f w. let t = makers h vs id v r at m j x (kinds vs id v j x e) w in (
    subst (λ (z : View). AllBelow z.made (all_callers y)) (sym t.1) (makes_below vs v k y low (comes vs id v at k y (kinds vs id v k y f))),
    λ u. t.0 ∙ sym (makers h vs id v r at m k y (kinds vs id v k y f) u).0,
  );
  first = λ j x e w. let t = makers h vs id v r at m j x (kinds vs id v j x e) w in subst (λ (z : View). Has (all_callers z) 0) (sym t.1) (r.first id v at m);
  known = λ j x e w. let t = makers h vs id v r at m j x (kinds vs id v j x e) w in subst (λ (z : View). CallersBelow z.made h) (sym t.1) (below_next v.made h known);
}

in_cat : (cs ds : List ℕ) (c : ℕ) → Has (cs ++ ds) c → Has cs c ⊎ Has ds c
in_cat [] ds c h = inr h
in_cat (x ∷ cs) ds c (inl e) = inl (inl e)
in_cat (x ∷ cs) ds c (inr h) = ⊎_elim (λ z. inl (inr z)) (λ z. inr z) (in_cat cs ds c h)

in_parts : (ps qs : List Part) (c : ℕ) → Has (callers_in (ps ++ qs)) c → Has (callers_in ps) c ⊎ Has (callers_in qs) c
in_parts [] qs c h = inr h
in_parts (p ∷ ps) qs c h = ⊎_elim (λ a. inl (has_left p.callers (callers_in ps) c a)) (λ b. ⊎_elim (λ z. inl (has_right p.callers (callers_in ps) c z)) (λ z. inr z) (in_parts ps qs c b)) (in_cat p.callers (callers_in (ps ++ qs)) c h)

-- a caller of the view that took another in is a caller of one of the two
in_both : (v w : View) (c : ℕ) → Has (all_callers (both_views v w)) c → Has (all_callers v) c ⊎ Has (all_callers w) c
in_both v w c h = ⊎_elim (λ a. inl (has_left v.callers (callers_in v.absorbed) c a)) (λ b. ⊎_elim (λ z. inl (has_right v.callers (callers_in v.absorbed) c z)) (λ z. inr z) (in_parts v.absorbed (part_of w ∷ w.absorbed) c b))
    (in_cat v.callers (callers_in (v.absorbed ++ part_of w ∷ w.absorbed)) c h)

-- and the callers of both are its callers

parts_first : (ps qs : List Part) (c : ℕ) → Has (callers_in ps) c → Has (callers_in (ps ++ qs)) c
parts_first [] qs c h = absurd h
parts_first (p ∷ ps) qs c h = ⊎_elim (λ a. has_left p.callers (callers_in (ps ++ qs)) c a) (λ b. has_right p.callers (callers_in (ps ++ qs)) c (parts_first ps qs c b)) (in_cat p.callers (callers_in ps) c h)

parts_last : (ps qs : List Part) (c : ℕ) → Has (callers_in qs) c → Has (callers_in (ps ++ qs)) c
parts_last [] qs c h = h
parts_last (p ∷ ps) qs c h = has_right p.callers (callers_in (ps ++ qs)) c (parts_last ps qs c h)

from_left : (v w : View) (c : ℕ) → Has (all_callers v) c → Has (all_callers (both_views v w)) c
from_left v w c h = let more : List Part = v.absorbed ++ part_of w ∷ w.absorbed in ⊎_elim (λ a. has_left v.callers (callers_in more) c a) (λ b. has_right v.callers (callers_in more) c (parts_first v.absorbed (part_of w ∷ w.absorbed) c b)) (in_cat v.callers (callers_in v.absorbed) c h)

from_right : (v w : View) (c : ℕ) → Has (all_callers w) c → Has (all_callers (both_views v w)) c
from_right v w c h = has_right v.callers (callers_in (v.absorbed ++ part_of w ∷ w.absorbed)) c (parts_last v.absorbed (part_of w ∷ w.absorbed) c h)

fits_cat : (h : List Event) (ps qs : List Part) → FitsAll h ps → FitsAll h qs → FitsAll h (ps ++ qs)
fits_cat h [] qs a b = b
fits_cat h (p ∷ ps) qs a b = (a.0, fits_cat h ps qs a.1 b)

whole_left : (h : List Event) (ps qs : List Part) → SomeWhole h ps → SomeWhole h (ps ++ qs)
whole_left h [] qs a = absurd a
whole_left h (p ∷ ps) qs (inl e) = inl e
whole_left h (p ∷ ps) qs (inr a) = inr (whole_left h ps qs a)

whole_right : (h : List Event) (ps qs : List Part) → SomeWhole h qs → SomeWhole h (ps ++ qs)
whole_right h [] qs a = a
whole_right h (p ∷ ps) qs a = inr (whole_right h ps qs a)

none_spent : (es : List Event) → NoneOf [] es
none_spent [] = tt
none_spent (e ∷ es) = (λ z. z, none_spent es)

append_nil : (es : List Event) → es ≡ es ++ []
append_nil [] = refl
append_nil (e ∷ es) = λ k. e ∷ append_nil es k

Merged : List View → ℕ → ℕ → View → View → ℕ → View → Type 0
Merged vs id other v w j x = ((j ≡ other) × (x ≡ spent_view)) ⊎ (((j ≡ id) × (x ≡ both_views v w)) ⊎ ((j ≢ id) × (j ≢ other) × (get_elem? vs j ≡ some x)))

merged : (vs : List View) (id other : ℕ) (v w : View) (j : ℕ) (x : View) → get_elem? (set (set vs id (both_views v w)) other spent_view) j ≡ some x → Merged vs id other v w j x
unfolding Merged
merged vs id other v w j x e = ⊎_elim (λ (t : (j ≡ other) × (spent_view ≡ x)). inl (t.0, sym t.1))
    (λ (t : (j ≢ other) × (get_elem? (set vs id (both_views v w)) j ≡ some x)). ⊎_elim (λ (u : (j ≡ id) × (both_views v w ≡ x)). inr (inl (u.0, sym u.1))) (λ (u : (j ≢ id) × (get_elem? vs j ≡ some x)). inr (inr (u.0, t.0, u.1))) (at_set vs id j (both_views v w) x t.1))
    (at_set (set vs id (both_views v w)) other j spent_view x e)

-- the place, before the join, of the view that a caller, or the count of passes, was in
abbrev Stood : List View → ℕ → ℕ → (View → Type 0) → ℕ → Type 0
Stood vs id other P j = (k : ℕ) × (y : View) × (get_elem? vs k ≡ some y) × P y × (j ≡ cond (eqb k other) id k)

module _ (h : List Event) (vs : List View) (id other : ℕ) (v w : View) (r : Views h vs) (at : get_elem? vs id ≡ some v) (at' : get_elem? vs other ≡ some w) (ne : id ≢ other) where
  has_stood : (j c : ℕ) (x : View) → Merged vs id other v w j x → Has (all_callers x) c → Stood vs id other (λ z. Has (all_callers z) c) j
  unfolding Merged
  has_stood j c x (inl t) p = absurd (subst (λ (z : View). Has (all_callers z) c) t.1 p)
  has_stood j c x (inr (inl t)) p = ⊎_elim (λ q. (id, v, at, q, t.0 ∙ sym (cond_else id other id id ne))) (λ q. (other, w, at', q, t.0 ∙ sym (cond_here other other id other refl))) (in_both v w c (subst (λ (z : View). Has (all_callers z) c) t.1 p))
  has_stood j c x (inr (inr t)) p = (j, x, t.2, p, sym (cond_else j other id j t.1))

  made_stood : (j : ℕ) (x : View) → Merged vs id other v w j x → x.made ≢ 0 → Stood vs id other (λ z. (x.made ≡ z.made) × (z.made ≢ 0)) j
  unfolding Merged
  made_stood j x (inl t) m = absurd (m (ap (λ (z : View). z.made) t.1))
  made_stood j x (inr (inl t)) m = let e : x.made ≡ max v.made w.made = ap (λ (z : View). z.made) t.1 in dite (ℕ_discrete v.made 0)
      (λ z. let q : x.made ≡ w.made = omega arith in (other, w, at', (q, λ n. m (q ∙ n)), t.0 ∙ sym (cond_here other other id other refl)))
      (λ z. dite (ℕ_discrete w.made 0)
      (λ y. let q : x.made ≡ v.made = omega arith in (id, v, at, (q, z), t.0 ∙ sym (cond_else id other id id ne)))
      (λ y. absurd (ne ((r.maker id other v w at at' z).1 y))))
  made_stood j x (inr (inr t)) m = (j, x, t.2, (refl, m), sym (cond_else j other id j t.1))

  first_merged : (j : ℕ) (x : View) → Merged vs id other v w j x → x.made ≢ 0 → Has (all_callers x) 0
  unfolding Merged
  first_merged j x (inl t) m = absurd (m (ap (λ (z : View). z.made) t.1))
  first_merged j x (inr (inl t)) m = let e : x.made ≡ max v.made w.made = ap (λ (z : View). z.made) t.1 in subst (λ (z : View). Has (all_callers z) 0) (sym t.1) (dite (ℕ_discrete v.made 0)
      (λ z. from_right v w 0 (r.first other w at' (λ y. m (let q : x.made ≡ 0 = omega arith in q))))
      (λ z. from_left v w 0 (r.first id v at z)))
  first_merged j x (inr (inr t)) m = r.first j x t.2 m

  fits_merged : (j : ℕ) (x : View) → Merged vs id other v w j x → Fits h x.callers x.seen × FitsAll h x.absorbed
  unfolding Merged
  fits_merged j x (inl t) = subst (λ (z : View). Fits h z.callers z.seen × FitsAll h z.absorbed) (sym t.1) (record { rest = h; is = append_nil h; others = none_spent h }, tt)
  fits_merged j x (inr (inl t)) = let f : Fits h v.callers v.seen = r.each id v at in let g : Fits h w.callers w.seen = r.each other w at' in subst (λ (z : View). Fits h z.callers z.seen × FitsAll h z.absorbed) (sym t.1)
      (record { rest = f.rest; is = f.is; others = f.others }, fits_cat h v.absorbed (part_of w ∷ w.absorbed) (r.parts id v at) (record { rest = g.rest; is = g.is; others = g.others }, r.parts other w at'))
  fits_merged j x (inr (inr t)) = (r.each j x t.2, r.parts j x t.2)

  whole_merged : (j : ℕ) (x : View) → get_elem? vs j ≡ some x → IsWhole h x → (k : ℕ) × (y : View) × (get_elem? (set (set vs id (both_views v w)) other spent_view) k ≡ some y) × IsWhole h y
  whole_merged j x e l = let there : get_elem? (set (set vs id (both_views v w)) other spent_view) id ≡ some (both_views v w) = set_else (set vs id (both_views v w)) other id spent_view ne ∙ set_here vs id (both_views v w) (inside vs id v at) in
      dite (ℕ_discrete j id)
      (λ s. (id, both_views v w, there, ⊎_elim (λ a. inl a) (λ a. inr (whole_left h v.absorbed (part_of w ∷ w.absorbed) a)) (subst (IsWhole h) (sym (some-injective v x (sym at ∙ ap (get_elem? vs) (sym s) ∙ e))) l)))
      (λ s. dite (ℕ_discrete j other)
      (λ t. (id, both_views v w, there, inr (whole_right h v.absorbed (part_of w ∷ w.absorbed) (subst (IsWhole h) (sym (some-injective w x (sym at' ∙ ap (get_elem? vs) (sym t) ∙ e))) l))))
      (λ t. (j, x, set_else (set vs id (both_views v w)) other j spent_view t ∙ (set_else vs id j (both_views v w) s ∙ e), l)))

  pub joins : Views h (set (set vs id (both_views v w)) other spent_view)
  joins = record {
    each = λ j x e. (fits_merged j x (merged vs id other v w j x e)).0;
    parts = λ j x e. (fits_merged j x (merged vs id other v w j x e)).1;
    longest = let l = r.longest in whole_merged l.0 l.1 l.2 l.3;
    apart = λ j k c x y e e' a b. let p = has_stood j c x (merged vs id other v w j x e) a in let q = has_stood k c y (merged vs id other v w k y e') b in p.4 ∙ ap (λ (z : ℕ). cond (eqb z other) id z) (r.apart p.0 q.0 c p.1 q.1 p.2 q.2 p.3 q.3) ∙ sym q.4;
    maker = λ j k x y e e' m. let p = made_stood j x (merged vs id other v w j x e) m in (
      λ c a. let q = has_stood k c y (merged vs id other v w k y e') a in subst (λ (z : ℕ). c < z) (sym p.3.0) ((r.maker p.0 q.0 p.1 q.1 p.2 q.2 p.3.1).0 c q.3),
      λ n. let q = made_stood k y (merged vs id other v w k y e') n in p.4 ∙ ap (λ (z : ℕ). cond (eqb z other) id z) ((r.maker p.0 q.0 p.1 q.1 p.2 q.2 p.3.1).1 q.3.1) ∙ sym q.4,
    );
    first = λ j x e m. first_merged j x (merged vs id other v w j x e) m;
    known = λ j x e m. let p = made_stood j x (merged vs id other v w j x e) m in subst (λ (z : ℕ). CallersBelow z h) (sym p.3.0) (r.known p.0 p.1 p.2 p.3.1);
  }

-- a note is made
notes_at : (h : List Event) (vs : List View) (v : View) (j : ℕ) (x : View) → Views h vs → Fits h v.callers v.seen → (get_elem? vs j ≡ some x) ⊎ ((j ≡ length vs) × (note_view v ≡ x)) → Fits h x.callers x.seen × FitsAll h x.absorbed
notes_at h vs v j x r f (inl e) = (r.each j x e, r.parts j x e)
notes_at h vs v j x r f (inr t) = subst (λ (z : View). Fits h z.callers z.seen × FitsAll h z.absorbed) t.1 (record { rest = f.rest; is = f.is; others = none_spent f.rest }, tt)

old_with : (vs : List View) (v : View) (j c : ℕ) (x : View) → (get_elem? vs j ≡ some x) ⊎ ((j ≡ length vs) × (note_view v ≡ x)) → Has (all_callers x) c → get_elem? vs j ≡ some x
old_with vs v j c x (inl e) has = e
old_with vs v j c x (inr t) has = absurd (subst (λ (z : View). Has (all_callers z) c) (sym t.1) has)

old_made : (vs : List View) (v : View) (j : ℕ) (x : View) → (get_elem? vs j ≡ some x) ⊎ ((j ≡ length vs) × (note_view v ≡ x)) → x.made ≢ 0 → get_elem? vs j ≡ some x
old_made vs v j x (inl e) m = e
old_made vs v j x (inr t) m = absurd (m (ap (λ (z : View). z.made) (sym t.1)))

pub notes : (h : List Event) (vs : List View) (id : ℕ) (v : View) → Views h vs → get_elem? vs id ≡ some v → Views h (vs ++ note_view v ∷ [])
notes h vs id v r at = let n : View = note_view v in record {
  each = λ j x e. (notes_at h vs v j x r (r.each id v at) (at_end vs n x j e)).0;
  parts = λ j x e. (notes_at h vs v j x r (r.each id v at) (at_end vs n x j e)).1;
  longest = let l = r.longest in (l.0, l.1, at_longer vs (n ∷ []) l.0 l.1 l.2, l.3);
  apart = λ j k c x y e f a b. r.apart j k c x y (old_with vs v j c x (at_end vs n x j e) a) (old_with vs v k c y (at_end vs n y k f) b) a b;
  maker = λ j k x y e f m. let e' = old_made vs v j x (at_end vs n x j e) m in (λ c a. (r.maker j k x y e' (old_with vs v k c y (at_end vs n y k f) a) m).0 c a, λ w. (r.maker j k x y e' (old_made vs v k y (at_end vs n y k f) w) m).1 w);
  first = λ j x e m. r.first j x (old_made vs v j x (at_end vs n x j e) m) m;
  known = λ j x e m. r.known j x (old_made vs v j x (at_end vs n x j e) m) m;
}

alone : {A : Type 0} (j : ℕ) (a b : A) → get_elem? (a ∷ []) j ≡ some b → (j ≡ 0) × (a ≡ b)
alone zero a b e = (refl, some-injective a b e)
alone (suc j) a b e = absurd (some-ne-none b (sym e))

first_word : (i : ℕ) → turn_word (turn_after [] i) ≡ cond (eqb i 0) 1 0
first_word i = dite (ℕ_discrete i 0) (λ z. ap turn_word (cond_here i 0 idle free z) ∙ sym (cond_here i 0 1 0 z)) (λ z. ap turn_word (cond_else i 0 idle free z) ∙ sym (cond_else i 0 1 0 z))

unmarked_first : (i : ℕ) → ¬ SomeMarks (first_view ∷ []) i
unmarked_first i m = subst (λ (z : View). Marks z.mark i) (sym (alone m.0 first_view m.1 m.2).1) m.3

first_bits : (n : ℕ) (ws : List ℕ) → FirstBits n n ws → FreeBits [] (first_view ∷ []) n ws
first_bits n ws bits = record {
  sets = λ w b low on. let so = bits.sets w b low on in (so.1, inl (cond_else (64 * w + b) 0 idle free (λ e. omega arith)));
  clears = λ w b low near off. let so = bits.clears w b low off near in ((λ f. let e : idle ≡ free = sym (cond_here (64 * w + b) 0 idle free so) ∙ f in (cc)), unmarked_first (64 * w + b));
  marks = λ j i v at m. absurd (unmarked_first i (j, v, at, m));
}

pub blank_record : (ranged : Bool) → record_of (blank_body ranged) ≡ empty_record
blank_record true = refl
blank_record false = refl

module _ {N : Type 0} (sort : Sort) (begins : Frame → Type 0) (asks : (ℕ → NodeState) → (ℕ → Frame) → List Change → Type 0) (shows : N → Body) where
  pub splits_ok : (id : ℕ) (v : View) → v.made ≢ 0 → Splits (Running sort begins asks shows) id v (maker_view v) (next_view v)
  splits_ok id v m s r at = let n : ℕ = length s.homes in record {
    trace = r.trace;
    views = makes r.trace s.views id v r.views at m;
    sound = r.sound;
    few = r.few;
    wide = r.wide;
    call_count = r.call_count;
    shape_count = r.shape_count;
    turns = r.turns;
    bits = bits_longer r.trace (set s.views id (maker_view v)) (next_view v) n s.words refl (bits_view r.trace s.views id v (maker_view v) n s.words at refl (λ i c m has. has) r.bits);
    homes = r.homes;
  }

  pub joins_ok : (id other : ℕ) (v w : View) → w.mark ≡ Quiet → Joins (Running sort begins asks shows) id v other w (both_views v w) spent_view
  joins_ok id other v w quiet s r at ne at' = let n : ℕ = length s.homes in record {
    trace = r.trace;
    views = joins r.trace s.views id other v w r.views at (sym (set_else s.views id other (both_views v w) ne) ∙ at') (λ e. ne (sym e));
    sound = r.sound;
    few = r.few;
    wide = r.wide;
    call_count = r.call_count;
    shape_count = r.shape_count;
    turns = r.turns;
    bits = bits_view r.trace (set s.views id (both_views v w)) other w spent_view n s.words at' (sym quiet) (λ i c m has. absurd (subst (λ (z : Mark). Marks z i) quiet m)) (bits_view r.trace s.views id v (both_views v w) n s.words at refl (λ i c m has. has) r.bits);
    homes = r.homes;
  }

  pub gathers_ok : (n id : ℕ) (me : Seated N) → Allows (Running sort begins asks shows) n id me 0 (λ x. x) (λ _ m. gathered sort begins asks shows (step n 0 0 0 none) me m)
  gathers_ok n id me s r long at _ = let v : View = me.0 in let w : View = view_at (all_callers v) r.trace v.made v.mark in let f : Fits r.trace v.callers v.seen = r.views.each id v at in (
    w,
    keeps,
    tt,
    subst (λ (ws : List ℕ). Running sort begins asks shows record { words = ws; homes = s.homes; views = set s.views id w }) (sym (set-get_or s.words 0 0)) record {
      trace = r.trace;
      views = grows_to r.trace [] s.views id v (all_callers v) v.mark r.views at (λ c a. a) (λ c a. a) tt (inside s.views id v at);
      sound = r.sound;
      few = r.few;
      wide = r.wide;
      call_count = r.call_count;
      shape_count = r.shape_count;
      turns = r.turns;
      bits = bits_view r.trace s.views id v w (length s.homes) s.words at refl (λ i c m has. has_left v.callers (callers_in v.absorbed) c has) r.bits;
      homes = r.homes;
    },
    (refl, refl, f, r.views.parts id v at, subst (λ (z : ℕ). Sound sort begins asks z r.trace) long r.sound, r.views.known id v at),
  )

  pub opens : (ws : List ℕ) (xs : List (Option N)) → begins (blank_of sort) → length ws ≡ words_for (length xs) → get_or ws calls_at 0 ≡ 0 → get_or ws shapes_at 0 ≡ 0 → ((i : ℕ) → i < length xs → get_or ws (turn_at i) 0 ≡ cond (eqb i 0) 1 0) → FirstBits (length xs) (length xs) ws → AllBlank sort shows xs
      → Running sort begins asks shows (opening ws xs first_view)
  opens ws xs fits wide e₀ e₁ words bits blanks = let far : length (map some xs) ≡ length xs = length-map xs some in record {
    trace = [];
    views = record {
      each = λ j v e. subst (λ (z : View). Fits [] z.callers z.seen) (alone j first_view v e).1 record { rest = []; is = refl; others = tt };
      parts = λ j v e. subst (λ (z : View). FitsAll [] z.absorbed) (alone j first_view v e).1 tt;
      longest = (0, first_view, refl, inl (refl, (0, inl refl)));
      apart = λ j k c v w e f a b. (alone j first_view v e).0 ∙ sym (alone k first_view w f).0;
      maker = λ j k v w e f m. (
        λ c a. let one : first_view ≡ v = (alone j first_view v e).1 in let n : 1 ≡ v.made = ap (λ (z : View). z.made) one in let z : 0 ≡ c = new_has 0 c (subst (λ (z : View). Has (all_callers z) c) (sym (alone k first_view w f).1) a) in omega arith,
        λ _. (alone j first_view v e).0 ∙ sym (alone k first_view w f).0,
      );
      first = λ j v e m. subst (λ (z : View). Has (all_callers z) 0) (alone j first_view v e).1 (inl refl);
      known = λ j v e m. tt;
    };
    sound = fits;
    few = tt;
    wide = wide ∙ ap words_for (sym far);
    call_count = e₀;
    shape_count = e₁;
    turns = λ i near. words i (subst (λ (z : ℕ). i < z) far near) ∙ sym (first_word i);
    bits = subst (λ (z : ℕ). FreeBits [] (first_view ∷ []) z ws) (sym far) (first_bits (length xs) ws bits);
    homes = λ i near. let b = blanks i (subst (λ (z : ℕ). i < z) far near) in let there : get_elem? (map some xs) i ≡ some (some (Some b.0)) = at_map some xs i (Some b.0) b.1 in dite (ℕ_discrete i 0)
        (λ z. subst (λ (t : Turn). Rests sort shows (graph_after [] i) (blank_of sort) t (get_elem? (map some xs) i)) (sym (cond_here i 0 idle free z)) (b.0, there, ap (graph_after []) z ∙ ap Live (sym (ap record_of b.2 ∙ blank_record sort.ranged)), sym (ap frame_of b.2)))
        (λ z. subst (λ (t : Turn). Rests sort shows (graph_after [] i) (blank_of sort) t (get_elem? (map some xs) i)) (sym (cond_else i 0 idle free z)) (b.0, there, b.2));
  }

  none_left : (n : ℕ) (cs : List ℕ) (es : List Event) → ((c : ℕ) → c < n → Has cs c) → CallersBelow n es → NoneOf cs es → es ≡ []
  none_left n cs [] all low none_of = refl
  none_left n cs (e ∷ es) all low none_of = absurd (none_of.0 (all (caller_of e) low.0))

  ends_of : (i : ℕ) (t : NodeState) (f : Frame) (u : Turn) (hs : List (maybe.Option (Option N))) (xs : List (Option N)) → ((k : ℕ) (y : Option N) → get_elem? hs k ≡ some (some y) → get_elem? xs k ≡ some y) → ((c : ℕ) → ¬ (u ≡ held c)) → Rests sort shows t f u (get_elem? hs i) → Ends sort shows t f u (get_elem? xs i)
  ends_of i t f free hs xs same not_held so = (so.0, same i (Some so.0) so.1, so.2)
  ends_of i t f idle hs xs same not_held so = (so.0, same i (Some so.0) so.1, so.2, so.3)
  ends_of i t f (held c) hs xs same not_held so = absurd (not_held c refl)

  pub closes_below : (id n : ℕ) (v : View) (ws : List ℕ) (xs : List (Option N)) → v.made ≡ n → n ≢ 0 → Final (Seen (Running sort begins asks shows) id v) ws xs → CallersBelow n v.seen
  closes_below id n v ws xs is m fin = let s = fin.0 in let r : Running sort begins asks shows s = fin.1.0 in let at = fin.1.1 in let f = r.views.each id v at in let m' : v.made ≢ 0 = λ z. m (sym is ∙ z) in
      below_rest n f.rest v.seen (subst (CallersBelow n) f.is (subst (λ (z : ℕ). CallersBelow z r.trace) is (r.views.known id v at m')))

  pub closes : (id n : ℕ) (v : View) (ws : List ℕ) (xs : List (Option N)) → v.made ≡ n → n ≢ 0 → ((c : ℕ) → c < n → Has v.callers c) → ((c i : ℕ) → c < n → ¬ (turn_after v.seen i ≡ held c)) → Final (Seen (Running sort begins asks shows) id v) ws xs → Closes sort begins asks shows v.seen ws xs
  closes id n v ws xs is m all quiet fin = let s = fin.0 in let r : Running sort begins asks shows s = fin.1.0 in let at = fin.1.1 in let f = r.views.each id v at in let m' : v.made ≢ 0 = λ z. m (sym is ∙ z) in let known : CallersBelow n r.trace = subst (λ (z : ℕ). CallersBelow z r.trace) is (r.views.known id v at m') in
      let gone : f.rest ≡ [] = none_left n v.callers f.rest all (below_part n f.rest v.seen (subst (CallersBelow n) f.is known)) f.others in let whole : r.trace ≡ v.seen = f.is ∙ ap (λ (z : List Event). z ++ v.seen) gone in
      subst (λ (h : List Event). Closes sort begins asks shows h ws xs) whole record {
        sound = subst (λ (z : ℕ). Sound sort begins asks z r.trace) fin.3 r.sound;
        count = ap (λ (z : List ℕ). get_or z calls_at 0) (sym fin.2) ∙ r.call_count;
        turns = λ i near. ap (λ (z : List ℕ). get_or z (turn_at i) 0) (sym fin.2) ∙ r.turns i (subst (λ (z : ℕ). i < z) (sym fin.3) near);
        ends = λ i near. ends_of i (graph_after r.trace i) (frame_after (blank_of sort) r.trace i) (turn_after r.trace i) s.homes xs fin.4
            (λ c now. quiet c i (held_below n r.trace i c known now) (subst (λ (z : List Event). turn_after z i ≡ held c) whole now))
            (r.homes i (subst (λ (z : ℕ). i < z) (sym fin.3) near));
      }

  pub notes_ok : (id : ℕ) (v : View) → Splits (Running sort begins asks shows) id v v (note_view v)
  notes_ok id v s r at = subst (λ (vs : List View). Running sort begins asks shows record { words = s.words; homes = s.homes; views = vs ++ note_view v ∷ [] }) (sym (set_again s.views id v at))
      record { trace = r.trace; views = notes r.trace s.views id v r.views at; sound = r.sound; few = r.few; wide = r.wide; call_count = r.call_count; shape_count = r.shape_count; turns = r.turns; bits = bits_longer r.trace s.views (note_view v) (length s.homes) s.words refl r.bits; homes = r.homes }
