-- What the views of the seats are after one of them has stepped.
use Rattle.std.proofs.Common.{inl, inr, ◌≡◌, ◌≢◌, ℕ, ◌<◌, List, [], ◌∷◌, ◌++◌, length, set, sym, refl, ap, ◌∙◌, subst, ⊎_elim}
use mathlib.Core.Option.{some, some-injective}
use mathlib.Core.Logic.{dite}
use native.Mathlib.Decide.{ℕ_discrete}
use lib.ListN.{get_elem?}
use Rattle.atomic_table.proofs.Lists.{at_set, set_here, set_else}
use Rattle.ks_history.specs.declared.Event.{Event}
use Rattle.ks_history.specs.Trace.{caller_of}
use Rattle.ks_history.specs.Passes.{Has, NoneOf}
use Rattle.ks_history.specs.Callers.{CallersBelow}
use Rattle.ks_arena.specs.declared.view.Mark.{Mark}
use Rattle.ks_arena.specs.declared.view.Part.{Part}
use Rattle.ks_arena.specs.declared.view.View.{View}
use Rattle.ks_arena.specs.Rule.{Fits, FitsAll, callers_in, all_callers, SomeCaller, SomeWhole, IsWhole, AllBelow, Views}
use Rattle.ks_arena.specs.Plays.{with_seen}

-- each event is of one of these callers
abbrev pub AllOf : List ℕ → List Event → Type 0
AllOf cs [] = Unit {0}
AllOf cs (e ∷ es) = Has cs (caller_of e) × AllOf cs es

append_more : {A : Type 0} (xs ys zs : List A) → (xs ++ ys) ++ zs ≡ xs ++ (ys ++ zs)
append_more [] ys zs = refl
append_more (x ∷ xs) ys zs = λ k. x ∷ append_more xs ys zs k

none_more : (cs : List ℕ) (es fs : List Event) → NoneOf cs es → NoneOf cs fs → NoneOf cs (es ++ fs)
none_more cs [] fs a b = b
none_more cs (e ∷ es) fs a b = (a.0, none_more cs es fs a.1 b)

apart_none : (cs ds : List ℕ) (es : List Event) → AllOf cs es → ((c : ℕ) → Has cs c → ¬ Has ds c) → NoneOf ds es
apart_none cs ds [] a never = tt
apart_none cs ds (e ∷ es) a never = (never (caller_of e) a.0, apart_none cs ds es a.1 never)

below_more_events : (n : ℕ) (cs : List ℕ) (es h : List Event) → AllOf cs es → AllBelow n cs → CallersBelow n h → CallersBelow n (es ++ h)
below_more_events n cs [] h a b c = c
below_more_events n cs (e ∷ es) h a b c = (b (caller_of e) a.0, below_more_events n cs es h a.1 b c)

pub has_left : (cs ds : List ℕ) (c : ℕ) → Has cs c → Has (cs ++ ds) c
has_left [] ds c h = absurd h
has_left (x ∷ cs) ds c (inl e) = inl e
has_left (x ∷ cs) ds c (inr h) = inr (has_left cs ds c h)

pub has_right : (cs ds : List ℕ) (c : ℕ) → Has ds c → Has (cs ++ ds) c
has_right [] ds c h = h
has_right (x ∷ cs) ds c h = inr (has_right cs ds c h)

pub no_more : (cs : List ℕ) (c : ℕ) → Has (cs ++ []) c → Has cs c
no_more [] c h = h
no_more (x ∷ cs) c (inl e) = inl e
no_more (x ∷ cs) c (inr h) = inr (no_more cs c h)

-- the view that a step leaves: it is of these callers and has seen all
abbrev pub view_at : List ℕ → List Event → ℕ → Mark → View
view_at cs h m k = record { callers = cs; seen = h; absorbed = []; made = m; mark = k }

module _ (vs : List View) (id : ℕ) (v : View) (cs : List ℕ) (h : List Event) (k : Mark) (at : get_elem? vs id ≡ some v) (part : (c : ℕ) → Has cs c → Has (all_callers v) c) where
  -- a view after the step has no caller that it had not before, and the same number
  before : (j : ℕ) (x : View) → get_elem? (set vs id (view_at cs h v.made k)) j ≡ some x → (y : View) × (get_elem? vs j ≡ some y) × ((c : ℕ) → Has (all_callers x) c → Has (all_callers y) c) × (x.made ≡ y.made)
  before j x e = ⊎_elim (λ (t : (j ≡ id) × (view_at cs h v.made k ≡ x)). (v, ap (get_elem? vs) t.0 ∙ at, (λ c a. part c (no_more cs c (subst (λ (z : View). Has (all_callers z) c) (sym t.1) a))), ap (λ (z : View). z.made) (sym t.1)))
      (λ (t : (j ≢ id) × (get_elem? vs j ≡ some x)). (x, t.1, (λ c a. a), refl)) (at_set vs id j (view_at cs h v.made k) x e)

-- the parts that another view took in, after these events
fits_parts : (h es : List Event) (cs : List ℕ) (ps : List Part) → AllOf cs es → ((c : ℕ) → Has cs c → ¬ Has (callers_in ps) c) → FitsAll h ps → FitsAll (es ++ h) ps
fits_parts h es cs [] own never so = tt
fits_parts h es cs (p ∷ ps) own never so = let f = so.0 in (
  record { rest = es ++ f.rest; is = ap (λ (z : List Event). es ++ z) f.is ∙ sym (append_more es f.rest p.seen); others = none_more p.callers es f.rest (apart_none cs p.callers es own (λ c a b. never c a (has_left p.callers (callers_in ps) c b))) f.others },
  fits_parts h es cs ps own (λ c a b. never c a (has_right p.callers (callers_in ps) c b)) so.1,
)

-- what has seen all is of a caller
parts_some : (h : List Event) (ps : List Part) → SomeWhole h ps → SomeCaller (callers_in ps)
parts_some h [] a = absurd a
parts_some h (p ∷ ps) (inl e) = (e.1.0, has_left p.callers (callers_in ps) e.1.0 e.1.1)
parts_some h (p ∷ ps) (inr a) = let c = parts_some h ps a in (c.0, has_right p.callers (callers_in ps) c.0 c.1)

whole_some : (h : List Event) (v : View) → IsWhole h v → SomeCaller (all_callers v)
whole_some h v (inl e) = (e.1.0, has_left v.callers (callers_in v.absorbed) e.1.0 e.1.1)
whole_some h v (inr a) = let c = parts_some h v.absorbed a in (c.0, has_right v.callers (callers_in v.absorbed) c.0 c.1)

-- the callers of a view that has taken nothing in
pub all_own : (v : View) → v.absorbed ≡ [] → (c : ℕ) → Has (all_callers v) c → Has v.callers c
all_own v bare c a = no_more v.callers c (subst (λ (z : List Part). Has (v.callers ++ callers_in z) c) bare a)

whole_after : (h es : List Event) (vs : List View) (id : ℕ) (v : View) (cs : List ℕ) (k : Mark) → Views h vs → get_elem? vs id ≡ some v → ((c : ℕ) → Has (all_callers v) c → Has cs c) → AllOf cs es → id < length vs
    → (j : ℕ) × (x : View) × (get_elem? (set vs id (view_at cs (es ++ h) v.made k)) j ≡ some x) × IsWhole (es ++ h) x
whole_after h [] vs id v cs k r at all own near = let l = r.longest in let w : View = view_at cs h v.made k in dite (ℕ_discrete l.0 id)
    (λ s. let c = whole_some h l.1 l.3 in let is : l.1 ≡ v = some-injective l.1 v (sym l.2 ∙ ap (get_elem? vs) s ∙ at) in (id, w, set_here vs id w near, inl (refl, (c.0, all c.0 (subst (λ (z : View). Has (all_callers z) c.0) is c.1)))))
    (λ ne. (l.0, l.1, set_else vs id l.0 w ne ∙ l.2, l.3))
whole_after h (e ∷ es) vs id v cs k r at all own near = let w : View = view_at cs (e ∷ (es ++ h)) v.made k in (id, w, set_here vs id w near, inl (refl, (caller_of e, own.0)))

-- the seat `id` adds its own events, and has seen all
pub grows_to : (h es : List Event) (vs : List View) (id : ℕ) (v : View) (cs : List ℕ) (k : Mark) → Views h vs → get_elem? vs id ≡ some v → ((c : ℕ) → Has cs c → Has (all_callers v) c) → ((c : ℕ) → Has (all_callers v) c → Has cs c) → AllOf cs es → id < length vs → Views (es ++ h) (set vs id (view_at cs (es ++ h) v.made k))
grows_to h es vs id v cs k r at part all own near = let w : View = view_at cs (es ++ h) v.made k in let was = before vs id v cs (es ++ h) k at part in record {
  each = λ j x e. ⊎_elim (λ (t : (j ≡ id) × (w ≡ x)). subst (λ (z : View). Fits (es ++ h) z.callers z.seen) t.1 record { rest = []; is = refl; others = tt })
      (λ (t : (j ≢ id) × (get_elem? vs j ≡ some x)). let f = r.each j x t.1 in record {
        rest = es ++ f.rest;
        is = ap (λ (z : List Event). es ++ z) f.is ∙ sym (append_more es f.rest x.seen);
        others = none_more x.callers es f.rest (apart_none cs x.callers es own (λ c a b. t.0 (r.apart j id c x v t.1 at (has_left x.callers (callers_in x.absorbed) c b) (part c a)))) f.others;
      }) (at_set vs id j w x e);
  parts = λ j x e. ⊎_elim (λ (t : (j ≡ id) × (w ≡ x)). subst (λ (z : View). FitsAll (es ++ h) z.absorbed) t.1 tt)
      (λ (t : (j ≢ id) × (get_elem? vs j ≡ some x)). fits_parts h es cs x.absorbed own (λ c a b. t.0 (r.apart j id c x v t.1 at (has_right x.callers (callers_in x.absorbed) c b) (part c a))) (r.parts j x t.1)) (at_set vs id j w x e);
  longest = whole_after h es vs id v cs k r at all own near;
  apart = λ j k c x y e f a b. let x' = was j x e in let y' = was k y f in r.apart j k c x'.0 y'.0 x'.1 y'.1 (x'.2 c a) (y'.2 c b);
  maker = λ j k x y e f m. let x' = was j x e in let y' = was k y f in let o = r.maker j k x'.0 y'.0 x'.1 y'.1 (λ z. m (x'.3 ∙ z)) in
      (λ c a. subst (λ (n : ℕ). c < n) (sym x'.3) (o.0 c (y'.2 c a)), λ n. o.1 (λ z. n (y'.3 ∙ z)));
  first = λ j x e m. ⊎_elim (λ (t : (j ≡ id) × (w ≡ x)). subst (λ (z : View). Has (all_callers z) 0) t.1 (has_left cs [] 0 (all 0 (r.first id v at (λ z. m (ap (λ (y : View). y.made) (sym t.1) ∙ z))))))
      (λ (t : (j ≢ id) × (get_elem? vs j ≡ some x)). r.first j x t.1 m) (at_set vs id j w x e);
  known = λ j x e m. let x' = was j x e in subst (λ (n : ℕ). CallersBelow n (es ++ h)) (sym x'.3) (let m' : x'.0.made ≢ 0 = λ z. m (x'.3 ∙ z) in below_more_events x'.0.made cs es h own (λ c a. (r.maker j id x'.0 v x'.1 at m').0 c (part c a)) (r.known j x'.0 x'.1 m'));
}

pub grows : (h es : List Event) (vs : List View) (id : ℕ) (v : View) → Views h vs → get_elem? vs id ≡ some v → v.absorbed ≡ [] → AllOf v.callers es → id < length vs → Views (es ++ h) (set vs id (with_seen v (es ++ h)))
grows h es vs id v r at bare own near = grows_to h es vs id v v.callers v.mark r at (λ c a. has_left v.callers (callers_in v.absorbed) c a) (all_own v bare) own near
