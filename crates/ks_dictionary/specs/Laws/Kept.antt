-- Laws of legal histories and of traces: a value stays until a call writes at its place.
use Rattle.std.proofs.Common.{◌≡◌, ◌⊎◌, inl, inr, ℕ, List, [], ◌∷◌, ◌++◌, length, Option, Some, None, sym, refl, ap, ◌∙◌, subst, cond, ◌==◌}
use Rattle.std.specs.Prelude.{fold, slice_get}
use Rattle.std.proofs.lemmas.List.Sums.{fold-append}
use Rattle.std.proofs.lemmas.List.{append_assoc, append-nil}
use lib.Seq.{take-append_seam}
use mathlib.Core.Logic.{dite}
use native.Mathlib.Decide.{ℕ_discrete}
use Rattle.ks_keysets.specs.Layout.{Layout}
use Rattle.ks_history.specs.declared.Op.{Op}
use Rattle.ks_history.specs.declared.Op.TheVariants.{Add, Get, Put}
use Rattle.ks_history.specs.declared.Reply.{Reply}
use Rattle.ks_history.specs.declared.Reply.TheVariants.{Nothing, Full}
use Rattle.ks_history.specs.declared.Answered.{Answered}
use Rattle.ks_history.specs.declared.Event.{Event}
use Rattle.ks_history.specs.Map.{told, IsAnswer, Legal, map_then, map_after}
use Rattle.ks_history.specs.Trace.{◌⊑◌, Called, answered, call_in, calls_of}
use Rattle.ks_history.specs.Own.{called}
use Rattle.ks_history.specs.Write.{Map, Write, keeps, sets, removes, moves, written, map_with}
use Rattle.ks_history.specs.Done.{Template, Done}
use Rattle.ks_history.specs.Laws.Stays.{cond_here, cond_else}
use Rattle.ks_dictionary.specs.Kept.{WritesAt, Removes, Changed, Removed, replied, FindsPut, AddedOnce}

-- one write
write_or_same : (w : Write) (m : Map) (p : ℕ) → WritesAt w p ⊎ (map_with m w p ≡ m p)
write_or_same keeps m p = inr refl
write_or_same (sets q v) m p = dite (ℕ_discrete p q) (λ same. inl same) (λ apart. inr (cond_else q p (Some v) (m p) (λ e. apart (sym e))))
write_or_same (removes q) m p = dite (ℕ_discrete p q) (λ same. inl same) (λ apart. inr (cond_else q p None (m p) (λ e. apart (sym e))))
write_or_same (moves q r v) m p = dite (ℕ_discrete p q) (λ same. inl (inl same))
    (λ apart. dite (ℕ_discrete p r) (λ same. inl (inr same)) (λ other. inr (cond_else r p (Some v) (cond (q == p) None (m p)) (λ e. other (sym e)) ∙ cond_else q p None (m p) (λ e. apart (sym e)))))

-- any number of calls
pub changed_or_same : (calls : List Answered) (m : Map) (p : ℕ) → Changed p calls ⊎ (fold map_then m calls p ≡ m p)
changed_or_same [] m p = inr refl
changed_or_same (a ∷ more) m p = go (write_or_same (written a.op a.reply) m p) (changed_or_same more (map_then m a) p)
  where
    go : WritesAt (written a.op a.reply) p ⊎ (map_then m a p ≡ m p) → Changed p more ⊎ (fold map_then (map_then m a) more p ≡ map_then m a p) → Changed p (a ∷ more) ⊎ (fold map_then m (a ∷ more) p ≡ m p)
    go (inl writes) rest = inl (inl writes)
    go (inr same) (inl changed) = inl (inr changed)
    go (inr same) (inr stays) = inr (stays ∙ same)

-- the place has a value
abbrev Stands : Option ℕ → Type 0
Stands o = (v : ℕ) × (o ≡ Some v)

removed_or_stands : (w : Write) (m : Map) (p : ℕ) → Stands (m p) → Removes w p ⊎ Stands (map_with m w p)
removed_or_stands keeps m p stands = inr stands
removed_or_stands (sets q v) m p stands = dite (ℕ_discrete p q) (λ same. inr (v, cond_here q p (Some v) (m p) (sym same))) (λ apart. inr (stands.0, cond_else q p (Some v) (m p) (λ e. apart (sym e)) ∙ stands.1))
removed_or_stands (removes q) m p stands = dite (ℕ_discrete p q) (λ same. inl same) (λ apart. inr (stands.0, cond_else q p None (m p) (λ e. apart (sym e)) ∙ stands.1))
removed_or_stands (moves q r v) m p stands = dite (ℕ_discrete p q) (λ same. inl same)
    (λ apart. dite (ℕ_discrete p r)
    (λ same. inr (v, cond_here r p (Some v) (cond (q == p) None (m p)) (sym same)))
    (λ other. inr (stands.0, cond_else r p (Some v) (cond (q == p) None (m p)) (λ e. other (sym e)) ∙ cond_else q p None (m p) (λ e. apart (sym e)) ∙ stands.1)))

removed_or_stand : (calls : List Answered) (m : Map) (p : ℕ) → Stands (m p) → Removed p calls ⊎ Stands (fold map_then m calls p)
removed_or_stand [] m p stands = inr stands
removed_or_stand (a ∷ more) m p stands = go (removed_or_stands (written a.op a.reply) m p stands) (removed_or_stand more (map_then m a) p)
  where
    go : Removes (written a.op a.reply) p ⊎ Stands (map_then m a p) → (Stands (map_then m a p) → Removed p more ⊎ Stands (fold map_then (map_then m a) more p))
        → Removed p (a ∷ more) ⊎ Stands (fold map_then m (a ∷ more) p)
    go (inl gone) rest = inl (inl gone)
    go (inr still) rest = next (rest still)
      where
        next : Removed p more ⊎ Stands (fold map_then (map_then m a) more p) → Removed p (a ∷ more) ⊎ Stands (fold map_then m (a ∷ more) p)
        next (inl removed) = inl (inr removed)
        next (inr stays) = inr stays

-- a call in the middle of a legal history has its reply from the map before it
at_middle : {X : Type 0} (xs ys : List X) (x : X) → slice_get (xs ++ x ∷ ys) (length xs) ≡ Some x
at_middle [] ys x = refl
at_middle (y ∷ xs) ys x = at_middle xs ys x

legal_at : (calls xs ys : List Answered) (a : Answered) → Legal calls → calls ≡ xs ++ a ∷ ys → IsAnswer (map_after xs) a.op a.reply
legal_at calls xs ys a legal is =
    subst (λ (cs : List Answered). IsAnswer (map_after cs) a.op a.reply) (take-append_seam xs (a ∷ ys))
    (subst Legal is legal (length xs) a (at_middle xs ys a))

told_one : (o : Option ℕ) → Nothing ≡ told o → o ≡ None
told_one None e = refl
told_one (Some v) e = absurd (cc)

told_same : (o u : Option ℕ) → told o ≡ told u → o ≡ u
told_same None None e = refl
told_same None (Some v) e = absurd (cc)
told_same (Some v) None e = absurd (cc)
told_same (Some v) (Some w) e = let f : v ≡ w = cc in ap Some f

-- the map after one call more, and after more calls
after_more : (xs ys : List Answered) (a : Answered) → map_after (xs ++ a ∷ ys) ≡ fold map_then (map_then (map_after xs) a) ys
after_more xs ys a = fold-append map_then (λ _. None) xs (a ∷ ys)

pub added_once : (calls : List Answered) → Legal calls → AddedOnce calls
added_once calls legal p v w before between after is = go (removed_or_stand between m p (v, cond_here p p (Some v) (map_after before p) refl)) asked
  where
    first : Answered
    first = replied (Add p v) Nothing

    m : Map
    m = map_then (map_after before) first

    regroup : calls ≡ (before ++ first ∷ between) ++ replied (Add p w) Nothing ∷ after
    regroup = is ∙ sym (append_assoc before (first ∷ between) (replied (Add p w) Nothing ∷ after))

    asked : IsAnswer (map_after (before ++ first ∷ between)) (Add p w) Nothing
    asked = legal_at calls (before ++ first ∷ between) after (replied (Add p w) Nothing) legal regroup

    go : Removed p between ⊎ Stands (fold map_then m between p) → IsAnswer (map_after (before ++ first ∷ between)) (Add p w) Nothing → Removed p between
    go (inl removed) answer = removed
    go (inr stands) (inr full) = absurd (let e : Nothing ≡ Full = full in cc)
    go (inr stands) (inl nothing) =
        let none : map_after (before ++ first ∷ between) p ≡ None = told_one (map_after (before ++ first ∷ between) p) nothing in
        let some : map_after (before ++ first ∷ between) p ≡ Some stands.0 = ap (λ (k : Map). k p) (after_more before between first) ∙ stands.1 in
        absurd (let e : None ≡ Some stands.0 = sym none ∙ some in cc)

-- the calls of a trace that goes on
pub calls_join : (newer older : List Event) → calls_of (newer ++ older) ≡ calls_of older ++ calls_of newer
calls_join [] older = sym (append-nil (calls_of older))
calls_join (e ∷ es) older = by_call (call_in e) (calls_join es older)
  where
    by_call : (o : Option Called) → calls_of (es ++ older) ≡ calls_of older ++ calls_of es
        → elim o [ None ↦ calls_of (es ++ older) | Some call ↦ calls_of (es ++ older) ++ answered call ∷ [] ]
        ≡ calls_of older ++ elim o [ None ↦ calls_of es | Some call ↦ calls_of es ++ answered call ∷ [] ]
    by_call None so = so
    by_call (Some call) so = ap (λ z. z ++ answered call ∷ []) so ∙ append_assoc (calls_of older) (calls_of es) (answered call ∷ [])

calls_then : (e : Event) (h : List Event) (call : Called) → call_in e ≡ Some call → calls_of (e ∷ h) ≡ calls_of h ++ answered call ∷ []
calls_then e h call is = ap (λ o. elim o [ None ↦ calls_of h | Some call' ↦ calls_of h ++ answered call' ∷ [] ]) is

-- the calls of a trace in which a call was done
calls_done : (layout : Layout) (template : Template) (n c : ℕ) (op : Op) (s0 s1 : List Event) (reply : Reply) (number : ℕ) (done : Done layout template n c op s0 s1 reply number)
    → calls_of s1 ≡ calls_of (done.before ++ s0) ++ replied op reply ∷ calls_of done.after
calls_done layout template n c op s0 s1 reply number done =
    let h : List Event = done.before ++ s0 in
    ap calls_of done.is ∙ calls_join done.after (done.event ∷ h)
    ∙ ap (λ z. z ++ calls_of done.after) (calls_then done.event h (called c op reply) done.call)
    ∙ append_assoc (calls_of h) (replied op reply ∷ []) (calls_of done.after)

put_sets : (p v : ℕ) (o : Option ℕ) → written (Put p v) (told o) ≡ sets p v
put_sets p v None = refl
put_sets p v (Some w) = refl

-- a caller that has seen all that another had finds what that one put, or a call between changed it
pub finds_put : (layout : Layout) (template : Template) (n c d p v : ℕ) (s0 s1 k0 k1 : List Event) (had found : Option ℕ) (m l : ℕ)
    → Done layout template n c (Put p v) s0 s1 (told had) m → s1 ⊑ k0 → Done layout template n d (Get p) k0 k1 (told found) l → Legal (calls_of k1) → FindsPut p v found (calls_of k1)
finds_put layout template n c d p v s0 s1 k0 k1 had found m l put met get legal = record {
  before = before;
  between = between;
  after = after;
  reply = told had;
  is = whole;
  kept = go (changed_or_same between then' p);
}
  where
    before : List Answered
    before = calls_of (put.before ++ s0)

    first : Answered
    first = replied (Put p v) (told had)

    between : List Answered
    between = calls_of put.after ++ calls_of (get.before ++ met.rest)

    after : List Answered
    after = calls_of get.after

    then' : Map
    then' = map_then (map_after before) first

    seen : calls_of (get.before ++ k0) ≡ before ++ first ∷ between
    seen = ap (λ z. calls_of (get.before ++ z)) met.is
        ∙ ap calls_of (sym (append_assoc get.before met.rest s1))
        ∙ calls_join (get.before ++ met.rest) s1
        ∙ ap (λ z. z ++ calls_of (get.before ++ met.rest)) (calls_done layout template n c (Put p v) s0 s1 (told had) m put)
        ∙ append_assoc before (first ∷ calls_of put.after) (calls_of (get.before ++ met.rest))

    split : calls_of k1 ≡ (before ++ first ∷ between) ++ replied (Get p) (told found) ∷ after
    split = calls_done layout template n d (Get p) k0 k1 (told found) l get ∙ ap (λ z. z ++ replied (Get p) (told found) ∷ after) seen

    whole : calls_of k1 ≡ before ++ first ∷ (between ++ replied (Get p) (told found) ∷ after)
    whole = split ∙ append_assoc before (first ∷ between) (replied (Get p) (told found) ∷ after)

    answer : found ≡ map_after (before ++ first ∷ between) p
    answer = told_same found (map_after (before ++ first ∷ between) p) (legal_at (calls_of k1) (before ++ first ∷ between) after (replied (Get p) (told found)) legal split)

    set : then' p ≡ Some v
    set = ap (λ w. map_with (map_after before) w p) (put_sets p v had) ∙ cond_here p p (Some v) (map_after before p) refl

    go : Changed p between ⊎ (fold map_then then' between p ≡ then' p) → (found ≡ Some v) ⊎ Changed p between
    go (inl changed) = inr changed
    go (inr same) = inl (answer ∙ ap (λ (k : Map). k p) (after_more before between first) ∙ same ∙ set)
