-- While no other caller acts: if no other holds a node at first, none does later, and no refusal of the caller is due.
use Rattle.std.proofs.Common.{◌≡◌, ◌≢◌, ℕ, zero, suc, List, [], ◌∷◌, ◌++◌, sym, refl, ap, ◌∙◌, subst, append_assoc, arith}
use Rattle.std.specs.Prelude.{Any}
use Rattle.std.proofs.lemmas.List.{append_cancel_right}
use mathlib.Core.Logic.{dite}
use native.Mathlib.Decide.{ℕ_discrete}
use Rattle.ks_history.specs.declared.Op.{Op}
use Rattle.ks_history.specs.declared.Event.{Event}
use Rattle.ks_history.specs.declared.Event.TheVariants.{Take, Give, Claim, Shape, Call, Twin}
use Rattle.ks_history.specs.Trace.{◌⊑◌, caller_of, held, turn_after}
use Rattle.ks_history.specs.Callers.{NoneBy}
use Rattle.ks_history.specs.Passes.{GrowsByOthers}
use Rattle.ks_history.specs.Refusals.{ShapesFor, ShapesBesides, BusyDue, MovedDue, FarDue}
use Rattle.ks_history.specs.Laws.Stays.{others_turn}
use Rattle.ks_history.specs.Alone.{AllBy, ActsAlone, HoldsAlone}

-- if only one caller acts, and it does nothing, there is no event
nobody_acts : (c : ℕ) (es : List Event) → AllBy c es → NoneBy c es → es ≡ []
nobody_acts c [] own others = refl
nobody_acts c (e ∷ es) own others = absurd (others.0 own.0)

pub alone_still : (c : ℕ) (h k : List Event) → ActsAlone c h k → GrowsByOthers c h k → k ≡ h
alone_still c h k alone grows = let same : grows.rest ≡ alone.rest = append_cancel_right grows.rest alone.rest h (sym grows.is ∙ alone.is) in
    let none_left : alone.rest ≡ [] = nobody_acts c alone.rest alone.own (subst (NoneBy c) same grows.others) in alone.is ∙ ap (λ (z : List Event). z ++ h) none_left

-- if all events are of one caller, so are the newer ones
own_newer : (c : ℕ) (es fs : List Event) → AllBy c (es ++ fs) → AllBy c es
own_newer c [] fs own = tt
own_newer c (e ∷ es) fs own = (own.0, own_newer c es fs own.1)

own_older : (c : ℕ) (es fs : List Event) → AllBy c (es ++ fs) → AllBy c fs
own_older c [] fs own = own
own_older c (e ∷ es) fs own = own_older c es fs own.1

parts : (c : ℕ) (h m k : List Event) (a : h ⊑ m) (b : m ⊑ k) (alone : ActsAlone c h k) → AllBy c (b.rest ++ a.rest)
parts c h m k a b alone = let whole : k ≡ (b.rest ++ a.rest) ++ h = b.is ∙ ap (λ (z : List Event). b.rest ++ z) a.is ∙ sym (append_assoc b.rest a.rest h) in
    subst (AllBy c) (append_cancel_right alone.rest (b.rest ++ a.rest) h (sym alone.is ∙ whole)) alone.own

pub alone_first : (c : ℕ) (h m k : List Event) → h ⊑ m → m ⊑ k → ActsAlone c h k → ActsAlone c h m
alone_first c h m k a b alone = record { rest = a.rest; is = a.is; own = own_older c b.rest a.rest (parts c h m k a b alone) }

pub alone_then : (c : ℕ) (h m k : List Event) → h ⊑ m → m ⊑ k → ActsAlone c h k → ActsAlone c m k
alone_then c h m k a b alone = record { rest = b.rest; is = b.is; own = own_newer c b.rest a.rest (parts c h m k a b alone) }

-- if all events are of one caller and no other held a node, no other comes to hold one
own_none : (c d : ℕ) (es : List Event) → d ≢ c → AllBy c es → NoneBy d es
own_none c d [] apart own = tt
own_none c d (e ∷ es) apart own = ((λ same. apart (sym same ∙ own.0)), own_none c d es apart own.1)

pub holds_alone_still : (c : ℕ) (h k : List Event) → ActsAlone c h k → HoldsAlone c h → HoldsAlone c k
holds_alone_still c h k alone holds d i mine = dite (ℕ_discrete d c)
    (λ same. same)
    (λ apart. absurd (apart (holds d i (others_turn alone.rest h d i (own_none c d alone.rest apart alone.own) (subst (λ (z : List Event). turn_after z i ≡ held d) alone.is mine)))))

-- and no refusal of it is due
pub never_busy : (c node holder : ℕ) (op : Op) (s0 s1 : List Event) → ActsAlone c s0 s1 → HoldsAlone c s0 → BusyDue c op s0 s1 node holder → ⊥
never_busy c node holder op s0 s1 alone holds due =
    let at = due.is_held in
    due.another (holds_alone_still c s0 at.moment (alone_first c s0 at.moment s1 at.since at.until alone) holds holder node at.so)

own_not_any : (c : ℕ) (P : Event → Type 0) (es : List Event) → ((e : Event) → caller_of e ≡ c → P e → ⊥) → AllBy c es → Any P es → ⊥
own_not_any c P [] never own (k, x, lt, is, so) = omega arith
own_not_any c P (e ∷ es) never own (zero, x, lt, is, so) = never e own.0 (subst P (sym is) so)
own_not_any c P (e ∷ es) never own (suc k, x, lt, is, so) = own_not_any c P es never own.1 (k, x, omega arith, is, so)

own_rest : (c : ℕ) (h k : List Event) → ActsAlone c h k → (grows : h ⊑ k) → AllBy c grows.rest
own_rest c h k alone grows = subst (AllBy c) (append_cancel_right alone.rest grows.rest h (sym alone.is ∙ grows.is)) alone.own

not_for : (c node : ℕ) (e : Event) → caller_of e ≡ c → ShapesFor c node e → ⊥
not_for c node (Take d i) own so = so
not_for c node (Give d i) own so = so
not_for c node (Claim d i) own so = so
not_for c node (Shape d changes) own so = so.0 own
not_for c node (Call d i op reply) own so = so
not_for c node (Twin d i i' op reply) own so = so

not_besides : (c : ℕ) (e : Event) → caller_of e ≡ c → ShapesBesides c e → ⊥
not_besides c (Take d i) own so = so
not_besides c (Give d i) own so = so
not_besides c (Claim d i) own so = so
not_besides c (Shape d changes) own so = so own
not_besides c (Call d i op reply) own so = so
not_besides c (Twin d i i' op reply) own so = so

pub never_moved : (c node : ℕ) (op : Op) (s0 s1 : List Event) → ActsAlone c s0 s1 → MovedDue c op s0 s1 node → ⊥
never_moved c node op s0 s1 alone due = own_not_any c (ShapesFor c node) due.grows.rest (not_for c node) (own_rest c s0 s1 alone due.grows) due.shaped

pub never_far : (n c : ℕ) (s0 s1 : List Event) → ActsAlone c s0 s1 → FarDue n c s0 s1 → ⊥
never_far n c s0 s1 alone due = own_not_any c (ShapesBesides c) due.grows.rest (not_besides c) (own_rest c s0 s1 alone due.grows) due.shaped
