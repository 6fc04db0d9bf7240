-- Laws of traces: which calls of a caller are in a trace as it grows, and after a call that is done or left.
use Rattle.std.proofs.Common.{◌≡◌, ◌==◌, ℕ, List, [], ◌∷◌, ◌++◌, Option, Some, None, sym, refl, ap, ◌∙◌}
use Rattle.std.specs.Prelude.{if◌then◌else◌}
use Rattle.ks_keysets.specs.Layout.{Layout}
use Rattle.ks_history.specs.declared.Op.{Op}
use Rattle.ks_history.specs.declared.Reply.{Reply}
use Rattle.ks_history.specs.declared.Event.{Event}
use Rattle.ks_history.specs.declared.Event.TheVariants.{Take, Give, Claim, Shape, Call, Twin}
use Rattle.ks_history.specs.Trace.{Called, answered, call_in, number_after, calls_by, NumberedCall}
use Rattle.ks_history.specs.Own.{called}
use Rattle.ks_history.specs.Passes.{NoCallBy, GrowsByOthers}
use Rattle.ks_history.specs.Done.{Template, Done, Left}
use Rattle.ks_history.specs.Laws.Stays.{cond_here, cond_else}
use Rattle.ks_history.specs.Laws.Begins.{none_no_call}
use Rattle.ks_history.specs.Calls.{numbered}

-- events among which is no Call of c
pub calls_kept : (rest h : List Event) (c : ℕ) → NoCallBy c rest → calls_by c (rest ++ h) ≡ calls_by c h
calls_kept [] h c none = refl
calls_kept (Take d j ∷ es) h c none = calls_kept es h c none
calls_kept (Give d j ∷ es) h c none = calls_kept es h c none
calls_kept (Claim d j ∷ es) h c none = calls_kept es h c none
calls_kept (Shape d changes ∷ es) h c none = calls_kept es h c none
calls_kept (Call d j op reply ∷ es) h c none =
    cond_else c d (calls_by c (es ++ h) ++ numbered (number_after (es ++ h)) op reply ∷ []) (calls_by c (es ++ h)) (λ e. none.0 (sym e))
    ∙ calls_kept es h c none.1
calls_kept (Twin d j j' op reply ∷ es) h c none =
    cond_else c d (calls_by c (es ++ h) ++ numbered (number_after (es ++ h)) op reply ∷ []) (calls_by c (es ++ h)) (λ e. none.0 (sym e))
    ∙ calls_kept es h c none.1

-- a Call of c
pub calls_more : (h : List Event) (c i : ℕ) (op : Op) (reply : Reply) → calls_by c (Call c i op reply ∷ h) ≡ calls_by c h ++ numbered (number_after h) op reply ∷ []
calls_more h c i op reply = cond_here c c (calls_by c h ++ numbered (number_after h) op reply ∷ []) (calls_by c h) refl

-- an event that is a call of c
pub calls_more_by : (h : List Event) (c : ℕ) (e : Event) (op : Op) (reply : Reply) → call_in e ≡ Some (called c op reply) → calls_by c (e ∷ h) ≡ calls_by c h ++ numbered (number_after h) op reply ∷ []
calls_more_by h c e op reply is = ap after is ∙ calls_more h c 0 op reply
  where
    after : Option Called → List NumberedCall
    after o = elim o [
      | None ↦ calls_by c h
      | Some call ↦ if c == call.caller then calls_by c h ++ record { number = number_after h; call = answered call } ∷ [] else calls_by c h
    ]

pub by_others_calls : (c : ℕ) (g h : List Event) → GrowsByOthers c g h → calls_by c h ≡ calls_by c g
by_others_calls c g h so = ap (calls_by c) so.is ∙ calls_kept so.rest g c (none_no_call c so.rest so.others)

-- a call that is done is the last among the calls of its caller, once, with its number
pub done_calls : (layout : Layout) (template : Template) (n c : ℕ) (op : Op) (s0 s1 : List Event) (reply : Reply) (number : ℕ) → Done layout template n c op s0 s1 reply number → calls_by c s1 ≡ calls_by c s0 ++ numbered number op reply ∷ []
done_calls layout template n c op s0 s1 reply number done =
    let h : List Event = done.before ++ s0 in
    ap (calls_by c) done.is
    ∙ calls_kept done.after (done.event ∷ h) c done.none_after
    ∙ calls_more_by h c done.event op reply done.call
    ∙ ap (λ (k : ℕ). calls_by c h ++ numbered k op reply ∷ []) (sym done.numbered)
    ∙ ap (λ (z : List NumberedCall). z ++ numbered number op reply ∷ []) (calls_kept done.before s0 c done.none_before)

-- one that is left is not among them
pub left_calls : (template : Template) (c : ℕ) (op : Op) (s0 s1 : List Event) → Left template c op s0 s1 → calls_by c s1 ≡ calls_by c s0
left_calls template c op s0 s1 left = ap (calls_by c) left.is ∙ calls_kept left.rest s0 c left.none
