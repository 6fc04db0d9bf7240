-- Where calls are decided, and the branches that searches have passed, as a call goes on.
use Rattle.std.proofs.Common.{◌≡◌, ℕ, List, [], ◌∷◌, ◌++◌, sym, ap, ◌∙◌, append_assoc}
use Rattle.std.specs.Prelude.{Option, Some, None, IfSome}
use Rattle.ks_keysets.specs.declared.Frame.{Frame}
use Rattle.ks_keysets.specs.Layout.{Layout}
use Rattle.ks_history.specs.declared.Event.{Event}
use Rattle.ks_history.specs.declared.Op.{Op}
use Rattle.ks_history.specs.declared.Reply.{Reply}
use Rattle.ks_history.specs.Done.{Hands, Template, and_on, at_first}
use Rattle.ks_history.specs.Laws.Begins.{begins_both, no_call_both}
use Rattle.ks_history.specs.Own.{hand}
use Rattle.ks_history.specs.Trace.{◌⊑◌}
use Rattle.ks_history.specs.Underway.{Underway}
use Rattle.ks_arena.specs.Sound.{Sort}
use Rattle.ks_shape.specs.declared.answers.Above.{Above}
use Rattle.ks_shape.specs.Hinted.{DoneWhere, WasAbove}

hands_on : {template : Template} {c : ℕ} {op : Op} {s h k : List Event} → Hands template c op s h → Hands template c op h k → Hands template c op s k
hands_on a (at_first few) = a
hands_on a (and_on before well few) = and_on (hands_on a before) well few

-- a call that is done remains done, at the same node, after further steps
pub where_on : (layout : Layout) (template : Template) (n c : ℕ) (op : Op) (s h k : List Event) (reply : Reply) (number node low last : ℕ) (blank : Frame) → DoneWhere layout template n c op s h reply number node low last blank → Underway template c op h k → hand c k ≡ [] → DoneWhere layout template n c op s k reply number node low last blank
where_on layout template n c op s h k reply number node low last blank so on empty =
    let was = so.at.done in
    record {
      frame = so.frame;
      at = record {
        done = record {
          before = was.before;
          event = was.event;
          after = on.rest ++ was.after;
          is = on.is ∙ ap (λ (z : List Event). on.rest ++ z) was.is ∙ sym (append_assoc on.rest was.after (was.event ∷ (was.before ++ s)));
          call = was.call;
          none_before = was.none_before;
          none_after = no_call_both c on.rest was.after on.none was.none_after;
          numbered = was.numbered;
          gave_all = empty;
          hands = hands_on was.hands on.hands;
          full = was.full;
        };
        at = so.at.at;
        framed = so.at.framed;
      };
      range = so.range;
    }

-- a branch that was passed since a moment was passed since each earlier one
pub was_above_since : (sort : Sort) (place : ℕ) (s h k : List Event) → s ⊑ h → (above : Option Above) → IfSome above (WasAbove sort place h k) → IfSome above (WasAbove sort place s k)
was_above_since sort place s h k from None was = was
was_above_since sort place s h k from (Some branch) was = record { moment = was.moment; since = begins_both s h was.moment from was.since; later = was.later; is = was.is; within = was.within }
