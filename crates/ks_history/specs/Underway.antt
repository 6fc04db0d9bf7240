-- Calls under way: what holds between their steps, and how a call becomes Done or Left.
use Rattle.std.proofs.Common.{◌≡◌, ℕ, List, ◌∷◌, ◌++◌, Some}
use Rattle.ks_keysets.specs.Layout.{Layout}
use Rattle.ks_history.specs.declared.Op.{Op}
use Rattle.ks_history.specs.declared.Reply.{Reply}
use Rattle.ks_history.specs.declared.Reply.TheVariants.{Full}
use Rattle.ks_history.specs.declared.Event.{Event}
use Rattle.ks_history.specs.Own.{called}
use Rattle.ks_history.specs.Trace.{call_in, number_after}
use Rattle.ks_history.specs.Passes.{NoCallBy}
use Rattle.ks_history.specs.Due.{FullDue}
use Rattle.ks_history.specs.Done.{Template, Hands}

-- the call of c has made no Call yet
pub record Underway (template : Template) (c : ℕ) (op : Op) (s0 s1 : List Event) : Type 0 where
  pub rest : List Event
  pub is : s1 ≡ rest ++ s0
  pub none : NoCallBy c rest
  pub hands : Hands template c op s0 s1

-- the call of c has made its Call
pub record Decided (layout : Layout) (template : Template) (n c : ℕ) (op : Op) (s0 s1 : List Event) (reply : Reply) (number : ℕ) : Type 0 where
  pub before : List Event
  pub event : Event
  pub after : List Event
  pub is : s1 ≡ after ++ event ∷ (before ++ s0)
  pub call : call_in event ≡ Some (called c op reply)
  pub none_before : NoCallBy c before
  pub none_after : NoCallBy c after
  pub numbered : number ≡ number_after (before ++ s0)
  pub hands : Hands template c op s0 s1
  pub full : reply ≡ Full → FullDue layout n s0 (before ++ s0) event
