-- That there was room for a place.
use Rattle.std.specs.Prelude.{ℕ, ◌≡◌, ◌<◌, List, length, Some, None}
use Rattle.ks_keysets.specs.declared.Record.{Record}
use Rattle.ks_keysets.specs.Record.{first_value}
use Rattle.ks_keysets.specs.Keyset.{record_at, InKeyset}
use Rattle.ks_keysets.specs.Layout.{Layout, room}
use Rattle.ks_history.specs.declared.Event.{Event}
use Rattle.ks_history.specs.Trace.{◌⊑◌, graph_after}

-- at some moment from s to h the node whose keyset holds the place had a pair there, or fewer pairs than it has room for
pub record HadRoom (layout : Layout) (place : ℕ) (s h : List Event) : Type 0 where
  pub moment : List Event
  pub since : s ⊑ moment
  pub before : moment ⊑ h
  pub at : ℕ
  pub keyset : InKeyset (graph_after moment) at place
  pub node : Record
  pub is : record_at (graph_after moment) at ≡ Some node
  pub fits : first_value node.pairs place ≡ None → length node.pairs < room layout
