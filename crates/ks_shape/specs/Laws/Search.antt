-- What holds of a search under trees in sound traces.
use Rattle.std.proofs.Common.{◌≡◌, ℕ, List}
use Rattle.ks_keysets.specs.Keyset.{opening, Good, InInset}
use Rattle.ks_keysets.specs.Walk.{OneParent}
use Rattle.ks_history.specs.declared.Event.{Event}
use Rattle.ks_history.specs.Passes.{GrowsWith}
use Rattle.ks_history.specs.Trace.{held, graph_after, turn_after}
use Rattle.ks_history.specs.Frames.{frame_after}
use Rattle.ks_history.specs.Laws.Stays.{AreInTurn}
use Rattle.ks_history.specs.Laws.Begins.{good_now}
use Rattle.ks_flow.specs.Tree.{Tree}
use Rattle.ks_flow.specs.Discipline.{IsDiscipline, BeginsTree, TreeStep, LastsUnderTree, SameInset, SameKeyset}
use Rattle.ks_arena.specs.Laws.FromSound.{IsPlain, fine}
use Rattle.ks_arena.specs.Sound.{Sort, blank_of, Sound}
use Rattle.ks_shape.specs.Laws.Beside.{StaysBeside, beside_with, stays_beside, keyset_beside}

pub record Laws (sort : Sort) (n : ℕ) : Type 0 where
  pub turns : (h : List Event) → Sound sort BeginsTree TreeStep n h → AreInTurn h
  pub good : (h : List Event) → Sound sort BeginsTree TreeStep n h → Good (graph_after h)
  pub facts : (h : List Event) → Sound sort BeginsTree TreeStep n h → Tree (graph_after h) (frame_after (blank_of sort) h)
  pub parents : (h : List Event) → Sound sort BeginsTree TreeStep n h → OneParent (graph_after h)
  pub insets : StaysBeside SameInset sort BeginsTree TreeStep n
  pub keysets : StaysBeside SameKeyset sort BeginsTree TreeStep n

pub laws_of : IsDiscipline BeginsTree Tree TreeStep LastsUnderTree SameInset → Good opening → (sort : Sort) (n : ℕ) → ((h : List Event) → Sound sort BeginsTree TreeStep n h → OneParent (graph_after h)) → Laws sort n
laws_of laws good_opening sort n parents = record {
  turns = λ h so. (fine sort laws good_opening n h so).turns;
  good = λ h so. good_now (fine sort laws good_opening n h so).good;
  facts = λ h so. (fine sort laws good_opening n h so).facts_now;
  parents = parents;
  insets = stays_beside sort laws good_opening n;
  keysets = keyset_beside sort laws good_opening n;
}

-- what a caller holds keeps its inset while it takes, claims and releases nodes
module _ (sort : Sort) (n c : ℕ) (laws : Laws sort n) where
  pub quiet_insets : (e : Event) (h k : List Event) → IsPlain e → GrowsWith c e h k → Sound sort BeginsTree TreeStep n k → (i p : ℕ) → turn_after h i ≡ held c → turn_after k i ≡ held c → InInset (graph_after h) i p → InInset (graph_after k) i p
  quiet_insets e h k plain grows sound i p before after inside = (beside_with SameInset sort BeginsTree TreeStep n laws.insets c e h k plain grows sound i before after).forth p inside
