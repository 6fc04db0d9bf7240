-- Where a node that is held is cut.
use Rattle.std.proofs.Common.{◌≡◌, ℕ, true, List, sym, refl, arith}
use Rattle.std.specs.Prelude.{Option, Some, None}
use Rattle.ks_keysets.specs.declared.NodeState.{NodeState}
use Rattle.ks_keysets.specs.declared.Span.{Span}
use Rattle.ks_keysets.specs.Keyset.{InInset}
use Rattle.ks_history.specs.declared.Event.{Event}
use Rattle.ks_history.specs.Trace.{graph_after}
use Rattle.ks_history.specs.Frames.{frame_after}
use Rattle.ks_flow.specs.Tree.{IsInset}
use Rattle.ks_node.specs.Body.{Body}
use Rattle.ks_node.specs.Asks.{CanSplitAt, IsGoodCut, IsNoneOr, Suits}
use Rattle.ks_bodies.specs.Stands.{IsPlain, Stands}
use Rattle.ks_arena.specs.declared.held.Held.{Held as Hand}
use Rattle.ks_arena.specs.Sound.{Sort, blank_of}
use Rattle.ks_arena.specs.Clauses.{Matches}
use Rattle.ks_shape.specs.Laws.Single.{shown, record_is}

-- the graph and frame of a live node that is held are those that its body shows
pub stands_now : {N : Type 0} (sort : Sort) (shows : N → Body) (h : List Event) (x : Hand N) → x.live ≡ true → Matches sort shows h x → IsPlain (shows x.body) → Stands (graph_after h) (frame_after (blank_of sort) h) x.node (shows x.body)
stands_now sort shows h x live matches plain = record { has = record_is sort shows h x live matches; frame = (shown sort shows h x live matches).1; plain = plain }

-- a good cut of the inset lies in it
pub cut_inside : (g : ℕ → NodeState) (n cut : ℕ) (b : Body) (whole : Span) → IsInset g n whole.low whole.last → IsGoodCut b whole cut → InInset g n cut × CanSplitAt b cut
cut_inside g n cut b whole inset good = (inset.back cut (omega (arith, good.above)) good.within, good.splits)

-- a span that suits the node: the one that was passed, if there is one
pub record Whole (g : ℕ → NodeState) (n : ℕ) (b : Body) (o : Option Span) : Type 0 where
  pub span : Span
  pub inset : IsInset g n span.low span.last
  pub suits : Suits b span
  pub given : IsNoneOr o span

pub whole_of : (g : ℕ → NodeState) (n : ℕ) (b : Body) (o : Option Span) → ((span : Span) × IsInset g n span.low span.last × Suits b span) → ((s : Span) → IsInset g n s.low s.last → Suits b s) → ((s : Span) → o ≡ Some s → IsInset g n s.low s.last) → Whole g n b o
whole_of g n b None some suits at = record { span = some.0; inset = some.1; suits = some.2; given = λ r e. absurd (let q : ⊥ = cc in q) }
whole_of g n b (Some s) some suits at = record { span = s; inset = at s refl; suits = suits s (at s refl); given = λ r e. let q : s ≡ r = cc in sym q }
