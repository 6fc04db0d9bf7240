-- In a lawful trace whose graph is good throughout, nodes are reused safely.
use Rattle.std.proofs.Common.{◌≡◌, ℕ, List, [], ◌∷◌, ◌++◌, ap, ◌∙◌, sym, subst}
use Rattle.std.specs.Prelude.{Some, None}
use Rattle.ks_keysets.specs.declared.Frame.{Frame}
use Rattle.ks_keysets.specs.declared.NodeState.{NodeState}
use Rattle.ks_keysets.specs.Keyset.{IsLive, Good}
use Rattle.ks_history.specs.declared.Event.{Event}
use Rattle.ks_history.specs.declared.Event.TheVariants.{Take, Give, Claim, Shape, Call, Twin}
use Rattle.ks_history.specs.Trace.{◌⊑◌, graph_after}
use Rattle.ks_history.specs.Frames.{frame_after}
use Rattle.ks_history.specs.Lawful.{Lawful, GoodThroughout}
use Rattle.ks_history.specs.Laws.Begins.{begins_both, good_now, good_earlier}
use Rattle.ks_history.specs.Laws.Stays.{lawful_in_turn}
use Rattle.ks_history.specs.Laws.Turns.{free_not_live, idle_live}
use Rattle.ks_arena.specs.Reuse.{NoEdgeTo, AreSafe, ReusesSafely}

-- in a good graph edges lead only to live nodes
no_edge : (g : ℕ → NodeState) (i : ℕ) → Good g → ¬ IsLive g i → NoEdgeTo g i
no_edge g i good not = λ n r is any. not (subst (IsLive g) (ap (λ e. e.node) any.3 ∙ any.4) (good.leads n r is any.0 any.1 any.2))

are_safe : (h : List Event) → Lawful h → GoodThroughout h → AreSafe h
are_safe [] lawful good = tt
are_safe (Take c i ∷ h) lawful good = (are_safe h lawful.0 (good_earlier good), idle_live h i (lawful_in_turn h lawful.0) lawful.1)
are_safe (Give c i ∷ h) lawful good = (are_safe h lawful.0 (good_earlier good), lawful.1)
are_safe (Claim c i ∷ h) lawful good =
    let none = free_not_live h i (lawful_in_turn h lawful.0) lawful.1 in
    (are_safe h lawful.0 (good_earlier good), (lawful.1, no_edge (graph_after h) i (good_now (good_earlier good)) (λ live. let x : None ≡ Some live.0 = sym none ∙ live.1 in cc)))
are_safe (Shape c changes ∷ h) lawful good = (are_safe h lawful.0 (good_earlier good), lawful.1.0)
are_safe (Call c i op reply ∷ h) lawful good = (are_safe h lawful.0 (good_earlier good), lawful.1.1)
are_safe (Twin c i j op reply ∷ h) lawful good = (are_safe h lawful.0 (good_earlier good), lawful.1.2)

good_older : (rest h : List Event) → GoodThroughout (rest ++ h) → GoodThroughout h
good_older [] h good = good
good_older (e ∷ es) h good = good_older es h (good_earlier good)

module _ (lasts : (ℕ → NodeState) → (ℕ → Frame) → (ℕ → NodeState) → (ℕ → Frame) → Type 0) (blank : Frame) where
  -- what lasts does so from each moment of the trace to each later one
  abbrev pub LastsUpTo : List Event → Type 0
  LastsUpTo k = (a b : List Event) → a ⊑ b → b ⊑ k → lasts (graph_after a) (frame_after blank a) (graph_after b) (frame_after blank b)

  pub reuses_safely : (h k : List Event) → Lawful k → GoodThroughout k → LastsUpTo k → ReusesSafely lasts h k
  reuses_safely h k lawful good on = record {
    steps = are_safe k lawful good;
    apart = λ i again. let b = again.so.1 in record {
      moment = b.moment;
      since = begins_both h again.moment b.moment again.since b.since;
      until = b.until;
      so = no_edge (graph_after b.moment) i (good_now (good_older b.until.rest b.moment (subst GoodThroughout b.until.is good))) b.so.0;
    };
    none = λ keeps i again. let a = again.moment in let b = again.so.1 in b.so.0 (keeps (graph_after a) (graph_after b.moment) (frame_after blank a) (frame_after blank b.moment) (on a b.moment b.since b.until) i again.so.0);
  }
