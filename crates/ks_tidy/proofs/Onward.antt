-- How a caller that compacts walks on: while nothing disturbs it, each node that it leaves behind is tested.
use Rattle.std.proofs.Common.{◌≡◌, ◌≢◌, ◌⊎◌, ℕ, suc, ◌+◌, ◌%◌, ◌^◌, ◌<◌, ◌≤◌, inl, inr, true, false, List, ◌∷◌, sym, refl, ap, ◌∙◌, subst}
use Rattle.std.specs.Prelude.{All, Option, Some, None}
use Rattle.ks_keysets.specs.declared.Frame.{Frame}
use Rattle.ks_keysets.specs.declared.Kind.{Kind}
use Rattle.ks_keysets.specs.declared.Kind.TheVariants.{NoBranch, Inner, Directory}
use Rattle.ks_keysets.specs.declared.NodeState.{NodeState}
use Rattle.ks_keysets.specs.declared.Record.{Record}
use Rattle.ks_keysets.specs.Record.{top, LeadsTo}
use Rattle.ks_keysets.specs.Keyset.{record_at}
use Rattle.ks_keysets.specs.Reframed.{SameNodes}
use Rattle.ks_keysets.specs.Layout.{Layout}
use Rattle.ks_keysets.specs.Tight.{chained, beside, Fit, IsRightNeighbour, FitsNoRight}
use Rattle.ks_history.specs.declared.Event.{Event}
use Rattle.ks_history.specs.Own.{hand}
use Rattle.ks_history.specs.Trace.{graph_after}
use Rattle.ks_history.specs.Frames.{frame_after}
use Rattle.ks_flow.specs.Tight.{IsTightBelow, EndsRun, ComesTo}
use Rattle.ks_flow.specs.Tree.{Tree}
use Rattle.ks_node.specs.declared.start.Next.TheVariants.{Here}
use Rattle.ks_node.specs.Body.{Body, content_of, frame_of, is_branch, is_branch_kind, next_at, only_child_of}
use Rattle.ks_node.specs.Edges.{record_of}
use Rattle.ks_node.specs.Sound.{Sound as InOrder}
use Rattle.ks_bodies.specs.Stands.{IsPlain, Stands}
use Rattle.ks_arena.specs.declared.held.Held.{Held as Hand}
use Rattle.ks_arena.specs.Sound.{Sort, blank_of}
use Rattle.ks_arena.specs.Clauses.{Matches}
use Rattle.ks_shape.specs.Laws.Single.{record_is, shown}
use Rattle.ks_shape.specs.Laws.OnWay.{ends_unbranched}
use Rattle.ks_shape.specs.declared.path.Path.{Path}
use Rattle.ks_shape.specs.OnPath.{IsUnder, numbers}
use Rattle.ks_shape.specs.Frees.{Frees, Counts, Undisturbed}
use Rattle.ks_shape.specs.Laws.Frees.{frees_both, frees_as, counts_both, counts_on, counts_as, undisturbed_first, undisturbed_then, undisturbed_same}
use Rattle.ks_tidy.specs.Pair.{IsPair, IsNoSole, IsWhole}
use Rattle.ks_tidy.specs.Walking.{HasWideRoot, IsTightUpTo, TightUpTo}

-- graphs with the same nodes

module _ (g k : ℕ → NodeState) (f h : ℕ → Frame) (same : SameNodes g f k h) where
  pub same_back : SameNodes k h g f
  same_back = record { records = λ n. sym (same.records n); frames = λ n. sym (same.frames n) }

  to_g : (n : ℕ) (r : Record) → record_at k n ≡ Some r → record_at g n ≡ Some r
  to_g n r is = sym (same.records n) ∙ is

  kind_is : (n : ℕ) → (h n).kind ≡ (f n).kind
  kind_is n = ap (λ (z : Frame). z.kind) (same.frames n)

  right_back : (n m : ℕ) → IsRightNeighbour k h n m → IsRightNeighbour g f n m
  right_back n m (chained r is own leads) = chained r (to_g n r is) (sym (kind_is n) ∙ own.0, own.1) leads
  right_back n m (beside r a s is own is' branch next) = beside r a s (to_g n r is) (λ o. own (kind_is n ∙ o.0, o.1)) (to_g a s is') (λ e. branch (kind_is a ∙ e)) next

  pub fits_along : (layout : Layout) (n : ℕ) → FitsNoRight layout g f n → FitsNoRight layout k h n
  fits_along layout n tested m r s right is is' fit =
      tested m r s (right_back n m right) (to_g n r is) (to_g m s is')
      (subst (λ (a : Kind). Fit layout a r (f m).kind s) (kind_is n) (subst (λ (b : Kind). Fit layout (h n).kind r b s) (kind_is m) fit))

  pub wide_along : HasWideRoot g f → HasWideRoot k h
  wide_along wide r m is branch = wide r m (to_g 0 r is) (λ e. branch (kind_is 0 ∙ e))

  pub tight_up_along : (layout : Layout) (p : ℕ) → IsTightUpTo layout g f p → IsTightUpTo layout k h p
  tight_up_along layout p tight = record {
    below = record { at = λ n live lt. fits_along layout n (tight.below.at n (live.0, to_g n live.0 live.1) (subst (λ (z : Frame). z.low < p) (same.frames n) lt)) };
    root = λ some. wide_along (tight.root some);
  }

-- a kind that is no branch
no_branch : (kind : Kind) → is_branch_kind kind ≡ false → kind ≡ NoBranch
no_branch NoBranch is = refl
no_branch Inner is = absurd (let q : ⊥ = cc in q)
no_branch Directory is = absurd (let q : ⊥ = cc in q)

module _ {N : Type 0} (sort : Sort) (shows : N → Body) where
  -- there is no node above, or it is the root
  abbrev pub IsBelowRoot : Option (Hand N) → Type 0
  IsBelowRoot None = Unit {0}
  IsBelowRoot (Some y) = (y.node ≡ 0) × IsPlain (shows y.body)

  -- the walk of place p comes to the node of the path, in the graph after s, with the places up to the last; and the
  -- root is tested, or it is the node, or the one above it
  pub record WalksTo (s : List Event) (p last : ℕ) (x : Path N) : Type 0 where
    pub comes : ComesTo sort.layout (graph_after s) (frame_after (blank_of sort) s) p last x.node.node
    pub root : HasWideRoot (graph_after s) (frame_after (blank_of sort) s) ⊎ IsBelowRoot x.parent
    pub whole : IsWhole x

  -- and the node is tested: the root is, or it is the node
  pub record IsTested (s : List Event) (p last : ℕ) (x : Path N) : Type 0 where
    pub comes : ComesTo sort.layout (graph_after s) (frame_after (blank_of sort) s) p last x.node.node
    pub is : record_at (graph_after s) x.node.node ≡ Some (record_of (shows x.node.body))
    pub fits : FitsNoRight sort.layout (graph_after s) (frame_after (blank_of sort) s) x.node.node
    pub root : HasWideRoot (graph_after s) (frame_after (blank_of sort) s) ⊎ (x.parent ≡ None)
    pub whole : IsWhole x

  stands : (h : List Event) (y : Hand N) → y.live ≡ true → Matches sort shows h y → IsPlain (shows y.body) → Stands (graph_after h) (frame_after (blank_of sort) h) y.node (shows y.body)
  stands h y live matches plain = record { has = record_is sort shows h y live matches; frame = (shown sort shows h y live matches).1; plain = plain }

  -- the walk begins at the root
  pub walk_begins : (s : List Event) (p : ℕ) (x : Path N) → ComesTo sort.layout (graph_after s) (frame_after (blank_of sort) s) p top 0 → (x.parent ≡ None) × (x.node.node ≡ 0) → WalksTo s p top x
  walk_begins s p x begins root = record {
    comes = subst (λ (n : ℕ). ComesTo sort.layout (graph_after s) (frame_after (blank_of sort) s) p top n) (sym root.1) begins;
    root = inr (subst (λ (o : Option (Hand N)). IsBelowRoot o) (sym root.0) tt);
    whole = λ none. root.1;
  }

  -- the node is tested
  module _ (no_only_child : (g : ℕ → NodeState) (f : ℕ → Frame) (n : ℕ) (b : Body) → Stands g f n b → only_child_of b ≡ None → (r : Record) (m : ℕ) → record_at g n ≡ Some r → (f n).kind ≢ NoBranch → ¬ All (λ e. e.node ≡ m) r.edges) where
    root_now : (place : ℕ) (h : List Event) (x : Hand N) (o : Option (Hand N)) → IsUnder sort shows place x h o → IsBelowRoot o → IsNoSole sort shows o → HasWideRoot (graph_after h) (frame_after (blank_of sort) h) ⊎ (o ≡ None)
    root_now place h x None under below no_sole = inr refl
    root_now place h x (Some y) under below no_sole = inl (no_only_child (graph_after h) (frame_after (blank_of sort) h) 0 (shows y.body) (subst (λ (n : ℕ). Stands (graph_after h) (frame_after (blank_of sort) h) n (shows y.body)) below.0 (stands h y under.live under.matches below.1)) (no_sole (inl below.0)))

    pub walk_tests : (c p last : ℕ) (s k : List Event) (x : Path N) → Undisturbed c s k → WalksTo s p last x → IsPair sort shows c p k x → IsNoSole sort shows x.parent → FitsNoRight sort.layout (graph_after k) (frame_after (blank_of sort) k) x.node.node → IsTested s p last x
    walk_tests c p last s k x quiet walk pair no_sole fits =
        let same : SameNodes (graph_after s) (frame_after (blank_of sort) s) (graph_after k) (frame_after (blank_of sort) k) = undisturbed_same c (blank_of sort) s k quiet in
        let back : SameNodes (graph_after k) (frame_after (blank_of sort) k) (graph_after s) (frame_after (blank_of sort) s) = same_back (graph_after s) (graph_after k) (frame_after (blank_of sort) s) (frame_after (blank_of sort) k) same in
        record {
          comes = walk.comes;
          is = back.records x.node.node ∙ record_is sort shows k x.node pair.path.live pair.path.matches;
          fits = fits_along (graph_after k) (graph_after s) (frame_after (blank_of sort) k) (frame_after (blank_of sort) s) back sort.layout x.node.node fits;
          root = elim walk.root [
            | inl wide ↦ inl wide
            | inr below ↦ elim (root_now p k x.node x.parent pair.path.under below no_sole) [
              | inl wide ↦ inl (wide_along (graph_after k) (graph_after s) (frame_after (blank_of sort) k) (frame_after (blank_of sort) s) back wide)
              | inr none ↦ inr none
            ]
          ];
          whole = walk.whole;
        }

  -- the walk goes down
  pub walk_down : (p last end child : ℕ) (s : List Event) (x y : Path N)
      → ((n m : ℕ) (r : Record) → ComesTo sort.layout (graph_after s) (frame_after (blank_of sort) s) p last n → record_at (graph_after s) n ≡ Some r → FitsNoRight sort.layout (graph_after s) (frame_after (blank_of sort) s) n → LeadsTo r p m → EndsRun r p last end → ComesTo sort.layout (graph_after s) (frame_after (blank_of sort) s) p end m)
      → IsTested s p last x → LeadsTo (record_of (shows x.node.body)) p child → EndsRun (record_of (shows x.node.body)) p last end → IsPlain (shows x.node.body) → y.parent ≡ Some x.node → y.node.node ≡ child → WalksTo s p end y
  walk_down p last end child s x y goes tested leads run plain above at = record {
    comes = subst (λ (n : ℕ). ComesTo sort.layout (graph_after s) (frame_after (blank_of sort) s) p end n) (sym at) (goes x.node.node child (record_of (shows x.node.body)) tested.comes tested.is tested.fits leads run);
    root = elim tested.root [
      | inl wide ↦ inl wide
      | inr none ↦ inr (subst (λ (o : Option (Hand N)). IsBelowRoot o) (sym above) (tested.whole none, plain))
    ];
    whole = λ none. absurd (let q : Some x.node ≡ None = sym above ∙ none in let z : ⊥ = cc in z);
  }

  -- the walk ends
  module _ (c p last end : ℕ) (s k : List Event) (x : Path N) (quiet : Undisturbed c s k) (tested : IsTested s p last x) (pair : IsPair sort shows c p k x) (facts : Tree (graph_after k) (frame_after (blank_of sort) k)) (place : p ≤ top) (order : InOrder (content_of (shows x.node.body))) (here : next_at (shows x.node.body) p ≡ Here) where
    unbranched : x.parent ≡ None → is_branch (shows x.node.body) ≡ false
    unbranched none = ends_unbranched sort shows c p k x.node (record { alone = subst (λ (o : Option (Hand N)). hand_is o) none pair.path.hands; live = pair.path.live; matches = pair.path.matches; inside = pair.path.inside }) facts place order here
      where
        hand_is : Option (Hand N) → Type 0
        hand_is o = hand c k ≡ x.node.node ∷ numbers o

    wide_end : HasWideRoot (graph_after s) (frame_after (blank_of sort) s)
    wide_end = elim tested.root [
      | inl wide ↦ wide
      | inr none ↦ (λ r m is branch. absurd (branch (
          let same : SameNodes (graph_after s) (frame_after (blank_of sort) s) (graph_after k) (frame_after (blank_of sort) k) = undisturbed_same c (blank_of sort) s k quiet in
          let zero : x.node.node ≡ 0 = tested.whole none in
          let at : frame_after (blank_of sort) k x.node.node ≡ frame_of (shows x.node.body) = (shown sort shows k x.node pair.path.live pair.path.matches).1 in
          let kind : (frame_after (blank_of sort) k 0).kind ≡ NoBranch = subst (λ (n : ℕ). (frame_after (blank_of sort) k n).kind ≡ NoBranch) zero (ap (λ (z : Frame). z.kind) at ∙ no_branch (shows x.node.body).kind (unbranched none)) in
          sym (ap (λ (z : Frame). z.kind) (same.frames 0)) ∙ kind)))
    ]

    pub walk_ends : (IsTightBelow sort.layout (graph_after s) (frame_after (blank_of sort) s) p → IsTightBelow sort.layout (graph_after s) (frame_after (blank_of sort) s) (suc end)) → TightUpTo sort p s → TightUpTo sort (suc end) s
    walk_ends on tight = record { below = on tight.below; root = λ some. wide_end }

-- what was tested stays so while nothing disturbs the caller
pub tight_on : (sort : Sort) (c p : ℕ) (s k : List Event) → Undisturbed c s k → TightUpTo sort p s → TightUpTo sort p k
tight_on sort c p s k quiet tight = tight_up_along (graph_after s) (graph_after k) (frame_after (blank_of sort) s) (frame_after (blank_of sort) k) (undisturbed_same c (blank_of sort) s k quiet) sort.layout p tight

-- the node to which a walk came is visited from h to k
module _ {N : Type 0} (sort : Sort) (shows : N → Body) (c p last a b : ℕ) (s h k : List Event) (x y : Path N) (made : Frees c s h a) (more : Frees c h k b) (walk : Undisturbed c s h → WalksTo sort shows s p last x) (same : Undisturbed c h k → y ≡ x) (fits : IsWhole y → Undisturbed c h k → FitsNoRight sort.layout (graph_after k) (frame_after (blank_of sort) k) y.node.node) where
  pub visit_tests : ((g : ℕ → NodeState) (f : ℕ → Frame) (n : ℕ) (b : Body) → Stands g f n b → only_child_of b ≡ None → (r : Record) (m : ℕ) → record_at g n ≡ Some r → (f n).kind ≢ NoBranch → ¬ All (λ e. e.node ≡ m) r.edges)
      → IsPair sort shows c p k y → IsNoSole sort shows y.parent → Undisturbed c s k → IsTested sort shows s p last y
  visit_tests no_only_child pair no_sole quiet =
      let early : Undisturbed c s h = undisturbed_first c a b s h k made more quiet in
      let late : Undisturbed c h k = undisturbed_then c a b s h k made more quiet in
      let here : WalksTo sort shows s p last y = subst (λ (z : Path N). WalksTo sort shows s p last z) (sym (same late)) (walk early) in
      walk_tests sort shows no_only_child c p last s k y quiet here pair no_sole (fits here.whole late)

-- a stretch, one more, and one that makes none free
pub quiet_before : (c a b : ℕ) (s h k m : List Event) → Frees c s h a → Frees c h k b → Frees c k m 0 → Undisturbed c s m → Undisturbed c s k
quiet_before c a b s h k m x y z quiet = undisturbed_first c (a + b) 0 s k m (frees_both c a b s h k x y) z quiet

-- the counts of two stretches add up, with the caller's number restated after each
pub counts_next : (a b d told more : ℕ) (s h k m : List Event) → b ≡ a → d ≡ b → Counts a s h told → Counts a h k more → Frees b k m 0 → Counts d s m ((told + more) % 2 ^ 32)
counts_next a b d told more s h k m same same' x y z = counts_as d a ((told + more) % 2 ^ 32) s m (sym (same' ∙ same)) (counts_on a ((told + more) % 2 ^ 32) s k m (counts_both a told more s h k x y) (frees_as a b k m same z))
