-- When a call may be decided at a node that its caller holds.
use Rattle.std.proofs.Common.{◌≡◌, ◌≢◌, ℕ, ◌≤◌, Bool, true, false, cond, List, length, sym, refl, ap, ◌∙◌, subst, inl, inr}
use Rattle.std.specs.Prelude.{Option, Some, None, IsTrue, nat_eq}
use Rattle.std.proofs.lemmas.Bool.Decides.{eqb_tells}
use Rattle.ks_keysets.specs.declared.NodeState.{NodeState}
use Rattle.ks_keysets.specs.declared.NodeState.TheVariants.{Live}
use Rattle.ks_keysets.specs.declared.Frame.{Frame}
use Rattle.ks_keysets.specs.declared.Record.{Record}
use Rattle.ks_keysets.specs.declared.Kind.{Kind}
use Rattle.ks_keysets.specs.declared.Kind.TheVariants.{NoBranch, Inner, Directory}
use Rattle.ks_keysets.specs.Record.{LeadsOn, top}
use Rattle.ks_keysets.specs.Keyset.{live_record, value_in, value_at as found_at, InInset, InKeyset, at_root}
use Rattle.ks_history.specs.declared.Op.TheVariants.{Get, Put, Del, Add, Swap}
use Rattle.ks_history.specs.declared.Reply.{Reply}
use Rattle.ks_history.specs.declared.Reply.TheVariants.{Nothing, Value, Full}
use Rattle.ks_history.specs.declared.Event.{Event}
use Rattle.ks_history.specs.declared.Event.TheVariants.{Call}
use Rattle.ks_history.specs.Map.{told}
use Rattle.ks_history.specs.Write.{written, keeps, sets}
use Rattle.ks_history.specs.Laws.Stays.{cond_here, cond_else}
use Rattle.ks_history.specs.Passes.{NoCallBy}
use Rattle.ks_history.specs.Laws.Dues.{is_due_by}
use Rattle.ks_history.specs.Trace.{◌⊑◌, held, graph_after, turn_after, state_with}
use Rattle.ks_history.specs.Frames.{frame_after}
use Rattle.ks_history.specs.Lawful.{Meets}
use Rattle.ks_history.specs.Due.{IsDue, IsFullFor, NoneFree}
use Rattle.ks_keysets.specs.Layout.{Layout, room}
use Rattle.ks_keysets.specs.Tight.{capacity}
use Rattle.ks_node.specs.declared.start.Next.TheVariants.{Here}
use Rattle.ks_node.specs.Body.{Body, content_of, frame_of, is_branch, is_branch_kind, next_at, value_at}
use Rattle.ks_node.specs.Edges.{record_of}
use Rattle.ks_node.specs.Effect.{pairs_put, pairs_del, with_pairs}
use Rattle.ks_node.specs.Sound.{Sound as InOrder}
use Rattle.ks_node.specs.Laws.Puts.{value_first}
use Rattle.ks_node.specs.Room.{is_full, is_full_at}
use Rattle.ks_node.specs.Laws.Ways.{here_stays}
use Rattle.ks_arena.specs.declared.held.Held.{Held as Hand}
use Rattle.ks_arena.specs.Sound.{Sort, blank_of}
use Rattle.ks_arena.specs.Laws.Writes.{put_sets, del_removes}
use Rattle.ks_arena.specs.Clauses.{Matches, MatchesIf, IsReady}

-- a full body that is no branch has as many pairs as its layout has room for
filled : (layout : Layout) (b : Body) → is_branch b ≡ false → IsTrue (is_full layout b) → length b.pairs ≡ room layout
filled layout b leaf full = go b.kind refl leaf
  where
    count : (n m : ℕ) → nat_eq n m ≡ true → n ≡ m
    count n m t = elim (eqb_tells n m) [ inl e ↦ e.1 | inr e ↦ absurd (let q : false ≡ true = sym e.0 ∙ t in let z : ⊥ = cc in z) ]

    go : (k : Kind) → b.kind ≡ k → is_branch_kind b.kind ≡ false → length b.pairs ≡ room layout
    go NoBranch e leaf = let s : IsTrue (is_full_at (capacity layout NoBranch) (cond (is_branch_kind NoBranch) (length b.starts) (length b.pairs))) = subst (λ (z : Kind). IsTrue (is_full_at (capacity layout z) (cond (is_branch_kind z) (length b.starts) (length b.pairs)))) e full in count (length b.pairs) (room layout) s
    go Inner e leaf = absurd (let q : is_branch_kind Inner ≡ false = subst (λ (z : Kind). is_branch_kind z ≡ false) e leaf in let z : ⊥ = cc in z)
    go Directory e leaf = absurd (let q : is_branch_kind Directory ≡ false = subst (λ (z : Kind). is_branch_kind z ≡ false) e leaf in let z : ⊥ = cc in z)

module _ {N : Type 0} (sort : Sort) (shows : N → Body) where
  pub live_if : (live : Bool) (s : NodeState) (f : Frame) (b : N) → live ≡ true → MatchesIf sort shows live s f b → (s ≡ Live (record_of (shows b))) × (f ≡ frame_of (shows b))
  live_if true s f b e so = so
  live_if false s f b e so = absurd (let q : ⊥ = cc in q)

  abbrev pub shown : (h : List Event) (x : Hand N) → x.live ≡ true → Matches sort shows h x → (graph_after h x.node ≡ Live (record_of (shows x.body))) × (frame_after (blank_of sort) h x.node ≡ frame_of (shows x.body))
  shown h x live m = live_if x.live (graph_after h x.node) (frame_after (blank_of sort) h x.node) x.body live m.is

  -- the inset of the root has every place
  pub root_inset : (h : List Event) (x : Hand N) (p : ℕ) → x.live ≡ true → Matches sort shows h x → x.node ≡ 0 → p ≤ top → InInset (graph_after h) x.node p
  root_inset h x p live m root low = subst (λ (i : ℕ). InInset (graph_after h) i p) (sym root) (low, at_root (record_of (shows x.body), ap live_record (ap (graph_after h) (sym root) ∙ (shown h x live m).0)))

  -- a place of its inset at which the search ends is in the keyset of the node
  pub in_keyset : (h : List Event) (x : Hand N) (p : ℕ) → x.live ≡ true → Matches sort shows h x → InInset (graph_after h) x.node p → InOrder (content_of (shows x.body)) → next_at (shows x.body) p ≡ Here → InKeyset (graph_after h) x.node p
  in_keyset h x p live m inside order here = (
    inside,
    λ out. let is_live = (shown h x live m).0 in let same : Some (record_of (shows x.body)) ≡ Some out.0 = sym (ap live_record is_live) ∙ out.1 in let is : record_of (shows x.body) ≡ out.0 = cc in
        here_stays (shows x.body) p order here (subst (λ (r : Record). LeadsOn r p) (sym is) out.2),
  )

  -- what the body has at the place is what the graph has there
  pub shows_value : (h : List Event) (x : Hand N) (p : ℕ) → x.live ≡ true → Matches sort shows h x → found_at (graph_after h) x.node p ≡ value_at (shows x.body).pairs p
  shows_value h x p live m = ap (λ (s : NodeState). value_in (live_record s) p) (shown h x live m).0 ∙ value_first (shows x.body).pairs p

  get_due : (layout : Layout) (n c i p : ℕ) (h : List Event) (found : Option ℕ) → IsDue layout n h (Call c i (Get p) (told found))
  get_due layout n c i p h None full = absurd (cc)
  get_due layout n c i p h (Some w) full = absurd (cc)

  pub get_ready : (nodes c p : ℕ) (h : List Event) (x : Hand N) (found : Option ℕ) (reply : Reply) → turn_after h x.node ≡ held c → x.live ≡ true → Matches sort shows h x → InInset (graph_after h) x.node p → InOrder (content_of (shows x.body)) → next_at (shows x.body) p ≡ Here
      → found ≡ value_at (shows x.body).pairs p → reply ≡ told found → IsReady sort shows nodes c h x (Get p) reply
  get_ready nodes c p h x found reply mine live m inside order here is tells = subst (IsReady sort shows nodes c h x (Get p)) (sym tells) record {
    live = live;
    meets = (mine, (λ q t. subst (InKeyset (graph_after h) x.node) (sym t) (in_keyset h x p live m inside order here)), ap told (is ∙ sym (shows_value h x p live m)));
    due = get_due sort.layout nodes c x.node p h found;
    state = keeps found;
    frame = (shown h x live m).1;
  }
    where
      keeps : (found : Option ℕ) → state_with (written (Get p) (told found)) (graph_after h x.node) ≡ Live (record_of (shows x.body))
      keeps None = ap (state_with (written (Get p) (told None))) (shown h x live m).0
      keeps (Some v) = ap (state_with (written (Get p) (told (Some v)))) (shown h x live m).0

  put_due : (layout : Layout) (n c i p v : ℕ) (h : List Event) (found : Option ℕ) → IsDue layout n h (Call c i (Put p v) (told found))
  put_due layout n c i p v h None full = absurd (cc)
  put_due layout n c i p v h (Some w) full = absurd (cc)

  del_due : (layout : Layout) (n c i p : ℕ) (h : List Event) (found : Option ℕ) → IsDue layout n h (Call c i (Del p) (told found))
  del_due layout n c i p h None full = absurd (cc)
  del_due layout n c i p h (Some w) full = absurd (cc)

  add_due : (layout : Layout) (n c i p v : ℕ) (h : List Event) (found : Option ℕ) → IsDue layout n h (Call c i (Add p v) (told found))
  add_due layout n c i p v h None full = absurd (cc)
  add_due layout n c i p v h (Some w) full = absurd (cc)

  swap_due : (layout : Layout) (n c i p old new : ℕ) (h : List Event) (found : Option ℕ) → IsDue layout n h (Call c i (Swap p old new) (told found))
  swap_due layout n c i p old new h None full = absurd (cc)
  swap_due layout n c i p old new h (Some w) full = absurd (cc)

  told_sets : (p v : ℕ) (found : Option ℕ) → written (Put p v) (told found) ≡ sets p v
  told_sets p v None = refl
  told_sets p v (Some w) = refl

  swap_keeps : (p old new : ℕ) (found : Option ℕ) → found ≢ Some old → written (Swap p old new) (told found) ≡ keeps
  swap_keeps p old new None other = refl
  swap_keeps p old new (Some v) other = cond_else v old (sets p new) keeps (λ e. other (ap Some e))

  -- y is x after a call has changed its pairs
  module _ (nodes c p : ℕ) (h : List Event) (x : Hand N) (mine : turn_after h x.node ≡ held c) (live : x.live ≡ true) (m : Matches sort shows h x) (inside : InInset (graph_after h) x.node p) (order : InOrder (content_of (shows x.body))) (here : next_at (shows x.body) p ≡ Here) where
    abbrev found : Option ℕ
    found = value_at (shows x.body).pairs p

    answers : told found ≡ told (found_at (graph_after h) x.node p)
    answers = ap told (sym (shows_value h x p live m))

    keyset : (q : ℕ) → q ≡ p → InKeyset (graph_after h) x.node q
    keyset q t = subst (InKeyset (graph_after h) x.node) (sym t) (in_keyset h x p live m inside order here)

    pub put_ready : (v : ℕ) (y : Hand N) → y.node ≡ x.node → y.live ≡ true → shows y.body ≡ with_pairs (shows x.body) (pairs_put p v (shows x.body).pairs) → IsReady sort shows nodes c h y (Put p v) (told found)
    put_ready v y node lives body = record {
      live = lives;
      meets = subst (λ (i : ℕ). Meets h (Call c i (Put p v) (told found))) (sym node) (mine, keyset, inl answers);
      due = put_due sort.layout nodes c y.node p v h found;
      state = subst (λ (i : ℕ). state_with (written (Put p v) (told found)) (graph_after h i) ≡ Live (record_of (shows y.body))) (sym node) (rw (told_sets p v found, (shown h x live m).0, body, put_sets p v (shows x.body).pairs order.pairs_ascend) refl);
      frame = subst (λ (i : ℕ). frame_after (blank_of sort) h i ≡ frame_of (shows y.body)) (sym node) ((shown h x live m).1 ∙ sym (ap frame_of body));
    }

    pub del_ready : (y : Hand N) → y.node ≡ x.node → y.live ≡ true → shows y.body ≡ with_pairs (shows x.body) (pairs_del p (shows x.body).pairs) → IsReady sort shows nodes c h y (Del p) (told found)
    del_ready y node lives body = record {
      live = lives;
      meets = subst (λ (i : ℕ). Meets h (Call c i (Del p) (told found))) (sym node) (mine, keyset, answers);
      due = del_due sort.layout nodes c y.node p h found;
      state = subst (λ (i : ℕ). state_with (written (Del p) (told found)) (graph_after h i) ≡ Live (record_of (shows y.body))) (sym node) (rw ((shown h x live m).0, body, del_removes p (shows x.body).pairs order.pairs_ascend) refl);
      frame = subst (λ (i : ℕ). frame_after (blank_of sort) h i ≡ frame_of (shows y.body)) (sym node) ((shown h x live m).1 ∙ sym (ap frame_of body));
    }

    pub add_told : (v w : ℕ) → found ≡ Some w → IsReady sort shows nodes c h x (Add p v) (Value w)
    add_told v w is = record {
      live = live;
      meets = (mine, keyset, inl (ap told (sym is) ∙ answers));
      due = add_due sort.layout nodes c x.node p v h (Some w);
      state = ap (state_with keeps) (shown h x live m).0;
      frame = (shown h x live m).1;
    }

    pub add_ready : (v : ℕ) → found ≡ None → (y : Hand N) → y.node ≡ x.node → y.live ≡ true → shows y.body ≡ with_pairs (shows x.body) (pairs_put p v (shows x.body).pairs) → IsReady sort shows nodes c h y (Add p v) Nothing
    add_ready v none y node lives body = record {
      live = lives;
      meets = subst (λ (i : ℕ). Meets h (Call c i (Add p v) Nothing)) (sym node) (mine, keyset, inl (ap told (sym none) ∙ answers));
      due = add_due sort.layout nodes c y.node p v h None;
      state = subst (λ (i : ℕ). state_with (written (Add p v) Nothing) (graph_after h i) ≡ Live (record_of (shows y.body))) (sym node) (rw ((shown h x live m).0, body, put_sets p v (shows x.body).pairs order.pairs_ascend) refl);
      frame = subst (λ (i : ℕ). frame_after (blank_of sort) h i ≡ frame_of (shows y.body)) (sym node) ((shown h x live m).1 ∙ sym (ap frame_of body));
    }

    pub swap_ready : (old new : ℕ) → found ≡ Some old → (y : Hand N) → y.node ≡ x.node → y.live ≡ true → shows y.body ≡ with_pairs (shows x.body) (pairs_put p new (shows x.body).pairs) → IsReady sort shows nodes c h y (Swap p old new) (Value old)
    swap_ready old new is y node lives body = record {
      live = lives;
      meets = subst (λ (i : ℕ). Meets h (Call c i (Swap p old new) (Value old))) (sym node) (mine, keyset, ap told (sym is) ∙ answers);
      due = swap_due sort.layout nodes c y.node p old new h (Some old);
      state = subst (λ (i : ℕ). state_with (written (Swap p old new) (Value old)) (graph_after h i) ≡ Live (record_of (shows y.body))) (sym node) (rw (cond_here old old (sets p new) keeps refl, (shown h x live m).0, body, put_sets p new (shows x.body).pairs order.pairs_ascend) refl);
      frame = subst (λ (i : ℕ). frame_after (blank_of sort) h i ≡ frame_of (shows y.body)) (sym node) ((shown h x live m).1 ∙ sym (ap frame_of body));
    }

    pub swap_told : (old new : ℕ) → found ≢ Some old → IsReady sort shows nodes c h x (Swap p old new) (told found)
    swap_told old new other = record {
      live = live;
      meets = (mine, keyset, answers);
      due = swap_due sort.layout nodes c x.node p old new h found;
      state = ap (λ w. state_with w (graph_after h x.node)) (swap_keeps p old new found other) ∙ ap (state_with keeps) (shown h x live m).0;
      frame = (shown h x live m).1;
    }

    -- a refusal: the body is full, without a pair at the place, and no node was free since s
    module _ (leaf : is_branch (shows x.body) ≡ false) (full : IsTrue (is_full sort.layout (shows x.body))) (absent : found ≡ None) (s : List Event) (since : s ⊑ h) (quiet : NoCallBy c since.rest) (none : NoneFree sort.layout nodes c p s h) where
      pub full_at : IsFullFor sort.layout (graph_after h) x.node p
      full_at = record { node = record_of (shows x.body); is = ap live_record (shown h x live m).0; filled = filled sort.layout (shows x.body) leaf full; absent = value_first (shows x.body).pairs p ∙ absent }

      pub put_full : (v : ℕ) → IsReady sort shows nodes c h x (Put p v) Full
      put_full v = record {
        live = live;
        meets = (mine, keyset, inr refl);
        due = λ z. is_due_by sort.layout nodes p s h (Call c x.node (Put p v) Full) ((refl, full_at), refl) none since quiet;
        state = ap (state_with keeps) (shown h x live m).0;
        frame = (shown h x live m).1;
      }

      pub add_full : (v : ℕ) → IsReady sort shows nodes c h x (Add p v) Full
      add_full v = record {
        live = live;
        meets = (mine, keyset, inr refl);
        due = λ z. is_due_by sort.layout nodes p s h (Call c x.node (Add p v) Full) ((refl, full_at), refl) none since quiet;
        state = ap (state_with keeps) (shown h x live m).0;
        frame = (shown h x live m).1;
      }
