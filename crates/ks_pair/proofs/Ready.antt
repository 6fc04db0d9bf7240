-- When a move may be decided at the nodes that its caller holds.
use Rattle.std.proofs.Common.{◌≡◌, ◌≢◌, ◌⊎◌, ℕ, ◌≤◌, true, false, List, length, sym, refl, ap, ◌∙◌, subst, inl, inr}
use Rattle.std.specs.Prelude.{Option, Some, None, IsTrue, is_some}
use denote.Bor.{Bor}
use Rattle.ks_keysets.specs.declared.NodeState.{NodeState}
use Rattle.ks_keysets.specs.declared.NodeState.TheVariants.{Live}
use Rattle.ks_keysets.specs.declared.Record.{Record}
use Rattle.ks_keysets.specs.Record.{LeadsOn}
use Rattle.ks_keysets.specs.Keyset.{live_record, value_in, value_at as found_at, InInset, InKeyset}
use Rattle.ks_history.specs.declared.Event.{Event}
use Rattle.ks_history.specs.declared.Event.TheVariants.{Twin}
use Rattle.ks_history.specs.declared.Op.TheVariants.{Move}
use Rattle.ks_history.specs.declared.Reply.{Reply}
use Rattle.ks_history.specs.declared.Reply.TheVariants.{Nothing, Value, Full, Kept}
use Rattle.ks_history.specs.Map.{moved}
use Rattle.ks_history.specs.Write.{keeps, written, taken_out, put_in}
use Rattle.ks_history.specs.Passes.{NoCallBy}
use Rattle.ks_history.specs.Laws.Dues.{is_due_by}
use Rattle.ks_history.specs.Trace.{◌⊑◌, held, graph_after, turn_after, state_with}
use Rattle.ks_history.specs.Frames.{frame_after}
use Rattle.ks_history.specs.Lawful.{Meets}
use Rattle.ks_history.specs.Due.{IsDue, IsFullFor, NoneFree}
use Rattle.ks_node.specs.declared.start.Next.TheVariants.{Here}
use Rattle.ks_node.specs.Body.{Body, content_of, frame_of, is_branch, next_at, value_at}
use Rattle.ks_node.specs.Edges.{record_of}
use Rattle.ks_node.specs.Effect.{pairs_put, pairs_del, with_pairs}
use Rattle.ks_node.specs.Sound.{Sound as InOrder}
use Rattle.ks_node.specs.Room.{is_full}
use Rattle.ks_node.specs.Laws.Keep.{sound_del}
use Rattle.ks_node.specs.Laws.Puts.{value_first}
use Rattle.ks_node.specs.Laws.Ways.{here_stays}
use Rattle.ks_arena.specs.declared.held.Held.{Held as Hand}
use Rattle.ks_arena.specs.Sound.{Sort, blank_of}
use Rattle.ks_arena.specs.Clauses.{Matches}
use Rattle.ks_arena.specs.AtTwo.{IsReadyPair}
use Rattle.ks_arena.specs.Laws.Writes.{put_sets, del_removes, ends_at_no_branch}
use Rattle.ks_shape.specs.Laws.Single.{shown, record_is}
use Rattle.ks_pair.specs.Both.{Admits, IsReadyTwo}
use Rattle.ks_pair.proofs.Fewer.{filled}

pub none_of : (o : Option ℕ) → is_some o ≡ false → o ≡ None
none_of None e = refl
none_of (Some v) e = absurd (let q : ⊥ = cc in q)

some_of : (o : Option ℕ) → is_some o ≡ true → (v : ℕ) × (o ≡ Some v)
some_of None e = absurd (let q : ⊥ = cc in q)
some_of (Some v) e = (v, refl)

module _ {N : Type 0} (sort : Sort) (shows : N → Body) where
  -- a place for which the search ends at a node is in its keyset
  in_keyset : (h : List Event) (x : Hand N) (p : ℕ) → Admits sort shows p h x → InOrder (content_of (shows x.body)) → InKeyset (graph_after h) x.node p
  in_keyset h x p at order = (
    at.inside,
    λ out. let same : Some (record_of (shows x.body)) ≡ Some out.0 = sym (record_is sort shows h x at.live at.matches) ∙ out.1 in let is : record_of (shows x.body) ≡ out.0 = cc in
        here_stays (shows x.body) p order at.ends.2 (subst (λ (r : Record). LeadsOn r p) (sym is) out.2),
  )

  -- what the body has at the place is what the graph has there
  shows_value : (h : List Event) (x : Hand N) (p : ℕ) → x.live ≡ true → Matches sort shows h x → found_at (graph_after h) x.node p ≡ value_at (shows x.body).pairs p
  shows_value h x p live m = ap (λ (s : NodeState). value_in (live_record s) p) (shown sort shows h x live m).0 ∙ value_first (shows x.body).pairs p

  pub no_branch : (h : List Event) (x : Hand N) (p : ℕ) → Admits sort shows p h x → InOrder (content_of (shows x.body)) → is_branch (shows x.body) ≡ false
  no_branch h x p at order = ends_at_no_branch (shows x.body) p order at.ends.0 at.ends.1 at.ends.2

  -- the first node of the move is x, the second one y, which may be x
  module _ (nodes c from to : ℕ) (h : List Event) (x y : Hand N) (mine : turn_after h x.node ≡ held c) (mine' : turn_after h y.node ≡ held c) (at : Admits sort shows from h x) (at' : Admits sort shows to h y)
      (order : InOrder (content_of (shows x.body))) (order' : InOrder (content_of (shows y.body))) where
    abbrev here : Option ℕ
    here = value_at (shows x.body).pairs from

    abbrev there : Option ℕ
    there = value_at (shows y.body).pairs to

    abbrev twin : Reply → Event
    twin reply = Twin c x.node y.node (Move from to) reply

    answers : (reply : Reply) → (reply ≡ moved here there) ⊎ (reply ≡ Full) → (reply ≡ moved (found_at (graph_after h) x.node from) (found_at (graph_after h) y.node to)) ⊎ (reply ≡ Full)
    answers reply (inl is) = inl (is ∙ ap (λ (z : Option ℕ × Option ℕ). moved z.0 z.1) (λ k. (sym (shows_value h x from at.live at.matches) k, sym (shows_value h y to at'.live at'.matches) k)))
    answers reply (inr is) = inr is

    pub meets : (reply : Reply) → (reply ≡ moved here there) ⊎ (reply ≡ Full) → Meets h (twin reply)
    meets reply is = (mine, mine', (in_keyset h x from at order, in_keyset h y to at' order', answers reply is))

    -- replies of what was found are no Full
    due_nothing : IsDue sort.layout nodes h (twin Nothing)
    due_nothing full = absurd (cc)

    due_kept : IsDue sort.layout nodes h (twin Kept)
    due_kept full = absurd (cc)

    due_value : (v : ℕ) → IsDue sort.layout nodes h (twin (Value v))
    due_value v full = absurd (cc)

    -- the second node is full for its place
    full_for : IsTrue (is_full sort.layout (shows y.body)) → there ≡ None → IsFullFor sort.layout (graph_after h) y.node to
    full_for full absent = record {
      node = record_of (shows y.body);
      is = record_is sort shows h y at'.live at'.matches;
      filled = filled sort.layout (shows y.body) (no_branch h y to at' order') full;
      absent = value_first (shows y.body).pairs to ∙ absent;
    }

    due_full : (v : ℕ) → here ≡ Some v → there ≡ None → x.node ≢ y.node → IsTrue (is_full sort.layout (shows y.body)) → (s : List Event) (since : s ⊑ h) → NoCallBy c since.rest → NoneFree sort.layout nodes c to s h → IsDue sort.layout nodes h (twin Full)
    due_full v is absent apart full s since quiet none = λ told.
        let some : IsTrue (is_some (found_at (graph_after h) x.node from)) = subst (λ (z : Option ℕ). IsTrue (is_some z)) (sym (shows_value h x from at.live at.matches ∙ is)) refl in
        is_due_by sort.layout nodes to s h (twin Full) ((refl, apart, full_for full absent, some), refl) none since quiet

    -- at two nodes; x' and y' are the nodes after the move
    module _ (apart : x.node ≢ y.node) where
      ready : (reply : Reply) → (reply ≡ moved here there) ⊎ (reply ≡ Full) → IsDue sort.layout nodes h (twin reply) → (x' y' : Hand N) → x'.node ≡ x.node → x'.live ≡ true → y'.node ≡ y.node → y'.live ≡ true
          → state_with (taken_out (written (Move from to) reply)) (Live (record_of (shows x.body))) ≡ Live (record_of (shows x'.body)) → frame_of (shows x.body) ≡ frame_of (shows x'.body)
          → state_with (put_in (written (Move from to) reply)) (Live (record_of (shows y.body))) ≡ Live (record_of (shows y'.body)) → frame_of (shows y.body) ≡ frame_of (shows y'.body)
          → IsReadyTwo sort shows nodes c h x' y' (Move from to) reply
      ready reply is due x' y' node live node' live' out framed in' framed' b same =
          let second : b.now.node ≡ y.node = ap (λ (z : Hand N). z.node) same ∙ node' in
          let both : Meets h (Twin c x'.node b.now.node (Move from to) reply) × IsDue sort.layout nodes h (Twin c x'.node b.now.node (Move from to) reply) =
          subst (λ (i : ℕ). Meets h (Twin c i b.now.node (Move from to) reply) × IsDue sort.layout nodes h (Twin c i b.now.node (Move from to) reply)) (sym node)
          (subst (λ (j : ℕ). Meets h (Twin c x.node j (Move from to) reply) × IsDue sort.layout nodes h (Twin c x.node j (Move from to) reply)) (sym second) (meets reply is, due)) in
          record {
            live = live;
            meets = both.0;
            due = both.1;
            frame = ap (frame_after (blank_of sort) h) node ∙ (shown sort shows h x at.live at.matches).1 ∙ framed;
            written = (
              (λ e. apart (sym node ∙ sym e ∙ second)),
              ap (λ (z : Hand N). z.live) same ∙ live',
              ap (λ (i : ℕ). state_with (taken_out (written (Move from to) reply)) (graph_after h i)) node ∙ ap (state_with (taken_out (written (Move from to) reply))) (shown sort shows h x at.live at.matches).0 ∙ out,
              ap (λ (i : ℕ). state_with (put_in (written (Move from to) reply)) (graph_after h i)) second ∙ ap (state_with (put_in (written (Move from to) reply))) (shown sort shows h y at'.live at'.matches).0 ∙ in' ∙ ap (λ (z : Hand N). Live (record_of (shows z.body))) (sym same),
              ap (frame_after (blank_of sort) h) second ∙ (shown sort shows h y at'.live at'.matches).1 ∙ framed' ∙ ap (λ (z : Hand N). frame_of (shows z.body)) (sym same),
            );
          }

      pub nothing_between : here ≡ None → IsReadyTwo sort shows nodes c h x y (Move from to) Nothing
      nothing_between none = ready Nothing (inl (ap (λ (z : Option ℕ). moved z there) (sym none))) due_nothing x y refl at.live refl at'.live refl refl refl refl

      pub kept_between : (v : ℕ) → here ≡ Some v → is_some there ≡ true → IsReadyTwo sort shows nodes c h x y (Move from to) Kept
      kept_between v is some = let too = (some_of there some).1 in ready Kept (inl (ap (λ (z : Option ℕ × Option ℕ). moved z.0 z.1) (λ k. (sym is k, sym too k)))) due_kept x y refl at.live refl at'.live refl refl refl refl

      pub full_between : (v : ℕ) → here ≡ Some v → there ≡ None → IsTrue (is_full sort.layout (shows y.body)) → (s : List Event) (since : s ⊑ h) → NoCallBy c since.rest → NoneFree sort.layout nodes c to s h → IsReadyTwo sort shows nodes c h x y (Move from to) Full
      full_between v is absent full s since quiet none = ready Full (inr refl) (due_full v is absent apart full s since quiet none) x y refl at.live refl at'.live refl refl refl refl

      pub moved_between : (v : ℕ) → here ≡ Some v → there ≡ None → (x' y' : Hand N) → x'.node ≡ x.node → x'.live ≡ true → y'.node ≡ y.node → y'.live ≡ true
          → shows x'.body ≡ with_pairs (shows x.body) (pairs_del from (shows x.body).pairs) → shows y'.body ≡ with_pairs (shows y.body) (pairs_put to v (shows y.body).pairs) → IsReadyTwo sort shows nodes c h x' y' (Move from to) (Value v)
      moved_between v is absent x' y' node live node' live' less more = ready (Value v) (inl (ap (λ (z : Option ℕ × Option ℕ). moved z.0 z.1) (λ k. (sym is k, sym absent k)))) (due_value v) x' y' node live node' live'
          (rw (less, del_removes from (shows x.body).pairs order.pairs_ascend) refl) (sym (ap frame_of less))
          (rw (more, put_sets to v (shows y.body).pairs order'.pairs_ascend) refl) (sym (ap frame_of more))

  -- at one node; x' is the node after the move
  module _ (nodes c from to : ℕ) (h : List Event) (x : Hand N) (mine : turn_after h x.node ≡ held c) (at : Admits sort shows from h x) (at' : Admits sort shows to h x) (order : InOrder (content_of (shows x.body))) where
    one : (reply : Reply) → (reply ≡ moved (value_at (shows x.body).pairs from) (value_at (shows x.body).pairs to)) ⊎ (reply ≡ Full) → IsDue sort.layout nodes h (Twin c x.node x.node (Move from to) reply) → (x' : Hand N) → x'.node ≡ x.node → x'.live ≡ true
        → state_with (put_in (written (Move from to) reply)) (state_with (taken_out (written (Move from to) reply)) (Live (record_of (shows x.body)))) ≡ Live (record_of (shows x'.body)) → frame_of (shows x.body) ≡ frame_of (shows x'.body)
        → IsReadyPair sort shows nodes c h x' None (Move from to) reply
    one reply is due x' node live so framed =
        let both : Meets h (Twin c x'.node x'.node (Move from to) reply) × IsDue sort.layout nodes h (Twin c x'.node x'.node (Move from to) reply) =
        subst (λ (i : ℕ). Meets h (Twin c i i (Move from to) reply) × IsDue sort.layout nodes h (Twin c i i (Move from to) reply)) (sym node) (meets nodes c from to h x x mine mine at at' order order reply is, due) in
        record {
          live = live;
          meets = both.0;
          due = both.1;
          frame = ap (frame_after (blank_of sort) h) node ∙ (shown sort shows h x at.live at.matches).1 ∙ framed;
          written = ap (λ (i : ℕ). state_with (put_in (written (Move from to) reply)) (state_with (taken_out (written (Move from to) reply)) (graph_after h i))) node
              ∙ ap (λ (s : NodeState). state_with (put_in (written (Move from to) reply)) (state_with (taken_out (written (Move from to) reply)) s)) (shown sort shows h x at.live at.matches).0 ∙ so;
        }

    pub nothing_within : value_at (shows x.body).pairs from ≡ None → IsReadyPair sort shows nodes c h x None (Move from to) Nothing
    nothing_within none = one Nothing (inl (ap (λ (z : Option ℕ). moved z (value_at (shows x.body).pairs to)) (sym none))) (due_nothing nodes c from to h x x mine mine at at' order order) x refl at.live refl refl

    pub kept_within : (v : ℕ) → value_at (shows x.body).pairs from ≡ Some v → is_some (value_at (shows x.body).pairs to) ≡ true → IsReadyPair sort shows nodes c h x None (Move from to) Kept
    kept_within v is some = let too = (some_of (value_at (shows x.body).pairs to) some).1 in one Kept (inl (ap (λ (z : Option ℕ × Option ℕ). moved z.0 z.1) (λ k. (sym is k, sym too k)))) (due_kept nodes c from to h x x mine mine at at' order order) x refl at.live refl refl

    pub moved_within : (v : ℕ) → value_at (shows x.body).pairs from ≡ Some v → value_at (shows x.body).pairs to ≡ None → (x' : Hand N) → x'.node ≡ x.node → x'.live ≡ true
        → shows x'.body ≡ with_pairs (shows x.body) (pairs_put to v (pairs_del from (shows x.body).pairs)) → IsReadyPair sort shows nodes c h x' None (Move from to) (Value v)
    moved_within v is absent x' node live body =
        let less : InOrder (record (content_of (shows x.body)) { pairs = pairs_del from (shows x.body).pairs }) = sound_del (content_of (shows x.body)) from (no_branch h x from at order) order in
        one (Value v) (inl (ap (λ (z : Option ℕ × Option ℕ). moved z.0 z.1) (λ k. (sym is k, sym absent k)))) (due_value nodes c from to h x x mine mine at at' order order v) x' node live
        (rw (body, del_removes from (shows x.body).pairs order.pairs_ascend, put_sets to v (pairs_del from (shows x.body).pairs) less.pairs_ascend) refl) (sym (ap frame_of body))
