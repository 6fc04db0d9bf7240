-- The node at which a search for room has ended has room.
use Rattle.std.proofs.Common.{◌≡◌, ℕ, ◌<◌, ◌≤◌, true, false, cond, List, length, sym, refl, ◌∙◌, subst, inl, inr, arith}
use Rattle.std.specs.Prelude.{Some, nat_eq}
use Rattle.std.specs.Option.{ForSome}
use Rattle.std.proofs.lemmas.Bool.Decides.{eqb_tells}
use Rattle.ks_keysets.specs.declared.Kind.{Kind}
use Rattle.ks_keysets.specs.declared.Kind.TheVariants.{NoBranch, Inner, Directory}
use Rattle.ks_keysets.specs.declared.Record.{Record}
use Rattle.ks_keysets.specs.Record.{LeadsOn}
use Rattle.ks_keysets.specs.Layout.{Layout, room}
use Rattle.ks_keysets.specs.Tight.{capacity}
use Rattle.ks_history.specs.declared.Event.{Event}
use Rattle.ks_history.specs.Trace.{◌⊑◌}
use Rattle.ks_node.specs.Body.{Body, content_of, is_branch, is_branch_kind}
use Rattle.ks_node.specs.Edges.{record_of}
use Rattle.ks_node.specs.Room.{is_full, is_full_at, IsHeld}
use Rattle.ks_node.specs.Sound.{Sound as InOrder}
use Rattle.ks_node.specs.Laws.Puts.{value_first}
use Rattle.ks_node.specs.Laws.Ways.{here_stays}
use Rattle.ks_arena.specs.declared.held.Held.{Held as Hand}
use Rattle.ks_arena.specs.Sound.{Sort}
use Rattle.ks_shape.specs.Laws.SearchEnd.{unbranched}
use Rattle.ks_shape.specs.Laws.Single.{record_is}
use Rattle.ks_shape.specs.SearchEnd.{HasRoom}
use Rattle.ks_put.specs.HadRoom.{HadRoom}

-- a body that is no branch and not full has fewer pairs than its layout has room for
not_filled : (layout : Layout) (b : Body) → is_branch b ≡ false → IsHeld layout b → is_full layout b ≡ false → length b.pairs < room layout
not_filled layout b leaf held free = go b.kind refl
  where
    less : (n m : ℕ) → n ≤ m → nat_eq n m ≡ false → n < m
    less n m le t = elim (eqb_tells n m) [ inl e ↦ absurd (let q : true ≡ false = sym e.0 ∙ t in let z : ⊥ = cc in z) | inr e ↦ omega (arith, le, e.1) ]

    count : (k : Kind) → k ≡ NoBranch → ForSome (capacity layout k) (λ c. cond (is_branch_kind k) (length b.starts) (length b.pairs) ≤ c) → is_full_at (capacity layout k) (cond (is_branch_kind k) (length b.starts) (length b.pairs)) ≡ false → length b.pairs < room layout
    count NoBranch e within free = less (length b.pairs) (room layout) (within (room layout) refl) free
    count Inner e within free = absurd (let q : ⊥ = cc in q)
    count Directory e within free = absurd (let q : ⊥ = cc in q)

    go : (k : Kind) → b.kind ≡ k → length b.pairs < room layout
    go NoBranch e = count b.kind e held free
    go Inner e = absurd (let q : is_branch_kind Inner ≡ false = subst (λ (z : Kind). is_branch_kind z ≡ false) e leaf in let z : ⊥ = cc in z)
    go Directory e = absurd (let q : is_branch_kind Directory ≡ false = subst (λ (z : Kind). is_branch_kind z ≡ false) e leaf in let z : ⊥ = cc in z)

pub had_room : {N : Type 0} (sort : Sort) (shows : N → Body) (c p : ℕ) (s h k : List Event) (x : Hand N) → s ⊑ h → h ⊑ k → HasRoom sort shows c p h x → InOrder (content_of (shows x.body)) → IsHeld sort.layout (shows x.body) → HadRoom sort.layout p s k
had_room sort shows c p s h k x since before found order held =
    let at = found.ends in let is = record_is sort shows h x at.live at.matches in
    record {
      moment = h;
      since = since;
      before = before;
      at = x.node;
      keyset = (
        at.inside,
        λ out. let same : Some (record_of (shows x.body)) ≡ Some out.0 = sym is ∙ out.1 in let r : record_of (shows x.body) ≡ out.0 = cc in
            here_stays (shows x.body) p order at.here (subst (λ (z : Record). LeadsOn z p) (sym r) out.2),
      );
      node = record_of (shows x.body);
      is = is;
      fits = λ none. not_filled sort.layout (shows x.body) (unbranched sort shows c p h x at order) held (found.room (sym (value_first (shows x.body).pairs p) ∙ none));
    }
