-- When a part of a scan may be decided at a node that its caller holds.
use Rattle.std.proofs.Common.{◌≡◌, ℕ, suc, ◌<◌, ◌≤◌, true, List, [], ◌∷◌, sym, refl, ap, ◌∙◌, subst, arith}
use Rattle.std.specs.Prelude.{All, nat_lt, nat_le}
use Rattle.std.proofs.lemmas.Bool.Decides.{nat_tests}
use Rattle.std.proofs.lemmas.List.Elements.{All-filter}
use Rattle.ks_keysets.specs.declared.Pair.{Pair}
use Rattle.ks_keysets.specs.Record.{first_value}
use Rattle.ks_keysets.specs.Keyset.{value_at as found_at, InInset}
use Rattle.ks_history.specs.declared.Event.{Event}
use Rattle.ks_history.specs.declared.Op.TheVariants.{Part}
use Rattle.ks_history.specs.declared.Reply.TheVariants.{Listed}
use Rattle.ks_history.specs.Map.{ListsSpan}
use Rattle.ks_history.specs.Write.{keeps}
use Rattle.ks_history.specs.Trace.{held, graph_after, turn_after, state_with}
use Rattle.ks_node.specs.declared.start.Next.TheVariants.{Here}
use Rattle.ks_node.specs.Body.{Body, content_of, next_at, pairs_below, pairs_from}
use Rattle.ks_node.specs.Effect.{pairs_within}
use Rattle.ks_node.specs.Sound.{Sound as InOrder}
use Rattle.ks_node.specs.Keyed.{Ascends}
use Rattle.ks_node.specs.Laws.Ascend.{asc_filter, all_below, all_from}
use Rattle.ks_node.specs.Laws.Puts.{value_first}
use Rattle.ks_arena.specs.declared.held.Held.{Held as Hand}
use Rattle.ks_arena.specs.Sound.{Sort}
use Rattle.ks_arena.specs.Clauses.{Matches, IsReady}
use Rattle.ks_arena.proofs.Calling.{shown, in_keyset, shows_value}

-- the pairs of a span have what all pairs have at its places

value_below : (ps : List Pair) (cut p : ℕ) → p < cut → first_value (pairs_below cut ps) p ≡ first_value ps p
value_below [] cut p low = refl
value_below (x ∷ ps) cut p low = grind (arith, nat_tests, value_below ps cut p low)

value_from : (ps : List Pair) (cut p : ℕ) → cut ≤ p → first_value (pairs_from cut ps) p ≡ first_value ps p
value_from [] cut p above = refl
value_from (x ∷ ps) cut p above = grind (arith, nat_tests, value_from ps cut p above)

value_within : (ps : List Pair) (low last p : ℕ) → low ≤ p → p ≤ last → first_value (pairs_within low last ps) p ≡ first_value ps p
value_within ps low last p above below = value_from (pairs_below (suc last) ps) low p above ∙ value_below ps (suc last) p (omega (arith, below))

-- so the map of the pairs lists them
span_within : (ps : List Pair) (low last : ℕ) → Ascends (λ x. x.place) ps → ListsSpan (first_value ps) low last (pairs_within low last ps)
span_within ps low last ascend =
    let some : List Pair = pairs_below (suc last) ps in
    let below : All (λ x. x.place < suc last) (pairs_within low last ps) = All-filter (λ (x : Pair). nat_le low x.place) (λ x. x.place < suc last) some (all_below (λ x. x.place) (suc last) ps) in
    let above : All (λ x. low ≤ x.place) (pairs_within low last ps) = all_from (λ x. x.place) low some in
    record {
      ascend = asc_filter (λ x. x.place) (λ x. nat_le low x.place) some (asc_filter (λ x. x.place) (λ x. nat_lt x.place (suc last)) ps ascend);
      within = λ k d lt. (above k d lt, omega (arith, below k d lt));
      exact = λ p high fits. value_within ps low last p high fits;
    }

module _ {N : Type 0} (sort : Sort) (shows : N → Body) where
  pub part_ready : (nodes c low last : ℕ) (h : List Event) (x : Hand N) (pairs : List Pair) → turn_after h x.node ≡ held c → x.live ≡ true → Matches sort shows h x → ((p : ℕ) → low ≤ p → p ≤ last → InInset (graph_after h) x.node p) → InOrder (content_of (shows x.body))
      → ((p : ℕ) → low ≤ p → p ≤ last → next_at (shows x.body) p ≡ Here) → pairs ≡ pairs_within low last (shows x.body).pairs → IsReady sort shows nodes c h x (Part low last) (Listed pairs)
  part_ready nodes c low last h x pairs mine live m inside order here are = record {
    live = live;
    meets = (
      mine,
      (λ p t. in_keyset sort shows h x p live m (inside p t.0 t.1) order (here p t.0 t.1)),
      (
        pairs,
        refl,
        subst (ListsSpan (found_at (graph_after h) x.node) low last) (sym are) record {
          ascend = span.ascend;
          within = span.within;
          exact = λ p high fits. span.exact p high fits ∙ value_first (shows x.body).pairs p ∙ sym (shows_value sort shows h x p live m);
        },
      ),
    );
    due = λ full. absurd (let z : ⊥ = cc in z);
    state = ap (state_with keeps) (shown sort shows h x live m).0;
    frame = (shown sort shows h x live m).1;
  }
    where
      span : ListsSpan (first_value (shows x.body).pairs) low last (pairs_within low last (shows x.body).pairs)
      span = span_within (shows x.body).pairs low last order.pairs_ascend
