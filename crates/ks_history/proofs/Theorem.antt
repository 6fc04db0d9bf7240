-- The keyset theorem: a lawful trace with good graphs is a legal history of a map, and the graph after it holds that map.
use Rattle.std.proofs.Common.{ℕ, zero, suc, ◌≡◌, ◌≢◌, ◌==◌, cond, List, [], ◌∷◌, Option, None, refl, sym, ◌∙◌, ap, subst, inl, inr}
use mathlib.Core.Logic.{dite}
use native.Mathlib.Decide.{ℕ_discrete}
use Rattle.ks_keysets.specs.declared.NodeState.{NodeState}
use Rattle.ks_keysets.specs.declared.NodeState.TheVariants.{Claimed}
use Rattle.ks_keysets.specs.Record.{IsPlace, first_value}
use Rattle.ks_keysets.specs.Keyset.{opening, live_record, record_at, IsLive, InKeyset, Good, IsFound, value_in, value_at}
use Rattle.ks_keysets.specs.Laws.Found.{KeepsEdges, keyset_along, found_along, found_one, found_here, reached_live}
use Rattle.ks_history.specs.declared.Op.{Op}
use Rattle.ks_history.specs.declared.Op.TheVariants.{Get, Put, Del, Add, Swap, Part, Move}
use Rattle.ks_history.specs.declared.Reply.{Reply}
use Rattle.ks_history.specs.declared.Answered.{Answered}
use Rattle.ks_history.specs.declared.Event.{Event}
use Rattle.ks_history.specs.declared.Event.TheVariants.{Take, Give, Claim, Shape, Call, Twin}
use Rattle.ks_history.specs.Write.{Write, Map, written, taken_out, put_in, map_with}
use Rattle.ks_history.specs.Map.{IsAnswer, moved, map_after, Legal}
use Rattle.ks_history.specs.Trace.{given, state_with, written_at, graph_then, graph_after, calls_of}
use Rattle.ks_history.specs.Lawful.{Lawful, MovesBetween, GoodThroughout, at_opening, and_then}
use Rattle.ks_history.specs.Laws.Stays.{lawful_in_turn, cond_here, cond_else}
use Rattle.ks_history.specs.Laws.Begins.{good_now}
use Rattle.ks_history.specs.Laws.Turns.{given_kept, state_written, written_forth, written_back, free_not_live}
use Rattle.ks_history.proofs.Writes.{map_with-at, first_value-pairs_with, WritesAt, map_with-apart, written-touches, answer_along, answer_at_one, move_in_two, taken_out-at, put_in-at}
use Rattle.ks_history.proofs.Histories.{map_after-push, Legal-nil, Legal-push}

-- what is found in the graph is what the map holds
abbrev pub Matches : (ℕ → NodeState) → Map → Type 0
Matches g m = (p : ℕ) → IsPlace p → IsFound g p (m p)

-- the opening graph

opening_none : (k p : ℕ) → value_at opening k p ≡ None
opening_none zero p = refl
opening_none (suc k) p = refl

opening_matches : Good opening → Matches opening (λ _. None)
opening_matches good p place =
    let some = good.some p place in
    subst (λ (o : Option ℕ). IsFound opening p o) (opening_none some.0 p) (found_here opening some.0 p good some.1)

-- graphs with the same records

keeps_same : (g k : ℕ → NodeState) → ((j : ℕ) → record_at k j ≡ record_at g j) → KeepsEdges g k
keeps_same g k same = record { at = λ n r is. (r, same n ∙ is, refl) }

matches_same : (g k : ℕ → NodeState) (m : Map) → ((j : ℕ) → record_at k j ≡ record_at g j) → Matches g m → Matches k m
matches_same g k m same matches p place =
    found_along (keeps_same g k same) (keeps_same k g (λ j. sym (same j))) p (m p) (m p)
    (λ n in' is. is ∙ ap (λ o. value_in o p) (sym (same n)))
    (λ is none. is)
    (matches p place)

-- the graph with node j in another state

abbrev pub with_state : (ℕ → NodeState) → ℕ → NodeState → ℕ → NodeState
with_state g j s i = cond (i == j) s (g i)

record_else : (g : ℕ → NodeState) (j : ℕ) (s : NodeState) (i : ℕ) → i ≢ j → record_at (with_state g j s) i ≡ record_at g i
record_else g j s i apart = ap live_record (cond_else i j s (g i) apart)

record_here : (g : ℕ → NodeState) (j : ℕ) (s : NodeState) (i : ℕ) → i ≡ j → record_at (with_state g j s) i ≡ live_record s
record_here g j s i same = ap live_record (cond_here i j s (g i) same)

records_same : (g : ℕ → NodeState) (j : ℕ) (s : NodeState) → live_record s ≡ record_at g j → (i : ℕ) → record_at (with_state g j s) i ≡ record_at g i
records_same g j s like i = dite (ℕ_discrete i j) (λ same. record_here g j s i same ∙ like ∙ ap (record_at g) (sym same)) (λ apart. record_else g j s i apart)

-- each place is in the keyset of one node, and of no two
pub record Sorts (g : ℕ → NodeState) : Type 0 where
  pub one : (n m p : ℕ) → InKeyset g n p → InKeyset g m p → n ≡ m
  pub some : (p : ℕ) → IsPlace p → (n : ℕ) × InKeyset g n p

sorts_of : (g : ℕ → NodeState) → Good g → Sorts g
sorts_of g good = record { one = good.one; some = good.some }

-- a write at a node whose keyset holds the places that are written

module _ (g : ℕ → NodeState) (j : ℕ) (w : Write) where
  -- the graph after the write
  abbrev pub after : ℕ → NodeState
  after = written_at w j g

  forth : KeepsEdges g after
  forth = written_forth w j g

  back : KeepsEdges after g
  back = written_back w j g

  sorts_written : Sorts g → Sorts after
  sorts_written s = record {
    one = λ n m p a b. s.one n m p (keyset_along back forth n p a) (keyset_along back forth m p b);
    some = λ p place. let x = s.some p place in (x.0, keyset_along forth back x.0 p x.1);
  }

  value_here : (m : Map) (p : ℕ) → IsLive g j → m p ≡ value_at g j p → map_with m w p ≡ value_at after j p
  value_here m p (r, is) had =
      map_with-at w m (first_value r.pairs) p (had ∙ ap (λ o. value_in o p) is)
      ∙ sym (first_value-pairs_with w r.pairs p)
      ∙ ap (λ o. value_in o p) (sym (record_here g j (state_with w (g j)) j refl ∙ state_written w (g j) r is))

  module _ (m : Map) (sorts : Sorts g) (matches : Matches g m) (keyset : (p : ℕ) → WritesAt w p → InKeyset g j p) where
    -- what node n holds at a place of its keyset, after the write
    value_after : (n p : ℕ) → InKeyset g n p → m p ≡ value_at g n p → map_with m w p ≡ value_at after n p
    value_after n p in' is = dite (ℕ_discrete n j)
        (λ same.
        let live : IsLive g j = subst (λ (k : ℕ). IsLive g k) same (reached_live in'.0.1) in
        let had : m p ≡ value_at g j p = is ∙ ap (λ (k : ℕ). value_at g k p) same in
        value_here m p live had ∙ ap (λ (k : ℕ). value_at after k p) (sym same))
        (λ apart.
        map_with-apart w m p (λ writes. apart (sorts.one n j p in' (keyset p writes)))
        ∙ is
        ∙ ap (λ o. value_in o p) (sym (record_else g j (state_with w (g j)) n apart)))

    pub write_matches : Matches after (map_with m w)
    write_matches p place =
        found_along forth back p (m p) (map_with m w p)
        (λ n in' is. value_after n p in' is)
        (λ is none. let some = sorts.some p place in absurd (none some.0 some.1))
        (matches p place)

-- what a node has at a place of its keyset is what the map has
at_place : (g : ℕ → NodeState) (m : Map) (i p : ℕ) → Good g → Matches g m → InKeyset g i p → value_at g i p ≡ m p
at_place g m i p good matches in' = found_one g p (value_at g i p) (m p) (found_here g i p good in') (matches p in'.0.0)

-- a move between two nodes
twin_answer : (g : ℕ → NodeState) (m : Map) (i j : ℕ) (op : Op) (reply : Reply) → Good g → Matches g m → MovesBetween g i j op reply → IsAnswer m op reply
twin_answer g m i j (Get p) reply good matches between = absurd between
twin_answer g m i j (Put p v) reply good matches between = absurd between
twin_answer g m i j (Del p) reply good matches between = absurd between
twin_answer g m i j (Add p v) reply good matches between = absurd between
twin_answer g m i j (Swap p old new) reply good matches between = absurd between
twin_answer g m i j (Part low last) reply good matches between = absurd between
twin_answer g m i j (Move from to) reply good matches (at_i, at_j, inr full) = inr full
twin_answer g m i j (Move from to) reply good matches (at_i, at_j, inl is) =
    inl (is ∙ ap (λ o. moved o (value_at g j to)) (at_place g m i from good matches at_i) ∙ ap (λ o. moved (m from) o) (at_place g m j to good matches at_j))

twin_matches : (g : ℕ → NodeState) (m : Map) (c i j : ℕ) (op : Op) (reply : Reply) → Good g → Matches g m → MovesBetween g i j op reply → Matches (graph_then (Twin c i j op reply) g) (map_with m (written op reply))
twin_matches g m c i j (Get p) reply good matches between = absurd between
twin_matches g m c i j (Put p v) reply good matches between = absurd between
twin_matches g m c i j (Del p) reply good matches between = absurd between
twin_matches g m c i j (Add p v) reply good matches between = absurd between
twin_matches g m c i j (Swap p old new) reply good matches between = absurd between
twin_matches g m c i j (Part low last) reply good matches between = absurd between
twin_matches g m c i j (Move from to) reply good matches between =
    let w : Write = taken_out (written (Move from to) reply) in
    let x : Write = put_in (written (Move from to) reply) in
    let sorts : Sorts g = sorts_of g good in
    let first : Matches (written_at w i g) (map_with m w) = write_matches g i w m sorts matches (λ p writes. subst (λ (k : ℕ). InKeyset g i k) (sym (taken_out-at from to reply p writes)) between.0) in
    let second : Matches (written_at x j (written_at w i g)) (map_with (map_with m w) x) = write_matches (written_at w i g) j x (map_with m w) (sorts_written g i w sorts) first
    (λ p writes. subst (λ (k : ℕ). InKeyset (written_at w i g) j k) (sym (put_in-at from to reply p writes)) (keyset_along (written_forth w i g) (written_back w i g) j to between.1)) in
    λ p place. subst (λ o. IsFound (written_at x j (written_at w i g)) p o) (move_in_two from to reply m p) (second p place)

-- the theorem

pub keyset_both : (h : List Event) → Lawful h → GoodThroughout h → Legal (calls_of h) × Matches (graph_after h) (map_after (calls_of h))
keyset_both [] lawful (at_opening good) = (Legal-nil, opening_matches good)
keyset_both (Take c j ∷ h) lawful (and_then good now) = keyset_both h lawful.0 good
keyset_both (Claim c j ∷ h) lawful (and_then good now) =
    let before = keyset_both h lawful.0 good in (
      before.0,
      matches_same (graph_after h) (with_state (graph_after h) j (Claimed c)) (map_after (calls_of h))
          (records_same (graph_after h) j (Claimed c) (sym (free_not_live h j (lawful_in_turn h lawful.0) lawful.1))) before.1,
    )
keyset_both (Give c j ∷ h) lawful (and_then good now) =
    let before = keyset_both h lawful.0 good in (
      before.0,
      matches_same (graph_after h) (with_state (graph_after h) j (given (graph_after h j))) (map_after (calls_of h))
          (records_same (graph_after h) j (given (graph_after h j)) (given_kept (graph_after h j))) before.1,
    )
keyset_both (Shape c changes ∷ h) lawful (and_then good now) =
    let before = keyset_both h lawful.0 good in
    (before.0, λ p place. (lawful.1.2.at p (map_after (calls_of h) p) place).0 (before.1 p place))
keyset_both (Call c j op reply ∷ h) lawful (and_then good now) =
    let before = keyset_both h lawful.0 good in
    let m : Map = map_after (calls_of h) in
    let here : Good (graph_after h) = good_now good in
    let a : Answered = record { op = op; reply = reply } in (
      Legal-push (calls_of h) a before.0 (answer_along op reply (value_at (graph_after h) j) m (λ p touches. at_place (graph_after h) m j p here before.1 (lawful.1.1 p touches)) (answer_at_one op reply (value_at (graph_after h) j) lawful.1.2)),
      subst (λ (k : Map). Matches (graph_after (Call c j op reply ∷ h)) k) (sym (map_after-push (calls_of h) a)) (write_matches (graph_after h) j (written op reply) m (sorts_of (graph_after h) here) before.1 (λ p writes. lawful.1.1 p (written-touches op reply p writes))),
    )
keyset_both (Twin c i j op reply ∷ h) lawful (and_then good now) =
    let before = keyset_both h lawful.0 good in
    let m : Map = map_after (calls_of h) in
    let here : Good (graph_after h) = good_now good in
    let a : Answered = record { op = op; reply = reply } in (
      Legal-push (calls_of h) a before.0 (twin_answer (graph_after h) m i j op reply here before.1 lawful.1.2),
      subst (λ (k : Map). Matches (graph_after (Twin c i j op reply ∷ h)) k) (sym (map_after-push (calls_of h) a)) (twin_matches (graph_after h) m c i j op reply here before.1 lawful.1.2),
    )
