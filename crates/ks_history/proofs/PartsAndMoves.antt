-- Parts of scans, and moves of values: small traces that show what the definitions mean, as Instances has them of other calls.
use Rattle.std.proofs.Common.{ℕ, zero, suc, ◌≡◌, ◌<◌, ◌≤◌, inl, inr, cond, ◌==◌, List, [], ◌∷◌, length, get_or, Option, Some, None, refl, sym, ◌∙◌, ap, subst, arith}
use Rattle.std.proofs.lemmas.List.Elements.{All-nil, All-cons}
use Rattle.ks_keysets.specs.declared.NewState.TheVariants.{BecomesLive}
use Rattle.ks_keysets.specs.declared.Change.{Change}
use Rattle.ks_keysets.specs.declared.Record.{Record}
use Rattle.ks_keysets.specs.declared.Pair.{Pair}
use Rattle.ks_keysets.specs.Record.{LeadsOn, top}
use Rattle.ks_keysets.specs.Frame.{empty_record, blank_frame}
use Rattle.ks_keysets.specs.Keyset.{record_at, IsLive, at_root, along, InKeyset, value_at}
use Rattle.ks_keysets.specs.Layout.{Layout, list_layout}
use Rattle.ks_history.specs.declared.Op.TheVariants.{Get, Put, Part, Move}
use Rattle.ks_history.specs.declared.Reply.TheVariants.{Nothing, Value, Full, Listed, Kept}
use Rattle.ks_history.specs.declared.Reply.{Reply}
use Rattle.ks_history.specs.declared.Event.{Event}
use Rattle.ks_history.specs.declared.Event.TheVariants.{Take, Claim, Shape, Call, Twin}
use Rattle.ks_history.specs.Map.{ListsSpan}
use Rattle.ks_history.specs.Trace.{free, idle, held, graph_after, turn_after}
use Rattle.ks_history.specs.Lawful.{Meets}
use Rattle.ks_history.specs.Due.{FullDue}
use Rattle.ks_history.specs.Done.{coupling, give_up, link_move, MayTake, first_taken, from_above, joined}
use Rattle.ks_history.specs.Laws.Begins.{begins_self, by_others_none}
use Rattle.ks_history.specs.Laws.Dues.{none_free_by}
use Rattle.ks_history.specs.Laws.Stays.{AreInTurn, cond_else}

-- a root that has one pair, held by caller 0

abbrev one : Pair
one = record { place = 5; value = 50 }

abbrev with_one : List Event
with_one = Call 0 0 (Put 5 50) Nothing ∷ Take 0 0 ∷ []

abbrev root_of_one : Record
root_of_one = record { edges = []; pairs = one ∷ [] }

-- its keyset has every place
root_keyset : (p : ℕ) → p ≤ top → InKeyset (graph_after with_one) 0 p
root_keyset p fits = ((fits, at_root (root_of_one, refl)), λ out. none out.0 out.1 out.2)
  where
    none : (r : Record) → record_at (graph_after with_one) 0 ≡ Some r → LeadsOn r p → ⊥
    none r is leads = let same : [] ≡ r.edges = ap (λ (o : Option Record). elim o [ None ↦ [] | Some s ↦ s.edges ]) is in omega (arith, leads.2, ap length same)

-- a lawful part: it lists the pair, which is at place 5

its_value : (p : ℕ) → value_at (graph_after with_one) 0 p ≡ cond (5 == p) (Some 50) None
its_value p = refl

part_of_one : Meets with_one (Call 0 0 (Part 0 9) (Listed (one ∷ [])))
part_of_one = (
  refl,
  (λ p at. root_keyset p (omega (arith, at.1))),
  (
    one ∷ [],
    refl,
    record {
      ascend = λ i j d lt within. absurd (omega arith);
      within = λ k d lt. let z : k ≡ 0 = omega arith in subst (λ (n : ℕ). (0 ≤ (get_or (one ∷ []) n d).place) × ((get_or (one ∷ []) n d).place ≤ 9)) (sym z) (omega arith, omega arith);
      exact = λ p low last. refl;
    },
  ),
)

-- one that leaves the pair out is not lawful
part_without : Meets with_one (Call 0 0 (Part 0 9) (Listed [])) → ⊥
part_without meets = lacks meets.2.0 meets.2.1 meets.2.2
  where
    lacks : (pairs : List Pair) → Listed [] ≡ Listed pairs → ListsSpan (value_at (graph_after with_one) 0) 0 9 pairs → ⊥
    lacks [] is span = let x : ◌≡◌ {A = Option ℕ} None (Some 50) = span.exact 5 (omega arith) (omega arith) in cc
    lacks (x ∷ xs) is span = cc

-- nor is one that replies as a get does
part_as_get : Meets with_one (Call 0 0 (Part 5 5) (Value 50)) → ⊥
part_as_get meets = let x : Value 50 ≡ Listed meets.2.0 = meets.2.1 in cc

-- a root that leads to two leaves: node 1 has the places to 9 and the pair, node 2 the rest; all three are held by caller 0

abbrev branch : Record
branch = record { edges = record { span = record { low = 0; last = 9 }; node = 1 } ∷ record { span = record { low = 10; last = top }; node = 2 } ∷ []; pairs = [] }

abbrev changes : Record → List Change
changes right = record { node = 0; state = BecomesLive branch blank_frame } ∷ record { node = 1; state = BecomesLive root_of_one blank_frame } ∷ record { node = 2; state = BecomesLive right blank_frame } ∷ []

abbrev two_leaves : Record → List Event
two_leaves right = Shape 0 (changes right) ∷ Claim 0 2 ∷ Claim 0 1 ∷ Take 0 0 ∷ []

abbrev roomy : List Event
roomy = two_leaves empty_record

left_keyset : (right : Record) → InKeyset (graph_after (two_leaves right)) 1 5
left_keyset right = (
  (omega arith, along branch (at_root (branch, refl)) refl (0, record { span = record { low = 0; last = 9 }; node = 1 }, omega arith, refl, ((omega arith, omega arith), refl)) (root_of_one, refl)),
  λ out. none out.0 out.1 out.2,
)
  where
    none : (r : Record) → record_at (graph_after (two_leaves right)) 1 ≡ Some r → LeadsOn r 5 → ⊥
    none r is leads = let same : [] ≡ r.edges = ap (λ (o : Option Record). elim o [ None ↦ [] | Some s ↦ s.edges ]) is in omega (arith, leads.2, ap length same)

right_keyset : (right : Record) → right.edges ≡ [] → InKeyset (graph_after (two_leaves right)) 2 15
right_keyset right bare = (
  (omega arith, along branch (at_root (branch, refl)) refl (1, record { span = record { low = 10; last = top }; node = 2 }, omega arith, refl, ((omega arith, omega arith), refl)) (right, refl)),
  λ out. none out.0 out.1 out.2,
)
  where
    none : (r : Record) → record_at (graph_after (two_leaves right)) 2 ≡ Some r → LeadsOn r 15 → ⊥
    none r is leads = let same : right.edges ≡ r.edges = ap (λ (o : Option Record). elim o [ None ↦ [] | Some s ↦ s.edges ]) is in omega (arith, leads.2, ap length same, ap length bare)

-- a part that runs past the keyset of its node is not lawful: an edge of the root carries place 5
part_past : (reply : Reply) → Meets roomy (Call 0 0 (Part 5 5) reply) → ⊥
part_past reply meets = (meets.1 5 (omega arith, omega arith)).1 (branch, refl, (0, record { span = record { low = 0; last = 9 }; node = 1 }, omega arith, refl, (omega arith, omega arith)))

-- a lawful move, within one node and between two

within_one : Meets with_one (Twin 0 0 0 (Move 5 6) (Value 50))
within_one = (refl, refl, (root_keyset 5 (omega arith), root_keyset 6 (omega arith), inl refl))

between_two : Meets roomy (Twin 0 1 2 (Move 5 15) (Value 50))
between_two = (refl, refl, (left_keyset empty_record, right_keyset empty_record refl, inl refl))

-- a place that has a value keeps it, and so does the one from which it was to move
both_kept : Meets with_one (Twin 0 0 0 (Move 5 5) Kept)
both_kept = (refl, refl, (root_keyset 5 (omega arith), root_keyset 5 (omega arith), inl refl))

-- a move that takes the value over one that is there is not lawful
moved_over : Meets with_one (Twin 0 0 0 (Move 5 5) (Value 50)) → ⊥
moved_over meets = elim meets.2.2 [ inl is ↦ (let x : Value 50 ≡ Kept = is in cc) | inr full ↦ (let x : Value 50 ≡ Full = full in cc) ]

-- no call at one node is a move, whatever its reply
move_at_one : (h : List Event) (c i from to : ℕ) (reply : Reply) → Meets h (Call c i (Move from to) reply) → ⊥
move_at_one h c i from to reply meets = meets.2

-- nor is a get one at two nodes
get_at_two : (h : List Event) (c i j p : ℕ) (reply : Reply) → Meets h (Twin c i j (Get p) reply) → ⊥
get_at_two h c i j p reply meets = meets.2

-- a Full of a move is due if its second node is full and no node is free

abbrev pair : ℕ → Pair
pair p = record { place = p; value = p }

abbrev full_leaf : Record
full_leaf = record { edges = []; pairs = pair 10 ∷ pair 11 ∷ pair 12 ∷ pair 13 ∷ pair 14 ∷ pair 16 ∷ pair 17 ∷ pair 18 ∷ [] }

abbrev crowded : List Event
crowded = two_leaves full_leaf

full_at_two : FullDue list_layout 3 crowded crowded (Twin 0 1 2 (Move 5 15) Full)
full_at_two = record {
  place = 15;
  no_room = ((refl, (λ e. omega (arith, e)), record { node = full_leaf; is = refl; filled = refl; absent = refl }, refl), refl);
  none_free = none_free_by list_layout 3 0 15 crowded crowded crowded crowded (begins_self crowded) (by_others_none 0 crowded) (begins_self crowded)
      in_turn holds_live (λ j lt. record { moment = crowded; since = begins_self crowded; until = begins_self crowded; so = all_held j lt });
}
  where
    in_turn : AreInTurn crowded
    in_turn = (
      (((tt, refl), refl), refl),
      All-cons (λ x. turn_after (Claim 0 2 ∷ Claim 0 1 ∷ Take 0 0 ∷ []) x.node ≡ held 0) (record { node = 0; state = BecomesLive branch blank_frame }) (record { node = 1; state = BecomesLive root_of_one blank_frame } ∷ record { node = 2; state = BecomesLive full_leaf blank_frame } ∷ []) refl
          (All-cons (λ x. turn_after (Claim 0 2 ∷ Claim 0 1 ∷ Take 0 0 ∷ []) x.node ≡ held 0) (record { node = 1; state = BecomesLive root_of_one blank_frame }) (record { node = 2; state = BecomesLive full_leaf blank_frame } ∷ []) refl
          (All-cons (λ x. turn_after (Claim 0 2 ∷ Claim 0 1 ∷ Take 0 0 ∷ []) x.node ≡ held 0) (record { node = 2; state = BecomesLive full_leaf blank_frame }) [] refl (All-nil (λ x. turn_after (Claim 0 2 ∷ Claim 0 1 ∷ Take 0 0 ∷ []) x.node ≡ held 0)))),
    )

    holds_live : (j : ℕ) → turn_after crowded j ≡ held 0 → IsLive (graph_after crowded) j
    holds_live zero mine = (branch, refl)
    holds_live (suc zero) mine = (root_of_one, refl)
    holds_live (suc (suc zero)) mine = (full_leaf, refl)
    holds_live (suc (suc (suc j))) mine = absurd (nobody j mine)
      where
        nobody : (i : ℕ) → turn_after crowded (suc (suc (suc i))) ≡ held 0 → ⊥
        nobody i mine =
            let n : ℕ = suc (suc (suc i)) in
            let e : turn_after crowded n ≡ free = cond_else n 2 (held 0) (turn_after (Claim 0 1 ∷ Take 0 0 ∷ []) n) (λ e. omega (arith, e)) ∙ cond_else n 1 (held 0) (turn_after (Take 0 0 ∷ []) n) (λ e. omega (arith, e)) ∙ cond_else n 0 (held 0) (turn_after [] n) (λ e. omega (arith, e)) ∙ cond_else n 0 idle free (λ e. omega (arith, e)) in
            let x : free ≡ held 0 = sym e ∙ mine in cc

    all_held : (j : ℕ) → j < 3 → turn_after crowded j ≡ free → ⊥
    all_held zero lt is = let x : held 0 ≡ free = is in cc
    all_held (suc zero) lt is = let x : held 0 ≡ free = is in cc
    all_held (suc (suc zero)) lt is = let x : held 0 ≡ free = is in cc
    all_held (suc (suc (suc j))) lt is = omega arith

-- within one node none is due: what goes out makes the room
full_at_one : (layout : Layout) (n c i from to : ℕ) (s h : List Event) → FullDue layout n s h (Twin c i i (Move from to) Full) → ⊥
full_at_one layout n c i from to s h due = due.no_room.0.1 refl

-- a move that gives up may take any other node beside the only one that it holds; a get may not, nor may a move by lock coupling or along links

move_joins : MayTake give_up (Move 5 15) (Take 0 0 ∷ []) 0 7
move_joins = joined tt 0 refl

no_edge_to : (h : ℕ) (r : Record) → record_at (graph_after (Take 0 0 ∷ [])) h ≡ Some r → length r.edges ≡ 0
no_edge_to zero r is = let same : [] ≡ r.edges = ap (λ (o : Option Record). elim o [ None ↦ [] | Some s ↦ s.edges ]) is in omega (arith, ap length same)
no_edge_to (suc i) r is = absurd (cc)

get_joins_not : MayTake give_up (Get 5) (Take 0 0 ∷ []) 0 7 → ⊥
get_joins_not (first_taken empty at) = omega (arith, ap length empty)
get_joins_not (from_above above) = omega (arith, above.leads.2, no_edge_to above.above above.node above.is)
get_joins_not (joined may mine is) = absurd may

coupled_move_joins_not : MayTake coupling (Move 5 15) (Take 0 0 ∷ []) 0 7 → ⊥
coupled_move_joins_not (first_taken empty at) = omega (arith, ap length empty)
coupled_move_joins_not (from_above above) = omega (arith, above.leads.2, no_edge_to above.above above.node above.is)
coupled_move_joins_not (joined may mine is) = absurd may

linked_move_joins_not : MayTake link_move (Move 5 15) (Take 0 0 ∷ []) 0 7 → ⊥
linked_move_joins_not (first_taken empty at) = omega (arith, ap length empty)
linked_move_joins_not (from_above above) = omega (arith, above.leads.2, no_edge_to above.above above.node above.is)
linked_move_joins_not (joined may mine is) = absurd may
