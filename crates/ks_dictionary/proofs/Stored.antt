-- The map that a lawful history leaves has values at places only.
use Rattle.std.proofs.Common.{◌≡◌, ◌==◌, ℕ, List, [], ◌∷◌, ◌++◌, ◌⊎◌, Some, None, cond, true, false, sym, ap, ◌∙◌, inl, inr, subst, ⊎_elim, arith}
use Rattle.std.proofs.lemmas.Bool.Decides.{nat_tests}
use Rattle.std.proofs.lemmas.List.Sums.{fold-append}
use Rattle.ks_keysets.specs.declared.NodeState.{NodeState}
use Rattle.ks_keysets.specs.Record.{IsPlace}
use Rattle.ks_history.specs.declared.Answered.{Answered}
use Rattle.ks_history.specs.declared.Event.{Event}
use Rattle.ks_history.specs.declared.Event.TheVariants.{Take, Give, Claim, Shape, Call, Twin}
use Rattle.ks_history.specs.declared.Op.{Op}
use Rattle.ks_history.specs.declared.Op.TheVariants.{Get, Put, Del, Add, Swap, Part, Move}
use Rattle.ks_history.specs.declared.Reply.{Reply}
use Rattle.ks_history.specs.declared.Reply.TheVariants.{Nothing, Value, Full, Listed, Kept}
use Rattle.ks_history.specs.Map.{Touches, map_after, map_then}
use Rattle.ks_history.specs.Trace.{graph_after, calls_of}
use Rattle.ks_history.specs.Lawful.{Lawful, MovesBetween}
use Rattle.ks_history.specs.Write.{Map, keeps, sets, removes, moves, map_with, written}

-- what a map holds after a write it held before, or it was set
held_or_set : (m : Map) (p v q u : ℕ) → map_with m (sets p v) q ≡ Some u → (m q ≡ Some u) ⊎ (q ≡ p)
held_or_set m p v q u is = grind (arith, nat_tests, is)

held_if_removed : (m : Map) (p q u : ℕ) → map_with m (removes p) q ≡ Some u → m q ≡ Some u
held_if_removed m p q u is = grind (arith, nat_tests, is)

held_or_moved : (m : Map) (from to v q u : ℕ) → map_with m (moves from to v) q ≡ Some u → (m q ≡ Some u) ⊎ ((q ≡ from) ⊎ (q ≡ to))
held_or_moved m from to v q u is = grind (arith, nat_tests, is)

-- what a map holds after a call it held before, or the call touches its place
held_or_touched : (m : Map) (op : Op) (reply : Reply) (q u : ℕ) → map_with m (written op reply) q ≡ Some u → (m q ≡ Some u) ⊎ Touches op q
held_or_touched m (Get p) reply q u is = inl is
held_or_touched m (Put p v) Nothing q u is = held_or_set m p v q u is
held_or_touched m (Put p v) (Value w) q u is = held_or_set m p v q u is
held_or_touched m (Put p v) Full q u is = inl is
held_or_touched m (Put p v) (Listed x) q u is = held_or_set m p v q u is
held_or_touched m (Put p v) Kept q u is = held_or_set m p v q u is
held_or_touched m (Del p) reply q u is = inl (held_if_removed m p q u is)
held_or_touched m (Add p v) Nothing q u is = held_or_set m p v q u is
held_or_touched m (Add p v) (Value w) q u is = inl is
held_or_touched m (Add p v) Full q u is = inl is
held_or_touched m (Add p v) (Listed x) q u is = inl is
held_or_touched m (Add p v) Kept q u is = inl is
held_or_touched m (Swap p old new) Nothing q u is = inl is
held_or_touched m (Swap p old new) (Value v) q u is = by_test (v == old) is
  where
    by_test : (b : _) → map_with m (cond b (sets p new) keeps) q ≡ Some u → (m q ≡ Some u) ⊎ (q ≡ p)
    by_test true is = held_or_set m p new q u is
    by_test false is = inl is
held_or_touched m (Swap p old new) Full q u is = inl is
held_or_touched m (Swap p old new) (Listed x) q u is = inl is
held_or_touched m (Swap p old new) Kept q u is = inl is
held_or_touched m (Part low last) reply q u is = inl is
held_or_touched m (Move from to) (Value v) q u is = held_or_moved m from to v q u is
held_or_touched m (Move from to) Nothing q u is = inl is
held_or_touched m (Move from to) Full q u is = inl is
held_or_touched m (Move from to) (Listed x) q u is = inl is
held_or_touched m (Move from to) Kept q u is = inl is

-- a move between nodes is from a place and to one
moves_place : (g : ℕ → NodeState) (i j : ℕ) (op : Op) (reply : Reply) → MovesBetween g i j op reply → (p : ℕ) → Touches op p → IsPlace p
moves_place g i j (Get k) reply between p touches = absurd between
moves_place g i j (Put k v) reply between p touches = absurd between
moves_place g i j (Del k) reply between p touches = absurd between
moves_place g i j (Add k v) reply between p touches = absurd between
moves_place g i j (Swap k old new) reply between p touches = absurd between
moves_place g i j (Part low last) reply between p touches = absurd between
moves_place g i j (Move from to) reply between p (inl here) = subst IsPlace (sym here) between.0.0.0
moves_place g i j (Move from to) reply between p (inr there) = subst IsPlace (sym there) between.1.0.0

pub stored_at_places : (h : List Event) → Lawful h → (p v : ℕ) → map_after (calls_of h) p ≡ Some v → IsPlace p
stored_at_places [] lawful p v is = absurd (let q : ⊥ = cc in q)
stored_at_places (Take c j ∷ h) lawful p v is = stored_at_places h lawful.0 p v is
stored_at_places (Give c j ∷ h) lawful p v is = stored_at_places h lawful.0 p v is
stored_at_places (Claim c j ∷ h) lawful p v is = stored_at_places h lawful.0 p v is
stored_at_places (Shape c changes ∷ h) lawful p v is = stored_at_places h lawful.0 p v is
stored_at_places (Call c j op reply ∷ h) lawful p v is =
    let a : Answered = record { op = op; reply = reply } in
    let m : Map = map_after (calls_of h) in
    let now : map_after (calls_of h ++ a ∷ []) ≡ map_then m a = fold-append map_then (λ (q : ℕ). None) (calls_of h) (a ∷ []) in
    ⊎_elim (λ before. stored_at_places h lawful.0 p v before) (λ touches. (lawful.1.1 p touches).0.0)
    (held_or_touched m op reply p v (sym (ap (λ (k : Map). k p) now) ∙ is))
stored_at_places (Twin c i j op reply ∷ h) lawful p v is =
    let a : Answered = record { op = op; reply = reply } in
    let m : Map = map_after (calls_of h) in
    let now : map_after (calls_of h ++ a ∷ []) ≡ map_then m a = fold-append map_then (λ (q : ℕ). None) (calls_of h) (a ∷ []) in
    ⊎_elim (λ before. stored_at_places h lawful.0 p v before) (λ touches. moves_place (graph_after h) i j op reply lawful.1.2 p touches)
    (held_or_touched m op reply p v (sym (ap (λ (k : Map). k p) now) ∙ is))
