-- Numbers that are right, one after another, and what they make of a run.
use Rattle.std.proofs.Common.{ℕ, ◌≡◌, ◌==◌, ◌<◌, ◌+◌, ◌⊎◌, inl, inr, cond, List, [], ◌∷◌, ◌++◌, Some, None, sym, ◌∙◌, ap, subst, arith, ◌≤◌}
use Rattle.std.proofs.lemmas.List.Sums.{fold-append}
use Rattle.ks_history.specs.declared.Op.{Op}
use Rattle.ks_history.specs.declared.Op.TheVariants.{Get, Put, Del, Add, Swap, Part, Move}
use Rattle.ks_history.specs.declared.Reply.{Reply}
use Rattle.ks_history.specs.declared.Answered.{Answered}
use Rattle.ks_history.specs.Write.{Map, Write, keeps, sets, removes, moves, map_with, written}
use Rattle.ks_history.specs.Map.{told, moved, IsAnswer, map_then, map_after}
use Rattle.ks_history.specs.Served.{IsListing}
use Rattle.ks_script.specs.Script.{calls_in}
use Rattle.ks_judge.specs.Judgment.{Lines, line_at, answered_at, IsRight, IsLegalRun, at_call, at_map, IsLeastWrong, carriers, calls_below}
use Rattle.ks_judge.proofs.Numbered.{below_more}
use Rattle.ks_judge.proofs.Listing.{listing_along}

-- an answer, and what a call writes, along maps that have the same

answer_along : (op : Op) (reply : Reply) (m k : Map) → ((p : ℕ) → m p ≡ k p) → IsAnswer m op reply → IsAnswer k op reply
answer_along (Get p) reply m k same is = is ∙ ap told (same p)
answer_along (Put p v) reply m k same (inl is) = inl (is ∙ ap told (same p))
answer_along (Put p v) reply m k same (inr full) = inr full
answer_along (Del p) reply m k same is = is ∙ ap told (same p)
answer_along (Add p v) reply m k same (inl is) = inl (is ∙ ap told (same p))
answer_along (Add p v) reply m k same (inr full) = inr full
answer_along (Swap p old new) reply m k same is = is ∙ ap told (same p)
answer_along (Part low last) reply m k same (pairs, is, span) = (pairs, is, record { ascend = span.ascend; within = span.within; exact = λ p above below. span.exact p above below ∙ same p })
answer_along (Move from to) reply m k same (inl is) = inl (is ∙ ap (λ o. moved o (m to)) (same from) ∙ ap (λ o. moved (k from) o) (same to))
answer_along (Move from to) reply m k same (inr full) = inr full

written_along : (w : Write) (m k : Map) (q : ℕ) → m q ≡ k q → map_with m w q ≡ map_with k w q
written_along keeps m k q same = same
written_along (sets p v) m k q same = ap (λ o. cond (p == q) (Some v) o) same
written_along (removes p) m k q same = ap (λ o. cond (p == q) None o) same
written_along (moves from to v) m k q same = ap (λ o. cond (to == q) (Some v) (cond (from == q) None o)) same

-- the map after the calls below n
abbrev pub After : List (List Op) → Lines → ℕ → Map → Type 0
After script lines n m = (p : ℕ) → m p ≡ map_after (calls_below script lines n) p

-- the numbers below n are right
abbrev pub RightBelow : List (List Op) → Lines → ℕ → Type 0
RightBelow script lines n = (k : ℕ) → k < n → IsRight script lines k

-- no line before line j of caller c has a number greater than n
abbrev pub IsInOrder : Lines → ℕ → ℕ → ℕ → Type 0
IsInOrder lines c j n = (i : ℕ) → i < j → (line_at lines c i).0 ≤ n

module _ (script : List (List Op)) (lines : Lines) where
  -- the only line of a number, and its call
  pub record IsCallOf (n : ℕ) (a : Answered) : Type 0 where
    pub caller : ℕ
    pub place : ℕ
    pub only : carriers lines n ≡ (caller, place) ∷ []
    pub ordered : IsInOrder lines caller place n
    pub call : answered_at script lines (caller, place) ≡ a

  pub right_if : (m : Map) (n : ℕ) (a : Answered) → IsCallOf n a → After script lines n m → IsAnswer m a.op a.reply → IsRight script lines n
  right_if m n a it same is = record {
    placed = record { caller = it.caller; place = it.place; only = it.only; ordered = it.ordered };
    answers = subst (λ (b : Answered). IsAnswer (map_after (calls_below script lines n)) b.op b.reply) (sym it.call) (answer_along a.op a.reply m (map_after (calls_below script lines n)) same is);
  }

  pub only_if : (m : Map) (n : ℕ) (a : Answered) → IsCallOf n a → After script lines n m → IsRight script lines n → IsAnswer m a.op a.reply
  only_if m n a it same right =
      let place : (right.placed.caller, right.placed.place) ≡ (it.caller, it.place) = head_same (right.placed.caller, right.placed.place) (it.caller, it.place) (sym right.placed.only ∙ it.only) in
      let call : answered_at script lines (right.placed.caller, right.placed.place) ≡ a = ap (answered_at script lines) place ∙ it.call in
      answer_along a.op a.reply (map_after (calls_below script lines n)) m (λ p. sym (same p)) (subst (λ (b : Answered). IsAnswer (map_after (calls_below script lines n)) b.op b.reply) call right.answers)
    where
      head_same : (x y : ℕ × ℕ) → x ∷ [] ≡ y ∷ [] → x ≡ y
      head_same x y e = cc

  -- one number more
  pub after_more : (m k : Map) (n : ℕ) (a : Answered) → IsCallOf n a → After script lines n m → ((p : ℕ) → k p ≡ map_with m (written a.op a.reply) p) → After script lines (n + 1) k
  after_more m k n a it same is p =
      let before : List Answered = calls_below script lines n in
      let calls : calls_below script lines (n + 1) ≡ before ++ a ∷ [] = below_more script lines n it.caller it.place it.only ∙ ap (λ (b : Answered). before ++ b ∷ []) it.call in
      let after : map_after (calls_below script lines (n + 1)) ≡ map_then (map_after before) a = ap map_after calls ∙ fold-append map_then (λ _. None) before (a ∷ []) in
      is p ∙ written_along (written a.op a.reply) m (map_after before) p (same p) ∙ ap (λ (w : Map). w p) (sym after)

  pub right_more : (n : ℕ) → RightBelow script lines n → IsRight script lines n → RightBelow script lines (n + 1)
  right_more n before right k lt = by_side (side k n lt)
    where
      side : (k n : ℕ) → k < n + 1 → (k < n) ⊎ (n ≡ k)
      side k n lt = grind arith

      by_side : (k < n) ⊎ (n ≡ k) → IsRight script lines k
      by_side (inl below) = before k below
      by_side (inr e) = subst (λ (m : ℕ). IsRight script lines m) e right

  -- the judgment

  pub wrong_call : (pairs : List (ℕ × ℕ)) (n : ℕ) → n < calls_in script → RightBelow script lines n → (IsRight script lines n → ⊥) → IsLeastWrong script lines pairs n
  wrong_call pairs n lt before wrong = record { wrong = at_call lt wrong; before = before }

  pub wrong_map : (pairs : List (ℕ × ℕ)) (m : Map) → After script lines (calls_in script) m → RightBelow script lines (calls_in script) → (IsListing m pairs → ⊥) → IsLeastWrong script lines pairs (calls_in script)
  wrong_map pairs m same before wrong = record {
    wrong = at_map (λ listing. wrong (listing_along (map_after (calls_below script lines (calls_in script))) m pairs (λ p. sym (same p)) listing));
    before = before;
  }

  pub all_right : (pairs : List (ℕ × ℕ)) (m : Map) → After script lines (calls_in script) m → RightBelow script lines (calls_in script) → IsListing m pairs → IsLegalRun script lines pairs
  all_right pairs m same before listing = record {
    numbers = before;
    map = listing_along m (map_after (calls_below script lines (calls_in script))) pairs same listing;
  }
