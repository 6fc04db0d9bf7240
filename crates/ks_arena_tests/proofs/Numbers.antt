-- The numbers of a caller's calls ascend, as long as they do not wrap to 0.
use Rattle.std.specs.Prelude.{◌<◌, ◌%◌, ◌^◌, All, length}
use Rattle.std.proofs.Common.{◌≡◌, ℕ, suc, ◌==◌, Bool, true, false, cond, List, [], ◌∷◌, ◌++◌, subst, arith}
use Rattle.std.proofs.lemmas.List.{length-append}
use Rattle.std.proofs.lemmas.List.Elements.{All-cons, All-nil, All-append, All-weaker}
use Rattle.ks_history.specs.declared.Event.{Event}
use Rattle.ks_history.specs.declared.Event.TheVariants.{Take, Give, Claim, Shape, Call, Twin}
use Rattle.ks_history.specs.declared.Op.{Op}
use Rattle.ks_history.specs.declared.Reply.{Reply}
use Rattle.ks_history.specs.declared.Answered.{Answered}
use Rattle.ks_history.specs.Trace.{NumberedCall, calls_of, calls_by, number_after}
use Rattle.ks_history.specs.Calls.{numbered}
use Rattle.ks_node.specs.Keyed.{Ascends}
use Rattle.ks_node.specs.Laws.Ascend.{asc_nil, asc_cons, asc_append, asc_tail}

pub record Numbers (c : ℕ) (h : List Event) : Type 0 where
  pub below : All (λ x. x.number < length (calls_of h)) (calls_by c h)
  pub ascend : Ascends (λ x. x.number) (calls_by c h)

one_more : (h : List Event) (a : Answered) → length (calls_of h ++ a ∷ []) ≡ suc (length (calls_of h))
one_more h a = omega (arith, length-append (calls_of h) (a ∷ []))

no_wrap : (n : ℕ) → n < 2 ^ 64 → n % 2 ^ 64 ≡ n
no_wrap n lt = grind arith

with_call : (c d j : ℕ) (op : Op) (reply : Reply) (h : List Event) → length (calls_of (Call d j op reply ∷ h)) < 2 ^ 64 → Numbers c h → Numbers c (Call d j op reply ∷ h)
with_call c d j op reply h few so = let both = by_caller (c == d) in record { below = both.0; ascend = both.1 }
  where
    a : Answered
    a = record { op = op; reply = reply }

    n : ℕ
    n = length (calls_of h)

    x : NumberedCall
    x = numbered (number_after h) op reply

    is : x.number ≡ n
    is = no_wrap n (omega (arith, few, one_more h a))

    wider : All (λ y. y.number < length (calls_of h ++ a ∷ [])) (calls_by c h)
    wider = All-weaker (λ y. y.number < n) (λ y. y.number < length (calls_of h ++ a ∷ [])) (λ y lt. omega (arith, lt, one_more h a)) (calls_by c h) so.below

    by_caller : (b : Bool) → All (λ y. y.number < length (calls_of h ++ a ∷ [])) (cond b (calls_by c h ++ x ∷ []) (calls_by c h)) × Ascends (λ y. y.number) (cond b (calls_by c h ++ x ∷ []) (calls_by c h))
    by_caller false = (wider, so.ascend)
    by_caller true = (
      All-append (λ y. y.number < length (calls_of h ++ a ∷ [])) (calls_by c h) (x ∷ []) wider (All-cons (λ y. y.number < length (calls_of h ++ a ∷ [])) x [] (omega (arith, is, one_more h a)) (All-nil (λ y. y.number < length (calls_of h ++ a ∷ [])))),
      asc_append (λ y. y.number) (calls_by c h) (x ∷ []) so.ascend (asc_cons (λ y. y.number) x [] (All-nil (λ y. x.number < y.number)) (asc_nil (λ y. y.number)))
          (All-weaker (λ y. y.number < n) (λ y. All (λ z. y.number < z.number) (x ∷ [])) (λ y lt. All-cons (λ z. y.number < z.number) x [] (omega (arith, is, lt)) (All-nil (λ z. y.number < z.number))) (calls_by c h) so.below),
    )

pub numbers : (c : ℕ) (h : List Event) → length (calls_of h) < 2 ^ 64 → Numbers c h
numbers c [] few = record { below = All-nil (λ x. x.number < 0); ascend = asc_nil (λ x. x.number) }
numbers c (Take d j ∷ h) few = let so = numbers c h few in record { below = so.below; ascend = so.ascend }
numbers c (Give d j ∷ h) few = let so = numbers c h few in record { below = so.below; ascend = so.ascend }
numbers c (Claim d j ∷ h) few = let so = numbers c h few in record { below = so.below; ascend = so.ascend }
numbers c (Shape d xs ∷ h) few = let so = numbers c h few in record { below = so.below; ascend = so.ascend }
numbers c (Call d j op reply ∷ h) few = with_call c d j op reply h few (numbers c h (omega (arith, few, one_more h (record { op = op; reply = reply }))))
numbers c (Twin d j k op reply ∷ h) few = let so = with_call c d j op reply h few (numbers c h (omega (arith, few, one_more h (record { op = op; reply = reply })))) in record { below = so.below; ascend = so.ascend }

later : (xs ys : List NumberedCall) → Ascends (λ x. x.number) (xs ++ ys) → Ascends (λ x. x.number) ys
later [] ys up = up
later (x ∷ xs) ys up = later xs ys (asc_tail (λ y. y.number) x (xs ++ ys) up)

-- the calls that a caller has made since ascend too
pub newer_ascend : (c : ℕ) (h : List Event) (old new : List NumberedCall) → calls_by c h ≡ old ++ new → length (calls_of h) < 2 ^ 64 → Ascends (λ x. x.number) new
newer_ascend c h old new is few = later old new (subst (Ascends (λ x. x.number)) is (numbers c h few).ascend)
