-- The numbers of parts that are made one after another ascend, as long as they do not wrap to 0.
use Rattle.std.specs.Prelude.{◌<◌, ◌≤◌, ◌%◌, ◌^◌, All, length}
use Rattle.std.proofs.Common.{◌≡◌, ℕ, suc, List, [], ◌∷◌, ◌++◌, Option, Some, None, ap, ◌∙◌, arith}
use Rattle.std.proofs.lemmas.List.{length-append}
use Rattle.std.proofs.lemmas.List.Elements.{All-cons, All-nil, All-weaker}
use Rattle.ks_keysets.specs.Layout.{Layout}
use Rattle.ks_history.specs.declared.Answered.{Answered}
use Rattle.ks_history.specs.declared.Event.{Event}
use Rattle.ks_history.specs.declared.Op.TheVariants.{Part as lists}
use Rattle.ks_history.specs.declared.Reply.TheVariants.{Listed}
use Rattle.ks_history.specs.Done.{Template, Done}
use Rattle.ks_history.specs.Trace.{Called, answered, call_in, calls_of}
use Rattle.ks_node.specs.Laws.Ascend.{asc_nil, asc_cons}
use Rattle.ks_lines.specs.declared.parts.Part.{Part}
use Rattle.ks_dictionary.specs.Scan.{DoneParts, NumbersAscend}

-- how many calls are in the trace
abbrev calls_in : List Event → ℕ
calls_in h = length (calls_of h)

-- and with an event that makes this call, or none
abbrev with_event : List Event → Option Called → ℕ
with_event h made = length {A = Answered} (elim made [ None ↦ calls_of h | Some call ↦ calls_of h ++ answered call ∷ [] ])

no_fewer_with : (h : List Event) (made : Option Called) → calls_in h ≤ with_event h made
no_fewer_with h None = omega arith
no_fewer_with h (Some call) = omega (arith, length-append (calls_of h) (answered call ∷ []))

no_fewer : (es h : List Event) → calls_in h ≤ calls_in (es ++ h)
no_fewer [] h = omega arith
no_fewer (e ∷ es) h = omega (arith, no_fewer es h, no_fewer_with (es ++ h) (call_in e))

one_more : (e : Event) (h : List Event) (call : Called) → call_in e ≡ Some call → calls_in (e ∷ h) ≡ suc (calls_in h)
one_more e h call is = ap (with_event h) is ∙ omega (arith, length-append (calls_of h) (answered call ∷ []))

no_wrap : (n : ℕ) → n < 2 ^ 64 → n % 2 ^ 64 ≡ n
no_wrap n lt = grind arith

-- a part, whose call is among those that its caller has seen after it, and not among those before it
within : (layout : Layout) (template : Template) (n c low : ℕ) (s0 s1 : List Event) (part : Part) → Done layout template n c (lists low part.last) s0 s1 (Listed part.pairs) part.number → calls_in s1 < 2 ^ 64
    → (calls_in s0 ≤ part.number) × (part.number < calls_in s1)
within layout template n c low s0 s1 part done few = (omega (arith, at, no_fewer done.before s0), omega (arith, at, upto))
  where
    h : List Event
    h = done.before ++ s0

    upto : suc (calls_in h) ≤ calls_in s1
    upto = omega (arith, ap calls_in done.is, no_fewer done.after (done.event ∷ h), one_more done.event h _ done.call)

    at : part.number ≡ calls_in h
    at = done.numbered ∙ no_wrap (calls_in h) (omega (arith, upto, few))

-- parts that were made one after another, beside how many calls their caller had seen before them
record Numbers (s0 s1 : List Event) (parts : List Part) : Type 0 where
  grows : calls_in s0 ≤ calls_in s1
  later : All (λ part. calls_in s0 ≤ part.number) parts
  ascend : NumbersAscend parts

with_part : (s0 s s1 : List Event) (part : Part) (parts : List Part) → (calls_in s0 ≤ part.number) × (part.number < calls_in s) → Numbers s s1 parts → Numbers s0 s1 (part ∷ parts)
with_part s0 s s1 part parts at more = record {
  grows = omega (arith, at.0, at.1, more.grows);
  later = All-cons (λ x. calls_in s0 ≤ x.number) part parts at.0 (All-weaker (λ x. calls_in s ≤ x.number) (λ x. calls_in s0 ≤ x.number) (λ x from. omega (arith, at.0, at.1, from)) parts more.later);
  ascend = asc_cons (λ x. x.number) part parts (All-weaker (λ x. calls_in s ≤ x.number) (λ x. part.number < x.number) (λ x from. omega (arith, at.1, from)) parts more.later) more.ascend;
}

numbers : (layout : Layout) (template : Template) (n c low last : ℕ) (s0 : List Event) (parts : List Part) (s1 : List Event) → DoneParts layout template n c low last s0 parts s1 → calls_in s1 < 2 ^ 64 → Numbers s0 s1 parts
numbers layout template n c low last s0 [] s1 so few = record {
  grows = omega (arith, ap calls_in so);
  later = All-nil (λ x. calls_in s0 ≤ x.number);
  ascend = asc_nil (λ x. x.number);
}
numbers layout template n c low last s0 (part ∷ parts) s1 so few =
    let more = numbers layout template n c (suc part.last) last so.0 parts s1 so.2 few in
    with_part s0 so.0 s1 part parts (within layout template n c low s0 so.0 part so.1.done (omega (arith, more.grows, few))) more

pub numbers_ascend : (layout : Layout) (template : Template) (n c low last : ℕ) (s0 : List Event) (parts : List Part) (s1 : List Event) → DoneParts layout template n c low last s0 parts s1 → length (calls_of s1) < 2 ^ 64 → NumbersAscend parts
numbers_ascend layout template n c low last s0 parts s1 so few = (numbers layout template n c low last s0 parts s1 so few).ascend
