-- Where calls are decided, and the branches that searches have passed.
use Rattle.std.proofs.Common.{◌≡◌, ◌≤◌, ◌<◌, ℕ, List, true, sym, ap, ◌∙◌, subst, arith}
use Rattle.std.specs.Prelude.{Bool, Option, Some, None, Result, Ok, Err, IfOk, IfSome, cond}
use Rattle.ks_keysets.specs.declared.Frame.{Frame}
use Rattle.ks_keysets.specs.declared.Span.{Span}
use Rattle.ks_keysets.specs.Layout.{Layout}
use Rattle.ks_history.specs.declared.Event.{Event}
use Rattle.ks_history.specs.declared.Op.{Op}
use Rattle.ks_history.specs.declared.Reply.{Reply}
use Rattle.ks_history.specs.Done.{Template, DoneAt}
use Rattle.ks_history.specs.Laws.Alone.{alone_still}
use Rattle.ks_history.specs.Laws.Begins.{begins_both}
use Rattle.ks_history.specs.Map.{told}
use Rattle.ks_history.specs.Passes.{GrowsByOthers}
use Rattle.ks_history.specs.Trace.{◌⊑◌, free, idle, turn_after}
use Rattle.ks_history.specs.Underway.{Underway}
use Rattle.ks_node.specs.Body.{Body, first_of, frame_of, last_of}
use Rattle.ks_arena.specs.declared.held.Held.{Held as Hand}
use Rattle.ks_arena.specs.Sound.{Sort}
use Rattle.ks_shape.specs.declared.answers.Above.{Above}
use Rattle.ks_shape.specs.declared.answers.Full.{Full}
use Rattle.ks_shape.specs.declared.answers.NumberedAt.{NumberedAt}
use Rattle.ks_shape.specs.Answers.{number_at, number_in, reply_at, reply_in}
use Rattle.ks_shape.specs.Fills.{EndsForRoom, ended_at}
use Rattle.ks_shape.specs.Hinted.{BeginsAt, DoneWhere, WasAbove}
use Rattle.ks_shape.specs.Laws.Hinted.{begins_on}
use Rattle.ks_shape.specs.Located.{has_place, passed_in, plain_of}

-- a call that was decided at a node, with the range of its body
pub done_where : {layout : Layout} {template : Template} {n c number i j : ℕ} {op : Op} {s0 s1 : List Event} {reply : Reply} {blank : Frame} (b : Body) (r : Span) → j ≡ i → b.range ≡ Some r
    → DoneAt layout template n c op s0 s1 reply number i blank (frame_of b) → DoneWhere layout template n c op s0 s1 reply number j r.low r.last blank
done_where {layout} {template} {n} {c} {number} {i} {j} {op} {s0} {s1} {reply} {blank} b r same is at = record {
  frame = frame_of b;
  at = subst (λ (z : ℕ). DoneAt layout template n c op s0 s1 reply number z blank (frame_of b)) (sym same) at;
  range = is;
}

-- a place between the ends of a range that there is
pub where_within : (b : Body) (r : Span) (place : ℕ) → b.range ≡ Some r → (first_of b.range ≤ place) × (place ≤ last_of b.range) → (r.low ≤ place) × (place ≤ r.last)
where_within b r place is within =
    let first : first_of b.range ≡ r.low = ap first_of is in
    let end : last_of b.range ≡ r.last = ap last_of is in
    (omega (arith, within.0, first), omega (arith, within.1, end))

-- a search for room has ended at a node whose range has the place
pub ended_within : {N : Type 0} (sort : Sort) (shows : N → Body) (n c place : ℕ) (k : List Event) (found : Result (Hand N) (Hand N)) → EndsForRoom sort shows n c place k found → (first_of (shows (ended_at found).body).range ≤ place) × (place ≤ last_of (shows (ended_at found).body).range)
ended_within sort shows n c place k (Ok x) so = so.3.ends.within
ended_within sort shows n c place k (Err x) so = so.3.0.ends.within

-- what holds of the reply and the number of a result holds of those of the result that says where
pub of_plain : (P : Reply → ℕ → Type 0) (answer : Result NumberedAt Full) → P (reply_in (plain_of answer)) (number_in (plain_of answer)) → P (reply_at answer) (number_at answer)
of_plain P (Ok answer) so = so
of_plain P (Err full) so = so

-- a branch that was passed was passed, whatever follows
pub was_above_on : (sort : Sort) (place : ℕ) (s k l : List Event) → k ⊑ l → (above : Option Above) → IfSome above (WasAbove sort place s k) → IfSome above (WasAbove sort place s l)
was_above_on sort place s k l on None was = was
was_above_on sort place s k l on (Some branch) was = record { moment = was.moment; since = was.since; later = begins_both was.moment k l was.later on; is = was.is; within = was.within }

-- a branch whose range has the place is passed
pub passes : (place : ℕ) (before : Option Above) (branch : Above) → has_place place branch ≡ true → passed_in place before (Some branch) ≡ Some branch
passes place before branch has = ap (λ (z : Bool). cond z (Some branch) before) has

-- what holds of the value of a result
pub ok_map : {A B : Type 0} {P Q : A → Type 0} → (r : Result A B) → ((x : A) → P x → Q x) → IfOk r P → IfOk r Q
ok_map (Ok x) f so = f x so
ok_map (Err e) f so = so

-- a call that is under way is done where its end says, by another name of its caller
pub finishes_on : {layout : Layout} {n : ℕ} {op : Op} {l : List Event} {blank : Frame} (answer : NumberedAt) (template : Template) (start : List Event) (a b : ℕ) (k : List Event) → b ≡ a → Underway template a op start k
    → ((template : Template) (start : List Event) → Underway template b op start k → DoneWhere layout template n b op start l (told answer.found) answer.number answer.node answer.low answer.last blank)
    → DoneWhere layout template n a op start l (told answer.found) answer.number answer.node answer.low answer.last blank
finishes_on {layout} {n} {op} {l} {blank} answer template start a b k same under done =
    subst (λ (z : ℕ). DoneWhere layout template n z op start l (told answer.found) answer.number answer.node answer.low answer.last blank) same (done template start (subst (λ (z : ℕ). Underway template z op start k) (sym same) under))

-- a call that has begun at its hint did so, whatever follows
pub hint_on : (n c : ℕ) (s k l : List Event) → s ⊑ k → k ⊑ l → (hint : Option ℕ) → IfSome hint (λ i. BeginsAt n c i s k) → IfSome hint (λ i. BeginsAt n c i s l)
hint_on n c s k l from to None so = so
hint_on n c s k l from to (Some i) so = begins_on n c i s k l from to so

-- a call that begins at the start of its hint begins at the hint
pub hint_begins : (n m c start : ℕ) (s k : List Event) → m ≡ n → (hint : Option ℕ) → IfSome hint (λ i. (i < m → start ≡ i) × (m ≤ i → start ≡ 0)) → BeginsAt n c start s k → IfSome hint (λ i. BeginsAt n c i s k)
hint_begins n m c start s k same None so begun = so
hint_begins n m c start s k same (Some i) so begun = λ near idle alone. subst (λ (z : ℕ). BeginsAt n c z s k) (so.0 (omega (arith, near, same))) begun near idle alone

-- a call begins at each node that is found free: no such node was idle
pub begins_gone : (n c i : ℕ) (h k : List Event) → GrowsByOthers c h k → turn_after k i ≡ free → BeginsAt n c i h k
begins_gone n c i h k others gone = λ near was alone.
    let same : k ≡ h = alone_still c h k alone others in
    let clash : idle ≡ free = sym was ∙ sym (ap (λ (z : List Event). turn_after z i) same) ∙ gone in
    absurd (let q : ⊥ = cc in q)
