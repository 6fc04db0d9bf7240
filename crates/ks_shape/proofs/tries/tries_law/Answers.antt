use Rattle.std.proofs.Common.{ℕ, List, refl}
use Rattle.std.specs.Prelude.{Result, Ok, Err, IsTrue}
use Rattle.std.specs.Result.{is_ok}
use Rattle.ks_keysets.specs.Layout.{Layout}
use Rattle.ks_history.specs.declared.Event.{Event}
use Rattle.ks_history.specs.declared.Op.{Op}
use Rattle.ks_history.specs.Alone.{ActsAlone, HoldsAlone}
use Rattle.ks_history.specs.Laws.Alone.{never_busy, never_moved, never_far}
use Rattle.ks_history.specs.Done.{Template}
use Rattle.ks_shape.specs.declared.answers.Numbered.{Numbered}
use Rattle.ks_shape.specs.declared.answers.Later.{Later}
use Rattle.ks_shape.specs.declared.answers.Later.TheVariants.{Busy, Moved, Far}
use Rattle.ks_shape.specs.declared.answers.PutLater.{PutLater}
use Rattle.ks_shape.specs.declared.answers.PutLater.TheVariants.{Full, Later as Otherwise}
use Rattle.ks_shape.specs.Tries.{IsCause, Tried, TriedPut, IsDoneIn, MayTell, PutMayTell}
use Rattle.ks_shape.proofs.tries.tries_law.Goals as goal

never_cause : (template : Template) (n c : ℕ) (op : Op) (s0 s1 : List Event) (later : Later) → ActsAlone c s0 s1 → HoldsAlone c s0 → IsCause template n c op s0 s1 later → ⊥
never_cause template n c op s0 s1 (Busy node holder) alone holds due = never_busy c node holder op s0 s1 alone holds due
never_cause template n c op s0 s1 (Moved node) alone holds due = never_moved c node op s0 s1 alone due.1
never_cause template n c op s0 s1 Far alone holds due = never_far n c s0 s1 alone due.1

ok_alone : (layout : Layout) (template : Template) (n c : ℕ) (op : Op) (s0 s1 : List Event) (answer : Result Numbered Later) → ActsAlone c s0 s1 → HoldsAlone c s0 → Tried layout template n c op s0 s1 answer → IsTrue (is_ok answer)
ok_alone layout template n c op s0 s1 (Ok answer) alone holds so = refl
ok_alone layout template n c op s0 s1 (Err later) alone holds so = absurd (never_cause template n c op s0 s1 later alone holds so.cause)

put_alone : (layout : Layout) (template : Template) (n c : ℕ) (op : Op) (s0 s1 : List Event) (answer : Result Numbered PutLater) → ActsAlone c s0 s1 → HoldsAlone c s0 → TriedPut layout template n c op s0 s1 answer → IsDoneIn answer
put_alone layout template n c op s0 s1 (Ok answer) alone holds so = tt
put_alone layout template n c op s0 s1 (Err (Full number)) alone holds so = tt
put_alone layout template n c op s0 s1 (Err (Otherwise later)) alone holds so = absurd (never_cause template n c op s0 s1 later alone holds so.cause)

told_cause : (template : Template) (n c : ℕ) (op : Op) (s0 s1 : List Event) (later : Later) → IsCause template n c op s0 s1 later → MayTell template (Err later)
told_cause template n c op s0 s1 (Busy node holder) due = tt
told_cause template n c op s0 s1 (Moved node) due = due.0
told_cause template n c op s0 s1 Far due = due.0

told_try : (layout : Layout) (template : Template) (n c : ℕ) (op : Op) (s0 s1 : List Event) (answer : Result Numbered Later) → Tried layout template n c op s0 s1 answer → MayTell template answer
told_try layout template n c op s0 s1 (Ok answer) so = tt
told_try layout template n c op s0 s1 (Err later) so = told_cause template n c op s0 s1 later so.cause

told_put : (layout : Layout) (template : Template) (n c : ℕ) (op : Op) (s0 s1 : List Event) (answer : Result Numbered PutLater) → TriedPut layout template n c op s0 s1 answer → PutMayTell template answer
told_put layout template n c op s0 s1 (Ok answer) so = tt
told_put layout template n c op s0 s1 (Err (Full number)) so = tt
told_put layout template n c op s0 s1 (Err (Otherwise later)) so = told_cause template n c op s0 s1 later so.cause

pub returns-clause-told : goal.returns-clause-told
returns-clause-told c = told_try

pub returns-clause-put_told : goal.returns-clause-put_told
returns-clause-put_told c = told_put

pub returns-clause-never : goal.returns-clause-never
returns-clause-never c = λ template n k op s0 s1 later alone holds so. never_cause template n k op s0 s1 later alone holds so.cause

pub returns-clause-ok : goal.returns-clause-ok
returns-clause-ok c = ok_alone

pub returns-clause-put : goal.returns-clause-put
returns-clause-put c = put_alone
