-- The results of non-blocking calls: they are done; or put off, and the cause is due.
use Rattle.std.specs.Prelude.{ℕ, List, Result, Ok, Err}
use Rattle.ks_keysets.specs.Layout.{Layout}
use Rattle.ks_history.specs.declared.Event.{Event}
use Rattle.ks_history.specs.declared.Op.{Op}
use Rattle.ks_history.specs.declared.Reply.TheVariants.{Full as full_reply}
use Rattle.ks_history.specs.Map.{told}
use Rattle.ks_history.specs.Done.{Template, coupling, give_up, link_move, Done, Left}
use Rattle.ks_history.specs.Refusals.{BusyDue, MovedDue, FarDue}
use Rattle.ks_arena.specs.declared.held.Pass.{Pass}
use Rattle.ks_arena.specs.Clauses.{seen_of}
use Rattle.ks_shape.specs.declared.answers.Numbered.{Numbered}
use Rattle.ks_shape.specs.declared.answers.Later.{Later}
use Rattle.ks_shape.specs.declared.answers.Later.TheVariants.{Busy, Moved, Far}
use Rattle.ks_shape.specs.declared.answers.PutLater.{PutLater}
use Rattle.ks_shape.specs.declared.answers.PutLater.TheVariants.{Full, Later as Otherwise}
use Rattle.ks_shape.specs.Idle.{Site}

-- the technique may find that a node moved: only giving up may
abbrev pub FindsMoved : Template → Type 0
FindsMoved coupling = ⊥
FindsMoved give_up = Unit {0}
FindsMoved link_move = ⊥

-- the technique may report Far: along links a search always ends
abbrev pub FindsFar : Template → Type 0
FindsFar coupling = Unit {0}
FindsFar give_up = Unit {0}
FindsFar link_move = ⊥

-- the cause that put off the operation of c between s0 and s1, over n nodes, is due
abbrev pub IsCause : Template → ℕ → ℕ → Op → List Event → List Event → Later → Type 0
IsCause template n c op s0 s1 (Busy node holder) = BusyDue c op s0 s1 node holder
IsCause template n c op s0 s1 (Moved node) = FindsMoved template × MovedDue c op s0 s1 node
IsCause template n c op s0 s1 Far = FindsFar template × FarDue n c s0 s1

-- the operation of c between s0 and s1 was put off: it made no call, released all its nodes, and the cause is due
pub record IsPutOff (template : Template) (n c : ℕ) (op : Op) (s0 s1 : List Event) (later : Later) : Type 0 where
  pub left : Left template c op s0 s1
  pub cause : IsCause template n c op s0 s1 later

-- the operation is done, or put off
abbrev pub Tried : Layout → Template → ℕ → ℕ → Op → List Event → List Event → Result Numbered Later → Type 0
Tried layout template n c op s0 s1 (Ok answer) = Done layout template n c op s0 s1 (told answer.found) answer.number
Tried layout template n c op s0 s1 (Err later) = IsPutOff template n c op s0 s1 later

-- the operation, a put or an add, is done, also with the reply Full; or put off
abbrev pub TriedPut : Layout → Template → ℕ → ℕ → Op → List Event → List Event → Result Numbered PutLater → Type 0
TriedPut layout template n c op s0 s1 (Ok answer) = Done layout template n c op s0 s1 (told answer.found) answer.number
TriedPut layout template n c op s0 s1 (Err (Full number)) = Done layout template n c op s0 s1 full_reply number
TriedPut layout template n c op s0 s1 (Err (Otherwise later)) = IsPutOff template n c op s0 s1 later

-- the result is that the operation is done; with the reply Full or another
abbrev pub IsDoneIn : Result Numbered PutLater → Type 0
IsDoneIn (Ok answer) = Unit {0}
IsDoneIn (Err (Full number)) = Unit {0}
IsDoneIn (Err (Otherwise later)) = ⊥

-- what a call of the technique may report: that a node moved, only by giving up; Far, unless along links
abbrev pub MayTell : Template → Result Numbered Later → Type 0
MayTell template (Ok answer) = Unit {0}
MayTell template (Err (Busy node holder)) = Unit {0}
MayTell template (Err (Moved node)) = FindsMoved template
MayTell template (Err Far) = FindsFar template

abbrev pub PutMayTell : Template → Result Numbered PutLater → Type 0
PutMayTell template (Ok answer) = Unit {0}
PutMayTell template (Err (Full number)) = Unit {0}
PutMayTell template (Err (Otherwise later)) = MayTell template (Err later)

module _ {N D : Type 0} where
  -- `Tried` in an arena, between p and q; and `TriedPut`
  abbrev pub HasTried : Layout → Template → Site → Op → Pass N D → Pass N D → Result Numbered Later → Type 0
  HasTried layout technique a op p q answer = Tried layout technique a.nodes p.caller op (seen_of p) (seen_of q) answer

  abbrev pub HasTriedPut : Layout → Template → Site → Op → Pass N D → Pass N D → Result Numbered PutLater → Type 0
  HasTriedPut layout technique a op p q answer = TriedPut layout technique a.nodes p.caller op (seen_of p) (seen_of q) answer
