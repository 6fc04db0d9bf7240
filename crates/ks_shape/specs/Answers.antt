-- The reply and the number in the result of a call that may find no room, and in that of a move.
use Rattle.std.specs.Prelude.{ℕ, Result, Ok, Err}
use Rattle.ks_history.specs.declared.Reply.{Reply}
use Rattle.ks_history.specs.declared.Reply.TheVariants.{Full as full_reply, Kept as kept_reply}
use Rattle.ks_history.specs.Map.{told}
use Rattle.ks_shape.specs.declared.answers.Numbered.{Numbered}
use Rattle.ks_shape.specs.declared.answers.NumberedAt.{NumberedAt}
use Rattle.ks_shape.specs.declared.answers.Full.{Full}
use Rattle.ks_shape.specs.declared.answers.MoveLeft.{MoveLeft}
use Rattle.ks_shape.specs.declared.answers.MoveLeft.TheVariants.{Kept as left_kept, Full as left_full}

-- the reply of the history that is in such a result
abbrev pub reply_in : Result Numbered Full → Reply
reply_in (Ok answer) = told answer.found
reply_in (Err full) = full_reply

-- the number of the call, its place in the linearization order, also if it is full
abbrev pub number_in : Result Numbered Full → ℕ
number_in (Ok answer) = answer.number
number_in (Err full) = full.number

-- the same of a result that says where the call was decided
abbrev pub reply_at : Result NumberedAt Full → Reply
reply_at (Ok answer) = told answer.found
reply_at (Err full) = full_reply

abbrev pub number_at : Result NumberedAt Full → ℕ
number_at (Ok answer) = answer.number
number_at (Err full) = full.number

-- the reply of the history that is in the result of a move: what it found at its first place, that it kept both values, or
-- that no node was free
abbrev pub move_reply : Result Numbered MoveLeft → Reply
move_reply (Ok answer) = told answer.found
move_reply (Err (left_kept number)) = kept_reply
move_reply (Err (left_full number)) = full_reply

-- the number of the move
abbrev pub move_number : Result Numbered MoveLeft → ℕ
move_number (Ok answer) = answer.number
move_number (Err (left_kept number)) = number
move_number (Err (left_full number)) = number
