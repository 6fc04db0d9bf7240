-- Which replies the results of calls have.
use Rattle.std.proofs.Common.{ℕ, Option, Some, None}
use Rattle.std.specs.Prelude.{Result, Ok, Err}
use Rattle.ks_history.specs.declared.Op.{Op}
use Rattle.ks_history.specs.declared.Op.TheVariants.{Add, Del, Get, Move, Part, Put, Swap}
use Rattle.ks_history.specs.declared.Reply.{Reply}
use Rattle.ks_history.specs.declared.Reply.TheVariants.{Full as is_full, Kept, Listed, Nothing, Value}
use Rattle.ks_history.specs.Map.{told}
use Rattle.ks_history.specs.Served.{at_place}
use Rattle.ks_lines.specs.Lines.{IsReplyTo}
use Rattle.ks_aid.specs.OneKey.{IsFound, IsFoundOrFull, IsReplyAtOneKey}
use Rattle.ks_shape.specs.Answers.{move_reply}
use Rattle.ks_shape.specs.declared.answers.MoveLeft.{MoveLeft}
use Rattle.ks_shape.specs.declared.answers.MoveLeft.TheVariants.{Kept as left_kept, Full as left_full}
use Rattle.ks_shape.specs.declared.answers.Numbered.{Numbered}

-- what was found may be the reply to any operation
pub found_replies : (op : Op) (found : Option ℕ) → IsReplyTo op (told found)
found_replies op None = tt
found_replies op (Some value) = tt

-- what a call at one key may return may be the reply to its operation
found_or_full_replies : (op : Op) (reply : Reply) → IsFoundOrFull reply → IsReplyTo op reply
found_or_full_replies op Nothing is = tt
found_or_full_replies op (Value value) is = tt
found_or_full_replies op is_full is = tt
found_or_full_replies op (Listed pairs) is = absurd is
found_or_full_replies op Kept is = absurd is

not_full : (reply : Reply) → IsFound reply → IsFoundOrFull reply
not_full Nothing is = tt
not_full (Value value) is = tt
not_full is_full is = absurd is
not_full (Listed pairs) is = absurd is
not_full Kept is = absurd is

pub one_key_replies : (op : Op) (reply : Reply) → IsReplyAtOneKey op reply → IsReplyTo op reply
one_key_replies (Get k) reply is = found_or_full_replies (Get k) reply (not_full reply is)
one_key_replies (Put k v) reply is = found_or_full_replies (Put k v) reply is
one_key_replies (Del k) reply is = found_or_full_replies (Del k) reply (not_full reply is)
one_key_replies (Add k v) reply is = found_or_full_replies (Add k v) reply is
one_key_replies (Swap k old new) reply is = found_or_full_replies (Swap k old new) reply (not_full reply is)
one_key_replies (Part low last) reply is = absurd is
one_key_replies (Move from to) reply is = absurd is

-- the result of a move may be the reply to a move
pub move_replies : (from to : ℕ) (answer : Result Numbered MoveLeft) → IsReplyTo (Move from to) (move_reply answer)
move_replies from to (Ok answer) = found_replies (Move from to) answer.found
move_replies from to (Err (left_kept number)) = tt
move_replies from to (Err (left_full number)) = tt

-- a reply to the operation with places for its keys is one to the operation
pub replies_at_places : (f : ℕ → ℕ) (op : Op) (reply : Reply) → IsReplyTo (at_place f op) reply → IsReplyTo op reply
replies_at_places f op Nothing is = tt
replies_at_places f op (Value value) is = tt
replies_at_places f op is_full is = tt
replies_at_places f op (Listed pairs) is = absurd is
replies_at_places f (Get k) Kept is = absurd is
replies_at_places f (Put k v) Kept is = absurd is
replies_at_places f (Del k) Kept is = absurd is
replies_at_places f (Add k v) Kept is = absurd is
replies_at_places f (Swap k old new) Kept is = absurd is
replies_at_places f (Part low last) Kept is = absurd is
replies_at_places f (Move from to) Kept is = tt
