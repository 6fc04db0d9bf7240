-- What the small entries of a caller represent.
use Rattle.std.specs.Prelude.{ℕ, ◌≡◌, ◌<◌, List, length, slice_index_or, ⊤}
use Rattle.ks_history.specs.declared.Reply.TheVariants as reply
use Rattle.ks_lines.specs.declared.Said.{Said}
use Rattle.ks_lines.specs.declared.Said.TheVariants as said
use Rattle.ks_script.specs.declared.packed_replies.SmallReply.{SmallReply}
use Rattle.ks_script.specs.declared.packed_replies.SmallReply.TheVariants.{Nothing, Value, Full, Other}
use Rattle.ks_script.specs.Parts.{joined}
use Rattle.ks_script.specs.Plain.{IsPrintable}

-- what is said at a place; the number 0 and no value past the end
abbrev pub said_at : List Said → ℕ → Said
said_at all at = slice_index_or all at (said.Call 0 reply.Nothing)

-- what a small entry represents, beside the others
abbrev pub said_in : List Said → SmallReply → Said
said_in others (Nothing number) = said.Call number reply.Nothing
said_in others (Value high low value) = said.Call (joined high low) (reply.Value value)
said_in others (Full number) = said.Call number reply.Full
said_in others (Other at) = said_at others at

-- where it names a place, something that can be printed is there
abbrev pub IsSaidIn : List Said → SmallReply → Type 0
IsSaidIn others (Nothing number) = ⊤
IsSaidIn others (Value high low value) = ⊤
IsSaidIn others (Full number) = ⊤
IsSaidIn others (Other at) = (at < length others) × IsPrintable (said_at others at)

-- what an entry represented it still does
abbrev pub KeepsReplies : List Said → List Said → Type 0
KeepsReplies old new = (s : SmallReply) → IsSaidIn old s → IsSaidIn new s × (said_in new s ≡ said_in old s)
