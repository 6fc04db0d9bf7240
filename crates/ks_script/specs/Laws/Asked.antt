-- What scripts ask for: each line may be there. And the reply to a call that is asked for is plain.
use Rattle.std.specs.Prelude.{ℕ, Option, Some, None, List, All}
use Rattle.std.specs.List.{AllByRecursion}
use Rattle.std.proofs.Common.{subst, sym, inl, inr}
use Rattle.std.proofs.lemmas.List.Elements.{All-from_recursion, All-weaker}
use Rattle.ks_history.specs.declared.Op.{Op}
use Rattle.ks_history.specs.declared.Op.TheVariants.{Get, Put, Del, Add, Swap, Part, Move}
use Rattle.ks_history.specs.declared.Reply.{Reply}
use Rattle.ks_history.specs.Write.{Map}
use Rattle.ks_history.specs.Map.{told, IsAnswer}
use Rattle.ks_history.specs.Asked.{IsAsked}
use Rattle.ks_lines.specs.declared.Line.{Line}
use Rattle.ks_lines.specs.declared.Line.TheVariants.{Call, Scan}
use Rattle.ks_lines.specs.Asked.{IsLine}
use Rattle.ks_script.specs.declared.version.Version.{Version}
use Rattle.ks_script.specs.Script.{IsLineOf, IsScript, ScriptOf}
use Rattle.ks_script.specs.Run.{Run}
use Rattle.ks_script.specs.Plain.{IsPlain}
use Rattle.ks_script.specs.Checked.{CheckedOf}

pub line_of : (version : Version) (l : Line) → IsLineOf version l → IsLine l
line_of version (Call (Get k)) is = tt
line_of version (Call (Put k v)) is = tt
line_of version (Call (Del k)) is = tt
line_of version (Call (Add k v)) is = tt
line_of version (Call (Swap k old new)) is = tt
line_of version (Call (Part low last)) is = is
line_of version (Call (Move from to)) is = is.3
line_of version (Scan low last most) is = (is.1, is.3)

-- each line of a script may be there
pub script_asked : (version : Version) (script : List (List Line)) → IsScript version script → All (All IsLine) script
script_asked version script is =
    All-weaker (AllByRecursion (IsLineOf version)) (All IsLine)
    (λ ls each. All-weaker (IsLineOf version) IsLine (line_of version) ls (All-from_recursion (IsLineOf version) ls each)) script
    (All-from_recursion (AllByRecursion (IsLineOf version)) script is.each)

-- of the script that a text spells, with or without a run of it
pub asked_in_script : (bytes : List ℕ) (script : List (List Line)) → ScriptOf bytes script → All (All IsLine) script
asked_in_script bytes script is = script_asked is.0 script is.1.is

pub asked_in_checked : (bytes : List ℕ) (script : List (List Line)) (run : Run) → CheckedOf bytes script run → All (All IsLine) script
asked_in_checked bytes script run is = script_asked is.0 script is.1.is_script

-- the reply of a map
plain_told : (there : Option ℕ) → IsPlain (told there)
plain_told None = tt
plain_told (Some v) = tt

pub plain_answer : (m : Map) (op : Op) (reply : Reply) → IsAsked op → IsAnswer m op reply → IsPlain reply
plain_answer m (Get p) reply asked is = subst IsPlain (sym is) (plain_told (m p))
plain_answer m (Put p v) reply asked (inl is) = subst IsPlain (sym is) (plain_told (m p))
plain_answer m (Put p v) reply asked (inr is) = subst IsPlain (sym is) tt
plain_answer m (Del p) reply asked is = subst IsPlain (sym is) (plain_told (m p))
plain_answer m (Add p v) reply asked (inl is) = subst IsPlain (sym is) (plain_told (m p))
plain_answer m (Add p v) reply asked (inr is) = subst IsPlain (sym is) tt
plain_answer m (Swap p old new) reply asked is = subst IsPlain (sym is) (plain_told (m p))
plain_answer m (Part low last) reply asked is = absurd asked
plain_answer m (Move from to) reply asked is = absurd asked
