-- What may be said of a script can be printed.
use Rattle.std.specs.Prelude.{List, [], ◌∷◌, All}
use Rattle.std.specs.List.{AllByRecursion}
use Rattle.std.proofs.lemmas.List.Elements.{All-from_recursion}
use Rattle.ks_history.specs.declared.Op.{Op}
use Rattle.ks_history.specs.declared.Reply.{Reply}
use Rattle.ks_history.specs.declared.Reply.TheVariants.{Nothing, Value, Full, Listed, Kept}
use Rattle.ks_lines.specs.declared.Line.{Line}
use Rattle.ks_lines.specs.declared.Line.TheVariants.{Call, Scan}
use Rattle.ks_lines.specs.declared.Said.{Said}
use Rattle.ks_lines.specs.declared.Said.TheVariants as said
use Rattle.ks_lines.specs.Lines.{IsReplyTo, MayAnswer, AllBoth, AreAnswered}
use Rattle.ks_script.specs.Plain.{IsPlain, IsPrintable}

plain_reply : (op : Op) (reply : Reply) → IsReplyTo op reply → IsPlain reply
plain_reply op Nothing is = tt
plain_reply op (Value v) is = tt
plain_reply op Full is = tt
plain_reply op (Listed pairs) is = is
plain_reply op Kept is = tt

printable_of : (line : Line) (x : Said) → MayAnswer line x → IsPrintable x
printable_of (Call op) (said.Call n reply) is = plain_reply op reply is
printable_of (Call op) (said.Scan parts stop) is = tt
printable_of (Scan low last most) (said.Call n reply) is = absurd is
printable_of (Scan low last most) (said.Scan parts stop) is = tt

printable_lines : (lines : List Line) (xs : List Said) → AllBoth MayAnswer lines xs → AllByRecursion IsPrintable xs
printable_lines [] [] fit = tt
printable_lines [] (x ∷ xs) fit = absurd fit
printable_lines (l ∷ lines) [] fit = tt
printable_lines (l ∷ lines) (x ∷ xs) fit = (printable_of l x fit.0, printable_lines lines xs fit.1)

printable_callers : (script : List (List Line)) (all : List (List Said)) → AreAnswered script all → AllByRecursion (All IsPrintable) all
printable_callers [] [] fit = tt
printable_callers [] (xs ∷ all) fit = absurd fit
printable_callers (lines ∷ script) [] fit = tt
printable_callers (lines ∷ script) (xs ∷ all) fit = (All-from_recursion IsPrintable xs (printable_lines lines xs fit.0), printable_callers script all fit.1)

-- each entry of what may be said of a script
pub script_printable : (script : List (List Line)) (all : List (List Said)) → AreAnswered script all → All (All IsPrintable) all
script_printable script all fit = All-from_recursion (All IsPrintable) all (printable_callers script all fit)
