-- The summary of a run.
use Rattle.std.specs.Prelude.{ℕ, ◌+◌, ◌*◌, ◌%◌, ◌^◌, List, [], ◌∷◌, ◌++◌, length, Bool, true, false, Option, Some, None, count_by, codes}
use Rattle.std.specs.Fmt.{decimal}
use Rattle.ks_history.specs.declared.Reply.{Reply}
use Rattle.ks_history.specs.declared.Reply.TheVariants.{Nothing, Value, Full, Listed, Kept}
use Rattle.ks_lines.specs.declared.Line.{Line}
use Rattle.ks_lines.specs.declared.Said.{Said}
use Rattle.ks_lines.specs.declared.Said.TheVariants.{Call, Scan}
use Rattle.ks_script.specs.Script.{calls_in}
use Rattle.ks_script.specs.Run.{Run}
use Rattle.ks_generator.specs.declared.summing.Kind as kind
use Rattle.ks_generator.specs.declared.summing.Kind.TheVariants as kinds

-- the reply is of the kind
abbrev pub is_of : kind.Kind → Reply → Bool
is_of kinds.Found Nothing = false
is_of kinds.Found (Value v) = true
is_of kinds.Found Full = false
is_of kinds.Found (Listed pairs) = false
is_of kinds.Found Kept = false
is_of kinds.Missing Nothing = true
is_of kinds.Missing (Value v) = false
is_of kinds.Missing Full = false
is_of kinds.Missing (Listed pairs) = false
is_of kinds.Missing Kept = false
is_of kinds.NoRoom Nothing = false
is_of kinds.NoRoom (Value v) = false
is_of kinds.NoRoom Full = true
is_of kinds.NoRoom (Listed pairs) = false
is_of kinds.NoRoom Kept = false

-- the reply to a line, if it is a call
abbrev pub reply_in : Said → Option Reply
reply_in (Call n reply) = Some reply
reply_in (Scan parts stop) = None

-- there is a reply, and it is of the kind
abbrev pub is_some_of : kind.Kind → Option Reply → Bool
is_some_of k None = false
is_some_of k (Some reply) = is_of k reply

-- how many replies of the kind the callers were given; what is said of scans is of no kind
abbrev pub replies_of : kind.Kind → List (List Said) → ℕ
replies_of k [] = 0
replies_of k (said ∷ rest) = count_by (λ s. is_some_of k (reply_in s)) said + replies_of k rest

-- the sum of each key times its value
abbrev pub sum_of : List (ℕ × ℕ) → ℕ
sum_of [] = 0
sum_of (x ∷ xs) = x.0 * x.1 + sum_of xs

-- seven lines of a word and a number
abbrev pub lines_of_summary : (callers calls found none full pairs sum : ℕ) → List ℕ
lines_of_summary callers calls found none full pairs sum =
    codes "callers " ++ (decimal callers ++ (codes "\ncalls " ++ (decimal calls ++ (codes "\nfound " ++ (decimal found ++ (codes "\nnone " ++ (decimal none
    ++ (codes "\nfull " ++ (decimal full ++ (codes "\npairs " ++ (decimal pairs ++ (codes "\nsum " ++ (decimal sum ++ codes "\n")))))))))))))

-- the summary of a run of a script
abbrev pub summary_text : List (List Line) → Run → List ℕ
summary_text script run =
    lines_of_summary (length script) (calls_in script) (replies_of kinds.Found run.callers) (replies_of kinds.Missing run.callers) (replies_of kinds.NoRoom run.callers)
    (length run.pairs) (sum_of run.pairs % 2 ^ 64)
