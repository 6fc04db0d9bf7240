-- Why a line does not go on with a script.
use Rattle.std.specs.Prelude.{ℕ, ◌≡◌, ◌≢◌, ◌⊎◌, ◌==◌, ◌^◌, ◌<◌, ◌≤◌, ◌+◌, ◌-◌, true, List, [], ◌∷◌, ◌++◌, length, get_or, codes, if◌then◌else◌}
use Rattle.std.specs.Fmt.{decimal}
use Rattle.std.specs.List.{onto_first}
use Rattle.std.specs.Str.{all_ascii_digits}
use Rattle.std.specs.Str.Parse.{digits_value}
use Rattle.ks_history.specs.declared.Op.TheVariants as op
use Rattle.ks_lines.specs.declared.Line.{Line}
use Rattle.ks_lines.specs.declared.Line.TheVariants as line
use Rattle.ks_script.specs.declared.version.Version.{Version}
use Rattle.ks_script.specs.declared.reasons.Reason.{Reason}
use Rattle.ks_script.specs.declared.reasons.Reason.TheVariants.{MissingLine, UnknownWord, VersionLine, OtherVersion, NoCaller, TooManyCallers, TooManyCalls, MissingWord, ExtraWord, NoNumber, OutOfRange, LowAboveLast, SameKey, TooManyParts, NotTheRun}
use Rattle.ks_script.specs.declared.reasons.Kind.{Kind}
use Rattle.ks_script.specs.declared.reasons.Kind.TheVariants.{Caller, Get, Put, Del, Add, Swap, Scan, Move}
use Rattle.ks_script.specs.declared.reasons.Due.{Due}
use Rattle.ks_script.specs.declared.reasons.Due.TheVariants.{Key, Value, Parts}
use Rattle.ks_script.specs.Version.{AddsAndSwaps, Scans, Moves, callers_limit, value_limit, version_line}
use Rattle.ks_script.specs.Script.{IsScript, line_text, calls_in, parts_in, script_lines}

-- the words of a line: what is before, between and behind its spaces, each of which parts two words
abbrev pub words_of : List ℕ → List (List ℕ)
words_of [] = [] ∷ []
words_of (b ∷ bytes) = if b == 32 then [] ∷ words_of bytes else onto_first b (words_of bytes)

-- the word with which the lines of a kind begin
abbrev pub kind_word : Kind → List ℕ
kind_word Caller = codes "caller"
kind_word Get = codes "get"
kind_word Put = codes "put"
kind_word Del = codes "del"
kind_word Add = codes "add"
kind_word Swap = codes "swap"
kind_word Scan = codes "scan"
kind_word Move = codes "move"

-- the numbers behind it
abbrev pub due_of : Kind → List Due
due_of Caller = []
due_of Get = Key ∷ []
due_of Put = Key ∷ Value ∷ []
due_of Del = Key ∷ []
due_of Add = Key ∷ Value ∷ []
due_of Swap = Key ∷ Value ∷ Value ∷ []
due_of Scan = Key ∷ Key ∷ Parts ∷ []
due_of Move = Key ∷ Key ∷ []

-- a script of the version may have lines of the kind
abbrev pub HasKind : Version → Kind → Type 0
HasKind version Caller = Unit {0}
HasKind version Get = Unit {0}
HasKind version Put = Unit {0}
HasKind version Del = Unit {0}
HasKind version Add = AddsAndSwaps version
HasKind version Swap = AddsAndSwaps version
HasKind version Scan = Scans version
HasKind version Move = Moves version

-- the word is digits, with no 0 before others
pub record IsNumeral (word : List ℕ) : Type 0 where
  pub some : 0 < length word
  pub digits : all_ascii_digits word ≡ true
  pub lone : get_or word 0 0 ≡ 48 → length word ≡ 1

-- the number may be where this is due
abbrev pub IsWithin : Version → Due → ℕ → Type 0
IsWithin version Key n = n < 2 ^ 64
IsWithin version Value n = n < value_limit version
IsWithin version Parts n = (1 ≤ n) × (n ≤ 64)

-- the word is such a number
abbrev pub IsDue : Version → Due → List ℕ → Type 0
IsDue version due word = IsNumeral word × IsWithin version due (digits_value 10 word)

-- it is none: it is no number at all, or one that is out of range
abbrev pub NotDue : Version → Due → List ℕ → Reason → Type 0
NotDue version due word why =
    ((IsNumeral word → ⊥) × (why ≡ NoNumber))
    ⊎ (IsNumeral word × (IsWithin version due (digits_value 10 word) → ⊥) × (why ≡ OutOfRange))

-- each word is the number that is due in its place, and there are as many
abbrev pub AreDue : Version → List Due → List (List ℕ) → Type 0
AreDue version [] [] = Unit {0}
AreDue version [] (word ∷ words) = ⊥
AreDue version (due ∷ more) [] = ⊥
AreDue version (due ∷ more) (word ∷ words) = IsDue version due word × AreDue version more words

-- they are not: the reason is that of the first place, from the left, where a word is missing, is one too many, or is not
-- what is due
abbrev pub Misread : Version → List Due → List (List ℕ) → Reason → Type 0
Misread version [] [] why = ⊥
Misread version [] (word ∷ words) why = why ≡ ExtraWord
Misread version (due ∷ more) [] why = why ≡ MissingWord
Misread version (due ∷ more) (word ∷ words) why =
    NotDue version due word why ⊎ (IsDue version due word × Misread version more words why)

-- behind this number of callers and of calls a line of the kind may come
abbrev pub MayCome : Version → ℕ → ℕ → Kind → Type 0
MayCome version callers calls Caller = callers < callers_limit version
MayCome version callers calls other = (0 < callers) × (calls < 1048576)

-- it may not
abbrev pub Misplaced : Version → ℕ → ℕ → Kind → Reason → Type 0
Misplaced version callers calls Caller why = (callers_limit version ≤ callers) × (why ≡ TooManyCallers)
Misplaced version callers calls other why =
    ((callers ≡ 0) × (why ≡ NoCaller)) ⊎ ((0 < callers) × (1048576 ≤ calls) × (why ≡ TooManyCalls))

-- a scan does not go up, a move is to its own key, or the script may not have as many parts more
abbrev pub Disorder : ℕ → Line → Reason → Type 0
Disorder parts (line.Call (op.Move from to)) why = (from ≡ to) × (why ≡ SameKey)
Disorder parts (line.Call other) why = ⊥
Disorder parts (line.Scan low last most) why =
    ((last < low) × (why ≡ LowAboveLast))
    ⊎ ((low ≤ last) × (parts < most) × (why ≡ TooManyParts))

-- why the line of this text and kind, which has these words behind the first, does not come next: the first of these that is so
abbrev pub MisfitOf : Version → ℕ → ℕ → ℕ → List ℕ → Kind → List (List ℕ) → Reason → Type 0
MisfitOf version callers calls parts text kind words why =
    ((HasKind version kind → ⊥) × (why ≡ OtherVersion))
    ⊎ (HasKind version kind × (Misplaced version callers calls kind why
    ⊎ (MayCome version callers calls kind × (Misread version (due_of kind) words why
    ⊎ (AreDue version (due_of kind) words × ((line : Line) × (text ≡ line_text line) × Disorder parts line why))))))

-- why a line of these words does not come next in a script of the version, which has this number of callers and of calls, and
-- may have this number of parts more
abbrev pub Misfit : Version → ℕ → ℕ → ℕ → List ℕ → List (List ℕ) → Reason → Type 0
Misfit version callers calls parts text [] why = ⊥
Misfit version callers calls parts text (word ∷ words) why =
    ((word ≡ codes "script") × (why ≡ VersionLine))
    ⊎ (((word ≢ codes "script") × ((kind : Kind) → word ≢ kind_word kind) × (why ≡ UnknownWord))
    ⊎ ((kind : Kind) × (word ≡ kind_word kind) × MisfitOf version callers calls parts text kind words why))

-- why the first of these lines does not
abbrev pub Amiss : Version → ℕ → ℕ → ℕ → List (List ℕ) → Reason → Type 0
Amiss version callers calls parts [] why = why ≡ MissingLine
Amiss version callers calls parts (text ∷ more) why = Misfit version callers calls parts text (words_of text) why

-- the lines before line n, counted from 1, are those of a script, and this is why line n does not go on with it
pub record IsReason (lines : List (List ℕ)) (n : ℕ) (why : Reason) : Type 0 where
  pub version : Version
  pub script : List (List Line)
  pub more : List (List ℕ)
  pub is : IsScript version script
  pub lines_are : lines ≡ (version_line version ++ script_lines script) ++ more
  pub place : n ≡ length (version_line version ++ script_lines script) + 1
  pub amiss : Amiss version (length script) (calls_in script) (65536 - parts_in script) more why

-- a line before line n is `run`
pub record IsInRun (lines : List (List ℕ)) (n : ℕ) : Type 0 where
  pub before : List (List ℕ)
  pub behind : List (List ℕ)
  pub lines_are : lines ≡ before ++ codes "run" ∷ behind
  pub place : length before + 1 < n

-- why line n does not go on with a script and a run of it
abbrev pub IsCheckedReason : List (List ℕ) → ℕ → Reason → Type 0
IsCheckedReason lines n why = IsReason lines n why ⊎ (IsInRun lines n × (why ≡ NotTheRun))

-- the sentence that says a reason
abbrev pub reason_text : Reason → List ℕ
reason_text MissingLine = codes "the text ends before it"
reason_text UnknownWord = codes "no line begins with its first word"
reason_text VersionLine = codes "only the first line says a version: script 2, script 3 or script 4"
reason_text OtherVersion = codes "the version of the script has no such line"
reason_text NoCaller = codes "it comes before the first caller"
reason_text TooManyCallers = codes "it is one caller more than the version of the script allows"
reason_text TooManyCalls = codes "it is one call more than the 1048576 that a script may have"
reason_text MissingWord = codes "a word is missing at its end"
reason_text ExtraWord = codes "a word or a space is too many at its end"
reason_text NoNumber = codes "a word is no number: only digits, no leading zero, one space before it"
reason_text OutOfRange = codes "a key or a value is too great, or PARTS is not 1 to 64"
reason_text LowAboveLast = codes "LOW is greater than LAST"
reason_text SameKey = codes "FROM and TO are the same key"
reason_text TooManyParts = codes "the PARTS of the script are more than 65536 together"
reason_text NotTheRun = codes "from it on the lines are no run of the script"

-- what is said of a refused line
abbrev pub refusal_text : ℕ → Reason → List ℕ
refusal_text line why = codes "line " ++ (decimal line ++ (codes " refused\n" ++ (reason_text why ++ codes "\n")))
