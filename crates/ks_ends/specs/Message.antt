-- What is said on the error output.
use Rattle.std.specs.Prelude.{ℕ, ◌==◌, List, [], ◌++◌, Option, Some, None, codes, if◌then◌else◌}
use Rattle.std.specs.Fmt.{decimal}
use Rattle.ks_script.specs.Reasons.{refusal_text}
use Rattle.ks_script.specs.declared.reasons.Reason.{Reason}
use Rattle.ks_words.specs.declared.status.TheConstants.{NO_COMMAND, REFUSED, SOURCE_FAILED, OUTPUT_FAILED, NO_MEMORY, UNFIT}

-- what is said of an input that is refused: its line and the reason, or that it is too long
abbrev pub refused_text : ℕ → Option Reason → List ℕ
refused_text line None = codes "too many bytes\n"
refused_text line (Some why) = refusal_text line why

-- the text on the error output for a status, a line, which is 0 if no line is refused or unfit, and a reason
abbrev pub status_text : ℕ → ℕ → Option Reason → List ℕ
status_text status line why =
    if status == NO_COMMAND then codes "usage: run NODES TEMPLATE ARENA [WORKERS], hinted NODES TEMPLATE ARENA WORKERS, make NODES TEMPLATE ARENA CALLERS CALLS FIRST, or check\n"
    else if status == REFUSED then refused_text line why
    else if status == SOURCE_FAILED then codes "read fault\n"
    else if status == OUTPUT_FAILED then codes "write fault\n"
    else if status == NO_MEMORY then codes "no memory\n"
    else if status == UNFIT then codes "line " ++ decimal line ++ codes " unfit\n"
    else []
