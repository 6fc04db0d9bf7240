-- The numbers and replies of all calls of lines, by what is said of the lines.
use Rattle.std.specs.Prelude.{ℕ, List, [], ◌∷◌, map, slice_index_or}
use Rattle.std.specs.List.{flat_map}
use Rattle.ks_history.specs.declared.Reply.{Reply}
use Rattle.ks_history.specs.declared.Reply.TheVariants.{Listed}
use Rattle.ks_lines.specs.declared.Said.{Said}
use Rattle.ks_lines.specs.declared.Said.TheVariants.{Call, Scan}
use Rattle.ks_script.specs.PackedReplies.{said_at}
use Rattle.ks_script.specs.Plain.{IsOfCall}
use Rattle.ks_judge.specs.Judgment.{Lines}

-- of one line: of a scan those of its parts
abbrev pub replies_of : Said → List (ℕ × Reply)
replies_of (Call n reply) = (n, reply) ∷ []
replies_of (Scan parts stop) = map (λ p. (p.number, Listed p.pairs)) parts

-- of the lines of one caller
abbrev pub replies_all : List Said → List (ℕ × Reply)
replies_all said = flat_map replies_of said

-- and of the lines of each caller
abbrev pub lines_said : List (List Said) → Lines
lines_said said = map replies_all said

-- nothing is said of a scan
abbrev pub NoScans : List (List Said) → Type 0
NoScans said = (c at : ℕ) → IsOfCall (said_at (slice_index_or said c []) at)
