-- What the functions say that find why a line is refused.
use Rattle.std.specs.Prelude.{ℕ, ◌≡◌, ◌≢◌, ◌≤◌, List, [], ◌∷◌}
use Rattle.ks_history.specs.declared.Op.TheVariants as op
use Rattle.ks_lines.specs.declared.Line.{Line}
use Rattle.ks_lines.specs.declared.Line.TheVariants as line
use Rattle.ks_script.specs.Reasons.{words_of}

-- no bytes come, or the byte `end` is the first of them
abbrev pub Behind : ℕ → List ℕ → Type 0
Behind end [] = Unit {0}
Behind end (b ∷ bytes) = b ≡ end

-- the words behind a space, if it comes
abbrev pub words_behind : List ℕ → List (List ℕ)
words_behind [] = []
words_behind (space ∷ bytes) = words_of bytes

-- a scan goes up, and a move is to another key
abbrev pub InOrder : Line → Type 0
InOrder (line.Call (op.Move from to)) = from ≢ to
InOrder (line.Call other) = Unit {0}
InOrder (line.Scan low last most) = low ≤ last
