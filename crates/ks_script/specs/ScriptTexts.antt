-- Bytes that are the text of a script, or not.
use Rattle.std.specs.Prelude.{ℕ, List}
use Rattle.ks_lines.specs.declared.Line.{Line}
use Rattle.ks_script.specs.declared.version.Version.{Version}
use Rattle.ks_script.specs.Lines.{lines_of, FirstBad}
use Rattle.ks_script.specs.Script.{SpellsScript, AreScript}

-- the bytes are the text of the script in this version
abbrev pub ScriptIn : Version → List ℕ → List (List Line) → Type 0
ScriptIn version bytes script = SpellsScript version script (lines_of bytes)

-- line n is the one for which the bytes are no script
abbrev pub FirstBadOfScript : List ℕ → ℕ → Type 0
FirstBadOfScript bytes n = FirstBad AreScript (lines_of bytes) n
