-- Bytes that are the text of a script and a run, or not.
use Rattle.std.specs.Prelude.{ℕ, List}
use Rattle.ks_lines.specs.declared.Line.{Line}
use Rattle.ks_script.specs.declared.version.Version.{Version}
use Rattle.ks_script.specs.Lines.{lines_of, FirstBad}
use Rattle.ks_script.specs.Run.{Run}
use Rattle.ks_script.specs.Checked.{SpellsChecked, AreChecked}

-- the bytes are the text of the script in this version, and of the run
abbrev pub CheckedIn : Version → List ℕ → List (List Line) → Run → Type 0
CheckedIn version bytes script run = SpellsChecked version script run (lines_of bytes)

-- line n is the one for which the bytes are no text of a script and a run
abbrev pub FirstBadOfChecked : List ℕ → ℕ → Type 0
FirstBadOfChecked bytes n = FirstBad AreChecked (lines_of bytes) n
