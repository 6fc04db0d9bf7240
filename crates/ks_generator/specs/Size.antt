-- The size of a script.
use Rattle.std.specs.Prelude.{◌≡◌, List, length}
use Rattle.ks_lines.specs.declared.Line.{Line}
use Rattle.ks_script.specs.Script.{calls_in}
use Rattle.ks_generator.specs.declared.summing.Size.{Size}

-- the script has this number of callers, and this number of calls
pub record IsSize (size : Size) (script : List (List Line)) : Type 0 where
  pub callers : size.callers ≡ length script
  pub calls : size.calls ≡ calls_in script
