-- What has come of the words.
use Rattle.ks_ends.specs.declared.begun.Begun.{Begun}
use Rattle.ks_ends.specs.declared.begun.Begun.TheVariants.{Serves, Ends}
use Rattle.ks_ends.specs.declared.ending.Ending.{Ending}
use Rattle.ks_ends.specs.declared.request.Request.{Request}

-- if a script is to be served, this holds of the request
abbrev pub IfServes : Begun → (Request → Type 0) → Type 0
IfServes (Serves request) P = P request
IfServes (Ends ending) P = Unit {0}

-- if the program has ended, this holds of how
abbrev pub IfEnds : Begun → (Ending → Type 0) → Type 0
IfEnds (Serves request) P = Unit {0}
IfEnds (Ends ending) P = P ending
