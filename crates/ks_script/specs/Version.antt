-- The versions of scripts: what each may say, and the line that says it.
use Rattle.std.specs.Prelude.{ℕ, ◌^◌, List, [], ◌∷◌, codes}
use Rattle.ks_script.specs.declared.version.Version.{Version}
use Rattle.ks_script.specs.declared.version.Version.TheVariants.{First, Second, Third, Fourth}

-- the line that says the version, which the first version does not have
abbrev pub version_line : Version → List (List ℕ)
version_line First = []
version_line Second = codes "script 2" ∷ []
version_line Third = codes "script 3" ∷ []
version_line Fourth = codes "script 4" ∷ []

-- how many callers a script may have
abbrev pub callers_limit : Version → ℕ
callers_limit First = 64
callers_limit Second = 1024
callers_limit Third = 1024
callers_limit Fourth = 1024

-- the values of a script are below this
abbrev pub value_limit : Version → ℕ
value_limit First = 2 ^ 64
value_limit Second = 2 ^ 128
value_limit Third = 2 ^ 128
value_limit Fourth = 2 ^ 128

-- a script may have calls that add and calls that swap
abbrev pub AddsAndSwaps : Version → Type 0
AddsAndSwaps First = ⊥
AddsAndSwaps Second = Unit {0}
AddsAndSwaps Third = Unit {0}
AddsAndSwaps Fourth = Unit {0}

-- it may have ordered scans
abbrev pub Scans : Version → Type 0
Scans First = ⊥
Scans Second = ⊥
Scans Third = Unit {0}
Scans Fourth = Unit {0}

-- it may have moves of a value
abbrev pub Moves : Version → Type 0
Moves First = ⊥
Moves Second = ⊥
Moves Third = ⊥
Moves Fourth = Unit {0}
