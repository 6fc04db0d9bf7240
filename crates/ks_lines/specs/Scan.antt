-- Scans as rows of parts.
use Rattle.std.specs.Prelude.{ℕ, suc, ◌≡◌, ◌<◌, ◌≤◌, List, [], ◌∷◌, length, Option, Some, None}
use Rattle.ks_lines.specs.declared.parts.Part.{Part}
use Rattle.ks_lines.specs.declared.Scanned.{Scanned}
use Rattle.ks_lines.specs.declared.Scanned.TheVariants.{Whole, Until}

-- the parts begin at low, each after the one before it, and none goes past last
abbrev pub PartsAscend : ℕ → ℕ → List Part → Type 0
PartsAscend low last [] = Unit {0}
PartsAscend low last (part ∷ parts) = (low ≤ part.last) × (part.last ≤ last) × PartsAscend (suc part.last) last parts

-- the place at which the parts stop, if there is one
abbrev pub end_of : List Part → Option ℕ
end_of [] = None
end_of (part ∷ []) = Some part.last
end_of (part ∷ other ∷ parts) = end_of (other ∷ parts)

-- the scan is whole if its parts stop at last; else it has as many parts as it may, and goes on after the place at which they
-- stop, which is below last
abbrev pub StopsAt : ℕ → ℕ → List Part → Scanned → Type 0
StopsAt last most parts Whole = end_of parts ≡ Some last
StopsAt last most parts (Until next) = (length parts ≡ most) × (p : ℕ) × (end_of parts ≡ Some p) × (p < last) × (next ≡ suc p)

-- the parts are a scan from low to last of at most `most` parts, which stopped there
pub record IsScanOf (low last most : ℕ) (parts : List Part) (stop : Scanned) : Type 0 where
  pub ascend : PartsAscend low last parts
  pub few : length parts ≤ most
  pub stops : StopsAt last most parts stop
