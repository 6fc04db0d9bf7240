-- What a change leaves of a row of places.
use Rattle.std.specs.Prelude.{◌≡◌, List, Option}
use Rattle.ks_block.specs.declared.cells.Cells.{Cells}

-- the same memory, and the places are ds
abbrev pub Becomes : {X : Type 0} → Cells X → Cells X → List (Option X) → Type 0
Becomes c d ds = (d.base ≡ c.base) × (d.slots ≡ ds)
