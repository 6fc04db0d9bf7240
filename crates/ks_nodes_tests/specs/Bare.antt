-- Bodies without a range and without edges.
use Rattle.std.specs.Prelude.{◌≡◌, ℕ, [], None}
use Rattle.ks_keysets.specs.declared.Kind.TheVariants.{NoBranch}
use Rattle.ks_node.specs.Body.{Body}

-- a leaf that begins at the low, with no range and no edge
abbrev pub IsBare : ℕ → Body → Type 0
IsBare low b = (b.starts ≡ []) × (b.low ≡ low) × (b.kind ≡ NoBranch) × (b.range ≡ None)
