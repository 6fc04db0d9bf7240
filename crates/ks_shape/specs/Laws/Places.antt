-- Where the places of a node go that is merged with another.
use Rattle.std.specs.Prelude.{ℕ}
use Rattle.ks_keysets.specs.declared.NodeState.{NodeState}
use Rattle.ks_shape.specs.Places.{HasPlacesOf}

pub places_both : (g h k : ℕ → NodeState) (n m l : ℕ) → HasPlacesOf g h n m → HasPlacesOf h k m l → HasPlacesOf g k n l
places_both g h k n m l a b = record { inset = λ p i. b.inset p (a.inset p i); keyset = λ p i. b.keyset p (a.keyset p i) }
