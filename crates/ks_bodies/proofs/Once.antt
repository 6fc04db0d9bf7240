-- Nodes that are named once, by two changes or three.
use Rattle.std.proofs.Common.{zero, suc, ◌≡◌, [], ◌∷◌, arith}
use Rattle.ks_keysets.specs.declared.Change.{Change}
use Rattle.ks_flow.specs.Changes.{NamedOnce}

pub once_two : (x y : Change) → (x.node ≡ y.node → ⊥) → NamedOnce (x ∷ y ∷ [])
once_two x y ne zero zero d lt lt' = absurd (omega arith)
once_two x y ne zero (suc zero) d lt lt' = ne
once_two x y ne zero (suc (suc j)) d lt lt' = absurd (omega arith)
once_two x y ne (suc i) j d lt lt' = absurd (omega arith)

pub once_three : (x y z : Change) → (x.node ≡ y.node → ⊥) → (x.node ≡ z.node → ⊥) → (y.node ≡ z.node → ⊥) → NamedOnce (x ∷ y ∷ z ∷ [])
once_three x y z a b c zero zero d lt lt' = absurd (omega arith)
once_three x y z a b c zero (suc zero) d lt lt' = a
once_three x y z a b c zero (suc (suc zero)) d lt lt' = b
once_three x y z a b c zero (suc (suc (suc j))) d lt lt' = absurd (omega arith)
once_three x y z a b c (suc zero) zero d lt lt' = absurd (omega arith)
once_three x y z a b c (suc zero) (suc zero) d lt lt' = absurd (omega arith)
once_three x y z a b c (suc zero) (suc (suc zero)) d lt lt' = c
once_three x y z a b c (suc zero) (suc (suc (suc j))) d lt lt' = absurd (omega arith)
once_three x y z a b c (suc (suc i)) j d lt lt' = absurd (omega arith)
