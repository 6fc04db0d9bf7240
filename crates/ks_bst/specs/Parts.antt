-- What is read from the parts of a node: a leaf's pairs, a fork's two starts, a stem's one.
use Rattle.std.specs.Prelude.{ℕ, Bool, true, false, List, [], None}
use Rattle.ks_keysets.specs.declared.Pair.{Pair}
use Rattle.ks_node.specs.declared.start.Start.{Start}
use Rattle.ks_node.specs.Body.{Body}
use Rattle.ks_bst.specs.declared.parts.Parts.{Parts}
use Rattle.ks_bst.specs.declared.parts.Parts.TheVariants.{Leaf, Fork, Stem}
use Rattle.ks_bst.specs.Bst.{bst_body, bst_content, bst_cut, two_children, one_child}

-- a fork or a stem, and no leaf
abbrev pub is_inner : Parts → Bool
is_inner (Leaf ps) = false
is_inner (Fork left cut right) = true
is_inner (Stem child) = true

-- the pairs of a leaf; a fork and a stem have none
abbrev pub pairs_of : Parts → List Pair
pairs_of (Leaf ps) = ps.items
pairs_of (Fork left cut right) = []
pairs_of (Stem child) = []

-- where the children start; a leaf has none
abbrev pub starts_of : Parts → List Start
starts_of (Leaf ps) = []
starts_of (Fork left cut right) = two_children left cut right
starts_of (Stem child) = one_child child

-- the meaning of a node of a low and these parts
abbrev pub body_of : ℕ → Parts → Body
body_of low parts = bst_body low (is_inner parts) (pairs_of parts) (starts_of parts)

-- where a node with these parts is cut when full
abbrev pub cut_of : Parts → ℕ
cut_of parts = bst_cut (bst_content 0 (is_inner parts) (pairs_of parts) (starts_of parts)) None
