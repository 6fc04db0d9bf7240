-- What is read from the parts of a node: a leaf's pairs, an inner node's starts.
use Rattle.std.specs.Prelude.{ℕ, Bool, true, false, List, [], None}
use Rattle.ks_keysets.specs.declared.Pair.{Pair}
use Rattle.ks_node.specs.declared.start.Start.{Start}
use Rattle.ks_node.specs.Body.{Body}
use Rattle.ks_bplus.specs.declared.parts.Parts.{Parts}
use Rattle.ks_bplus.specs.declared.parts.Parts.TheVariants.{Leaf, Inner}
use Rattle.ks_bplus.specs.Bplus.{bplus_body, bplus_content, bplus_cut}

-- an inner node, and no leaf
abbrev pub is_inner : Parts → Bool
is_inner (Leaf ps) = false
is_inner (Inner ss) = true

-- the pairs of a leaf; an inner node has none
abbrev pub pairs_of : Parts → List Pair
pairs_of (Leaf ps) = ps.items
pairs_of (Inner ss) = []

-- the separators of an inner node, each with the child that it leads to; a leaf has none
abbrev pub starts_of : Parts → List Start
starts_of (Leaf ps) = []
starts_of (Inner ss) = ss.items

-- the meaning of a node of a low and these parts
abbrev pub body_of : ℕ → Parts → Body
body_of low parts = bplus_body low (is_inner parts) (pairs_of parts) (starts_of parts)

-- where a node with these parts is cut when full
abbrev pub cut_of : Parts → ℕ
cut_of parts = bplus_cut (bplus_content 0 (is_inner parts) (pairs_of parts) (starts_of parts)) None
