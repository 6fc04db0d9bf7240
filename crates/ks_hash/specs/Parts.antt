-- What is read from the parts of a node: a bucket's pairs and own edge, a directory's slices.
use Rattle.std.specs.Prelude.{ℕ, Bool, true, false, List, [], Option, None}
use Rattle.ks_keysets.specs.declared.Pair.{Pair}
use Rattle.ks_node.specs.declared.start.Start.{Start}
use Rattle.ks_node.specs.Body.{Body}
use Rattle.ks_hash.specs.declared.parts.Parts.{Parts}
use Rattle.ks_hash.specs.declared.parts.Parts.TheVariants.{Bucket, Directory}
use Rattle.ks_hash.specs.Hash.{hash_body, hash_starts}

-- a directory, and no bucket
abbrev pub is_directory : Parts → Bool
is_directory (Bucket ps own) = false
is_directory (Directory ss) = true

-- the pairs of a bucket; a directory has none
abbrev pub pairs_of : Parts → List Pair
pairs_of (Bucket ps own) = ps.items
pairs_of (Directory ss) = []

-- the edge of a bucket's own
abbrev pub own_of : Parts → Option Start
own_of (Bucket ps own) = own
own_of (Directory ss) = None

-- the child of each slice of a directory; a bucket has none
abbrev pub slices_of : Parts → List ℕ
slices_of (Bucket ps own) = []
slices_of (Directory ss) = ss.items

-- the edges by where they start
abbrev pub parts_starts : Parts → List Start
parts_starts parts = hash_starts (is_directory parts) (own_of parts) (slices_of parts)

-- the meaning of a node of a low and these parts
abbrev pub body_of : ℕ → Parts → Body
body_of low parts = hash_body low (is_directory parts) (pairs_of parts) (own_of parts) (slices_of parts)
