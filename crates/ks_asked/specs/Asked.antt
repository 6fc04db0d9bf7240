-- What a cut of a full node is good for.
use Rattle.std.specs.Prelude.{ℕ, ◌≡◌, Bool, IsTrue, Some, false}
use Rattle.ks_keysets.specs.Layout.{Layout}
use Rattle.ks_node.specs.Body.{Body, Content, all_places, content_of}
use Rattle.ks_node.specs.Room.{in_place}

-- a node of a layout that grows wherever it is, or whose range is all places, if it is one that grows, may grow at the cut
abbrev pub GrowsAt : Layout → (Content → Bool) → (Content → ℕ → Bool) → Body → ℕ → Type 0
GrowsAt layout grows_at can_grow_at b cut = (in_place layout ≡ false → b.range ≡ Some all_places) → IsTrue (grows_at (content_of b)) → IsTrue (can_grow_at (content_of b) cut)
