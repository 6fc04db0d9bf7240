-- What a call leaves that is no call of the history and may hold three nodes.
use Rattle.std.proofs.Common.{ℕ, ◌≤◌, List}
use Rattle.ks_history.specs.declared.Event.{Event}
use Rattle.ks_history.specs.declared.Op.{Op}
use Rattle.ks_history.specs.Done.{Template, Left, most_held}

-- from s0 to s1 c made no call, took nodes as the template may, held three at most, and released them all: so it is left, for
-- each operation that may hold three nodes
abbrev pub HasLeft : Template → ℕ → List Event → List Event → Type 0
HasLeft template c s0 s1 = (op : Op) → 3 ≤ most_held template op → Left template c op s0 s1
