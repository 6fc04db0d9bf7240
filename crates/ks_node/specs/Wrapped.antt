-- A body with a range in place of the one of the body inside, or of none.
use Rattle.std.specs.Prelude.{ℕ, Bool, not, ◌&&◌, nat_eq}
use Rattle.ks_node.specs.Body.{Content, is_branch_kind}

-- a branch with a range has an edge that begins at the low
abbrev pub adopts_ranged : (Content → ℕ → Bool) → Content → ℕ → Bool
adopts_ranged can c cut = not (is_branch_kind c.kind && nat_eq cut c.low) && can c cut
