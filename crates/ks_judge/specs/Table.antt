-- What a table has.
use Rattle.std.specs.Prelude.{ℕ, nat_lt, nat_eq, length, slice_index_or, Option, None, if◌then◌else◌}
use Rattle.std.specs.HashMap.{get}
use Rattle.ks_judge.specs.declared.table.Table.{Table}

-- what a key has: at its own place, where it has one, or among the others
abbrev pub found : Table → ℕ → Option ℕ
found t key = if nat_lt key (length t.low.items) then slice_index_or t.low.items key None else get nat_eq t.high key
