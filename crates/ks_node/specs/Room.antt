-- How much a body holds, and how much it may hold. A kind with no capacity is never full and never low.
use Rattle.std.specs.Prelude.{ℕ, ◌+◌, ◌*◌, ◌≤◌, Bool, false, true, cond, ◌&&◌, nat_le, nat_eq, length, Option, Some, None}
use Rattle.std.specs.Option.{ForSome}
use Rattle.ks_keysets.specs.declared.Kind.{Kind}
use Rattle.ks_keysets.specs.declared.Kind.TheVariants.{NoBranch, Inner, Directory}
use Rattle.ks_keysets.specs.Layout.{Layout, list_layout, bplus_layout, hash_layout, bst_layout, wide_layout}
use Rattle.ks_keysets.specs.Tight.{capacity}
use Rattle.ks_node.specs.Body.{Body, is_branch}

-- whether full nodes of the layout can become branches
abbrev pub may_grow : Layout → Bool
may_grow list_layout = false
may_grow bplus_layout = true
may_grow hash_layout = true
may_grow bst_layout = true
may_grow (wide_layout pairs children) = true

-- whether a full node of the layout becomes a branch wherever it is, and not only at the root
abbrev pub in_place : Layout → Bool
in_place list_layout = false
in_place bplus_layout = false
in_place hash_layout = false
in_place bst_layout = true
in_place (wide_layout pairs children) = false

-- the edges of a branch, the pairs of another node
abbrev pub load : Body → ℕ
load b = cond (is_branch b) (length b.starts) (length b.pairs)

abbrev pub is_full_at : Option ℕ → ℕ → Bool
is_full_at None n = false
is_full_at (Some c) n = nat_eq n c

abbrev pub is_low_at : Option ℕ → ℕ → Bool
is_low_at None n = false
is_low_at (Some c) n = nat_le (2 * n) c

abbrev pub is_room_for : Option ℕ → ℕ → Bool
is_room_for None n = false
is_room_for (Some c) n = nat_le n c

-- the load is at the capacity, at most half of it, or not above it
abbrev pub is_full : Layout → Body → Bool
is_full layout b = is_full_at (capacity layout b.kind) (load b)

abbrev pub is_low : Layout → Body → Bool
is_low layout b = is_low_at (capacity layout b.kind) (load b)

abbrev pub IsHeld : Layout → Body → Type 0
IsHeld layout b = ForSome (capacity layout b.kind) (λ c. load b ≤ c)

-- two kinds that fit: one kind, and no directory
abbrev pub fit_kinds : Kind → Kind → Bool
fit_kinds NoBranch NoBranch = true
fit_kinds NoBranch Inner = false
fit_kinds NoBranch Directory = false
fit_kinds Inner Inner = true
fit_kinds Inner NoBranch = false
fit_kinds Inner Directory = false
fit_kinds Directory k = false

-- two bodies fit: they are of one kind, and hold together at most the capacity
abbrev pub fit_together : Layout → Body → Body → Bool
fit_together layout b right = fit_kinds b.kind right.kind && is_room_for (capacity layout b.kind) (load b + load right)
