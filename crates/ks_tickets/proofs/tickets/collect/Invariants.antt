use Rattle.std.proofs.Common.{◌≡◌, ℕ, ◌-◌, ◌<◌, ◌≤◌, true, false, get_or, length}
use Rattle.std.specs.Prelude.{vec_capacity}
use Rattle.std.specs.Slots.{slots_items, slots_filled, slots_len}
use Rattle.ks_tickets.specs.Clauses.{EachAs}
use Rattle.ks_tickets.proofs.tickets.collect.Given as goal

abbrev pub invariant-loop-i : goal.invariant-loop-i
invariant-loop-i g l =
    ((k : ℕ) → l.i ≤ k → k < slots_len l.closed.slots → get_or (slots_filled l.closed.slots) k false ≡ true)
    × ((k : ℕ) → k < l.i → get_or (slots_filled l.closed.slots) k false ≡ false)
    × (length l.into.items ≡ l.i)
    × (slots_items l.closed.slots ≡ slots_items l.fn.closed.slots)
    × (length (slots_items l.fn.closed.slots) ≤ vec_capacity l.into)
    × (l.i ≤ slots_len l.closed.slots)
    × EachAs g.J.Ticketed.finished l.into.items

abbrev pub decreases-loop-i : goal.decreases-loop-i
decreases-loop-i g l = slots_len l.closed.slots - l.i
