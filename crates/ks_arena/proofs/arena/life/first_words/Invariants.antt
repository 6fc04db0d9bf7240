use Rattle.std.proofs.Common.{◌≡◌, ℕ, ◌<◌, length, get_or, cond, eqb}
use Rattle.ks_arena.specs.Spots.{calls_at, shapes_at, turn_at, words_for}
use Rattle.ks_arena.specs.Rule.{FirstBits}
use Rattle.ks_arena.proofs.arena.life.first_words.Given as goal

abbrev pub invariant-loop-node : goal.invariant-loop-node
invariant-loop-node l =
    (length l.row ≡ words_for l.nodes)
    × (get_or l.row calls_at 0 ≡ 0)
    × (get_or l.row shapes_at 0 ≡ 0)
    × ((i : ℕ) → i < l.nodes → get_or l.row (turn_at i) 0 ≡ cond (eqb i 0) 1 0)
    × FirstBits l.nodes l.node l.row
