-- Where the words of a table are. Those that are often written, the count of calls and each turn, are 64 bytes apart, so
-- that no two share a cache line. The words between are unused.
use Rattle.std.specs.Prelude.{ℕ, ◌+◌, ◌*◌}
use Rattle.std.specs.Int.{div_ceil}

-- the word that counts the calls
abbrev pub calls_at : ℕ
calls_at = 0

-- the word that counts the shapes
abbrev pub shapes_at : ℕ
shapes_at = 1

-- the word of the turn of node i
abbrev pub turn_at : ℕ → ℕ
turn_at i = 8 * (i + 1)

-- free word w of n nodes: it is behind their turns
abbrev pub free_at : ℕ → ℕ → ℕ
free_at n w = turn_at n + w

-- how many free words n nodes have
abbrev pub free_words : ℕ → ℕ
free_words n = div_ceil n 64

-- how many words the table of n nodes has
abbrev pub words_for : ℕ → ℕ
words_for n = free_at n (free_words n)
