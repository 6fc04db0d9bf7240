-- The words of a table are different: two counts, turns and free words.
use Rattle.std.proofs.Common.{◌≡◌, ◌≢◌, ℕ, ◌/◌, ◌<◌, arith}
use Rattle.ks_arena.specs.Spots.{turn_at, free_at, words_for}

-- a turn word is that of one node, and a free word has one index
pub turn_back : (i j : ℕ) → turn_at i ≡ turn_at j → i ≡ j
turn_back i j e = omega arith

pub free_back : (n w v : ℕ) → free_at n w ≡ free_at n v → w ≡ v
free_back n w v e = omega arith

pub turns_apart : (i j : ℕ) → j ≢ i → turn_at j ≢ turn_at i
turns_apart i j ne e = ne (turn_back j i e)

pub frees_apart : (n w v : ℕ) → v ≢ w → free_at n v ≢ free_at n w
frees_apart n w v ne e = ne (free_back n v w e)

-- a count is no turn word and no free word
pub count_no_turn : (k i : ℕ) → k < 2 → k ≢ turn_at i
count_no_turn k i low e = omega arith

pub count_no_free : (k n w : ℕ) → k < 2 → k ≢ free_at n w
count_no_free k n w low e = omega arith

-- a turn word is no free word
pub turn_no_free : (i n w : ℕ) → i < n → turn_at i ≢ free_at n w
turn_no_free i n w near e = omega arith

-- they are words of the table
pub count_inside : (k n : ℕ) → k < 2 → k < words_for n
count_inside k n low = omega arith

pub turn_inside : (i n : ℕ) → i < n → turn_at i < words_for n
turn_inside i n near = omega arith

pub bit_inside : (i n : ℕ) → i < n → free_at n (i / 64) < words_for n
bit_inside i n near = omega arith
