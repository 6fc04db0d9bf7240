-- The slices of a directory: equal parts of all places, each with the child that it leads to.
use Rattle.std.specs.Prelude.{◌≡◌, ℕ, ◌+◌, ◌-◌, ◌/◌, ◌^◌, ◌≤◌, ◌||◌, Bool, false, cond, nat_eq, List, [], ◌∷◌, ◌++◌, length, get_or, take, drop, Option, None, Some}
use Rattle.ks_node.specs.declared.start.Start.{Start}
use Rattle.ks_node.specs.Body.{starts_below, starts_from}
use Rattle.ks_node.specs.Effect.{runs}

-- how many slices a directory may have
abbrev pub is_size : ℕ → Bool
is_size n = nat_eq n 2 || (nat_eq n 4 || (nat_eq n 8 || (nat_eq n 16 || (nat_eq n 32 || nat_eq n 64))))

-- the places of a smallest slice: one of 64
abbrev pub smallest : ℕ
smallest = 288230376151711744

-- the places of each of some slices
abbrev pub width_of : List ℕ → ℕ
width_of cs = 2 ^ 64 / length cs

-- a slice leads where the one before it leads, if there is one before it
abbrev pub repeats : Option ℕ → ℕ → Bool
repeats None m = false
repeats (Some k) m = nat_eq m k

-- the child of the slice before a position
abbrev pub before_at : ℕ → List ℕ → Option ℕ
before_at i cs = cond (nat_eq i 0) None (Some (get_or cs (i - 1) 0))

-- the slice at which the run begins in which a slice lies
pub record IsRunBegin (cs : List ℕ) (at : ℕ) (begin : ℕ) : Type 0 where
  pub within : begin ≤ at
  pub same : (k : ℕ) → begin ≤ k → k ≤ at → get_or cs k 0 ≡ get_or cs at 0
  pub other : repeats (before_at begin cs) (get_or cs at 0) ≡ false

-- each slice as a start, the first of them at a place
abbrev pub slice_starts : ℕ → ℕ → List ℕ → List Start
slice_starts width low [] = []
slice_starts width low (c ∷ cs) = record { low = low; node = c } ∷ slice_starts width (low + width) cs

-- one start for each run of neighbouring slices with the same child
abbrev pub starts_of : List ℕ → List Start
starts_of cs = runs (slice_starts (width_of cs) 0 cs)

-- each slice cut in two
abbrev pub doubled : List ℕ → List ℕ
doubled [] = []
doubled (c ∷ cs) = c ∷ c ∷ doubled cs

-- the slices in front that lead to a child, led to another
abbrev pub led_over : ℕ → ℕ → List ℕ → List ℕ
led_over child to [] = []
led_over child to (c ∷ cs) = cond (nat_eq c child) (to ∷ led_over child to cs) (c ∷ cs)

-- the slices from a position to the end of its run led to another child
abbrev pub run_led : ℕ → ℕ → List ℕ → List ℕ
run_led i to cs = take i cs ++ led_over (get_or cs i 0) to (drop i cs)

-- the edges of a directory with a run from a cut on that leads to a node
abbrev pub with_run : ℕ → ℕ → List Start → List Start
with_run cut id ss = runs (starts_below cut ss ++ record { low = cut; node = id } ∷ starts_from cut ss)
