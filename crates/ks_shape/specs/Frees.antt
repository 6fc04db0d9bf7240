-- How many nodes a caller makes free while it merges nodes, and what remains while it makes none free.
use Rattle.std.proofs.Common.{◌≡◌, ◌≢◌, ℕ, ◌+◌, ◌<◌, ◌%◌, ◌^◌, ◌==◌, List, [], ◌∷◌, ◌++◌}
use Rattle.std.specs.Prelude.{if◌then◌else◌}
use Rattle.ks_keysets.specs.declared.NewState.{NewState}
use Rattle.ks_keysets.specs.declared.NewState.TheVariants.{BecomesLive, BecomesFree}
use Rattle.ks_keysets.specs.declared.Change.{Change}
use Rattle.ks_history.specs.declared.Event.{Event}
use Rattle.ks_history.specs.declared.Event.TheVariants.{Take, Give, Claim, Shape, Call, Twin}
use Rattle.ks_history.specs.Alone.{ActsAlone}

-- how many nodes this makes free: one if it becomes free, and else none
abbrev pub freed_as : NewState → ℕ
freed_as (BecomesLive r frame) = 0
freed_as BecomesFree = 1

-- how many nodes the changes make free
abbrev pub freed_in : List Change → ℕ
freed_in [] = 0
freed_in (x ∷ xs) = freed_as x.state + freed_in xs

-- how many nodes the event makes free, if it is a Shape of c
abbrev pub freed_with : ℕ → Event → ℕ
freed_with c (Take d i) = 0
freed_with c (Give d i) = 0
freed_with c (Claim d i) = 0
freed_with c (Shape d changes) = if d == c then freed_in changes else 0
freed_with c (Call d i op reply) = 0
freed_with c (Twin d i j op reply) = 0

-- how many nodes the Shapes of c among the events make free
abbrev pub freed_by : ℕ → List Event → ℕ
freed_by c [] = 0
freed_by c (e ∷ es) = freed_with c e + freed_by c es

-- if the event is of c, it takes or releases a node, or is a Shape that makes a node free: it is no claim and no call
abbrev pub Merges : ℕ → Event → Type 0
Merges c (Take d i) = Unit {0}
Merges c (Give d i) = Unit {0}
Merges c (Claim d i) = d ≢ c
Merges c (Shape d changes) = d ≡ c → 0 < freed_in changes
Merges c (Call d i op reply) = d ≢ c
Merges c (Twin d i j op reply) = d ≢ c

abbrev pub AllMerge : ℕ → List Event → Type 0
AllMerge c [] = Unit {0}
AllMerge c (e ∷ es) = Merges c e × AllMerge c es

-- from h to k the Shapes of c made this many nodes free, each at least one; and c claimed no node and made no call
pub record Frees (c : ℕ) (h k : List Event) (count : ℕ) : Type 0 where
  pub rest : List Event
  pub is : k ≡ rest ++ h
  pub merges : AllMerge c rest
  pub made : freed_by c rest ≡ count

-- they made this many free, counted modulo 2 ^ 32
pub record Counts (c : ℕ) (h k : List Event) (told : ℕ) : Type 0 where
  pub count : ℕ
  pub frees : Frees c h k count
  pub is : told ≡ count % 2 ^ 32

-- from h to k no other caller did anything, and c made no node free
pub record Undisturbed (c : ℕ) (h k : List Event) : Type 0 where
  pub alone : ActsAlone c h k
  pub none : Frees c h k 0
