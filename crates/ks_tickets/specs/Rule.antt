-- The running rule: what holds of the words, the jobs at home and the views between any two steps.
use Rattle.std.specs.Prelude.{ℕ, ◌≡◌, ◌≢◌, ◌+◌, ◌-◌, ◌^◌, ◌<◌, ◌≤◌, ◌⊎◌, ◌==◌, if◌then◌else◌, List, [], ◌∷◌, ◌++◌, length, slice_index, Option, Some}
use mathlib.Core.Option.{none, some}
use mathlib.Core.Option as maybe
use lib.ListN.{get_elem?}
use Rattle.atomic_table.specs.Table.{State}
use Rattle.ks_tickets.specs.declared.view.View.{View}

-- f of each, added up
abbrev pub total : {A : Type 0} → (A → ℕ) → List A → ℕ
total f [] = 0
total f (x ∷ xs) = f x + total f xs

-- how often x is in the list
abbrev pub times : ℕ → List ℕ → ℕ
times x [] = 0
times x (y ∷ ys) = (if y == x then 1 else 0) + times x ys

-- how often ticket t is in the lists of drawn tickets, and at how many desks it is open
abbrev pub drawn_times : ℕ → List View → ℕ
drawn_times t vs = total (λ v. times t v.drawn) vs

abbrev pub held_times : ℕ → List View → ℕ
held_times t vs = total (λ v. times t v.held) vs

-- what n jobs and w draws say of a view: it has ended as often at most as it has parts, and only once no job was left;
-- what is open was drawn; and a spent view has nothing
pub record Fits (n w : ℕ) (v : View) : Type 0 where
  pub ended : v.ended ≤ v.parts
  pub past : v.ended ≢ 0 → n ≤ w
  pub known : v.known ≤ w
  pub among : (t : ℕ) → times t v.held ≤ times t v.drawn
  pub spent : v.parts ≡ 0 → v.drawn ≡ []

-- how many desks were made, and at how many of them number c is
abbrev pub made_in : List View → ℕ
made_in vs = total (λ v. v.made) vs

abbrev pub desk_times : ℕ → List View → ℕ
desk_times c vs = total (λ v. times c v.desks) vs

-- desks have different numbers, all below the number of desks, which one view has
pub record Numbered (vs : List View) : Type 0 where
  pub below : (c : ℕ) → c < made_in vs → desk_times c vs ≡ 1
  pub above : (c : ℕ) → made_in vs ≤ c → desk_times c vs ≡ 0
  pub maker : (j : ℕ) (v : View) → get_elem? vs j ≡ some v → v.made ≢ 0 → made_in vs ≡ v.made

module _ {J : Type 0} (waits finished : J → ℕ → Type 0) where
  -- ticket t, of which w draws were made, with this word and slot, drawn and open this number of times
  pub record Waiting (t w word : ℕ) (slot : maybe.Option (maybe.Option (Option J))) (drawn held : ℕ) : Type 0 where
    pub later : w ≤ t
    pub word_is : word ≡ 0
    pub no_desk : drawn ≡ 0
    pub closed : held ≡ 0
    pub job : J
    pub home : slot ≡ some (some (Some job))
    pub is_waiting : waits job t

  pub record AtDesk (t w word : ℕ) (slot : maybe.Option (maybe.Option (Option J))) (drawn held : ℕ) : Type 0 where
    pub before : t < w
    pub word_is : word ≡ 0
    pub one_desk : drawn ≡ 1
    pub open_there : held ≡ 1
    pub out : slot ≡ some none

  pub record Done (t w word : ℕ) (slot : maybe.Option (maybe.Option (Option J))) (drawn held : ℕ) : Type 0 where
    pub before : t < w
    pub word_is : word ≡ 1
    pub one_desk : drawn ≡ 1
    pub closed : held ≡ 0
    pub job : J
    pub home : slot ≡ some (some (Some job))
    pub is_finished : finished job t

  abbrev pub Stage : ℕ → ℕ → ℕ → maybe.Option (maybe.Option (Option J)) → ℕ → ℕ → Type 0
  Stage t w word slot drawn held = Waiting t w word slot drawn held ⊎ (AtDesk t w word slot drawn held ⊎ Done t w word slot drawn held)

  abbrev pub StageIn : State (Option J) View → ℕ → Type 0
  StageIn s t = Stage t (slice_index s.words 0) (slice_index s.words (t + 1)) (get_elem? s.homes t) (drawn_times t s.views) (held_times t s.views)

  -- the rule
  pub record Running (s : State (Option J) View) : Type 0 where
    -- the word of the draws, and a word for each job
    pub wide : length s.words ≡ length s.homes + 1
    pub few : length s.homes < 2 ^ 32
    -- the desks have 64 parts together
    pub parts : total (λ v. v.parts) s.views ≡ 64
    pub numbers : Numbered s.views
    pub count : slice_index s.words 0 ≤ length s.homes + total (λ v. v.ended) s.views
    pub each : (j : ℕ) (v : View) → get_elem? s.views j ≡ some v → Fits (length s.homes) (slice_index s.words 0) v
    pub tickets : (t : ℕ) → t < length s.homes → StageIn s t
    pub beyond : (t : ℕ) → length s.homes ≤ t → (drawn_times t s.views ≡ 0) × (held_times t s.views ≡ 0)

-- the view of the first desk, before any other is made
abbrev pub first_view : View
first_view = record { parts = 64; ended = 0; known = 0; desks = 0 ∷ []; made = 1; drawn = []; held = [] }

-- a desk passes one part to a new one, and the next number
abbrev pub maker_view : View → View
maker_view v = record { parts = v.parts - 1; ended = v.ended; known = v.known; desks = v.desks; made = v.made + 1; drawn = v.drawn; held = v.held }

abbrev pub next_view : View → View
next_view v = record { parts = 1; ended = 0; known = 0; desks = v.made ∷ []; made = 0; drawn = []; held = [] }

abbrev pub both_views : View → View → View
both_views v w = record { parts = v.parts + w.parts; ended = v.ended + w.ended; known = v.known; desks = v.desks ++ w.desks; made = v.made + w.made; drawn = v.drawn ++ w.drawn; held = v.held ++ w.held }

abbrev pub spent_view : View
spent_view = record { parts = 0; ended = 0; known = 0; desks = []; made = 0; drawn = []; held = [] }

-- the view after a draw that found r: it has ticket r open, or has ended
abbrev pub drew : ℕ → View → View
drew r v = record { parts = v.parts; ended = v.ended; known = r + 1; desks = v.desks; made = v.made; drawn = r ∷ v.drawn; held = r ∷ v.held }

abbrev pub stopped : ℕ → View → View
stopped r v = record { parts = v.parts; ended = v.ended + 1; known = r + 1; desks = v.desks; made = v.made; drawn = v.drawn; held = v.held }

-- the view with nothing open
abbrev pub cleared : View → View
cleared v = record { parts = v.parts; ended = v.ended; known = v.known; desks = v.desks; made = v.made; drawn = v.drawn; held = [] }
