-- What each step ensures for its desk.
use Rattle.std.specs.Prelude.{◌≡◌, ℕ, ◌<◌, ◌≤◌, [], ◌∷◌, Option, Some}
use Rattle.atomic_table.specs.Table.{Me, Step}
use Rattle.ks_tickets.specs.declared.view.View.{View}
use Rattle.ks_tickets.specs.Rule.{drew, stopped, cleared}

-- a desk as a step finds or leaves it: what is known of it, and the slots that it holds
abbrev pub Seated : Type 0 → Type 0
Seated J = Me (Option J) View

module _ {J : Type 0} (waits : J → ℕ → Type 0) where
  -- a draw took ticket r: the desk has the job that waited under it
  pub record Drew (r : ℕ) (m m' : Seated J) : Type 0 where
    pub view : m'.0 ≡ drew r m.0
    pub job : J
    pub slots : m'.1 ≡ (r, Some job) ∷ m.1
    pub is_waiting : waits job r

  -- a draw found r: below the number of jobs it took the slot of r, and else it ended the desk
  pub record DrewAt (n r : ℕ) (m m' : Seated J) : Type 0 where
    pub known : m.0.known ≤ r
    pub hit : r < n → Drew r m m'
    pub miss : n ≤ r → (m'.0 ≡ stopped r m.0) × (m'.1 ≡ m.1)

  abbrev pub drawn : Step (Option J) → Seated J → ℕ → Seated J → Type 0
  drawn st m r m' = DrewAt st.slots r m m'

-- the one ticket that was open is finished
abbrev pub closed : {J : Type 0} → Step (Option J) → Seated J → ℕ → Seated J → Type 0
closed st m r m' = (m'.0 ≡ cleared m.0) × (m'.1 ≡ [])
