-- What the calls require and ensure.
use Rattle.std.specs.Prelude.{◌≡◌, ◌≢◌, ℕ, ◌<◌, List, [], ◌∷◌, length, Option, Some, None}
use mathlib.Core.Option.{some}
use lib.ListN.{get_elem?}
use Rattle.atomic_table.specs.Seated.{TableId}
use Rattle.ks_tickets.specs.declared.desk.Desk.{Desk}
use Rattle.ks_tickets.specs.declared.desk.Tickets.{Tickets}
use Rattle.ks_tickets.specs.declared.view.View.{View}
use Rattle.ks_tickets.specs.Rule.{total}

module _ {J : Type 0} where
  -- how many jobs there are: their tickets are the numbers below it
  abbrev pub jobs_of : Tickets J → ℕ
  jobs_of tickets = tickets.jobs

  -- the table that has their words and slots
  abbrev pub table_of : Tickets J → TableId
  table_of tickets = tickets.table.shared.table_id

  -- what is known of a desk
  abbrev pub view_of : Desk J → View
  view_of d = d.seat.me.0

  -- how many of the 64 parts of all desks it has
  abbrev pub parts_of : Desk J → ℕ
  parts_of d = d.seat.me.0.parts

  -- how many draws it knows of: its last one and those before it
  abbrev pub draws_known : Desk J → ℕ
  draws_known d = d.seat.me.0.known

  -- it has the numbers and the parts that it had
  pub record IsSameDesk (old new : Desk J) : Type 0 where
    pub numbers : (view_of new).desks ≡ (view_of old).desks
    pub parts : parts_of new ≡ parts_of old

  -- a desk of the table t that may draw
  pub record IsFreeAt (t : TableId) (d : Desk J) : Type 0 where
    pub table : d.seat.table_id ≡ t
    pub some_part : 0 < parts_of d
    pub goes_on : (view_of d).ended ≡ 0
    pub closed : (view_of d).held ≡ []
    pub bare : d.seat.me.1 ≡ []

  -- a desk at which ticket n is open
  pub record IsBusyAt (t : TableId) (n : ℕ) (d : Desk J) : Type 0 where
    pub table : d.seat.table_id ≡ t
    pub some_part : 0 < parts_of d
    pub goes_on : (view_of d).ended ≡ 0
    pub opened : (view_of d).held ≡ n ∷ []
    pub near : n < t.slots
    pub slot : d.seat.me.1 ≡ (n, None) ∷ []

  -- a desk that has ended, with nothing open
  pub record HasEndedAt (t : TableId) (d : Desk J) : Type 0 where
    pub table : d.seat.table_id ≡ t
    pub some_part : 0 < parts_of d
    pub ended : (view_of d).ended ≢ 0
    pub closed : (view_of d).held ≡ []
    pub bare : d.seat.me.1 ≡ []

  -- so it is with each desk of a list
  abbrev pub Each : (Desk J → Type 0) → List (Desk J) → Type 0
  Each P ds = (i : ℕ) (d : Desk J) → get_elem? ds i ≡ some d → P d

  -- all desks of a table: they have its 64 parts
  pub record AreFreeAt (t : TableId) (ds : List (Desk J)) : Type 0 where
    pub each : Each (IsFreeAt t) ds
    pub all : total parts_of ds ≡ 64

  pub record HaveEndedAt (t : TableId) (ds : List (Desk J)) : Type 0 where
    pub each : Each (HasEndedAt t) ds
    pub all : total parts_of ds ≡ 64

  -- each desk has its place among them for its number
  abbrev pub AreNumbered : List (Desk J) → Type 0
  AreNumbered ds = (i : ℕ) (d : Desk J) → get_elem? ds i ≡ some d → (view_of d).desks ≡ i ∷ []

  -- a desk of these tickets that may draw: none is open at it, and it has not ended
  abbrev pub IsFree : Tickets J → Desk J → Type 0
  IsFree tickets d = IsFreeAt (table_of tickets) d

  -- a desk at which this ticket is open
  abbrev pub IsBusy : Tickets J → ℕ → Desk J → Type 0
  IsBusy tickets ticket d = IsBusyAt (table_of tickets) ticket d

  -- a desk that found no job left, and at which no ticket is open
  abbrev pub HasEnded : Tickets J → Desk J → Type 0
  HasEnded tickets d = HasEndedAt (table_of tickets) d

  -- all desks of the tickets, each free
  abbrev pub AreFree : Tickets J → List (Desk J) → Type 0
  AreFree tickets ds = AreFreeAt (table_of tickets) ds

  -- all desks of the tickets, each ended
  abbrev pub HaveEnded : Tickets J → List (Desk J) → Type 0
  HaveEnded tickets ds = HaveEndedAt (table_of tickets) ds

module _ {J : Type 0} (meets : J → ℕ → Type 0) where
  -- each job, as that of the ticket of its place
  abbrev pub EachAs : List J → Type 0
  EachAs js = (t : ℕ) → t < length js → (j : J) × (get_elem? js t ≡ some j) × meets j t

  -- the same of slots, in each of which a job is
  abbrev pub AreHome : List (Option J) → Type 0
  AreHome xs = (t : ℕ) → t < length xs → (j : J) × (get_elem? xs t ≡ some (Some j)) × meets j t
