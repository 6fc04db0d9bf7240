-- All passes of a dictionary, and its notes.
use Rattle.std.specs.Prelude.{ℕ, ◌≡◌, ◌<◌, List, length, slice_index_or}
use Rattle.ks_arena.specs.declared.held.Note.{Note}
use Rattle.ks_arena.specs.declared.held.Pass.{Pass}
use Rattle.ks_arena.specs.Clauses.{IsNote, IsNewCrew, IsCrew}
use Rattle.ks_arena.specs.Of.{SameCaller, caller_of}
use Rattle.ks_shape.specs.Idle.{Site, IsIdle}

module _ {N D : Type 0} where
  -- the passes that a start returns: one for each caller, numbered from 0; they have seen nothing and hold nothing
  abbrev pub AreNew : Site → List (Pass N D) → Type 0
  AreNew a ps = IsNewCrew a.sort a.begins a.step a.table a.callers ps

  -- the passes of all callers, none of which holds a node
  abbrev pub AreAll : Site → List (Pass N D) → Type 0
  AreAll a ps = IsCrew a.sort a.begins a.step a.table a.callers ps

  -- so it is, and they are in the order of their callers
  pub record AreInOrder (a : Site) (ps : List (Pass N D)) : Type 0 where
    pub long : length ps ≡ a.callers
    pub each : (i : ℕ) (p : Pass N D) → i < length ps → IsIdle a (slice_index_or ps i p) × (caller_of (slice_index_or ps i p) ≡ i)

  -- in the place of each of the passes ps is one of the same caller, which holds no node
  pub record AreReplaced (a : Site) (ps qs : List (Pass N D)) : Type 0 where
    pub long : length qs ≡ length ps
    pub each : (i : ℕ) (p : Pass N D) → i < length ps → IsIdle a (slice_index_or qs i p) × SameCaller (slice_index_or ps i p) (slice_index_or qs i p)

  -- a note of a pass of the arena
  abbrev pub IsNoteOf : Site → Note N D → Type 0
  IsNoteOf a x = IsNote a.table x
