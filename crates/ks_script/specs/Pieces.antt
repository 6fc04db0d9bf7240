-- What was put into a piece, and what of it the sink took.
use Rattle.std.specs.Prelude.{ℕ, ◌≡◌, ◌≤◌, true, false, List, ◌++◌, Option, Result, OnOk, OnErr}
use Rattle.ks_script.specs.declared.pieces.Piece.{Piece}
use Rattle.ks_script.specs.Outside.{Rose, Grew, GrewByFront}

-- the text was put from some start on, when the sink had taken these bytes and had this number of faults: the sink
-- took the first bytes of the text, and the others wait; or it failed
pub record Holds (start : Option (List ℕ)) (faults : ℕ) (text : List ℕ) (taken : Option (List ℕ)) (later : ℕ) (piece : Piece) : Type 0 where
  pub going : piece.failed ≡ false → (sent : List ℕ) × (text ≡ sent ++ piece.bytes.items) × Grew start taken sent
  pub failed : piece.failed ≡ true → GrewByFront start taken text × Rose faults later
  pub count : faults ≤ later

-- behind any text that was put before, this one was put
pub record Puts {S : Type 0} (taken : S → Option (List ℕ)) (faults : S → ℕ) (old : S) (before : Piece) (text : List ℕ) (new : S) (after : Piece) : Type 0 where
  pub on : (start : Option (List ℕ)) (count : ℕ) (done : List ℕ) → Holds start count done (taken old) (faults old) before → Holds start count (done ++ text) (taken new) (faults new) after

-- a text that was put from some start on is taken, or its first bytes are and the sink has failed
pub record Takes {T E : Type 0} (start : Option (List ℕ)) (faults : ℕ) (text : List ℕ) (taken : Option (List ℕ)) (later : ℕ) (result : Result T E) : Type 0 where
  pub ok : OnOk result (Grew start taken text)
  pub front : OnErr result (GrewByFront start taken text)
  pub cause : OnErr result (Rose faults later)
  pub count : faults ≤ later
