-- The judgment of a printed run of a script: which numbers are wrong.
use Rattle.std.specs.Prelude.{ℕ, zero, suc, ◌≡◌, ◌==◌, ◌<◌, ◌≤◌, ◌+◌, List, [], ◌∷◌, ◌++◌, map, slice_index_or, if◌then◌else◌}
use Rattle.ks_history.specs.declared.Op.{Op}
use Rattle.ks_history.specs.declared.Op.TheVariants.{Get}
use Rattle.ks_history.specs.declared.Reply.{Reply}
use Rattle.ks_history.specs.declared.Reply.TheVariants.{Nothing}
use Rattle.ks_history.specs.declared.Answered.{Answered}
use Rattle.ks_history.specs.Map.{IsAnswer, map_after}
use Rattle.ks_history.specs.Served.{IsListing}
use Rattle.ks_script.specs.Script.{calls_in}

-- the lines of a printed run, for each caller
abbrev pub Lines : Type 0
Lines = List (List (ℕ × Reply))

-- the number and the reply on line j of caller c
abbrev pub line_at : Lines → ℕ → ℕ → ℕ × Reply
line_at lines c j = slice_index_or (slice_index_or lines c []) j (0, Nothing)

-- the call j of caller c
abbrev pub op_at : List (List Op) → ℕ → ℕ → Op
op_at script c j = slice_index_or (slice_index_or script c []) j (Get 0)

-- the call at a place, of a caller and a line, with its reply
abbrev pub answered_at : List (List Op) → Lines → ℕ × ℕ → Answered
answered_at script lines x = record { op = op_at script x.0 x.1; reply = (line_at lines x.0 x.1).1 }

-- the places of the lines of caller c, from line j on, that carry n
abbrev pub carriers_in : ℕ → ℕ → ℕ → List (ℕ × Reply) → List (ℕ × ℕ)
carriers_in n c j [] = []
carriers_in n c j (x ∷ xs) = if x.0 == n then (c, j) ∷ carriers_in n c (j + 1) xs else carriers_in n c (j + 1) xs

-- the places of the lines, from caller c on, that carry n
abbrev pub carriers_from : ℕ → ℕ → Lines → List (ℕ × ℕ)
carriers_from n c [] = []
carriers_from n c (xs ∷ rest) = carriers_in n c 0 xs ++ carriers_from n (c + 1) rest

-- the places of the lines that carry n
abbrev pub carriers : Lines → ℕ → List (ℕ × ℕ)
carriers lines n = carriers_from n 0 lines

-- the calls whose lines carry the numbers below n, in the order of the numbers
abbrev pub calls_below : List (List Op) → Lines → ℕ → List Answered
calls_below script lines zero = []
calls_below script lines (suc n) = calls_below script lines n ++ map (answered_at script lines) (carriers lines n)

-- exactly one line carries n, and no earlier one of its caller carries a greater number
pub record IsPlaced (lines : Lines) (n : ℕ) : Type 0 where
  pub caller : ℕ
  pub place : ℕ
  pub only : carriers lines n ≡ (caller, place) ∷ []
  pub ordered : (i : ℕ) → i < place → (line_at lines caller i).0 ≤ n

-- and its reply is the answer of the map after the calls 0 to n - 1
pub record IsRight (script : List (List Op)) (lines : Lines) (n : ℕ) : Type 0 where
  pub placed : IsPlaced lines n
  pub answers : let a = answered_at script lines (placed.caller, placed.place) in IsAnswer (map_after (calls_below script lines n)) a.op a.reply

-- the lines of the map are the map after all calls
abbrev pub MapIsRight : List (List Op) → Lines → List (ℕ × ℕ) → Type 0
MapIsRight script lines pairs = IsListing (map_after (calls_below script lines (calls_in script))) pairs

-- all is right
pub record IsLegalRun (script : List (List Op)) (lines : Lines) (pairs : List (ℕ × ℕ)) : Type 0 where
  pub numbers : (n : ℕ) → n < calls_in script → IsRight script lines n
  pub map : MapIsRight script lines pairs

-- the number n is wrong: that of a call that is not right, or, if it is the number of all calls, the map is
pub data WrongAt (script : List (List Op)) (lines : Lines) (pairs : List (ℕ × ℕ)) : ℕ → Type 0 where
  at_call : {n : ℕ} → n < calls_in script → (IsRight script lines n → ⊥) → WrongAt script lines pairs n
  at_map : (MapIsRight script lines pairs → ⊥) → WrongAt script lines pairs (calls_in script)

-- n is the least number that is wrong
pub record IsLeastWrong (script : List (List Op)) (lines : Lines) (pairs : List (ℕ × ℕ)) (n : ℕ) : Type 0 where
  pub wrong : WrongAt script lines pairs n
  pub before : (k : ℕ) → k < n → IsRight script lines k
