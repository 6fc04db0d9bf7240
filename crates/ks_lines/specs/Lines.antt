-- Lines of scripts: which a pairing serves, what may be said of each, and the calls that they represent.
use Rattle.std.specs.Prelude.{ℕ, suc, List, [], ◌∷◌, ◌++◌, map, Bool, IsTrue}
use Rattle.ks_history.specs.declared.Op.{Op}
use Rattle.ks_history.specs.declared.Op.TheVariants.{Get, Put, Del, Add, Swap, Move, Part as lists}
use Rattle.ks_history.specs.declared.Reply.{Reply}
use Rattle.ks_history.specs.declared.Reply.TheVariants.{Nothing, Value, Full, Listed, Kept}
use Rattle.ks_history.specs.Trace.{NumberedCall}
use Rattle.ks_history.specs.Calls.{numbered}
use Rattle.ks_lines.specs.declared.parts.Part.{Part}
use Rattle.ks_lines.specs.declared.Line.{Line}
use Rattle.ks_lines.specs.declared.Line.TheVariants.{Call, Scan}
use Rattle.ks_lines.specs.declared.Said.{Said}
use Rattle.ks_lines.specs.declared.Said.TheVariants as said
use Rattle.ks_lines.specs.Scan.{IsScanOf}

-- a pairing that scans, or moves, if they say so, serves the line
abbrev pub IsServedLine : Bool → Bool → Line → Type 0
IsServedLine scans moves (Call (Get k)) = Unit {0}
IsServedLine scans moves (Call (Put k v)) = Unit {0}
IsServedLine scans moves (Call (Del k)) = Unit {0}
IsServedLine scans moves (Call (Add k v)) = Unit {0}
IsServedLine scans moves (Call (Swap k old new)) = Unit {0}
IsServedLine scans moves (Call (lists low last)) = Unit {0}
IsServedLine scans moves (Call (Move from to)) = IsTrue moves
IsServedLine scans moves (Scan low last most) = IsTrue scans

-- the reply may be that to the operation: only parts list pairs, and only moves keep them
abbrev pub IsReplyTo : Op → Reply → Type 0
IsReplyTo op Nothing = Unit {0}
IsReplyTo op (Value v) = Unit {0}
IsReplyTo op Full = Unit {0}
IsReplyTo op (Listed pairs) = ⊥
IsReplyTo (Get k) Kept = ⊥
IsReplyTo (Put k v) Kept = ⊥
IsReplyTo (Del k) Kept = ⊥
IsReplyTo (Add k v) Kept = ⊥
IsReplyTo (Swap k old new) Kept = ⊥
IsReplyTo (lists low last) Kept = ⊥
IsReplyTo (Move from to) Kept = Unit {0}

-- this may be said of the line: of a call one reply, of a scan its parts and where it stopped
abbrev pub MayAnswer : Line → Said → Type 0
MayAnswer (Call op) (said.Call n reply) = IsReplyTo op reply
MayAnswer (Call op) (said.Scan parts stop) = ⊥
MayAnswer (Scan low last most) (said.Call n reply) = ⊥
MayAnswer (Scan low last most) (said.Scan parts stop) = IsScanOf low last most parts stop

-- each of these is of the one in the same place of the other list, and there are as many
abbrev pub AllBoth : {X Y : Type 0} → (X → Y → Type 0) → List X → List Y → Type 0
AllBoth Of [] [] = Unit {0}
AllBoth Of [] (y ∷ ys) = ⊥
AllBoth Of (x ∷ xs) [] = ⊥
AllBoth Of (x ∷ xs) (y ∷ ys) = Of x y × AllBoth Of xs ys

-- this may be said of the script: for each caller, and each line of it
abbrev pub AreAnswered : List (List Line) → List (List Said) → Type 0
AreAnswered script said = AllBoth (AllBoth MayAnswer) script said

-- the calls of the parts of a scan, of which the first begins at low
abbrev pub part_calls : ℕ → List Part → List NumberedCall
part_calls low [] = []
part_calls low (part ∷ parts) = numbered part.number (lists low part.last) (Listed part.pairs) ∷ part_calls (suc part.last) parts

-- the calls that a line represents, with what is said of them
abbrev pub calls_of_line : Line → Said → List NumberedCall
calls_of_line (Call op) (said.Call n reply) = numbered n op reply ∷ []
calls_of_line (Call op) (said.Scan parts stop) = []
calls_of_line (Scan low last most) (said.Call n reply) = []
calls_of_line (Scan low last most) (said.Scan parts stop) = part_calls low parts

-- and those that the lines of one caller represent
abbrev pub calls_of_lines : List Line → List Said → List NumberedCall
calls_of_lines [] said = []
calls_of_lines (l ∷ ls) [] = []
calls_of_lines (l ∷ ls) (s ∷ ss) = calls_of_line l s ++ calls_of_lines ls ss

-- and those of each caller
abbrev pub calls_of_script : List (List Line) → List (List Said) → List (List NumberedCall)
calls_of_script [] said = []
calls_of_script (ls ∷ script) [] = []
calls_of_script (ls ∷ script) (ss ∷ said) = calls_of_lines ls ss ∷ calls_of_script script said

-- the operations of these calls, for each caller
abbrev pub ops_in : List (List Line) → List (List Said) → List (List Op)
ops_in script said = map (λ calls. map (λ x. x.call.op) calls) (calls_of_script script said)

-- their numbers and replies
abbrev pub replies_in : List (List Line) → List (List Said) → List (List (ℕ × Reply))
replies_in script said = map (λ calls. map (λ x. (x.number, x.call.reply)) calls) (calls_of_script script said)
