-- What is a caller's own in a trace: its events, the nodes that it holds, and where its calls are decided.
use Rattle.std.specs.Prelude.{ℕ, ◌==◌, ◌+◌, List, [], ◌∷◌, if◌then◌else◌}
use Rattle.ks_history.specs.declared.Op.{Op}
use Rattle.ks_history.specs.declared.Reply.{Reply}
use Rattle.ks_history.specs.declared.Event.{Event}
use Rattle.ks_history.specs.declared.Event.TheVariants.{Take, Give, Claim, Shape, Call, Twin}
use Rattle.ks_history.specs.Trace.{caller_of, Called}

-- the call of a caller, by its operation and its reply
abbrev pub called : ℕ → Op → Reply → Called
called c op reply = record { caller = c; op = op; reply = reply }

-- the nodes at which the event decides a call; none if it is no call
abbrev pub decided_at : Event → List ℕ
decided_at (Take c i) = []
decided_at (Give c i) = []
decided_at (Claim c i) = []
decided_at (Shape c changes) = []
decided_at (Call c i op reply) = i ∷ []
decided_at (Twin c i j op reply) = i ∷ j ∷ []

-- how many Shapes are in the trace
abbrev pub shapes_in : List Event → ℕ
shapes_in [] = 0
shapes_in (Take c j ∷ h) = shapes_in h
shapes_in (Give c j ∷ h) = shapes_in h
shapes_in (Claim c j ∷ h) = shapes_in h
shapes_in (Shape c changes ∷ h) = shapes_in h + 1
shapes_in (Call c j op reply ∷ h) = shapes_in h
shapes_in (Twin c j k op reply ∷ h) = shapes_in h

-- the events of c, the newest first
abbrev pub mine : ℕ → List Event → List Event
mine c [] = []
mine c (e ∷ h) = if caller_of e == c then e ∷ mine c h else mine c h

-- the numbers without the first i
abbrev pub drop_one : ℕ → List ℕ → List ℕ
drop_one i [] = []
drop_one i (x ∷ xs) = if x == i then xs else x ∷ drop_one i xs

-- the nodes that c holds after the trace, the last taken first
abbrev pub hand : ℕ → List Event → List ℕ
hand c [] = []
hand c (Take d j ∷ h) = if c == d then j ∷ hand c h else hand c h
hand c (Give d j ∷ h) = if c == d then drop_one j (hand c h) else hand c h
hand c (Claim d j ∷ h) = if c == d then j ∷ hand c h else hand c h
hand c (Shape d changes ∷ h) = hand c h
hand c (Call d j op reply ∷ h) = hand c h
hand c (Twin d j k op reply ∷ h) = hand c h
