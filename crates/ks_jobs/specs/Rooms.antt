-- Rooms for the parts of scans, reserved before a script is served: one for each of its scan lines, that of the first line last.
use Rattle.std.specs.Prelude.{ℕ, ◌≡◌, ◌<◌, ◌≤◌, ◌-◌, List, [], ◌∷◌, ◌++◌, length, take, slice_index_or, Vec, vec_capacity}
use Rattle.std.specs.declared.alloc.Global.{Global}
use Rattle.ks_lines.specs.declared.Line.{Line}
use Rattle.ks_lines.specs.declared.Line.TheVariants.{Call, Scan}
use Rattle.ks_lines.specs.declared.parts.Part.{Part}

-- a list for the parts of a scan
abbrev pub Room : Type 0
Room = Vec Part Global

-- it is empty, and has room for that number of parts
abbrev pub IsRoomFor : ℕ → Room → Type 0
IsRoomFor most room = (room.items ≡ []) × (most ≤ vec_capacity room)

-- if the line is a scan, the last of the rooms has room for its parts
abbrev pub HasRoomFor : Line → List Room → Type 0
HasRoomFor (Call op) rooms = Unit {0}
HasRoomFor (Scan low last most) rooms = (0 < length rooms) × ((d : Room) → IsRoomFor most (slice_index_or rooms (length rooms - 1) d))

-- the rooms that are left after the line: a scan takes the last one
abbrev pub rooms_after : Line → List Room → List Room
rooms_after (Call op) rooms = rooms
rooms_after (Scan low last most) rooms = take (length rooms - 1) rooms

-- each scan among the lines has a room, in this order
abbrev pub HaveRooms : List Line → List Room → Type 0
HaveRooms [] rooms = Unit {0}
HaveRooms (line ∷ lines) rooms = HasRoomFor line rooms × HaveRooms lines (rooms_after line rooms)

-- a room for the line was put behind the others, if it is a scan
abbrev pub IsReserved : Line → List Room → List Room → Type 0
IsReserved (Call op) rooms new = new ≡ rooms
IsReserved (Scan low last most) rooms new = (room : Room) × (new ≡ rooms ++ room ∷ []) × IsRoomFor most room
