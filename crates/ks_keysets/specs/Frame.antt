-- The record and the frame of a blank body.
use Rattle.std.specs.Prelude.{None, []}
use Rattle.ks_keysets.specs.declared.Kind.TheVariants.{NoBranch}
use Rattle.ks_keysets.specs.declared.Frame.{Frame}
use Rattle.ks_keysets.specs.declared.Record.{Record}

-- a blank body is no branch, its low is 0, and it has no link
abbrev pub blank_frame : Frame
blank_frame = record { low = 0; kind = NoBranch; range = None; level = 0; link = None }

-- a record with no edge and no pair
abbrev pub empty_record : Record
empty_record = record { edges = []; pairs = [] }
