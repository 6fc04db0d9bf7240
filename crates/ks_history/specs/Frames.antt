-- The frames of nodes after a trace.
use Rattle.std.specs.Prelude.{ℕ, List, [], ◌∷◌}
use Rattle.ks_keysets.specs.declared.Frame.{Frame}
use Rattle.ks_keysets.specs.Reframed.{reframed}
use Rattle.ks_history.specs.declared.Event.{Event}
use Rattle.ks_history.specs.declared.Event.TheVariants.{Take, Give, Claim, Shape, Call, Twin}

-- the frame of node i after the trace: that of the last Shape that made it live, and at first that of a blank body
abbrev pub frame_after : Frame → List Event → ℕ → Frame
frame_after blank [] i = blank
frame_after blank (Take c j ∷ h) i = frame_after blank h i
frame_after blank (Give c j ∷ h) i = frame_after blank h i
frame_after blank (Claim c j ∷ h) i = frame_after blank h i
frame_after blank (Shape c changes ∷ h) i = reframed changes i (frame_after blank h i)
frame_after blank (Call c j op reply ∷ h) i = frame_after blank h i
frame_after blank (Twin c j k op reply ∷ h) i = frame_after blank h i
