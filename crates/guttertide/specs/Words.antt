-- The words of the clauses of a dictionary, in one place; each is defined in the file from which it comes.

-- of a dictionary, its passes and its calls
pub use Rattle.ks_dictionary.specs.Of.{AreAllPassesOf, AreNewPassesOf, AreOrderedPassesOf, HasCalledIn, HasTriedIn, HasTriedPutIn, IsIdlePassOf, IsNoteFrom, arena_of, callers_of, nodes_of, place_in, site_of}
pub use Rattle.ks_dictionary.specs.Crew.{AreReplaced}
pub use Rattle.ks_dictionary.specs.Guided.{BeginsNear, HasNoted}
pub use Rattle.ks_dictionary.specs.Led.{HasLedNew}
pub use Rattle.ks_shape.specs.Hinted.{BeginsAtHint, HasPassed, IsDoneWhere, IsWhere}
pub use Rattle.ks_guide.specs.Guides.{guessed, guessed_leaf, most_branches}
pub use Rattle.ks_arena.specs.Of.{HeldAlone, SameCaller, WasAlone, caller_of}
pub use Rattle.ks_arena.specs.Clauses.{EndsAll, noted, seen_of}
pub use Rattle.ks_arena.specs.Reuse.{ReusesSafely}
-- of what calls return, and what they leave
pub use Rattle.ks_shape.specs.Answers.{move_number, move_reply, number_at, number_in, reply_at, reply_in}
pub use Rattle.ks_shape.specs.Compacts.{HasFreed, HasLeftBy, IsTightIn, WasUndisturbed}
pub use Rattle.ks_shape.specs.Does.{OnlyDels, OnlyFills, OnlySearches}
pub use Rattle.ks_shape.specs.Tries.{IsDoneIn, MayTell, PutMayTell}
pub use Rattle.ks_shape.specs.Parts.{DonePart, IsDonePart}
pub use Rattle.ks_dictionary.specs.Ends.{HasFoundFirst, HasFoundLast}
pub use Rattle.ks_dictionary.specs.Scan.{IsDoneScan, NumbersAscend}
pub use Rattle.ks_lines.specs.Scan.{IsScanOf}
pub use Rattle.ks_shape.specs.Upkeep.{AreNewLed, HasTwoFree, IsTidyIn, LeadsNew, LeavesTidy}
-- of a dictionary that has ended
pub use Rattle.ks_dictionary.specs.Ended.{HasEnded, HasEndedWith, history}
pub use Rattle.ks_arena.specs.Sound.{Sound, blank_of, sort_of}
pub use Rattle.ks_keysets.specs.Layout.{Layout}
pub use Rattle.ks_keysets.specs.Listed.{graph_of}
pub use Rattle.ks_history.specs.Served.{IsListing}
-- of histories
pub use Rattle.ks_dictionary.specs.Kept.{AddedOnce, Changed, FindsPut, Removed}
pub use Rattle.ks_history.specs.Done.{Done, Template, coupling, give_up, link_move}
pub use Rattle.ks_history.specs.Refusals.{BusyDue, FarDue, MovedDue}
pub use Rattle.ks_history.specs.Map.{Legal, ListsSpan, map_after, told}
pub use Rattle.ks_history.specs.Callers.{CallersBelow}
pub use Rattle.ks_history.specs.Passes.{GrowsByOthers}
pub use Rattle.ks_history.specs.Trace.{◌⊑◌, calls_of, graph_after, number_after}
pub use Rattle.ks_history.specs.declared.Answered.{Answered}
pub use Rattle.ks_history.specs.declared.Event.{Event}
pub use Rattle.ks_history.specs.declared.Op.{Op}
pub use Rattle.ks_history.specs.declared.Op.TheVariants.{Add, Del, Get, Move, Part, Put, Swap}
pub use Rattle.ks_history.specs.declared.Reply.{Reply}
