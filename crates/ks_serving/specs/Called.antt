-- What callers have called.
use Rattle.std.specs.Prelude.{ℕ, ◌≡◌, List, map, length, slice_get, Some, All}
use Rattle.ks_history.specs.declared.Op.{Op}
use Rattle.ks_history.specs.declared.Reply.{Reply}
use Rattle.ks_history.specs.declared.Event.{Event}
use Rattle.ks_history.specs.Calls.{numbered}
use Rattle.ks_history.specs.Served.{at_place, CalledBelow}
use Rattle.ks_history.specs.Trace.{NumberedCall}
use Rattle.ks_jobs.specs.Work.{asked_by, told_by}

-- a call with the place f k for each key k of its operation
abbrev pub call_at : (ℕ → ℕ) → NumberedCall → NumberedCall
call_at f x = numbered x.number (at_place f x.call.op) x.call.reply

-- each caller has made the calls of its script in the trace, in order, and its lines have their numbers and replies; nobody
-- else called
pub record HaveCalled (place : ℕ → ℕ) (scripts : List (List Op)) (lines : List (List (ℕ × Reply))) (h : List Event) : Type 0 where
  pub asked : (c : ℕ) (ops : List Op) → slice_get scripts c ≡ Some ops → asked_by c h ≡ map (at_place place) ops
  pub told : (c : ℕ) (ls : List (ℕ × Reply)) → slice_get lines c ≡ Some ls → told_by c h ≡ ls
  pub callers : length lines ≡ length scripts
  pub others : All (CalledBelow (length scripts)) h
