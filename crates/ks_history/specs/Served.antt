-- What it means that a trace served the scripts of some callers, and that a printed run reports it.
use Rattle.std.specs.Prelude.{ℕ, ◌≡◌, ◌<◌, ◌↔◌, List, map, length, slice_get, Option, Some, None, All, AllPairs, Contains}
use Rattle.ks_keysets.specs.Record.{IsPlace}
use Rattle.ks_history.specs.declared.Op.{Op}
use Rattle.ks_history.specs.declared.Op.TheVariants.{Get, Put, Del, Add, Swap, Part, Move}
use Rattle.ks_history.specs.declared.Reply.{Reply}
use Rattle.ks_history.specs.declared.Event.{Event}
use Rattle.ks_history.specs.Map.{Legal, map_after}
use Rattle.ks_history.specs.Trace.{call_in, calls_of, calls_by}

-- the operation with the place f k for its key k
abbrev pub at_place : (ℕ → ℕ) → Op → Op
at_place f (Get k) = Get (f k)
at_place f (Put k v) = Put (f k) v
at_place f (Del k) = Del (f k)
at_place f (Add k v) = Add (f k) v
at_place f (Swap k old new) = Swap (f k) old new
at_place f (Part low last) = Part (f low) (f last)
at_place f (Move from to) = Move (f from) (f to)

-- the event is no call, or one of a caller below n
abbrev pub CalledBelow : ℕ → Event → Type 0
CalledBelow n e = elim (call_in e) [ None ↦ Unit {0} | Some call ↦ call.caller < n ]

-- the entries, each of a key and its value, ascend by key and are what the map holds at the keys, the numbers that can be
-- places, and nothing else; so no key is in two entries
pub record IsListing (m : ℕ → Option ℕ) (entries : List (ℕ × ℕ)) : Type 0 where
  pub exact : (k v : ℕ) → (IsPlace k × (m k ≡ Some v)) ↔ Contains entries (k, v)
  pub ascend : AllPairs (λ x y. x.0 < y.0) entries

-- the trace h served the scripts, one for each caller, and the lines of the callers and the entries report it; place is the
-- place of a key
pub record Served (place : ℕ → ℕ) (scripts : List (List Op)) (lines : List (List (ℕ × Reply))) (entries : List (ℕ × ℕ)) (h : List Event) : Type 0 where
  -- each caller's calls are those of its script, in order
  pub asked : (c : ℕ) (ops : List Op) → slice_get scripts c ≡ Some ops → map (λ x. x.call.op) (calls_by c h) ≡ map (at_place place) ops
  -- its lines have their numbers and replies
  pub told : (c : ℕ) (ls : List (ℕ × Reply)) → slice_get lines c ≡ Some ls → map (λ x. (x.number, x.call.reply)) (calls_by c h) ≡ ls
  pub callers : length lines ≡ length scripts
  -- nobody else called
  pub others : All (CalledBelow (length scripts)) h
  -- the calls in the order of their numbers are a legal history of a map
  pub legal : Legal (calls_of h)
  -- and the entries are that map at the end
  pub final : IsListing (λ k. map_after (calls_of h) (place k)) entries
