-- What the work of a caller begins with, and what it leaves.
use Rattle.std.specs.Prelude.{ℕ, ◌≡◌, ◌≤◌, List, [], map, length, vec_capacity, Bool, true, All}
use mathlib.Core.Option.{some}
use lib.ListN.{get_elem?}
use Rattle.ks_history.specs.declared.Event.{Event}
use Rattle.ks_history.specs.declared.Op.{Op}
use Rattle.ks_history.specs.declared.Reply.{Reply}
use Rattle.ks_history.specs.Trace.{calls_by}
use Rattle.ks_history.specs.Served.{at_place}
use Rattle.ks_lines.specs.declared.Line.{Line}
use Rattle.ks_lines.specs.declared.Said.{Said}
use Rattle.ks_lines.specs.Lines.{AllBoth, IsServedLine, MayAnswer, calls_of_lines}
use Rattle.ks_arena.specs.Clauses.{seen_of}
use Rattle.ks_shape.specs.Idle.{Site, IsIdle}
use Rattle.ks_jobs.specs.declared.job.Job.{Job}
use Rattle.ks_jobs.specs.Rooms.{HaveRooms}

-- the operations that caller c has called in the trace, and the numbers and replies of its calls, oldest first
abbrev pub asked_by : ℕ → List Event → List Op
asked_by c h = map (λ x. x.call.op) (calls_by c h)

abbrev pub told_by : ℕ → List Event → List (ℕ × Reply)
told_by c h = map (λ x. (x.number, x.call.reply)) (calls_by c h)

-- the operations that the lines of a script represent, with what is said of them, and their numbers and replies
abbrev pub ops_of_lines : List Line → List Said → List Op
ops_of_lines ls ss = map (λ x. x.call.op) (calls_of_lines ls ss)

abbrev pub replies_of_lines : List Line → List Said → List (ℕ × Reply)
replies_of_lines ls ss = map (λ x. (x.number, x.call.reply)) (calls_of_lines ls ss)

module _ {N D W : Type 0} where
  -- nothing is said yet, and there is room for one thing of each line; and for the parts of each scan, if a pairing that scans,
  -- if this says so, serves the script
  pub record HasRoom (scans : Bool) (job : Job N D W) : Type 0 where
    pub blank : job.said.items ≡ []
    pub room : length job.script ≤ vec_capacity job.said
    pub rooms : All (λ line. IsServedLine scans true line) job.script → HaveRooms job.script job.rooms.items

module _ {N D W : Type 0} (a : Site) where
  -- the caller holds nothing and has made no call, and there is room for what is said of its script
  pub record IsReadyJob (job : Job N D W) : Type 0 where
    pub pass : IsIdle a job.pass
    pub fresh : calls_by job.pass.caller (seen_of job.pass) ≡ []
    pub blank : job.said.items ≡ []
    pub room : length job.script ≤ vec_capacity job.said
    pub rooms : HaveRooms job.script job.rooms.items

module _ {N D W : Type 0} (a : Site) (scripts : List (List Line)) where
  -- the job of caller t, before its work
  pub record WaitsAs (job : Job N D W) (t : ℕ) : Type 0 where
    pub ready : IsReadyJob a job
    pub caller : job.pass.caller ≡ t
    pub script : get_elem? scripts t ≡ some job.script

  -- the job of caller t, after it: the caller holds nothing; what is said of its script may be said of it, and it has made
  -- the calls that the lines then represent, with places for keys, in order, with these numbers and replies
  pub record FinishedAs (place : ℕ → ℕ) (job : Job N D W) (t : ℕ) : Type 0 where
    pub pass : IsIdle a job.pass
    pub caller : job.pass.caller ≡ t
    pub script : get_elem? scripts t ≡ some job.script
    pub answered : AllBoth MayAnswer job.script job.said.items
    pub asked : asked_by t (seen_of job.pass) ≡ map (at_place place) (ops_of_lines job.script job.said.items)
    pub told : told_by t (seen_of job.pass) ≡ replies_of_lines job.script job.said.items
