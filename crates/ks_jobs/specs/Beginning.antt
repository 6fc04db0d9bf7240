-- How a worker begins.
use Rattle.std.specs.Prelude.{ℕ, Option, Some, None}
use Rattle.ks_tickets.specs.declared.desk.Desk.{Desk}
use Rattle.ks_tickets.specs.declared.desk.Tickets.{Tickets}
use Rattle.ks_tickets.specs.Clauses.{HasEnded, IsBusy}
use Rattle.ks_jobs.specs.declared.worker.Worker.{Worker}

module _ {J : Type 0} (waits : J → ℕ → Type 0) (tickets : Tickets J) where
  -- a job that waits was drawn at the desk, at which its ticket is open; or none was left, and the desk has ended
  abbrev pub HasDrawn : Option (ℕ × J) → Desk J → Type 0
  HasDrawn (Some drawn) desk = IsBusy tickets drawn.0 desk × waits drawn.1 drawn.0
  HasDrawn None desk = HasEnded tickets desk

  -- the worker begins with what was drawn at its desk
  pub record IsReady {H : Type 0} (worker : Worker J H) : Type 0 where
    pub drawn : HasDrawn worker.first worker.desk
