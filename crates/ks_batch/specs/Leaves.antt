-- What the program leaves, as one record: the parts that the contract of the call that serves is made of.
use Rattle.std.specs.Prelude.{ℕ, ◌≡◌, ◌≢◌, List, Option, None, IfSome}
use Rattle.ks_history.specs.Lawful.{Lawful, GoodThroughout}
use Rattle.ks_script.specs.Outside.{Grew, GrewByFront}
use Rattle.ks_ends.specs.Message.{status_text}
use Rattle.ks_ends.specs.Parts.{ReasonWith}
use Rattle.ks_ends.specs.Left.{Left}
use Rattle.ks_words.specs.declared.status.TheConstants.{REFUSED}
use Rattle.ks_batch.specs.declared.serving.Outcome.{Outcome}
use Rattle.ks_batch.specs.Over.{DueOver, NamedOver}

-- what the program leaves that ends so, of a source and two sinks: the bytes of each before and after, if they are known, and
-- whether it failed
pub record Leaves (words : List (List ℕ)) (left after : Option (List ℕ)) (failed : Type 0) (out out_after : Option (List ℕ)) (out_failed : Type 0) (err err_after : Option (List ℕ)) (err_failed : Type 0) (o : Outcome) : Type 0 where
  pub lawful : IfSome o.run Lawful
  pub good : IfSome o.run GoodThroughout
  pub due : DueOver words o.run
  pub named : NamedOver words o.run
  pub reason : ReasonWith words o.status o.line o.why left
  pub silent : o.status ≢ REFUSED → o.why ≡ None
  pub left_is : Left words left after failed out out_after out_failed o.status o.line o.number o.run
  pub said : ¬ err_failed → Grew err err_after (status_text o.status o.line o.why)
  pub said_front : GrewByFront err err_after (status_text o.status o.line o.why)
