use Rattle.std.proofs.Common.{subst}
use Rattle.guttertide.specs.Words.{◌⊑◌, seen_of}
use Rattle.ks_example.proofs.catalogue.tell.Goals as goal

pub returns-clause-finds : goal.returns-clause-finds
returns-clause-finds g c =
    c.kept_law.ensures _ _ _ _ _ _ _ (seen_of c.args.clerk.now) (seen_of c.put.new.pass) (seen_of c.learn.new.pass) (seen_of c.get-got.new.pass)
    c.in_ok-_before._before.found c.get-got.result.found c.in_ok-_before._before.number c.get-got.result.number
    c.in_ok-_before.ensures.done (subst (λ t. t ⊑ seen_of c.learn.new.pass) c.note-note.ensures.noted c.learn.ensures.noted) c.get-got.ensures.done c.seen_law.ensures
