use Rattle.ks_script.proofs.Common.{sym, subst, ◌∙◌, ◌++◌, ap, append-nil}
use Rattle.ks_script.specs.Outside.{Grew}
use Rattle.ks_script.proofs.pieces.finish.Goals as goal

pub returns-then-piece : goal.returns-then-piece
returns-then-piece g c = λ start faults text h.
    let k = rw append-nil at (c.offer.ensures.puts.on start faults text h) in
    record { ok = tt; front = (k.failed c.if-piece.true).0; cause = (k.failed c.if-piece.true).1; count = k.count }

pub returns : goal.returns
returns g c = λ start faults text h.
    let k = c.offer.ensures.puts.on start faults text h in
    let s = k.going c.if-piece.false in
    record { ok = subst (Grew start _) (sym (sym (append-nil text) ∙ (s.1 ∙ (ap (λ x. s.0 ++ x) c.offer.ensures.none ∙ append-nil s.0)))) s.2; front = tt; cause = tt; count = k.count }
