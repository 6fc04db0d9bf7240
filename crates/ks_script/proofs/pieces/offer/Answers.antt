use Rattle.ks_script.proofs.Common.{ap, ◌∙◌}
use Rattle.ks_script.specs.declared.pieces.Piece.{Piece}
use Rattle.ks_script.proofs.Putting.{offer_none, offered}
use Rattle.ks_script.proofs.pieces.offer.Goals as goal
use Rattle.ks_script.proofs.pieces.offer.Goals.{then-not-piece, else-not-piece}

pub returns-clause-puts : goal.returns-clause-puts
returns-clause-puts g c = elim c.if-not-piece.branch [
  | then-not-piece w ↦ rw w.out-is (offered w.send.result w.if-not-piece.true (ap (λ (p : Piece). p.failed) w.piece-is ∙ w.is_err-piece.ensures.value) c.clear.ensures w.as_slice.ensures.value w.send.ensures.ok w.send.ensures.front w.send.ensures.cause w.send.ensures.count)
  | else-not-piece w ↦ rw w.out-is (offer_none w.if-not-piece.false (ap (λ (p : Piece). p.failed) w.piece-is ∙ w.if-not-piece.false))
]
