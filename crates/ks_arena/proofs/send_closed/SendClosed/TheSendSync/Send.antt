use denote.RattleType.{RattleType}
use denote.Param.Send.{IsSend}
use Rattle.ks_arena.proofs.Crosses.{SendClosed-send}
use Rattle.ks_arena.specs.contracts.send_closed.SendClosed.{the_row}

pub send : (S : RattleType) → IsSend S → IsSend (the_row S)
send = SendClosed-send
