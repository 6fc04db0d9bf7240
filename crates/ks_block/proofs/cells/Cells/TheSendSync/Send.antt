use denote.RattleType.{RattleType}
use denote.Param.Send.{IsSend}
use Rattle.ks_block.proofs.Crosses.{Cells-send}
use Rattle.ks_block.specs.contracts.cells.Cells.{the_row}

pub send : (R : RattleType) → IsSend R → IsSend (the_row R)
send = Cells-send
