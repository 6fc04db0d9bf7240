use Rattle.ks_history.specs.Laws.Stays.{lawful_in_turn}
use Rattle.ks_history.specs.Laws.Begins.{good_now}
use Rattle.ks_arena.specs.Laws.FromSound.{live_not_free, target_live}
use Rattle.ks_arena.proofs.laws.target_law.Goals as goal

pub returns : goal.returns
returns g c = λ sort nodes c' above i seen h r grows so holds is any. let are = lawful_in_turn h (c.sound_law.ensures.lawful sort nodes h so) in live_not_free h i are (target_live c' above i seen h r grows are (good_now (c.sound_law.ensures.good sort nodes h so)) holds is any)
