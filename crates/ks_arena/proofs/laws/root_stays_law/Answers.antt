use Rattle.ks_arena.proofs.Tries.{root_taken}
use Rattle.ks_arena.proofs.laws.root_stays_law.Goals as goal

pub returns : goal.returns
returns g c = λ sort nodes h so. root_taken h (c.sound_law.ensures.lawful sort nodes h so) (c.sound_law.ensures.good sort nodes h so)
