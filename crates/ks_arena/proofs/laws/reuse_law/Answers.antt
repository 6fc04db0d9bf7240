use Rattle.ks_arena.specs.Sound.{blank_of}
use Rattle.ks_arena.specs.Laws.Reuse.{reuses_safely}
use Rattle.ks_arena.proofs.laws.reuse_law.Goals as goal

pub returns : goal.returns
returns g c = λ sort nodes k h so. let law = c.sound_law.ensures in reuses_safely g.D.Discipline.lasts (blank_of sort) k h (law.lawful sort nodes h so) (law.good sort nodes h so) (λ a b from until. law.lasts sort nodes a b from (law.begins sort nodes b h until so))
