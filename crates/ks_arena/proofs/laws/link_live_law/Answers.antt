use Rattle.ks_history.specs.Laws.Stays.{lawful_in_turn}
use Rattle.ks_arena.specs.Laws.FromSound.{live_not_free}
use Rattle.ks_arena.proofs.laws.link_live_law.Goals as goal

pub returns : goal.returns
returns c = λ sort nodes i k h from so live. live_not_free h i (lawful_in_turn h (c.sound_law.ensures.lawful sort nodes h so)) ((c.sound_law.ensures.lasts sort nodes k h from so).live i live)
