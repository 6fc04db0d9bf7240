use Rattle.ks_history.specs.Laws.Begins.{good_now}
use Rattle.ks_history.specs.Trace.{graph_after}
use Rattle.ks_history.specs.Frames.{frame_after}
use Rattle.ks_arena.specs.Sound.{blank_of}
use Rattle.ks_arena.proofs.laws.link_level_law.Goals as goal

pub returns : goal.returns
returns c = λ sort nodes h some so. let good = good_now (c.sound_law.ensures.good sort nodes h so) in
    c.link_law.ensures.level (graph_after h) (frame_after (blank_of sort) h) good.root good.apart good.leads (c.sound_law.ensures.facts sort nodes h so) nodes (λ n live. c.beside_law.ensures.live sort nodes n h some so live)
