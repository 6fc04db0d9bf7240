use Rattle.ks_arena.proofs.laws.link_lasts_law.Goals as goal

pub returns : goal.returns
returns c = λ g k f j so. so.live
