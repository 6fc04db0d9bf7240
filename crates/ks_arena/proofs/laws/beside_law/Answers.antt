use Rattle.ks_arena.specs.Laws.Aside.{keysets_beside, live_below}
use Rattle.ks_arena.proofs.laws.beside_law.Goals as goal

pub returns-clause-keysets : goal.returns-clause-keysets
returns-clause-keysets g c = λ sort nodes h so. keysets_beside sort c.laws.ensures c.walks_law.ensures.opening nodes h so

pub returns-clause-live : goal.returns-clause-live
returns-clause-live g c = λ sort nodes m h some so live. live_below sort g.D.Discipline.begins g.D.Discipline.step nodes some h so m live
