use Rattle.ks_arena.specs.Laws.Aside.{insets_beside}
use Rattle.ks_arena.proofs.laws.tree_beside_law.Goals as goal

pub returns-clause-insets : goal.returns-clause-insets
returns-clause-insets c = λ sort nodes h so. insets_beside sort c.laws.ensures c.walks_law.ensures.opening nodes h so

pub returns-clause-parents : goal.returns-clause-parents
returns-clause-parents c = λ sort nodes h so. c.tree_facts_law.ensures.parents _ (c.sound_law.ensures.facts sort nodes h so).edges
