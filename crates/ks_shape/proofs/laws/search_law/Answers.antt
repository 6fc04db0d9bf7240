use Rattle.ks_shape.specs.Laws.Search.{laws_of}
use Rattle.ks_shape.proofs.laws.search_law.Goals as goal

pub returns : goal.returns
returns c = λ sort slots. laws_of c.laws.ensures c.walks_law.ensures.opening sort slots (c.tree_beside_law.ensures.parents sort slots)
