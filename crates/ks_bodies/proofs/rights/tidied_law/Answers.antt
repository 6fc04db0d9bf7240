use Rattle.ks_node.specs.Edges.{record_of}
use Rattle.ks_bodies.proofs.Neighbours.{low_tells, no_only}
use Rattle.ks_bodies.proofs.rights.tidied_law.Goals as goal

pub returns-clause-tidy : goal.returns-clause-tidy
returns-clause-tidy c layout g f n p b good stands here tested =
    c.tidy_law.ensures.here layout g f n p (record_of b) good here stands.has (λ low. tested ((low_tells g f n b stands layout).1 low))

pub returns-clause-tight : goal.returns-clause-tight
returns-clause-tight c layout g f b good tree below stands none = c.tight_law.ensures.all layout g f good tree below (no_only g f 0 b stands none)
