use Rattle.std.specs.Ordering.{nat_cmp}
use Rattle.std.specs.BTreeMap.{get}
use Rattle.std.proofs.lemmas.Bool.{false≢true}
use Rattle.ks_judge.proofs.Listing.{not_listed}
use Rattle.ks_judge.proofs.ordered.OrderedStore.has_nothing.Goals as goal

pub returns-in-Some : goal.returns-in-Some
returns-in-Some c = (λ no. absurd (false≢true no), λ listing. absurd (not_listed (get nat_cmp c.args.self.entries) c.in-Some.key.now _ c.can_be_place.ensures c.in-Some.ensures.value listing))
