use Rattle.std.proofs.Common.{ℕ, subst, arith}
use Rattle.std.proofs.lemmas.Bool.Decides.{nat_tests}
use Rattle.ks_keysets.specs.Keyset.{InKeyset}
use Rattle.ks_keysets.proofs.Walks.{keyset_one}
use Rattle.ks_keysets.specs.Listed.{graph_of}
use Rattle.ks_keysets.proofs.readers.has_place.Goals as goal

pub returns-in-Some : goal.returns-in-Some
returns-in-Some c = (
  λ same. subst (λ (n : ℕ). InKeyset (graph_of c.args.graph.now) n c.args.place) (grind (arith, nat_tests)) c.in-Some.ensures.keyset,
  λ h. let one = keyset_one (graph_of c.args.graph.now) c.in-Some.end c.args.node c.args.place c.requires c.in-Some.ensures.keyset h in grind (arith, nat_tests),
)
