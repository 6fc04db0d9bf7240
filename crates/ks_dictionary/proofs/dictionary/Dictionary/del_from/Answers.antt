use Rattle.std.proofs.Common.{ℕ, subst}
use Rattle.ks_history.specs.Done.{TidyAt}
use Rattle.ks_arena.specs.Sound.{blank_of, sort_of}
use Rattle.ks_arena.specs.Clauses.{seen_of}
use Rattle.ks_dictionary.proofs.dictionary.Dictionary.del_from.Goals as goal

pub returns-clause-reuse : goal.returns-clause-reuse
returns-clause-reuse g c = c.reuse_law.ensures _ _ _ _ c.del_from.ensures.pass.0.sound

pub returns-clause-tidy : goal.returns-clause-tidy
returns-clause-tidy g c = λ owes removed alone. subst (λ (z : ℕ). TidyAt g.N.Node.layout (blank_of (sort_of g.N.Node.layout g.N.Node.ranged)) (seen_of c.del_from.new.pass) z) c.place.ensures (c.del_from.ensures.tidy owes removed alone)
