use Rattle.std.proofs.Common.{sym, subst}
use Rattle.ks_arena.specs.Sound.{sort_of}
use Rattle.ks_arena.specs.Clauses.{seen_of}
use Rattle.ks_pair.specs.Both.{HoldsPair}
use Rattle.ks_pair.specs.Laws.Ends.{turned_holds}
use Rattle.ks_giveup.proofs.moves.find_both.Goals as goal

pub returns-in-Some-clause-came : goal.returns-in-Some-clause-came
returns-in-Some-clause-came g c = let sort = sort_of g.N.Node.layout g.N.Node.ranged in let p = c.find_pair-2.new.pass in
    subst (HoldsPair sort g.N.Node.body p.caller c.args.from c.args.to (seen_of p)) (sym c.turned.ensures) (turned_holds sort g.N.Node.body p.caller c.args.to c.args.from (seen_of p) c.in-Some.pair c.in-Some.ensures.came)
