use Rattle.std.proofs.Common.{ℕ, refl, sym, subst}
use Rattle.ks_history.specs.declared.Op.{Op}
use Rattle.ks_history.specs.declared.Op.TheVariants.{Get}
use Rattle.ks_history.specs.Done.{Done, link_move}
use Rattle.ks_history.specs.Map.{told}
use Rattle.ks_history.specs.Underway.{Underway}
use Rattle.ks_history.specs.Laws.Underway.{left_of}
use Rattle.ks_arena.specs.Sound.{sort_of}
use Rattle.ks_arena.specs.Clauses.{seen_of}
use Rattle.ks_shape.specs.SearchEnd.{IsEnd}
use Rattle.ks_shape.specs.Does.{MaySearch}
use Rattle.ks_shape.specs.Laws.Does.{does_on}
use Rattle.ks_link.proofs.tries.try_get.Goals as goal

pub get_here-requires-clause-ends : goal.get_here-requires-clause-ends
get_here-requires-clause-ends g c κs within = subst (λ (z : ℕ). IsEnd (sort_of g.N.Node.layout g.N.Node.ranged) g.N.Node.body z c.args.place (seen_of c.try_find.new.pass) c.in-Ok.held) (sym c.try_find.ensures.caller) c.in-Ok.ensures.found.1

pub returns-in-Ok-clause-tried : goal.returns-in-Ok-clause-tried
returns-in-Ok-clause-tried g c = let op : Op = Get c.args.place in let h = seen_of c.args.pass.now in let k = seen_of c.try_find.new.pass in let l = seen_of c.get_here.new.pass in let e = c.in-Ok.ensures in let x = c.get_here.result in
    let under = subst (λ (z : ℕ). Underway link_move z op h k) (sym e.caller) (e.under op) in
    subst (λ (z : ℕ). Done g.N.Node.layout link_move c.args.arena.now.nodes z op h l (told x.found) x.number) e.caller (c.get_here.ensures.done link_move h under)

pub returns-in-Err-clause-tried : goal.returns-in-Err-clause-tried
returns-in-Err-clause-tried g c = let op : Op = Get c.args.place in let e = c.in-Err.ensures in
    record { left = left_of link_move c.args.pass.now.caller op (seen_of c.args.pass.now) (seen_of c.try_find.new.pass) (e.under op) e.found.0; cause = e.found.1 op refl }

pub returns-in-Ok-clause-leaves : goal.returns-in-Ok-clause-leaves
returns-in-Ok-clause-leaves g c = does_on MaySearch c.args.pass.now.caller c.try_find.new.pass.caller (seen_of c.args.pass.now) (seen_of c.try_find.new.pass) (seen_of c.get_here.new.pass) c.try_find.ensures.caller c.try_find.ensures.leaves c.get_here.ensures.leaves
