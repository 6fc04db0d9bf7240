use Rattle.std.proofs.Common.{ℕ, length, ap, sym, subst, arith}
use Rattle.ks_history.specs.declared.Op.{Op}
use Rattle.ks_history.specs.declared.Op.TheVariants.{Del}
use Rattle.ks_history.specs.Alone.{ActsAlone}
use Rattle.ks_history.specs.Laws.Alone.{alone_then}
use Rattle.ks_history.specs.Done.{Done, give_up}
use Rattle.ks_history.specs.Map.{told}
use Rattle.ks_history.specs.Trace.{◌⊑◌}
use Rattle.ks_history.specs.Underway.{Underway}
use Rattle.ks_arena.specs.Clauses.{seen_of}
use Rattle.ks_giveup.proofs.Way.{ends_goes}
use Rattle.ks_arena.specs.Sound.{sort_of}
use Rattle.ks_shape.specs.Laws.Does.{search_dels_on}
use Rattle.ks_giveup.proofs.calls.del.Goals as goal

pub returns-clause-goes : goal.returns-clause-goes
returns-clause-goes g c = let e = c.find-held.ensures in
    ends_goes c.args.pass.now.caller c.find-held.new.pass.caller c.args.place (Del c.args.place) (seen_of c.args.pass.now) (seen_of c.find-held.new.pass) (seen_of c.del_alone.new.pass) e.caller (omega (arith, ap length e.ends.alone)) e.goes c.del_alone.ensures.done

pub returns-clause-done : goal.returns-clause-done
returns-clause-done g c = let s = seen_of c.args.pass.now in let h = seen_of c.find-held.new.pass in let k = seen_of c.del_alone.new.pass in let op : Op = Del c.args.place in let e = c.find-held.ensures in let x = c.del_alone.result in
    let under : Underway give_up c.find-held.new.pass.caller op s h = subst (λ (z : ℕ). Underway give_up z op s h) (sym e.caller) (e.under op) in
    subst (λ (z : ℕ). Done g.N.Node.layout give_up c.args.arena.now.nodes z op s k (told x.found) x.number) e.caller (c.del_alone.ensures.done give_up s under)

pub returns-clause-tidy : goal.returns-clause-tidy
returns-clause-tidy g c = λ removed alone. let me : ℕ = c.args.pass.now.caller in let s = seen_of c.args.pass.now in let h = seen_of c.find-held.new.pass in let k = seen_of c.del_alone.new.pass in
    let under = c.find-held.ensures.under (Del c.args.place) in let up : s ⊑ h = record { rest = under.rest; is = under.is } in
    let then : ActsAlone me h k = alone_then me s h k up c.del_alone.ensures.begins alone in
    c.del_alone.ensures.tidy removed (subst (λ (z : ℕ). ActsAlone z h k) (sym c.find-held.ensures.caller) then)

pub returns-clause-dels : goal.returns-clause-dels
returns-clause-dels g c = search_dels_on (sort_of g.N.Node.layout g.N.Node.ranged) c.args.pass.now.caller c.find-held.new.pass.caller (seen_of c.args.pass.now) (seen_of c.find-held.new.pass) (seen_of c.del_alone.new.pass) c.find-held.ensures.caller c.find-held.ensures.leaves c.del_alone.ensures.dels
