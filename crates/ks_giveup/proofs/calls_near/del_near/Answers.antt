use Rattle.std.proofs.Common.{ℕ, refl, sym, subst}
use Rattle.ks_history.specs.declared.Op.{Op}
use Rattle.ks_history.specs.declared.Op.TheVariants.{Del}
use Rattle.ks_history.specs.Alone.{ActsAlone}
use Rattle.ks_history.specs.Laws.Alone.{alone_then}
use Rattle.ks_history.specs.Done.{Done, give_up}
use Rattle.ks_history.specs.Map.{told}
use Rattle.ks_history.specs.Underway.{Underway}
use Rattle.ks_arena.specs.Sound.{blank_of, sort_of}
use Rattle.ks_arena.specs.Clauses.{seen_of}
use Rattle.ks_shape.specs.Hinted.{DoneWhere}
use Rattle.ks_shape.specs.Laws.Does.{search_dels_on}
use Rattle.ks_shape.specs.Laws.Located.{done_where, hint_on, was_above_on, where_within}
use Rattle.ks_giveup.proofs.calls_near.del_near.Goals as goal

pub returns-clause-done : goal.returns-clause-done
returns-clause-done g c = let s = seen_of c.args.pass.now in let h = seen_of c.find_near-held.new.pass in let k = seen_of c.del_alone-numbered.new.pass in let op : Op = Del c.args.place in let e = c.find_near-held.ensures in let x = c.del_alone-numbered.result in
    let under : Underway give_up c.find_near-held.new.pass.caller op s h = subst (λ (z : ℕ). Underway give_up z op s h) (sym e.caller) (e.under op) in
    subst (λ (z : ℕ). Done g.N.Node.layout give_up c.args.arena.now.nodes z op s k (told x.found) x.number) e.caller (c.del_alone-numbered.ensures.done give_up s under)

pub returns-clause-at : goal.returns-clause-at
returns-clause-at g c = let s = seen_of c.args.pass.now in let h = seen_of c.find_near-held.new.pass in let k = seen_of c.del_alone-numbered.new.pass in let op : Op = Del c.args.place in let e = c.find_near-held.ensures in let x = c.del_alone-numbered.result in let held = c.find_near-held.result.held in let r = c.range-range.result in
    let under : Underway give_up c.find_near-held.new.pass.caller op s h = subst (λ (z : ℕ). Underway give_up z op s h) (sym e.caller) (e.under op) in
    subst (λ (z : ℕ). DoneWhere g.N.Node.layout give_up c.args.arena.now.nodes z op s k (told x.found) x.number held.node r.low r.last (blank_of (sort_of g.N.Node.layout g.N.Node.ranged))) e.caller
    (done_where (g.N.Node.body held.body) r refl c.range-range.ensures (c.del_alone-numbered.ensures.at give_up s under))

pub returns-clause-within : goal.returns-clause-within
returns-clause-within g c = where_within (g.N.Node.body c.find_near-held.result.held.body) c.range-range.result c.args.place c.range-range.ensures c.find_near-held.ensures.ends.within

pub returns-clause-tidy : goal.returns-clause-tidy
returns-clause-tidy g c = λ removed alone. let me : ℕ = c.args.pass.now.caller in let s = seen_of c.args.pass.now in let h = seen_of c.find_near-held.new.pass in let k = seen_of c.del_alone-numbered.new.pass in
    let then : ActsAlone me h k = alone_then me s h k c.find_near-held.ensures.leaves.grows c.del_alone-numbered.ensures.begins alone in
    c.del_alone-numbered.ensures.tidy removed (subst (λ (z : ℕ). ActsAlone z h k) (sym c.find_near-held.ensures.caller) then)

pub returns-clause-dels : goal.returns-clause-dels
returns-clause-dels g c = search_dels_on (sort_of g.N.Node.layout g.N.Node.ranged) c.args.pass.now.caller c.find_near-held.new.pass.caller (seen_of c.args.pass.now) (seen_of c.find_near-held.new.pass) (seen_of c.del_alone-numbered.new.pass) c.find_near-held.ensures.caller c.find_near-held.ensures.leaves c.del_alone-numbered.ensures.dels

pub returns-clause-above : goal.returns-clause-above
returns-clause-above g c = was_above_on (sort_of g.N.Node.layout g.N.Node.ranged) c.args.place (seen_of c.args.pass.now) (seen_of c.find_near-held.new.pass) (seen_of c.del_alone-numbered.new.pass) c.del_alone-numbered.ensures.begins c.find_near-held.result.above c.find_near-held.ensures.above

pub returns-clause-first : goal.returns-clause-first
returns-clause-first g c = let e = c.find_near-held.ensures in hint_on c.args.arena.now.nodes c.args.pass.now.caller (seen_of c.args.pass.now) (seen_of c.find_near-held.new.pass) (seen_of c.del_alone-numbered.new.pass) e.leaves.grows c.del_alone-numbered.ensures.begins c.args.hint e.first
