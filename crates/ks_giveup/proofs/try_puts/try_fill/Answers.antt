use Rattle.std.proofs.Common.{◌≡◌, ◌∙◌, ℕ, sym, subst, ◌≤◌, length, ap, arith}
use Rattle.std.specs.Prelude.{Result}
use Rattle.ks_history.specs.declared.Event.TheVariants.{Give}
use Rattle.ks_history.specs.declared.Op.{Op}
use Rattle.ks_history.specs.Descent.{TookSince}
use Rattle.ks_history.specs.Done.{coupling, give_up, Done}
use Rattle.ks_history.specs.Passes.{GrowsWith}
use Rattle.ks_history.specs.Own.{hand}
use Rattle.ks_history.specs.Underway.{Underway}
use Rattle.ks_history.specs.Laws.Begins.{begins_self}
use Rattle.ks_history.specs.Laws.Underway.{underway_here}
use Rattle.ks_arena.specs.Sound.{sort_of}
use Rattle.ks_arena.specs.Clauses.{seen_of}
use Rattle.ks_shape.specs.declared.answers.Numbered.{Numbered}
use Rattle.ks_shape.specs.declared.answers.PutLater.{PutLater}
use Rattle.ks_shape.specs.Answers.{number_in, reply_in}
use Rattle.ks_shape.specs.Fills.{filling}
use Rattle.ks_shape.specs.SearchEnd.{IsEnd}
use Rattle.ks_shape.specs.Tries.{TriedPut}
use Rattle.ks_shape.specs.Laws.Fills.{done_is_tried, fill_touches}
use Rattle.ks_giveup.specs.Goes.{Goes}
use Rattle.ks_giveup.proofs.TryPuts.{put_off, once_here, once_later, tried_hands}
use Rattle.ks_giveup.proofs.Way.{coupled_goes, ends_goes, goes_both, goes_with}
use Rattle.ks_shape.specs.Does.{MaySearch}
use Rattle.ks_shape.specs.Laws.Does.{does_on, search_fills_on, searched_fills}
use Rattle.ks_giveup.proofs.try_puts.try_fill.Given.{Over}
use Rattle.ks_giveup.proofs.try_puts.try_fill.Goals as goal
use Rattle.ks_giveup.proofs.try_puts.try_fill.Goals.{After-give_last, After-not_put_off}

-- put off in the first search

pub returns-in-Err-clause-tried : goal.returns-in-Err-clause-tried
returns-in-Err-clause-tried g c = let op : Op = filling c.args.place c.args.fill in let e = c.in-Err.ensures in
    put_off c.args.arena.now.nodes c.args.pass.now.caller c.args.place op (seen_of c.args.pass.now) (seen_of c.try_find.new.pass) c.in-Err.later (fill_touches c.args.place c.args.fill) (e.under op) e.came

-- done where it ended

pub fill_at-requires-clause-found : goal.fill_at-requires-clause-found
fill_at-requires-clause-found g c κs within = let k = seen_of c.try_find.new.pass in (
  k,
  begins_self k,
  tt,
  record {
    ends = subst (λ (z : ℕ). IsEnd (sort_of g.N.Node.layout g.N.Node.ranged) g.N.Node.body z c.args.place k c.in-Ok.held) (sym c.try_find.ensures.caller) c.in-Ok.ensures.came;
    room = c.has_room.ensures.room c.if-has_room.true;
  },
)

done : (g : Over) (c : After-not_put_off g) → TriedPut g.N.Node.layout give_up c.args.arena.now.nodes c.args.pass.now.caller (filling c.args.place c.args.fill) (seen_of c.args.pass.now) (seen_of c.fill_at.new.pass) c.not_put_off.result
done g c = let n : ℕ = c.args.arena.now.nodes in let me : ℕ = c.args.pass.now.caller in let op : Op = filling c.args.place c.args.fill in let h = seen_of c.args.pass.now in let k = seen_of c.try_find.new.pass in let l = seen_of c.fill_at.new.pass in let e = c.in-Ok.ensures in let x = c.fill_at.result in
    subst (λ (answer : Result Numbered PutLater). TriedPut g.N.Node.layout give_up n me op h l answer) (sym c.not_put_off.ensures)
    (done_is_tried g.N.Node.layout give_up n me op h l x
    (subst (λ (z : ℕ). Underway give_up z op h k → Done g.N.Node.layout give_up n z op h l (reply_in x) (number_in x)) e.caller (λ under. c.fill_at.ensures.done give_up h under tt) (e.under op)))

pub returns-then-has_room-clause-tried : goal.returns-then-has_room-clause-tried
returns-then-has_room-clause-tried g c = done g (goal.at.returns-then-has_room-clause-tried g c).After-not_put_off

-- or it goes on from the root

own : (g : Over) (c : After-give_last g) → c.give_last.new.pass.caller ≡ c.args.pass.now.caller
own g c = c.give_last.ensures.caller ∙ c.try_find.ensures.caller

took : (g : Over) (c : After-give_last g) → TookSince c.give_last.new.pass.caller (seen_of c.args.pass.now) (seen_of c.give_last.new.pass) 0 1
took g c = let me : ℕ = c.args.pass.now.caller in let h = seen_of c.args.pass.now in let k = seen_of c.try_find.new.pass in let l = seen_of c.give_last.new.pass in let e = c.in-Ok.ensures in let i : ℕ = c.in-Ok.held.node in
    subst (λ (z : ℕ). TookSince z h l 0 1) (sym (own g c)) (once_later me i h k l (subst (λ (z : ℕ). GrowsWith z (Give z i) k l) e.caller c.give_last.ensures.gave) e.once)

under : (g : Over) (c : After-give_last g) → Underway give_up c.give_last.new.pass.caller (filling c.args.place c.args.fill) (seen_of c.args.pass.now) (seen_of c.give_last.new.pass)
under g c = let op : Op = filling c.args.place c.args.fill in let h = seen_of c.args.pass.now in let k = seen_of c.try_find.new.pass in let l = seen_of c.give_last.new.pass in let e = c.in-Ok.ensures in
    subst (λ (z : ℕ). Underway give_up z op h l) (sym c.give_last.ensures.caller) (c.give_last.ensures.under give_up op h (subst (λ (z : ℕ). Underway give_up z op h k) (sym e.caller) (e.under op)))

pub returns-else-has_room-clause-tried : goal.returns-else-has_room-clause-tried
returns-else-has_room-clause-tried g c = let at = (goal.at.returns-else-has_room-clause-tried g c).After-give_last in let h = seen_of c.args.pass.now in
    subst (λ (z : ℕ). TriedPut g.N.Node.layout give_up c.args.arena.now.nodes z (filling c.args.place c.args.fill) h (seen_of c.try_pair_fill.new.pass) c.try_pair_fill.result) (own g at) (c.try_pair_fill.ensures.tried give_up h tt (took g at) (under g at))

-- the nodes that it takes

pub returns-in-Err-clause-goes : goal.returns-in-Err-clause-goes
returns-in-Err-clause-goes g c = c.in-Err.ensures.goes

pub returns-then-has_room-clause-goes : goal.returns-then-has_room-clause-goes
returns-then-has_room-clause-goes g c = let e = c.in-Ok.ensures in let k = seen_of c.try_find.new.pass in
    ends_goes c.args.pass.now.caller c.try_find.new.pass.caller c.args.place (filling c.args.place c.args.fill) (seen_of c.args.pass.now) k (seen_of c.fill_at.new.pass) e.caller (subst (λ (z : ℕ). length (hand z k) ≤ 1) (sym e.caller) (omega (arith, ap length e.came.alone))) e.goes (λ template start going. c.fill_at.ensures.done template start going tt)

pub returns-else-has_room-clause-goes : goal.returns-else-has_room-clause-goes
returns-else-has_room-clause-goes g c = let at = (goal.at.returns-else-has_room-clause-goes g c).After-give_last in let op : Op = filling c.args.place c.args.fill in let me : ℕ = c.args.pass.now.caller in let b : ℕ = c.give_last.new.pass.caller in let h = seen_of c.args.pass.now in let k = seen_of c.try_find.new.pass in let l = seen_of c.give_last.new.pass in let m = seen_of c.try_pair_fill.new.pass in let e = c.in-Ok.ensures in let i : ℕ = c.in-Ok.held.node in
    let gone : Goes me c.args.place h l = goes_with me c.args.place (Give me i) h k l (subst (λ (z : ℕ). GrowsWith z (Give z i) k l) e.caller c.give_last.ensures.gave) tt e.goes in
    let on = c.try_pair_fill.ensures.tried coupling l tt (once_here b l) (underway_here coupling b op l (omega (arith, ap length c.give_last.ensures.pass.1))) in
    goes_both gone (subst (λ (z : ℕ). Goes z c.args.place l m) (own g at) (coupled_goes c.args.place (tried_hands g.N.Node.layout coupling c.args.arena.now.nodes b op l m c.try_pair_fill.result on)))

-- the kinds of its events

pub returns-in-Err-clause-fills : goal.returns-in-Err-clause-fills
returns-in-Err-clause-fills g c = searched_fills (sort_of g.N.Node.layout g.N.Node.ranged) c.args.place c.args.pass.now.caller (seen_of c.args.pass.now) (seen_of c.try_find.new.pass) c.try_find.ensures.leaves

pub returns-then-has_room-clause-fills : goal.returns-then-has_room-clause-fills
returns-then-has_room-clause-fills g c = let e = c.try_find.ensures in let me : ℕ = c.args.pass.now.caller in let h = seen_of c.args.pass.now in let l = seen_of c.fill_at.new.pass in
    searched_fills (sort_of g.N.Node.layout g.N.Node.ranged) c.args.place me h l (does_on MaySearch me c.try_find.new.pass.caller h (seen_of c.try_find.new.pass) l e.caller e.leaves c.fill_at.ensures.leaves)

pub returns-else-has_room-clause-fills : goal.returns-else-has_room-clause-fills
returns-else-has_room-clause-fills g c = let e = c.try_find.ensures in let me : ℕ = c.args.pass.now.caller in let h = seen_of c.args.pass.now in let l = seen_of c.give_last.new.pass in
    search_fills_on (sort_of g.N.Node.layout g.N.Node.ranged) c.args.place me c.give_last.new.pass.caller h l (seen_of c.try_pair_fill.new.pass) (c.give_last.ensures.caller ∙ e.caller) (does_on MaySearch me c.try_find.new.pass.caller h (seen_of c.try_find.new.pass) l e.caller e.leaves c.give_last.ensures.leaves) c.try_pair_fill.ensures.fills
