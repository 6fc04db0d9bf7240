use Rattle.std.proofs.Common.{ℕ, List, sym, subst}
use Rattle.std.specs.Prelude.{Result}
use Rattle.ks_history.specs.declared.Event.{Event}
use Rattle.ks_history.specs.declared.Op.{Op}
use Rattle.ks_history.specs.Done.{Template, Left}
use Rattle.ks_history.specs.Underway.{Underway}
use Rattle.ks_history.specs.Laws.Underway.{left_of}
use Rattle.ks_arena.specs.Sound.{sort_of}
use Rattle.ks_arena.specs.Clauses.{seen_of}
use Rattle.ks_shape.specs.declared.answers.Numbered.{Numbered}
use Rattle.ks_shape.specs.declared.answers.PutLater.{PutLater}
use Rattle.ks_shape.specs.Fills.{filling}
use Rattle.ks_shape.specs.Laws.Fills.{done_is_tried, fill_touches}
use Rattle.ks_shape.specs.Laws.Stretches.{fill_goes_on}
use Rattle.ks_shape.specs.Tries.{TriedPut}
use Rattle.ks_put.proofs.Going.{ended_since, filled_since}
use Rattle.ks_put.proofs.Trying.{off_later}
use Rattle.ks_shape.specs.Laws.Does.{fills_search}
use Rattle.ks_put.proofs.try_fills.try_pair_fill.Given.{Over}
use Rattle.ks_put.proofs.try_fills.try_pair_fill.Goals as goal
use Rattle.ks_put.proofs.try_fills.try_pair_fill.Goals.{After-not_put_off, In-Err}

pub fill_at-requires-clause-found : goal.fill_at-requires-clause-found
fill_at-requires-clause-found g c κs within = let e = c.try_make_room.ensures in
    ended_since (sort_of g.N.Node.layout g.N.Node.ranged) g.N.Node.body c.args.arena.now.nodes c.args.place c.args.pass.now.caller c.try_make_room.new.pass.caller (seen_of c.args.pass.now) (seen_of c.try_make_room.new.pass) c.in-Ok.found e.caller e.stretch c.in-Ok.ensures.room

-- what is decided is not put off
done : (g : Over) (c : After-not_put_off g) (template : Template) (start : List Event) → Underway template c.args.pass.now.caller (filling c.args.place c.args.fill) start (seen_of c.args.pass.now) → TriedPut g.N.Node.layout template c.args.arena.now.nodes c.args.pass.now.caller (filling c.args.place c.args.fill) start (seen_of c.fill_at.new.pass) c.not_put_off.result
done g c template start under = let n : ℕ = c.args.arena.now.nodes in let me : ℕ = c.args.pass.now.caller in let op : Op = filling c.args.place c.args.fill in let k = seen_of c.try_make_room.new.pass in let l = seen_of c.fill_at.new.pass in let e = c.try_make_room.ensures in
    subst (λ (answer : Result Numbered PutLater). TriedPut g.N.Node.layout template n me op start l answer) (sym c.not_put_off.ensures)
    (done_is_tried g.N.Node.layout template n me op start l c.fill_at.result
    (filled_since (sort_of g.N.Node.layout g.N.Node.ranged) g.N.Node.body template n c.args.place me c.try_make_room.new.pass.caller c.args.fill start (seen_of c.args.pass.now) k l c.in-Ok.found c.fill_at.result e.caller e.stretch c.in-Ok.ensures.room under (c.fill_at.ensures.done template start)))

pub returns-in-Ok-clause-tried : goal.returns-in-Ok-clause-tried
returns-in-Ok-clause-tried g c = λ template start finds took under. done g (goal.at.returns-in-Ok-clause-tried g c).After-not_put_off template start under

-- what is put off leaves nothing
left : (g : Over) (c : In-Err g) (template : Template) (start : List Event) → Underway template c.args.pass.now.caller (filling c.args.place c.args.fill) start (seen_of c.args.pass.now) → Left template c.args.pass.now.caller (filling c.args.place c.args.fill) start (seen_of c.try_make_room.new.pass)
left g c template start under = let me : ℕ = c.args.pass.now.caller in let op : Op = filling c.args.place c.args.fill in let k = seen_of c.try_make_room.new.pass in
    left_of template me op start k (fill_goes_on template me c.args.place c.args.fill start (seen_of c.args.pass.now) k under c.try_make_room.ensures.stretch) c.in-Err.ensures.room

pub returns-in-Err-clause-tried : goal.returns-in-Err-clause-tried
returns-in-Err-clause-tried g c = λ template start finds took under. let n : ℕ = c.args.arena.now.nodes in let me : ℕ = c.args.pass.now.caller in let op : Op = filling c.args.place c.args.fill in
    off_later template n me op start (seen_of c.try_make_room.new.pass) c.in-Err.later finds (left g (goal.at.returns-in-Err-clause-tried g c).In-Err template start under) (c.in-Err.ensures.cause start took op (fill_touches c.args.place c.args.fill))

-- the kinds of its events

pub returns-in-Ok-clause-fills : goal.returns-in-Ok-clause-fills
returns-in-Ok-clause-fills g c = let e = c.try_make_room.ensures in fills_search (sort_of g.N.Node.layout g.N.Node.ranged) c.args.place c.args.pass.now.caller c.try_make_room.new.pass.caller (seen_of c.args.pass.now) (seen_of c.try_make_room.new.pass) (seen_of c.fill_at.new.pass) e.caller e.fills c.fill_at.ensures.leaves
