use Rattle.std.proofs.Common.{◌≡◌, ℕ, List, [], ◌∙◌, sym, subst}
use Rattle.std.specs.Prelude.{All, Result}
use Rattle.ks_history.specs.declared.Op.{Op}
use Rattle.ks_history.specs.Done.{Done, link_move}
use Rattle.ks_history.specs.Own.{hand}
use Rattle.ks_history.specs.Underway.{Underway}
use Rattle.ks_history.specs.Laws.Underway.{done_on, left_of}
use Rattle.ks_arena.specs.Sound.{sort_of}
use Rattle.ks_arena.specs.Clauses.{seen_of}
use Rattle.ks_shape.specs.declared.answers.Numbered.{Numbered}
use Rattle.ks_shape.specs.declared.answers.PutLater.{PutLater}
use Rattle.ks_shape.specs.Answers.{number_in, reply_in}
use Rattle.ks_shape.specs.Fills.{filling}
use Rattle.ks_shape.specs.Laws.Fills.{done_is_tried, fill_touches, three_to_fill}
use Rattle.ks_shape.specs.Tries.{TriedPut}
use Rattle.ks_link.specs.declared.parts.Waiting.{Waiting}
use Rattle.ks_link.specs.Descent.{IsOnWay}
use Rattle.ks_link.specs.Parts.{IsSplitOff}
use Rattle.ks_shape.specs.Does.{MayFill}
use Rattle.ks_shape.specs.Laws.Does.{does_on, search_fills_on, searched_fills}
use Rattle.ks_link.proofs.try_puts.try_fill.Goals as goal

pub fill_from-answer-requires-clause-way : goal.fill_from-answer-requires-clause-way
fill_from-answer-requires-clause-way g c = subst (λ (z : ℕ). IsOnWay (sort_of g.N.Node.layout g.N.Node.ranged) g.N.Node.body z c.args.place (seen_of c.try_find.new.pass) c.in-Ok.held) (sym c.try_find.ensures.caller) c.in-Ok.ensures.found.0

pub fill_from-answer-requires-clause-ends : goal.fill_from-answer-requires-clause-ends
fill_from-answer-requires-clause-ends g c = c.in-Ok.ensures.found.1.here

pub try_attach_all-requires-clause-off : goal.try_attach_all-requires-clause-off
try_attach_all-requires-clause-off g c = subst (λ (ws : List Waiting). All (λ w. IsSplitOff (sort_of g.N.Node.layout g.N.Node.ranged) (seen_of c.fill_from-answer.new.pass) w) ws) (sym c.as_slice.ensures.value) c.fill_from-answer.ensures.waiting

pub returns-in-Ok-clause-tried : goal.returns-in-Ok-clause-tried
returns-in-Ok-clause-tried g c = let me : ℕ = c.args.pass.now.caller in let n : ℕ = c.args.arena.now.nodes in let op : Op = filling c.args.place c.args.fill in
    let h = seen_of c.args.pass.now in let k = seen_of c.try_find.new.pass in let l = seen_of c.fill_from-answer.new.pass in let m = seen_of c.try_attach_all.new.pass in
    let e = c.try_find.ensures.caller in let e' = c.fill_from-answer.ensures.caller ∙ e in let x = c.fill_from-answer.result in
    let under = subst (λ (z : ℕ). Underway link_move z op h k) (sym e) (c.try_find.ensures.under op) in
    let done = subst (λ (z : ℕ). Done g.N.Node.layout link_move n z op h l (reply_in x) (number_in x)) e (c.fill_from-answer.ensures.done h under) in
    let on = subst (λ (z : ℕ). Underway link_move z op l m) e' (c.try_attach_all.ensures.stretch op (three_to_fill link_move c.args.place c.args.fill)) in
    subst (λ (answer : Result Numbered PutLater). TriedPut g.N.Node.layout link_move n me op h m answer) (sym c.not_put_off.ensures)
    (done_is_tried g.N.Node.layout link_move n me op h m x (done_on g.N.Node.layout link_move n me op h l m (reply_in x) (number_in x) done on (subst (λ (z : ℕ). hand z m ≡ []) (c.try_attach_all.ensures.caller ∙ e') c.try_attach_all.ensures.pass.1)))

pub returns-in-Err-clause-tried : goal.returns-in-Err-clause-tried
returns-in-Err-clause-tried g c = let op : Op = filling c.args.place c.args.fill in let e = c.in-Err.ensures in
    record { left = left_of link_move c.args.pass.now.caller op (seen_of c.args.pass.now) (seen_of c.try_find.new.pass) (e.under op) e.found.0; cause = e.found.1 op (fill_touches c.args.place c.args.fill) }

pub returns-in-Ok-clause-fills : goal.returns-in-Ok-clause-fills
returns-in-Ok-clause-fills g c = let me : ℕ = c.args.pass.now.caller in let h = seen_of c.args.pass.now in let k = seen_of c.try_find.new.pass in let l = seen_of c.fill_from-answer.new.pass in let e = c.try_find.ensures in let w = c.fill_from-answer.ensures in
    does_on (MayFill (sort_of g.N.Node.layout g.N.Node.ranged) c.args.place) me c.fill_from-answer.new.pass.caller h l (seen_of c.try_attach_all.new.pass) (w.caller ∙ e.caller) (search_fills_on (sort_of g.N.Node.layout g.N.Node.ranged) c.args.place me c.try_find.new.pass.caller h k l e.caller e.leaves w.fills) (c.try_attach_all.ensures.fills c.args.place)

pub returns-in-Err-clause-fills : goal.returns-in-Err-clause-fills
returns-in-Err-clause-fills g c = searched_fills (sort_of g.N.Node.layout g.N.Node.ranged) c.args.place c.args.pass.now.caller (seen_of c.args.pass.now) (seen_of c.try_find.new.pass) c.try_find.ensures.leaves
