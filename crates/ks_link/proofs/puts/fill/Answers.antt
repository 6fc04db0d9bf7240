use Rattle.std.proofs.Common.{◌≡◌, ℕ, List, [], ◌∙◌, sym, inl, subst}
use Rattle.std.specs.Prelude.{All}
use Rattle.ks_history.specs.declared.Op.{Op}
use Rattle.ks_history.specs.Alone.{ActsAlone}
use Rattle.ks_history.specs.Done.{Done, link_move}
use Rattle.ks_history.specs.Trace.{◌⊑◌}
use Rattle.ks_history.specs.Own.{hand}
use Rattle.ks_history.specs.Underway.{Underway}
use Rattle.ks_history.specs.Laws.Alone.{alone_first, alone_then}
use Rattle.ks_history.specs.Laws.Begins.{begins_both}
use Rattle.ks_history.specs.Laws.Stretch.{stretch_begins}
use Rattle.ks_history.specs.Laws.Underway.{done_on}
use Rattle.ks_arena.specs.Sound.{sort_of}
use Rattle.ks_arena.specs.Clauses.{seen_of}
use Rattle.ks_shape.specs.Answers.{number_in, reply_in}
use Rattle.ks_shape.specs.Fills.{filling}
use Rattle.ks_shape.specs.Laws.Fills.{three_to_fill}
use Rattle.ks_link.specs.declared.parts.Waiting.{Waiting}
use Rattle.ks_link.specs.Leads.{Waits}
use Rattle.ks_link.specs.Descent.{IsOnWay}
use Rattle.ks_link.specs.Parts.{IsSplitOff}
use Rattle.ks_link.proofs.Leading.{are_led, led_both, led_then}
use Rattle.ks_shape.specs.Does.{MayFill}
use Rattle.ks_shape.specs.Laws.Does.{does_on, search_fills_on}
use Rattle.ks_link.proofs.puts.fill.Goals as goal

pub fill_from-answer-requires-clause-way : goal.fill_from-answer-requires-clause-way
fill_from-answer-requires-clause-way g c = subst (λ (z : ℕ). IsOnWay (sort_of g.N.Node.layout g.N.Node.ranged) g.N.Node.body z c.args.place (seen_of c.find-held.new.pass) c.find-held.result) (sym c.find-held.ensures.caller) c.find-held.ensures.way

pub fill_from-answer-requires-clause-ends : goal.fill_from-answer-requires-clause-ends
fill_from-answer-requires-clause-ends g c = c.find-held.ensures.ends.here

pub attach_all-requires-clause-off : goal.attach_all-requires-clause-off
attach_all-requires-clause-off g c = subst (λ (ws : List Waiting). All (λ w. IsSplitOff (sort_of g.N.Node.layout g.N.Node.ranged) (seen_of c.fill_from-answer.new.pass) w) ws) (sym c.as_slice.ensures.value) c.fill_from-answer.ensures.waiting

pub returns-clause-done : goal.returns-clause-done
returns-clause-done g c = let me : ℕ = c.args.pass.now.caller in let n : ℕ = c.args.arena.now.nodes in let op : Op = filling c.args.place c.args.fill in
    let h = seen_of c.args.pass.now in let k = seen_of c.find-held.new.pass in let l = seen_of c.fill_from-answer.new.pass in let m = seen_of c.attach_all.new.pass in
    let e = c.find-held.ensures.caller in let e' = c.fill_from-answer.ensures.caller ∙ e in let x = c.fill_from-answer.result in
    let under = subst (λ (z : ℕ). Underway link_move z op h k) (sym e) (c.find-held.ensures.under op) in
    let done = subst (λ (z : ℕ). Done g.N.Node.layout link_move n z op h l (reply_in x) (number_in x)) e (c.fill_from-answer.ensures.done h under) in
    let on = subst (λ (z : ℕ). Underway link_move z op l m) e' (c.attach_all.ensures.stretch op (three_to_fill link_move c.args.place c.args.fill)) in
    done_on g.N.Node.layout link_move n me op h l m (reply_in x) (number_in x) done on (subst (λ (z : ℕ). hand z m ≡ []) (c.attach_all.ensures.caller ∙ e') c.attach_all.ensures.pass.1)

pub returns-clause-led : goal.returns-clause-led
returns-clause-led g c = λ adopts halves alone two. let me : ℕ = c.args.pass.now.caller in let sort = sort_of g.N.Node.layout g.N.Node.ranged in let n : ℕ = c.args.arena.now.table.shared.table_id.slots in let law = c.sound_law.ensures in
    let h = seen_of c.args.pass.now in let k = seen_of c.find-held.new.pass in let l = seen_of c.fill_from-answer.new.pass in let m = seen_of c.attach_all.new.pass in
    let found = c.find-held.ensures in let wrote = c.fill_from-answer.ensures in let ends = c.attach_all.ensures in let e' = wrote.caller ∙ found.caller in let ws : List Waiting = c.fill_from-answer.new.waiting.items in
    let under = found.under (filling c.args.place c.args.fill) in let till : h ⊑ k = record { rest = under.rest; is = under.is } in let on : k ⊑ l = wrote.begins in
    let then : l ⊑ m = stretch_begins link_move c.fill_from-answer.new.pass.caller l m ends.stretch in let upto : h ⊑ l = begins_both h k l till on in
    let first = alone_first me h l m upto then alone in
    let waits = led_then sort ws h k l (law.lasts sort n k l on wrote.pass.0.sound) (λ i live. inl (found.makes (alone_first me h k l till on first) i live)) (wrote.led halves (subst (λ (z : ℕ). ActsAlone z k l) (sym found.caller) (alone_then me h k l till on first))) in
    let leads = ends.leads adopts halves (subst (λ (z : ℕ). ActsAlone z l m) (sym e') (alone_then me h l m upto then alone)) two in
    are_led sort h m (led_both sort ws [] h l m (law.lasts sort n l m then ends.pass.0.sound) (λ i waits. leads.0 i (subst (λ (z : List Waiting). Waits z i) (sym c.as_slice.ensures.value) waits)) waits leads.1)

pub returns-clause-fills : goal.returns-clause-fills
returns-clause-fills g c = let me : ℕ = c.args.pass.now.caller in let h = seen_of c.args.pass.now in let k = seen_of c.find-held.new.pass in let l = seen_of c.fill_from-answer.new.pass in let e = c.find-held.ensures in let w = c.fill_from-answer.ensures in
    does_on (MayFill (sort_of g.N.Node.layout g.N.Node.ranged) c.args.place) me c.fill_from-answer.new.pass.caller h l (seen_of c.attach_all.new.pass) (w.caller ∙ e.caller) (search_fills_on (sort_of g.N.Node.layout g.N.Node.ranged) c.args.place me c.find-held.new.pass.caller h k l e.caller e.leaves w.fills) (c.attach_all.ensures.fills c.args.place)
