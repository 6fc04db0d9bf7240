use Rattle.std.proofs.Common.{◌≡◌, ℕ, List, [], ◌∙◌, sym, inl, subst}
use Rattle.std.specs.Prelude.{All, Option, IfSome}
use Rattle.ks_history.specs.declared.Op.{Op}
use Rattle.ks_history.specs.declared.Reply.{Reply}
use Rattle.ks_history.specs.Map.{told}
use Rattle.ks_history.specs.Alone.{ActsAlone}
use Rattle.ks_history.specs.Done.{Done, link_move}
use Rattle.ks_history.specs.Trace.{◌⊑◌}
use Rattle.ks_history.specs.Own.{hand}
use Rattle.ks_history.specs.Underway.{Underway}
use Rattle.ks_history.specs.Laws.Alone.{alone_first, alone_then}
use Rattle.ks_history.specs.Laws.Begins.{begins_both}
use Rattle.ks_history.specs.Laws.Stretch.{stretch_begins}
use Rattle.ks_history.specs.Laws.Underway.{done_on}
use Rattle.ks_arena.specs.Sound.{blank_of, sort_of}
use Rattle.ks_arena.specs.Clauses.{seen_of}
use Rattle.ks_shape.specs.Answers.{number_in, reply_in}
use Rattle.ks_shape.specs.Fills.{filling}
use Rattle.ks_shape.specs.Laws.Fills.{three_to_fill}
use Rattle.ks_link.specs.declared.parts.Waiting.{Waiting}
use Rattle.ks_link.specs.Leads.{Waits}
use Rattle.ks_link.specs.Descent.{IsOnWay}
use Rattle.ks_link.specs.Parts.{IsSplitOff}
use Rattle.ks_link.proofs.Leading.{are_led, led_both, led_then}
use Rattle.ks_shape.specs.Does.{MayFill}
use Rattle.ks_shape.specs.Laws.Does.{does_on, search_fills_on}
use Rattle.ks_shape.specs.declared.answers.Above.{Above}
use Rattle.ks_shape.specs.Hinted.{DoneWhere, WasAbove}
use Rattle.ks_shape.specs.Laws.Located.{hint_on, of_plain, ok_map, was_above_on}
use Rattle.ks_shape.specs.Located.{plain_of}
use Rattle.ks_link.proofs.Where.{where_on}
use Rattle.ks_link.proofs.calls_near.fill_near.Given.{Over}
use Rattle.ks_link.proofs.calls_near.fill_near.Goals as goal
use Rattle.ks_link.proofs.calls_near.fill_near.Goals.{After-attach_all, After-fill_here-answer}

pub fill_here-answer-requires-clause-way : goal.fill_here-answer-requires-clause-way
fill_here-answer-requires-clause-way g c = subst (λ (z : ℕ). IsOnWay (sort_of g.N.Node.layout g.N.Node.ranged) g.N.Node.body z c.args.place (seen_of c.find_near-reached.new.pass) c.find_near-reached.result.held) (sym c.find_near-reached.ensures.caller) c.find_near-reached.ensures.way

pub fill_here-answer-requires-clause-ends : goal.fill_here-answer-requires-clause-ends
fill_here-answer-requires-clause-ends g c = c.find_near-reached.ensures.ends.here

pub attach_all-requires-clause-off : goal.attach_all-requires-clause-off
attach_all-requires-clause-off g c = subst (λ (ws : List Waiting). All (λ w. IsSplitOff (sort_of g.N.Node.layout g.N.Node.ranged) (seen_of c.fill_here-answer.new.pass) w) ws) (sym c.as_slice.ensures.value) c.fill_here-answer.ensures.waiting

own : (g : Over) (c : After-fill_here-answer g) → c.fill_here-answer.new.pass.caller ≡ c.args.pass.now.caller
own g c = c.fill_here-answer.ensures.caller ∙ c.find_near-reached.ensures.caller

begun : (g : Over) (c : After-fill_here-answer g) → Underway link_move c.find_near-reached.new.pass.caller (filling c.args.place c.args.fill) (seen_of c.args.pass.now) (seen_of c.find_near-reached.new.pass)
begun g c = let op : Op = filling c.args.place c.args.fill in subst (λ (z : ℕ). Underway link_move z op (seen_of c.args.pass.now) (seen_of c.find_near-reached.new.pass)) (sym c.find_near-reached.ensures.caller) (c.find_near-reached.ensures.under op)

on : (g : Over) (c : After-attach_all g) → Underway link_move c.args.pass.now.caller (filling c.args.place c.args.fill) (seen_of c.fill_here-answer.new.pass) (seen_of c.attach_all.new.pass)
on g c = let op : Op = filling c.args.place c.args.fill in subst (λ (z : ℕ). Underway link_move z op (seen_of c.fill_here-answer.new.pass) (seen_of c.attach_all.new.pass)) (c.fill_here-answer.ensures.caller ∙ c.find_near-reached.ensures.caller) (c.attach_all.ensures.stretch op (three_to_fill link_move c.args.place c.args.fill))

empty : (g : Over) (c : After-attach_all g) → hand c.args.pass.now.caller (seen_of c.attach_all.new.pass) ≡ []
empty g c = subst (λ (z : ℕ). hand z (seen_of c.attach_all.new.pass) ≡ []) (c.attach_all.ensures.caller ∙ c.fill_here-answer.ensures.caller ∙ c.find_near-reached.ensures.caller) c.attach_all.ensures.pass.1

pub returns-clause-done : goal.returns-clause-done
returns-clause-done g c = let before = (goal.at.returns-clause-done g c).After-fill_here-answer in let after = (goal.at.returns-clause-done g c).After-attach_all in let me : ℕ = c.args.pass.now.caller in let n : ℕ = c.args.arena.now.nodes in let op : Op = filling c.args.place c.args.fill in
    let h = seen_of c.args.pass.now in let l = seen_of c.fill_here-answer.new.pass in let m = seen_of c.attach_all.new.pass in let x = c.fill_here-answer.result in
    let done = subst (λ (z : ℕ). Done g.N.Node.layout link_move n z op h l (reply_in (plain_of x)) (number_in (plain_of x))) c.find_near-reached.ensures.caller (c.fill_here-answer.ensures.done h (begun g before)) in
    of_plain (λ (reply : Reply) (number : ℕ). Done g.N.Node.layout link_move n me op h m reply number) x
    (done_on g.N.Node.layout link_move n me op h l m (reply_in (plain_of x)) (number_in (plain_of x)) done (on g after) (empty g after))

pub returns-clause-at : goal.returns-clause-at
returns-clause-at g c = let before = (goal.at.returns-clause-at g c).After-fill_here-answer in let after = (goal.at.returns-clause-at g c).After-attach_all in let me : ℕ = c.args.pass.now.caller in let n : ℕ = c.args.arena.now.nodes in let op : Op = filling c.args.place c.args.fill in
    let h = seen_of c.args.pass.now in let l = seen_of c.fill_here-answer.new.pass in let m = seen_of c.attach_all.new.pass in let blank = blank_of (sort_of g.N.Node.layout g.N.Node.ranged) in
    ok_map c.fill_here-answer.result (λ answer at. where_on g.N.Node.layout link_move n me op h l m (told answer.found) answer.number answer.node answer.low answer.last blank
    (subst (λ (z : ℕ). DoneWhere g.N.Node.layout link_move n z op h l (told answer.found) answer.number answer.node answer.low answer.last blank) c.find_near-reached.ensures.caller (at h (begun g before))) (on g after) (empty g after)) c.fill_here-answer.ensures.at

later : (g : Over) (c : After-attach_all g) → seen_of c.find_near-reached.new.pass ⊑ seen_of c.attach_all.new.pass
later g c = begins_both (seen_of c.find_near-reached.new.pass) (seen_of c.fill_here-answer.new.pass) (seen_of c.attach_all.new.pass) c.fill_here-answer.ensures.begins (stretch_begins link_move c.fill_here-answer.new.pass.caller (seen_of c.fill_here-answer.new.pass) (seen_of c.attach_all.new.pass) c.attach_all.ensures.stretch)

pub returns-clause-above : goal.returns-clause-above
returns-clause-above g c = let at = (goal.at.returns-clause-above g c).After-attach_all in let sort = sort_of g.N.Node.layout g.N.Node.ranged in let s = seen_of c.args.pass.now in let k = seen_of c.find_near-reached.new.pass in let l = seen_of c.attach_all.new.pass in
    ok_map c.fill_here-answer.result (λ answer is. subst (λ (z : Option Above). IfSome z (WasAbove sort c.args.place s l)) (sym is) (was_above_on sort c.args.place s k l (later g at) c.find_near-reached.result.above c.find_near-reached.ensures.above)) c.fill_here-answer.ensures.above

pub returns-clause-first : goal.returns-clause-first
returns-clause-first g c = let at = (goal.at.returns-clause-first g c).After-attach_all in let e = c.find_near-reached.ensures in hint_on c.args.arena.now.nodes c.args.pass.now.caller (seen_of c.args.pass.now) (seen_of c.find_near-reached.new.pass) (seen_of c.attach_all.new.pass) e.leaves.grows (later g at) c.args.hint e.first

pub returns-clause-led : goal.returns-clause-led
returns-clause-led g c = λ adopts halves alone two. let me : ℕ = c.args.pass.now.caller in let sort = sort_of g.N.Node.layout g.N.Node.ranged in let n : ℕ = c.args.arena.now.table.shared.table_id.slots in let law = c.sound_law.ensures in
    let h = seen_of c.args.pass.now in let k = seen_of c.find_near-reached.new.pass in let l = seen_of c.fill_here-answer.new.pass in let m = seen_of c.attach_all.new.pass in
    let found = c.find_near-reached.ensures in let wrote = c.fill_here-answer.ensures in let ends = c.attach_all.ensures in let e' = wrote.caller ∙ found.caller in let ws : List Waiting = c.fill_here-answer.new.waiting.items in
    let under = found.under (filling c.args.place c.args.fill) in let till : h ⊑ k = record { rest = under.rest; is = under.is } in let on : k ⊑ l = wrote.begins in
    let then : l ⊑ m = stretch_begins link_move c.fill_here-answer.new.pass.caller l m ends.stretch in let upto : h ⊑ l = begins_both h k l till on in
    let first = alone_first me h l m upto then alone in
    let waits = led_then sort ws h k l (law.lasts sort n k l on wrote.pass.0.sound) (λ i live. inl (found.makes (alone_first me h k l till on first) i live)) (wrote.led halves (subst (λ (z : ℕ). ActsAlone z k l) (sym found.caller) (alone_then me h k l till on first))) in
    let leads = ends.leads adopts halves (subst (λ (z : ℕ). ActsAlone z l m) (sym e') (alone_then me h l m upto then alone)) two in
    are_led sort h m (led_both sort ws [] h l m (law.lasts sort n l m then ends.pass.0.sound) (λ i waits. leads.0 i (subst (λ (z : List Waiting). Waits z i) (sym c.as_slice.ensures.value) waits)) waits leads.1)

pub returns-clause-fills : goal.returns-clause-fills
returns-clause-fills g c = let me : ℕ = c.args.pass.now.caller in let h = seen_of c.args.pass.now in let k = seen_of c.find_near-reached.new.pass in let l = seen_of c.fill_here-answer.new.pass in let e = c.find_near-reached.ensures in let w = c.fill_here-answer.ensures in
    does_on (MayFill (sort_of g.N.Node.layout g.N.Node.ranged) c.args.place) me c.fill_here-answer.new.pass.caller h l (seen_of c.attach_all.new.pass) (w.caller ∙ e.caller) (search_fills_on (sort_of g.N.Node.layout g.N.Node.ranged) c.args.place me c.find_near-reached.new.pass.caller h k l e.caller e.leaves w.fills) (c.attach_all.ensures.fills c.args.place)
