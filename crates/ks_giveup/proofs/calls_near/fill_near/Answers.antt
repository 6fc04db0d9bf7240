use Rattle.std.proofs.Common.{◌≡◌, ◌∙◌, ℕ, sym, subst}
use Rattle.std.specs.Prelude.{Option, IfSome}
use Rattle.ks_history.specs.declared.Op.{Op}
use Rattle.ks_history.specs.declared.Reply.{Reply}
use Rattle.ks_history.specs.Done.{Done, give_up}
use Rattle.ks_history.specs.Laws.Begins.{begins_both, begins_self}
use Rattle.ks_history.specs.Trace.{◌⊑◌}
use Rattle.ks_history.specs.Underway.{Underway}
use Rattle.ks_arena.specs.Sound.{sort_of}
use Rattle.ks_arena.specs.Clauses.{seen_of}
use Rattle.ks_shape.specs.declared.answers.Above.{Above}
use Rattle.ks_shape.specs.Answers.{number_at, number_in, reply_at, reply_in}
use Rattle.ks_shape.specs.Does.{MaySearch}
use Rattle.ks_shape.specs.Fills.{filling}
use Rattle.ks_shape.specs.Hinted.{WasAbove}
use Rattle.ks_shape.specs.Laws.Does.{does_on, search_fills_on, searched_fills}
use Rattle.ks_shape.specs.Laws.Located.{finishes_on, hint_on, of_plain, ok_map, was_above_on}
use Rattle.ks_shape.specs.Located.{plain_of}
use Rattle.ks_giveup.proofs.calls_near.fill_near.Given.{Over}
use Rattle.ks_giveup.proofs.calls_near.fill_near.Goals as goal
use Rattle.ks_giveup.proofs.calls_near.fill_near.Goals.{After-give_last, After-pair_fill_at}

-- at a node with room

pub fill_located-requires-clause-found : goal.fill_located-requires-clause-found
fill_located-requires-clause-found g c κs within = let k = seen_of c.find_near-held.new.pass in (k, begins_self k, tt, record { ends = c.find_near-held.ensures.ends; room = c.has_room.ensures.room c.if-has_room.true })

pub returns-then-has_room-clause-fills : goal.returns-then-has_room-clause-fills
returns-then-has_room-clause-fills g c = let e = c.find_near-held.ensures in let me : ℕ = c.args.pass.now.caller in let s = seen_of c.args.pass.now in let l = seen_of c.fill_located.new.pass in
    searched_fills (sort_of g.N.Node.layout g.N.Node.ranged) c.args.place me s l (does_on MaySearch me c.find_near-held.new.pass.caller s (seen_of c.find_near-held.new.pass) l e.caller e.leaves c.fill_located.ensures.leaves)

pub returns-then-has_room-clause-done : goal.returns-then-has_room-clause-done
returns-then-has_room-clause-done g c = let e = c.find_near-held.ensures in let me : ℕ = c.args.pass.now.caller in let n : ℕ = c.args.arena.now.nodes in let op : Op = filling c.args.place c.args.fill in let s = seen_of c.args.pass.now in let k = seen_of c.find_near-held.new.pass in let l = seen_of c.fill_located.new.pass in let x = c.fill_located.result in
    of_plain (λ (reply : Reply) (number : ℕ). Done g.N.Node.layout give_up n me op s l reply number) x
    (subst (λ (z : ℕ). Underway give_up z op s k → Done g.N.Node.layout give_up n z op s l (reply_in (plain_of x)) (number_in (plain_of x))) e.caller (λ under. c.fill_located.ensures.done give_up s under tt) (e.under op))

pub returns-then-has_room-clause-at : goal.returns-then-has_room-clause-at
returns-then-has_room-clause-at g c = let e = c.find_near-held.ensures in
    ok_map c.fill_located.result (λ answer at. finishes_on answer give_up (seen_of c.args.pass.now) c.args.pass.now.caller c.find_near-held.new.pass.caller (seen_of c.find_near-held.new.pass) e.caller (e.under (filling c.args.place c.args.fill)) at) c.fill_located.ensures.at

pub returns-then-has_room-clause-above : goal.returns-then-has_room-clause-above
returns-then-has_room-clause-above g c = let sort = sort_of g.N.Node.layout g.N.Node.ranged in let e = c.find_near-held.ensures in let s = seen_of c.args.pass.now in let k = seen_of c.find_near-held.new.pass in let l = seen_of c.fill_located.new.pass in
    ok_map c.fill_located.result (λ answer is. subst (λ (z : Option Above). IfSome z (WasAbove sort c.args.place s l)) (sym is) (was_above_on sort c.args.place s k l c.fill_located.ensures.over.begins c.find_near-held.result.above e.above)) c.fill_located.ensures.above

pub returns-then-has_room-clause-first : goal.returns-then-has_room-clause-first
returns-then-has_room-clause-first g c = let e = c.find_near-held.ensures in hint_on c.args.arena.now.nodes c.args.pass.now.caller (seen_of c.args.pass.now) (seen_of c.find_near-held.new.pass) (seen_of c.fill_located.new.pass) e.leaves.grows c.fill_located.ensures.over.begins c.args.hint e.first

-- or it continues from the root

own : (g : Over) (c : After-give_last g) → c.give_last.new.pass.caller ≡ c.args.pass.now.caller
own g c = c.give_last.ensures.caller ∙ c.find_near-held.ensures.caller

on : (g : Over) (c : After-give_last g) → Underway give_up c.args.pass.now.caller (filling c.args.place c.args.fill) (seen_of c.args.pass.now) (seen_of c.give_last.new.pass)
on g c = let e = c.find_near-held.ensures in let op : Op = filling c.args.place c.args.fill in let s = seen_of c.args.pass.now in
    subst (λ (z : ℕ). Underway give_up z op s (seen_of c.give_last.new.pass)) e.caller (c.give_last.ensures.under give_up op s (subst (λ (z : ℕ). Underway give_up z op s (seen_of c.find_near-held.new.pass)) (sym e.caller) (e.under op)))

later : (g : Over) (c : After-pair_fill_at g) → seen_of c.find_near-held.new.pass ⊑ seen_of c.pair_fill_at.new.pass
later g c = begins_both (seen_of c.find_near-held.new.pass) (seen_of c.give_last.new.pass) (seen_of c.pair_fill_at.new.pass) c.give_last.ensures.leaves.grows c.pair_fill_at.ensures.fills.grows

pub returns-clause-fills : goal.returns-clause-fills
returns-clause-fills g c = let at = (goal.at.returns-clause-fills g c).After-give_last in let e = c.find_near-held.ensures in let me : ℕ = c.args.pass.now.caller in let s = seen_of c.args.pass.now in let h₁ = seen_of c.find_near-held.new.pass in let h₂ = seen_of c.give_last.new.pass in
    search_fills_on (sort_of g.N.Node.layout g.N.Node.ranged) c.args.place me c.give_last.new.pass.caller s h₂ (seen_of c.pair_fill_at.new.pass) (own g at) (does_on MaySearch me c.find_near-held.new.pass.caller s h₁ h₂ e.caller e.leaves c.give_last.ensures.leaves) c.pair_fill_at.ensures.fills

pub returns-clause-done : goal.returns-clause-done
returns-clause-done g c = let at = (goal.at.returns-clause-done g c).After-give_last in let n : ℕ = c.args.arena.now.nodes in let op : Op = filling c.args.place c.args.fill in let s = seen_of c.args.pass.now in let h₂ = seen_of c.give_last.new.pass in let l = seen_of c.pair_fill_at.new.pass in let x = c.pair_fill_at.result in
    subst (λ (z : ℕ). Underway give_up z op s h₂ → Done g.N.Node.layout give_up n z op s l (reply_at x) (number_at x)) (own g at) (c.pair_fill_at.ensures.done give_up s) (on g at)

pub returns-clause-at : goal.returns-clause-at
returns-clause-at g c = let at = (goal.at.returns-clause-at g c).After-give_last in
    ok_map c.pair_fill_at.result (λ answer there. finishes_on answer give_up (seen_of c.args.pass.now) c.args.pass.now.caller c.give_last.new.pass.caller (seen_of c.give_last.new.pass) (own g at) (on g at) there) c.pair_fill_at.ensures.at

pub returns-clause-above : goal.returns-clause-above
returns-clause-above g c = let at = (goal.at.returns-clause-above g c).After-pair_fill_at in let sort = sort_of g.N.Node.layout g.N.Node.ranged in let s = seen_of c.args.pass.now in let k = seen_of c.find_near-held.new.pass in let l = seen_of c.pair_fill_at.new.pass in
    ok_map c.pair_fill_at.result (λ answer is. subst (λ (z : Option Above). IfSome z (WasAbove sort c.args.place s l)) (sym is) (was_above_on sort c.args.place s k l (later g at) c.find_near-held.result.above c.find_near-held.ensures.above)) c.pair_fill_at.ensures.above

pub returns-clause-first : goal.returns-clause-first
returns-clause-first g c = let at = (goal.at.returns-clause-first g c).After-pair_fill_at in let e = c.find_near-held.ensures in hint_on c.args.arena.now.nodes c.args.pass.now.caller (seen_of c.args.pass.now) (seen_of c.find_near-held.new.pass) (seen_of c.pair_fill_at.new.pass) e.leaves.grows (later g at) c.args.hint e.first
