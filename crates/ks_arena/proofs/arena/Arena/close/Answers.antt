use Rattle.std.proofs.Common.{rules, arith, ◌≡◌, ℕ, ◌<◌, ◌≤◌, List, [], length, sym, ap, ◌∙◌, subst}
use Rattle.std.specs.Prelude.{Option, slice_index}
use Rattle.std.specs.Slots.{slots_items}
use Rattle.std.specs.declared.alloc.Global.{Global}
use Rattle.atomic_table.specs.declared.owned.Closed.{Closed}
use mathlib.Core.Option.{none}
use Rattle.atomic_table.specs.Table.{Final, Seen, step}
use lib.ListN.{get_elem?}
use Rattle.ks_history.specs.declared.Event.{Event}
use Rattle.ks_history.specs.Trace.{graph_after, turn_after, number_after}
use Rattle.ks_history.specs.Frames.{frame_after}
use Rattle.ks_history.specs.Lawful.{Lawful, GoodThroughout}
use Rattle.ks_history.specs.Due.{FullsDue}
use Rattle.ks_history.specs.Callers.{CallersBelow}
use Rattle.ks_arena.specs.Clauses.{EndsAll}
use Rattle.ks_arena.specs.declared.view.View.{View}
use Rattle.ks_arena.specs.Sound.{sort_of, blank_of, Sound}
use Rattle.ks_arena.specs.Named.{AllNamedBelow}
use Rattle.ks_arena.specs.Spots.{calls_at, turn_at}
use Rattle.ks_arena.specs.Rule.{Running, Closes, Ends, seen_first, turn_word}
use Rattle.ks_arena.specs.Laws.Beyond.{free_beyond, named_below}
use Rattle.ks_arena.proofs.Crew.{joins_ok, gathers_ok, notes_ok, closes, closes_below}
use Rattle.ks_arena.proofs.Closing.{begins_joining, takes_in, emptied, Ended, ended, next_in}
use Rattle.ks_arena.specs.Reuse.{ReusesSafely}
use Rattle.ks_arena.proofs.arena.Arena.close.Given.{Over}
use Rattle.ks_arena.proofs.arena.Arena.close.Goals as goal
use Rattle.ks_arena.proofs.arena.Arena.close.Goals.{After-drop-self}

pub loop-pass-init : goal.loop-pass-init
loop-pass-init g c = begins_joining (sort_of g.N.Node.layout g.N.Node.ranged) g.D.Discipline.begins g.D.Discipline.step _ _ _ _ _ c.requires c.in-Some.ensures.items

pub join_seat-requires : goal.join_seat-requires
join_seat-requires g c = let inv = c.loop-pass.invariant in let p = next_in (sort_of g.N.Node.layout g.N.Node.ranged) g.D.Discipline.begins g.D.Discipline.step _ _ _ _ _ c.in-Some-pop.pass c.loop-pass.base c.requires inv c.in-Some-pop.ensures.items in (inv.table, p.0, p.1, search rules, joins_ok (sort_of g.N.Node.layout g.N.Node.ranged) g.D.Discipline.begins g.D.Discipline.step g.N.Node.body _ _ c.loop-pass.base.me.0 c.in-Some-pop.pass.seat.me.0 p.2)

pub loop-pass-preserved : goal.loop-pass-preserved
loop-pass-preserved g c = takes_in (sort_of g.N.Node.layout g.N.Node.ranged) g.D.Discipline.begins g.D.Discipline.step _ _ _ _ _ c.in-Some-pop.pass c.loop-pass.base c.join_seat.new.seat c.requires c.loop-pass.invariant c.in-Some-pop.ensures.items c.join_seat.ensures.0 c.join_seat.ensures.2

pub load-requires : goal.load-requires
load-requires g c = (c.loop-pass.invariant.table, search rules, gathers_ok (sort_of g.N.Node.layout g.N.Node.ranged) g.D.Discipline.begins g.D.Discipline.step g.N.Node.body _ _ c.loop-pass.base.me)

pub split_seat-requires : goal.split_seat-requires
split_seat-requires g c = (c.load.ensures.0 ∙ c.loop-pass.invariant.table, search rules, notes_ok (sort_of g.N.Node.layout g.N.Node.ranged) g.D.Discipline.begins g.D.Discipline.step g.N.Node.body _ c.load.new.seat.me.0)

joined : (g : Over) (c : After-drop-self g) → Ended (sort_of g.N.Node.layout g.N.Node.ranged) g.D.Discipline.begins g.D.Discipline.step c.args.self.callers 0 c.args.passes.items c.load.new.seat.me.0
joined g c = let pos : 0 < c.args.self.callers = c.args.self.sized.3 in let none_left : length c.loop-pass.passes.items ≡ 0 = search rules in
    ended (sort_of g.N.Node.layout g.N.Node.ranged) g.D.Discipline.begins g.D.Discipline.step g.N.Node.body (step c.args.self.table.shared.table_id.slots 0 0 0 none) _ c.args.self.callers 0 c.args.passes.items c.loop-pass.passes.items c.loop-pass.base c.load.new.seat.me pos c.requires c.loop-pass.invariant (emptied (sort_of g.N.Node.layout g.N.Node.ranged) g.D.Discipline.begins g.D.Discipline.step _ none_left) c.load.ensures.2

fin : (g : Over) (c : After-drop-self g) → Final (Seen (Running (sort_of g.N.Node.layout g.N.Node.ranged) g.D.Discipline.begins g.D.Discipline.step g.N.Node.body) c.split_seat.new.seat.id c.load.new.seat.me.0) (slots_items c.close_with.result.words) (slots_items c.close_with.result.slots)
fin g c = let same : c.split_seat.new.seat.me.0 ≡ c.load.new.seat.me.0 = ap (λ m. m.0) c.split_seat.ensures.2 in subst (λ (z : View). Final (Seen (Running (sort_of g.N.Node.layout g.N.Node.ranged) g.D.Discipline.begins g.D.Discipline.step g.N.Node.body) c.split_seat.new.seat.id z) (slots_items c.close_with.result.words) (slots_items c.close_with.result.slots)) same c.close_with.ensures.values.2

ends : (g : Over) (c : After-drop-self g) → Closes (sort_of g.N.Node.layout g.N.Node.ranged) g.D.Discipline.begins g.D.Discipline.step g.N.Node.body c.load.new.seat.me.0.seen (slots_items c.close_with.result.words) (slots_items c.close_with.result.slots)
ends g c = let pos : 0 < c.args.self.callers = c.args.self.sized.3 in let e = joined g c in closes (sort_of g.N.Node.layout g.N.Node.ranged) g.D.Discipline.begins g.D.Discipline.step g.N.Node.body c.split_seat.new.seat.id c.args.self.callers c.load.new.seat.me.0 (slots_items c.close_with.result.words) (slots_items c.close_with.result.slots) e.made (λ z. omega arith) e.all e.quiet (fin g c)

trace_is : (g : Over) (c : After-drop-self g) → seen_first c.into_badge-badge.result.views ≡ c.load.new.seat.me.0.seen
trace_is g c = ap seen_first c.into_badge-badge.ensures.2 ∙ ap (λ m. m.0.seen) c.split_seat.ensures.4

slot_count : (g : Over) (c : After-drop-self g) → length (slots_items c.close_with.result.slots) ≡ c.args.self.nodes
slot_count g c = let n = c.close_with.ensures.counts.1 in let m = c.close_with.result.slots.ok.0 in let k = c.args.self.sized.1 in sym m ∙ n ∙ k

abbrev Rest : Over → Type 0
Rest g = Closed (Option g.row.N.Denot) Global

kept : (g : Over) (c : After-drop-self g) → c.of.result ≡ c.close_with.result
kept g c = c.of.ensures

pub returns-clause-run : goal.returns-clause-run
returns-clause-run g c = let e = ends g c in let k = kept g c in let v = c.load.new.seat.me.0.seen in let n : ℕ = length (slots_items c.close_with.result.slots) in let same = slot_count g c in let t = sym (trace_is g c) in record {
  lawful = subst Lawful t (c.sound_law.ensures.lawful (sort_of g.N.Node.layout g.N.Node.ranged) n v e.sound);
  good = subst GoodThroughout t (c.sound_law.ensures.good (sort_of g.N.Node.layout g.N.Node.ranged) n v e.sound);
  due = subst (λ (z : ℕ × List Event). FullsDue g.N.Node.layout z.0 z.1) (λ k. (same k, t k)) (c.sound_law.ensures.due (sort_of g.N.Node.layout g.N.Node.ranged) n v e.sound);
  sized = ap (λ (z : Rest g). length (slots_items z.slots)) k ∙ same;
  count = ap (λ (z : Rest g). slice_index (slots_items z.words) calls_at) k ∙ e.count ∙ ap number_after t;
  turns = λ i near. ap (λ (z : Rest g). slice_index (slots_items z.words) (turn_at i)) k ∙ e.turns i (subst (λ (z : ℕ). i < z) (sym same) near) ∙ ap (λ (z : List Event). turn_word (turn_after z i)) t;
  ends = λ i near. subst (λ (z : List Event × Rest g). Ends (sort_of g.N.Node.layout g.N.Node.ranged) g.N.Node.body (graph_after z.0 i) (frame_after (blank_of (sort_of g.N.Node.layout g.N.Node.ranged)) z.0 i) (turn_after z.0 i) (get_elem? (slots_items z.1.slots) i)) (λ j. (t j, sym k j)) (e.ends i (subst (λ (z : ℕ). i < z) (sym same) near));
  named = let some : 0 < c.args.self.nodes = c.args.self.sized.2 in subst (λ (z : ℕ × List Event). AllNamedBelow z.0 z.1) (λ k. (same k, t k)) (named_below (sort_of g.N.Node.layout g.N.Node.ranged) g.D.Discipline.begins g.D.Discipline.step n (subst (λ (z : ℕ). 0 < z) (sym same) some) v e.sound);
  beyond = λ i far. let some : 0 < c.args.self.nodes = c.args.self.sized.2 in ap (λ (z : List Event). graph_after z i) (sym t) ∙ free_beyond (sort_of g.N.Node.layout g.N.Node.ranged) g.D.Discipline.begins g.D.Discipline.step n (subst (λ (z : ℕ). 0 < z) (sym same) some) v e.sound i (subst (λ (z : ℕ). z ≤ i) (sym same) far);
}

pub returns-clause-sound : goal.returns-clause-sound
returns-clause-sound g c = subst (λ (z : ℕ × List Event). Sound (sort_of g.N.Node.layout g.N.Node.ranged) g.D.Discipline.begins g.D.Discipline.step z.0 z.1) (λ k. (slot_count g c k, sym (trace_is g c) k)) (ends g c).sound

pub returns-clause-seen : goal.returns-clause-seen
returns-clause-seen g c = subst (λ (z : List Event). EndsAll z c.args.passes.items) (sym (trace_is g c)) (joined g c).ends

pub returns-clause-callers : goal.returns-clause-callers
returns-clause-callers g c = let pos : 0 < c.args.self.callers = c.args.self.sized.3 in subst (CallersBelow c.args.self.callers) (sym (trace_is g c)) (closes_below (sort_of g.N.Node.layout g.N.Node.ranged) g.D.Discipline.begins g.D.Discipline.step g.N.Node.body c.split_seat.new.seat.id c.args.self.callers c.load.new.seat.me.0 (slots_items c.close_with.result.words) (slots_items c.close_with.result.slots) (joined g c).made (λ z. omega arith) (fin g c))

pub returns-clause-reuse : goal.returns-clause-reuse
returns-clause-reuse g c = subst (ReusesSafely g.D.Discipline.lasts []) (sym (trace_is g c)) (c.reuse_law.ensures (sort_of g.N.Node.layout g.N.Node.ranged) _ [] c.load.new.seat.me.0.seen (ends g c).sound)
