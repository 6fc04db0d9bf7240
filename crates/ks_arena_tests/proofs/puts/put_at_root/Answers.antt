use Rattle.std.proofs.Common.{arith, sym, refl, ap, subst, ◌∙◌}
use Rattle.ks_history.specs.declared.Op.TheVariants.{Put}
use Rattle.ks_history.specs.Map.{told}
use Rattle.ks_arena.specs.declared.held.Held.{Held as Hand}
use Rattle.ks_arena.specs.Sound.{sort_of}
use Rattle.ks_arena.specs.Clauses.{IsReady, seen_of}
use Rattle.ks_arena_tests.proofs.Root.{no_range, ends_at_no_branch, ends_below_own, no_calls, one_call, no_room, elsewhere}
use Rattle.ks_arena_tests.proofs.puts.put_at_root.Goals as goal

pub returns-in-Go-clause-calls : goal.returns-in-Go-clause-calls
returns-in-Go-clause-calls g c = no_calls c.in-Some.ensures.took c.give.ensures.gave c.take.ensures.caller

pub returns-in-Go-clause-due : goal.returns-in-Go-clause-due
returns-in-Go-clause-due g c = elsewhere c.in-Some.ensures.took c.give.ensures.gave c.take.ensures.caller c.node_law.ensures.sound (omega (arith, c.ranges.place)) (sym c.next.ensures ∙ c.in-Go.is)

pub returns-then-is_full-clause-calls : goal.returns-then-is_full-clause-calls
returns-then-is_full-clause-calls g c = no_calls c.in-Some.ensures.took c.give-then-is_full.ensures.gave c.take.ensures.caller

pub returns-then-is_full-clause-due : goal.returns-then-is_full-clause-due
returns-then-is_full-clause-due g c = no_room c.in-Some.ensures.took c.give-then-is_full.ensures.gave c.take.ensures.caller
    (record { order = c.node_law.ensures.sound; place = omega (arith, c.ranges.place); here = sym c.next.ensures ∙ c.in_default-next.is })
    (no_range c.node_law.ensures.has_range c.requires.unranged) (sym c.get-old.ensures ∙ grind arith) (sym c.is_full.ensures ∙ c.if-is_full.true)

pub put-requires-clause-no_branch : goal.put-requires-clause-no_branch
put-requires-clause-no_branch g c = ends_at_no_branch (g.N.Node.body c.in-Some.held.body) c.args.place c.node_law.ensures.sound (no_range c.node_law.ensures.has_range c.requires.unranged) (omega (arith, c.ranges.place)) (sym c.next.ensures ∙ c.in_default-next.is)

pub put-requires-clause-below_own : goal.put-requires-clause-below_own
put-requires-clause-below_own g c = ends_below_own (g.N.Node.body c.in-Some.held.body) c.args.place c.node_law.ensures.sound (no_range c.node_law.ensures.has_range c.requires.unranged) (omega (arith, c.ranges.place)) (sym c.next.ensures ∙ c.in_default-next.is)

pub decide-number-requires-clause-ready : goal.decide-number-requires-clause-ready
decide-number-requires-clause-ready g c κs within = let x : Hand g.row.N.Denot = record { node = c.in-Some.held.node; body = c.put.new.self; live = c.in-Some.held.live } in
    subst (IsReady (sort_of g.N.Node.layout g.N.Node.ranged) g.N.Node.body c.args.arena.now.nodes c.take.new.pass.caller (seen_of c.take.new.pass) x (Put c.args.place c.args.value)) (ap told (sym c.get-old.ensures) ∙ sym c.reply_of.ensures.told)
    (c.put_law.ensures x refl c.in-Some.ensures.took.live c.put.ensures.body)

pub returns-clause-calls : goal.returns-clause-calls
returns-clause-calls g c = one_call c.get-old.result c.in-Some.ensures.took c.decide-number.ensures.decided.adds c.give-2.ensures.gave c.take.ensures.caller c.decide-number.ensures.caller c.reply_of.ensures.told
