use Rattle.std.proofs.Common.{rules, arith, ℕ, ◌<◌, length, sym, subst}
use Rattle.std.specs.Slots.{slots_items, slots_filled, slots_len}
use Rattle.ks_tickets.specs.Clauses.{EachAs, AreHome}
use Rattle.ks_tickets.proofs.Slots.{full_on, empty_to, next_done, never_none, one_more}
use Rattle.ks_tickets.proofs.tickets.collect.Goals as goal

pub unreachable-requires : goal.unreachable-requires
unreachable-requires g c = let inv = c.loop-i.invariant in let m = c.loop-i.closed.slots.ok.0 in let near : c.loop-i.i < length (slots_items c.loop-i.closed.slots) = (let a = c.loop-i-test.true in let b = c.slot_count.ensures in omega arith) in
    never_none g.J.Ticketed.finished (slots_items c.loop-i.closed.slots) c.loop-i.i c.take.result (subst (AreHome g.J.Ticketed.finished) (sym inv.3) c.requires.home) near c.take.ensures.value c.in-None.is

pub loop-i-preserved : goal.loop-i-preserved
loop-i-preserved g c = let inv = c.loop-i.invariant in let m = c.loop-i.closed.slots.ok.0 in let near : c.loop-i.i < length (slots_items c.loop-i.closed.slots) = (let a = c.loop-i-test.true in let b = c.slot_count.ensures in omega arith) in
    let fin = next_done g.J.Ticketed.finished (slots_items c.loop-i.closed.slots) c.loop-i.i c.take.result c.in-Some.job (subst (AreHome g.J.Ticketed.finished) (sym inv.3) c.requires.home) near c.take.ensures.value c.in-Some.is in (
      full_on (slots_filled c.loop-i.closed.slots) (slots_filled c.take.new.self.slots) c.loop-i.i (slots_len c.loop-i.closed.slots) (slots_len c.take.new.self.slots) c.take.ensures.others.1 c.take.ensures.others.2 inv.0,
      empty_to (slots_filled c.loop-i.closed.slots) (slots_filled c.take.new.self.slots) c.loop-i.i c.take.ensures.others.1 inv.1,
      search rules,
      search rules,
      search rules,
      search rules,
      subst (EachAs g.J.Ticketed.finished) (sym c.push_reserved.ensures.items) (one_more g.J.Ticketed.finished c.loop-i.into.items c.in-Some.job inv.6 (subst (λ (z : ℕ). g.J.Ticketed.finished c.in-Some.job z) (sym inv.2) fin)),
    )
