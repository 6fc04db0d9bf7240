use Rattle.std.proofs.Common.{rules, arith, ◌≡◌, ℕ, ◌≤◌, [], sym, ap, ◌∙◌, subst, refl}
use Rattle.ks_history.specs.Laws.Stays.{cond_else}
use Rattle.ks_arena.specs.declared.held.Pass.{Pass}
use Rattle.ks_arena.specs.Sound.{sort_of}
use Rattle.ks_arena.specs.Clauses.{IsNewCrew}
use Rattle.ks_arena.specs.Rule.{maker_view, next_view}
use Rattle.ks_arena.proofs.Crew.{splits_ok}
use Rattle.ks_arena.proofs.Closing.{fresh, Later, IsNew, is_new, one_later, none_later, whole_crew}
use Rattle.ks_arena.proofs.arena.life.crew.Goals as goal

pub split_seat-seat-requires : goal.split_seat-seat-requires
split_seat-seat-requires g c = let e : c.loop-caller.first.me.0.made ≡ c.loop-caller.caller = ap (λ m. m.0.made) c.loop-caller.invariant.1 in let low : 1 ≤ c.loop-caller.caller = c.loop-caller.auto.caller in (search rules, search rules, splits_ok (sort_of g.N.Node.layout g.N.Node.ranged) g.D.Discipline.begins g.D.Discipline.step g.N.Node.body _ c.loop-caller.first.me.0 (λ z. omega arith))

pub loop-caller-init : goal.loop-caller-init
loop-caller-init g c = (c.requires.seat.0, c.requires.seat.1, search rules, none_later (sort_of g.N.Node.layout g.N.Node.ranged) g.D.Discipline.begins g.D.Discipline.step _ _ _ c.in_ok-passes.ensures.items)

pub loop-caller-preserved : goal.loop-caller-preserved
loop-caller-preserved g c = let t = c.args.shared.now.table_id in let n : ℕ = c.args.callers in let k : ℕ = c.loop-caller.caller in let inv = c.loop-caller.invariant in let so = c.split_seat-seat.ensures in let low : 1 ≤ k = c.loop-caller.auto.caller in
    let p : Pass g.row.N.Denot g.row.D.Denot = record { seat = c.split_seat-seat.result; caller = k; steps = c.start.result; marker = record {} } in let me = so.4 ∙ ap (λ m. (next_view m.0, [])) inv.1 in
    let new : IsNew (sort_of g.N.Node.layout g.N.Node.ranged) g.D.Discipline.begins g.D.Discipline.step t n k p = is_new (sort_of g.N.Node.layout g.N.Node.ranged) g.D.Discipline.begins g.D.Discipline.step t n k 0 p c.requires.fits (omega arith) (omega arith) (so.3 ∙ inv.0) me refl (sym (cond_else k 0 n 0 (λ z. omega arith))) in (
      so.0 ∙ inv.0,
      so.2 ∙ ap (λ m. (maker_view m.0, m.1)) inv.1,
      search rules,
      subst (Later (sort_of g.N.Node.layout g.N.Node.ranged) g.D.Discipline.begins g.D.Discipline.step t n) (sym c.in_ok-push.ensures.items) (one_later (sort_of g.N.Node.layout g.N.Node.ranged) g.D.Discipline.begins g.D.Discipline.step t n _ p inv.3 (subst (λ (z : ℕ). IsNew (sort_of g.N.Node.layout g.N.Node.ranged) g.D.Discipline.begins g.D.Discipline.step t n z p) (sym inv.2) new)),
    )

pub returns : goal.returns
returns g c = let t = c.args.shared.now.table_id in let n : ℕ = c.args.callers in let inv = c.loop-caller.invariant in let p : Pass g.row.N.Denot g.row.D.Denot = record { seat = c.loop-caller.first; caller = 0; steps = c.start-2.result; marker = record {} } in
    subst (IsNewCrew (sort_of g.N.Node.layout g.N.Node.ranged) g.D.Discipline.begins g.D.Discipline.step t n) (sym c.in_ok-insert.ensures.items) (whole_crew (sort_of g.N.Node.layout g.N.Node.ranged) g.D.Discipline.begins g.D.Discipline.step t n _ p (search rules) inv.3 (is_new (sort_of g.N.Node.layout g.N.Node.ranged) g.D.Discipline.begins g.D.Discipline.step t n 0 n p c.requires.fits (omega arith) (omega arith) inv.0 (inv.1 ∙ ap (λ (z : ℕ). (fresh 0 z, [])) (search rules)) refl refl))
