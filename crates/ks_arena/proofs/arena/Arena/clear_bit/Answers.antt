use Rattle.std.proofs.Common.{◌≡◌, ℕ, ◌*◌, ◌/◌, ◌%◌, ◌^◌, ◌<◌, bit_and, w64, ◌∙◌, ap, sym, refl, subst, arith}
use Rattle.std.specs.Int.{bit_not}
use mathlib.Core.Option.{none}
use Rattle.atomic_table.specs.Table.{Allows, step}
use Rattle.ks_arena.specs.declared.view.Mark.TheVariants.{Quiet, Claiming}
use Rattle.ks_arena.specs.Sound.{sort_of}
use Rattle.ks_arena.specs.Spots.{free_at}
use Rattle.ks_arena.specs.Rule.{Running}
use Rattle.ks_arena.specs.Plays.{marked, bit_was_cleared}
use Rattle.ks_arena.proofs.Moves.{clears_bit_ok}
use Rattle.ks_arena.proofs.Hold.{hand_near, holds_it}
use Rattle.ks_arena.proofs.After.{pass_marked, Looked, looked}
use Rattle.ks_arena.proofs.Rest.{rest_of}
use Rattle.ks_arena.proofs.arena.Arena.clear_bit.Given.{Over}
use Rattle.ks_arena.proofs.arena.Arena.clear_bit.Goals as goal
use Rattle.ks_arena.proofs.arena.Arena.clear_bit.Goals.{After-fetch_and}

pub fetch_and-requires-clause-may : goal.fetch_and-requires-clause-may
fetch_and-requires-clause-may g c κs within = let p = c.args.pass.now in let r = c.requires.pass in let i : ℕ = c.args.node in let n : ℕ = c.args.self.now.table.shared.table_id.slots in let sort = sort_of g.N.Node.layout g.N.Node.ranged in
    let mine = holds_it n p.seat.me.0.seen p.caller i p.seat.me.1 r.carries r.slots c.requires.holds in let near : i < n = hand_near n p.seat.me.0.seen p.caller p.seat.me.1 i r.carries.hands (r.carries.all i mine) in
    let same : n ≡ c.args.self.now.nodes = omega arith in let word : free_at n (i / 64) ≡ c.free_at-word.result = ap (λ (z : ℕ). free_at z (i / 64)) same ∙ sym c.free_at-word.ensures in let mask : ℕ = bit_not w64 (1 * 2 ^ (i % 64) % 2 ^ 64) in (
      r.table,
      omega arith,
      subst (λ (z : ℕ). Allows (Running sort g.D.Discipline.begins g.D.Discipline.step g.N.Node.body) n p.seat.id p.seat.me z (λ y. bit_and y mask) (λ _ m. bit_was_cleared sort g.D.Discipline.begins g.D.Discipline.step g.N.Node.body (step n z mask 0 none) p.seat.me m)) word
          (clears_bit_ok sort g.D.Discipline.begins g.D.Discipline.step g.N.Node.body n p.seat.id p.seat.me p.caller i r.own r.bare r.mark near mine),
    )

after : (g : Over) (c : After-fetch_and g) → Looked (sort_of g.N.Node.layout g.N.Node.ranged) g.D.Discipline.begins g.D.Discipline.step c.args.self.now.table.shared.table_id.slots c.args.pass.now.caller (marked Quiet c.args.pass.now.seat.me.0, c.args.pass.now.seat.me.1) c.fetch_and.new.seat.me
after g c = let p = c.args.pass.now in let r = c.requires.pass in let told = c.fetch_and.ensures.seat.2 in looked _ _ _ _ p.caller (marked Quiet p.seat.me.0, p.seat.me.1) c.fetch_and.new.seat.me r.own r.carries r.slots told.1 told.0

pub returns-clause-pass : goal.returns-clause-pass
returns-clause-pass g c = let a = after g c in pass_marked _ _ _ (Claiming c.args.node) Quiet _ _ c.args.pass.now _ c.fetch_and.new.seat.me c.requires.pass refl c.fetch_and.ensures.seat.0 refl a.follows a.carries a.slots a.sounds a.knows

pub returns-clause-looked : goal.returns-clause-looked
returns-clause-looked g c = let a = after g c in record { grows = a.grows; hand = a.hand_is; mine = a.mine_is }

pub returns-clause-rest : goal.returns-clause-rest
returns-clause-rest g c = rest_of c.args.self.now c.args.pass.now _ c.requires.pass ((after g c).kept)
