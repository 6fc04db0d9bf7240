use Rattle.std.proofs.Common.{◌≡◌, ℕ, ◌*◌, ◌/◌, ◌%◌, ◌^◌, ◌<◌, ◌∙◌, ap, bit_or, refl, sym, subst, arith}
use Rattle.std.proofs.lemmas.Nat.{one_shl}
use mathlib.Core.Option.{none}
use Rattle.atomic_table.specs.Table.{Allows, step}
use Rattle.ks_arena.specs.declared.view.Mark.TheVariants.{Quiet, Freeing}
use Rattle.ks_arena.specs.Sound.{sort_of}
use Rattle.ks_arena.specs.Spots.{free_at}
use Rattle.ks_arena.specs.Rule.{Running}
use Rattle.ks_arena.specs.Plays.{marked, bit_was_set}
use Rattle.ks_arena.proofs.Moves.{sets_bit_ok}
use Rattle.ks_arena.proofs.Hold.{hand_near, holds_it}
use Rattle.ks_arena.proofs.After.{pass_marked, Looked, looked}
use Rattle.ks_arena.proofs.Rest.{rest_of}
use Rattle.ks_arena.proofs.arena.Arena.set_bit.Given.{Over}
use Rattle.ks_arena.proofs.arena.Arena.set_bit.Goals as goal
use Rattle.ks_arena.proofs.arena.Arena.set_bit.Goals.{After-fetch_or}

pub fetch_or-requires-clause-may : goal.fetch_or-requires-clause-may
fetch_or-requires-clause-may g c κs within = let p = c.args.pass.now in let r = c.requires.pass in let i : ℕ = c.args.node in let n : ℕ = c.args.self.now.table.shared.table_id.slots in let sort = sort_of g.N.Node.layout g.N.Node.ranged in
    let mine = holds_it n p.seat.me.0.seen p.caller i p.seat.me.1 r.carries r.slots c.requires.holds in let near : i < n = hand_near n p.seat.me.0.seen p.caller p.seat.me.1 i r.carries.hands (r.carries.all i mine) in
    let same : n ≡ c.args.self.now.nodes = omega arith in let word : free_at n (i / 64) ≡ c.free_at-word.result = ap (λ (z : ℕ). free_at z (i / 64)) same ∙ sym c.free_at-word.ensures in let bit : 2 ^ (i % 64) ≡ 1 * 2 ^ (i % 64) % 2 ^ 64 = sym (one_shl (i % 64) 64 (omega arith)) in (
      r.table,
      omega arith,
      subst (λ (z : ℕ × ℕ). Allows (Running sort g.D.Discipline.begins g.D.Discipline.step g.N.Node.body) n p.seat.id p.seat.me z.0 (λ y. bit_or y z.1) (λ _ m. bit_was_set sort g.D.Discipline.begins g.D.Discipline.step g.N.Node.body (step n z.0 z.1 0 none) p.seat.me m)) (λ k. (word k, bit k))
          (sets_bit_ok sort g.D.Discipline.begins g.D.Discipline.step g.N.Node.body n p.seat.id p.seat.me p.caller i r.own r.bare r.mark near mine),
    )

after : (g : Over) (c : After-fetch_or g) → Looked (sort_of g.N.Node.layout g.N.Node.ranged) g.D.Discipline.begins g.D.Discipline.step c.args.self.now.table.shared.table_id.slots c.args.pass.now.caller (marked (Freeing c.args.node) c.args.pass.now.seat.me.0, c.args.pass.now.seat.me.1) c.fetch_or.new.seat.me
after g c = let p = c.args.pass.now in let r = c.requires.pass in let i : ℕ = c.args.node in let same : c.args.self.now.nodes ≡ c.args.self.now.table.shared.table_id.slots = omega arith in let word : c.free_at-word.result ≡ free_at c.args.self.now.table.shared.table_id.slots (i / 64) = c.free_at-word.ensures ∙ ap (λ (z : ℕ). free_at z (i / 64)) same in
    let told = c.fetch_or.ensures.seat.2 i word (one_shl (i % 64) 64 (omega arith)) in looked _ _ _ _ p.caller (marked (Freeing i) p.seat.me.0, p.seat.me.1) c.fetch_or.new.seat.me r.own r.carries r.slots told.1 told.0

pub returns-clause-pass : goal.returns-clause-pass
returns-clause-pass g c = let a = after g c in pass_marked _ _ _ Quiet (Freeing c.args.node) _ _ c.args.pass.now _ c.fetch_or.new.seat.me c.requires.pass refl c.fetch_or.ensures.seat.0 refl a.follows a.carries a.slots a.sounds a.knows

pub returns-clause-looked : goal.returns-clause-looked
returns-clause-looked g c = let a = after g c in record { grows = a.grows; hand = a.hand_is; mine = a.mine_is }

pub returns-clause-rest : goal.returns-clause-rest
returns-clause-rest g c = rest_of c.args.self.now c.args.pass.now _ c.requires.pass ((after g c).kept)
