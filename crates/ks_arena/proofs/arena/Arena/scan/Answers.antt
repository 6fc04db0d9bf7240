use Rattle.std.proofs.Common.{◌≡◌, ℕ, ◌∙◌, ap, sym, refl, subst, arith}
use mathlib.Core.Option.{none}
use Rattle.atomic_table.specs.Table.{Allows, step}
use Rattle.ks_arena.specs.Sound.{sort_of}
use Rattle.ks_arena.specs.Spots.{free_at}
use Rattle.ks_arena.specs.Rule.{Running}
use Rattle.ks_arena.specs.Plays.{TellsFree, scanned}
use Rattle.ks_arena.proofs.Moves.{scans_ok}
use Rattle.ks_arena.proofs.After.{pass_again, Looked, looked}
use Rattle.ks_arena.proofs.arena.Arena.scan.Given.{Over}
use Rattle.ks_arena.proofs.arena.Arena.scan.Goals as goal
use Rattle.ks_arena.proofs.arena.Arena.scan.Goals.{After-load}

pub load-requires-clause-may : goal.load-requires-clause-may
load-requires-clause-may g c κs within = let p = c.args.pass.now in let w : ℕ = c.args.index in let n : ℕ = c.args.self.now.table.shared.table_id.slots in let sort = sort_of g.N.Node.layout g.N.Node.ranged in let same : n ≡ c.args.self.now.nodes = omega arith in let word : free_at n w ≡ c.free_at-word.result = ap (λ (z : ℕ). free_at z w) same ∙ sym c.free_at-word.ensures in (
  c.requires.pass.table,
  omega arith,
  subst (λ (z : ℕ). Allows (Running sort g.D.Discipline.begins g.D.Discipline.step g.N.Node.body) n p.seat.id p.seat.me z (λ y. y) (scanned sort g.D.Discipline.begins g.D.Discipline.step g.N.Node.body (step n z 0 0 none) p.seat.me)) word
      (scans_ok sort g.D.Discipline.begins g.D.Discipline.step g.N.Node.body n p.seat.id p.seat.me w c.requires.pass.bare),
)

is_word : (g : Over) (c : After-load g) → c.free_at-word.result ≡ free_at c.args.self.now.table.shared.table_id.slots c.args.index
is_word g c = let same : c.args.self.now.nodes ≡ c.args.self.now.table.shared.table_id.slots = omega arith in c.free_at-word.ensures ∙ ap (λ (z : ℕ). free_at z c.args.index) same

after : (g : Over) (c : After-load g) → Looked (sort_of g.N.Node.layout g.N.Node.ranged) g.D.Discipline.begins g.D.Discipline.step c.args.self.now.table.shared.table_id.slots c.args.pass.now.caller c.args.pass.now.seat.me c.load.new.seat.me
after g c = let p = c.args.pass.now in let r = c.requires.pass in let word = is_word g c in
    let told = c.load.ensures.seat.2 p.caller c.args.index r.own r.mark word in looked _ _ _ _ p.caller p.seat.me c.load.new.seat.me r.own r.carries r.slots told.1 told.0

pub returns-clause-pass : goal.returns-clause-pass
returns-clause-pass g c = let a = after g c in pass_again _ _ _ _ _ c.args.pass.now _ c.load.new.seat.me c.requires.pass refl c.load.ensures.seat.0 refl a.follows a.carries a.slots a.sounds a.knows

pub returns-clause-looked : goal.returns-clause-looked
returns-clause-looked g c = let a = after g c in record { grows = a.grows; hand = a.hand_is; mine = a.mine_is }

pub returns-clause-told : goal.returns-clause-told
returns-clause-told g c = let p = c.args.pass.now in let r = c.requires.pass in let word = is_word g c in let same : c.args.self.now.table.shared.table_id.slots ≡ c.args.self.now.nodes = omega arith in
    subst (λ (z : ℕ). TellsFree z c.args.index p.caller c.load.new.seat.me.0.seen c.load.result) same (c.load.ensures.seat.2 p.caller c.args.index r.own r.mark word).2

pub returns-clause-kept : goal.returns-clause-kept
returns-clause-kept g c = (after g c).kept
