use Rattle.std.proofs.Common.{◌≡◌, ℕ, [], ◌∷◌, ◌∙◌, sym, ap, refl, subst}
use Rattle.std.specs.Prelude.{Option, Some, None, IsSome, true}
use Rattle.atomic_table.specs.Table.{turned}
use Rattle.ks_arena.specs.Plays.{Seated, slot_in}
use Rattle.ks_arena.proofs.Hold.{top_rest, top_same}
use Rattle.ks_arena.proofs.Lies.{two_top, two_else, turned_twice, lifted_under}
use Rattle.ks_arena.proofs.arena.Arena.lift_under.Given.{Over}
use Rattle.ks_arena.proofs.arena.Arena.lift_under.Goals as goal
use Rattle.ks_arena.proofs.arena.Arena.lift_under.Goals.{After-exchange-arg-1}

-- the two slots before
two : (g : Over) (c : After-exchange-arg-1 g) → (x : Option g.row.N.Denot) × (c.args.pass.now.seat.me.1 ≡ (c.requires.under.0, x) ∷ (c.args.visited.node, Some c.args.visited.body.value) ∷ [])
two g c = let p = c.args.pass.now in let q = c.requires.pass in two_top _ p.seat.me.0.seen p.caller c.args.visited.node c.requires.under.0 _ p.seat.me.1 q.carries.hands (q.slots ∙ c.requires.under.1) c.requires.lies

turned_top : (g : Over) (c : After-exchange-arg-1 g) → c.turn.new.self.me.1 ≡ (c.args.visited.node, Some c.args.visited.body.value) ∷ (c.requires.under.0, (two g c).0) ∷ []
turned_top g c = ap (λ (z : Seated g.row.N.Denot). z.1) c.turn.ensures.2 ∙ ap turned (two g c).1

pub exchange-requires-clause-may : goal.exchange-requires-clause-may
exchange-requires-clause-may g c κs within = (c.turn.ensures.0 ∙ c.requires.pass.table, (Some c.args.visited.body.value, top_rest _ _ _ (turned_top g c)))

pub unwrap-body-requires : goal.unwrap-body-requires
unwrap-body-requires g c = let at = (goal.at.unwrap-body-requires g c).After-exchange-arg-1 in let e = top_same c.args.visited.node (Some c.args.visited.body.value) c.exchange.result c.turn.new.self.me.1 _ _ (turned_top g at) c.exchange.ensures.2 in subst IsSome e.0 refl

pub returns-clause-pass : goal.returns-clause-pass
returns-clause-pass g c = let t = two g (goal.at.returns-clause-pass g c).After-exchange-arg-1 in let p = c.args.pass.now in let i : ℕ = c.args.visited.node in let j = c.requires.under.0 in
    lifted_under _ _ _ _ _ i j t.0 _ p _ c.requires.pass t.1 refl (c.turn-2.ensures.0 ∙ (c.exchange.ensures.0 ∙ c.turn.ensures.0))
    (turned_twice i j t.0 _ p.seat.me c.turn.new.self.me c.exchange.new.seat.me c.turn-2.new.self.me t.1 c.turn.ensures.2 c.exchange.ensures.3 c.turn-2.ensures.2)

pub returns-clause-slots : goal.returns-clause-slots
returns-clause-slots g c = let t = two g (goal.at.returns-clause-slots g c).After-exchange-arg-1 in let p = c.args.pass.now in let i : ℕ = c.args.visited.node in let j = c.requires.under.0 in
    let final = turned_twice i j t.0 _ p.seat.me c.turn.new.self.me c.exchange.new.seat.me c.turn-2.new.self.me t.1 c.turn.ensures.2 c.exchange.ensures.3 c.turn-2.ensures.2 in
    λ k ne. ap (λ (z : Seated g.row.N.Denot). slot_in k z.1) final ∙ (two_else i j k t.0 None _ ne ∙ sym (ap (slot_in k) t.1))

pub returns-clause-held : goal.returns-clause-held
returns-clause-held g c = let at = (goal.at.returns-clause-held g c).After-exchange-arg-1 in let e = (top_same c.args.visited.node (Some c.args.visited.body.value) c.exchange.result c.turn.new.self.me.1 _ _ (turned_top g at) c.exchange.ensures.2).0 ∙ c.unwrap-body.ensures in
    let same : c.args.visited.body.value ≡ c.unwrap-body.result = cc in λ k. record { body = sym same k; node = c.args.visited.node; live = true }
