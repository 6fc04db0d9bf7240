use Rattle.std.proofs.Common.{◌≡◌, ℕ, List, ◌∷◌, ◌++◌, refl, sym, ap, ◌∙◌, subst, arith}
use Rattle.std.specs.Prelude.{Some, None, IsSome}
use Rattle.ks_keysets.specs.declared.NodeState.TheVariants.{Claimed}
use Rattle.ks_history.specs.declared.Event.{Event}
use Rattle.ks_history.specs.declared.Event.TheVariants.{Claim}
use Rattle.ks_history.specs.Trace.{graph_after}
use Rattle.ks_history.specs.Own.{hand, mine}
use Rattle.ks_history.specs.Passes.{GrowsWith}
use Rattle.ks_history.specs.Laws.Begins.{claim_hand, by_others_none}
use Rattle.ks_keysets.specs.Keyset.{live_record}
use Rattle.ks_history.specs.Laws.Stays.{cond_here, cond_else}
use Rattle.ks_arena.specs.declared.view.Mark.TheVariants.{Quiet, Claiming}
use Rattle.ks_arena.specs.declared.view.View.{View}
use Rattle.ks_node.specs.Body.{blank_body}
use Rattle.ks_arena.specs.Plays.{Seated, marked, ClaimedAt}
use Rattle.ks_arena.specs.Sound.{sort_of, Sound}
use Rattle.ks_arena.specs.Clauses.{Kept}
use Rattle.ks_arena.proofs.Moves.{claims_ok}
use Rattle.ks_arena.proofs.Hold.{top_rest, top_same, out_of, holds_it, makes_grows}
use Rattle.ks_arena.proofs.After.{pass_again, pass_marked, Looked, looked, Gained, gained, claim_fresh}
use Rattle.ks_arena.proofs.arena.Arena.catch.Given.{Over}
use Rattle.ks_arena.proofs.arena.Arena.catch.Goals as goal
use Rattle.ks_arena.proofs.arena.Arena.catch.Goals.{After-unwrap-body, Else-found-eq0}

pub compare_exchange-found-requires-clause-may : goal.compare_exchange-found-requires-clause-may
compare_exchange-found-requires-clause-may g c κs within = (c.requires.pass.table, omega arith, claims_ok (sort_of g.N.Node.layout g.N.Node.ranged) g.D.Discipline.begins g.D.Discipline.step g.N.Node.body _ _ c.args.pass.now.seat.me c.args.pass.now.caller c.args.node _ c.turn_at-turn.ensures c.requires.pass.own c.requires.pass.bare c.requires.pass.mark c.requires.pass.few (omega arith))

pub exchange-requires-clause-may : goal.exchange-requires-clause-may
exchange-requires-clause-may g c κs within = let told = (c.compare_exchange-found.ensures.seat.2 c.args.pass.now.caller c.args.node c.requires.pass.own c.turn_at-turn.ensures).0 c.if-found-eq0.true in (c.compare_exchange-found.ensures.seat.0 ∙ c.requires.pass.table, (Some told.1.0, top_rest _ _ _ told.1.1))

pub unwrap-body-requires : goal.unwrap-body-requires
unwrap-body-requires g c = let told = (c.compare_exchange-found.ensures.seat.2 c.args.pass.now.caller c.args.node c.requires.pass.own c.turn_at-turn.ensures).0 c.if-found-eq0.true in
    let e = top_same c.args.node (Some told.1.0) c.exchange.result c.compare_exchange-found.new.seat.me.1 _ _ told.1.1 c.exchange.ensures.2 in subst IsSome e.0 refl

abbrev hit : (g : Over) (c : After-unwrap-body g) → ClaimedAt (sort_of g.N.Node.layout g.N.Node.ranged) g.D.Discipline.begins g.D.Discipline.step g.N.Node.body c.args.self.now.table.shared.table_id.slots c.args.pass.now.caller c.args.node c.args.pass.now.seat.me c.compare_exchange-found.result c.compare_exchange-found.new.seat.me
hit g c = c.compare_exchange-found.ensures.seat.2 c.args.pass.now.caller c.args.node c.requires.pass.own c.turn_at-turn.ensures

final : (g : Over) (c : After-unwrap-body g) → c.exchange.new.seat.me ≡ (c.compare_exchange-found.new.seat.me.0, (c.args.node, None) ∷ c.args.pass.now.seat.me.1)
final g c = let told = (hit g c).0 c.if-found-eq0.true in out_of c.args.node (Some told.1.0) c.args.pass.now.seat.me c.compare_exchange-found.new.seat.me c.exchange.new.seat.me told.1.1 c.exchange.ensures.3

-- the seat after the take, with the slot empty
abbrev after : (g : Over) (c : After-unwrap-body g) → Seated g.row.N.Denot
after g c = (c.compare_exchange-found.new.seat.me.0, (c.args.node, None) ∷ c.args.pass.now.seat.me.1)

-- the seat before it, with the mark that the step leaves
abbrev ready : (g : Over) (c : After-unwrap-body g) → Seated g.row.N.Denot
ready g c = (marked (Claiming c.args.node) c.args.pass.now.seat.me.0, c.args.pass.now.seat.me.1)

got : (g : Over) (c : After-unwrap-body g) → Gained (sort_of g.N.Node.layout g.N.Node.ranged) g.D.Discipline.begins g.D.Discipline.step c.args.self.now.table.shared.table_id.slots c.args.pass.now.caller c.args.node (Claim c.args.pass.now.caller c.args.node) (ready g c) (after g c)
got g c = let told = (hit g c).0 c.if-found-eq0.true in let p = c.requires.pass in let n : ℕ = c.args.self.now.table.shared.table_id.slots in
    gained (sort_of g.N.Node.layout g.N.Node.ranged) g.D.Discipline.begins g.D.Discipline.step n c.args.pass.now.caller c.args.node None (Claim c.args.pass.now.caller c.args.node) (ready g c) (after g c) (omega arith) refl (λ h j. refl) (λ h j ne. (cond_else j c.args.node (Claimed c.args.pass.now.caller) (graph_after h j) ne, λ blank. refl))
    (claim_hand _ _ _ _ (makes_grows (Sound (sort_of g.N.Node.layout g.N.Node.ranged) g.D.Discipline.begins g.D.Discipline.step n) _ (ready g c).0 c.compare_exchange-found.new.seat.me.0 c.args.pass.now.caller p.own told.0))
    p.own (claim_fresh (sort_of g.N.Node.layout g.N.Node.ranged) g.D.Discipline.begins g.D.Discipline.step n c.args.pass.now.caller c.args.node (ready g c) (after g c) p.own told.0) p.carries p.slots refl told.0

pub returns-then-found-eq0-clause-pass : goal.returns-then-found-eq0-clause-pass
returns-then-found-eq0-clause-pass g c = let a = got g c in pass_marked _ _ _ Quiet (Claiming c.args.node) _ _ c.args.pass.now _ (after g c) c.requires.pass refl (c.exchange.ensures.0 ∙ c.compare_exchange-found.ensures.seat.0) (final g c) a.follows a.carries a.slots a.sounds a.knows

pub returns-then-found-eq0-clause-claimed : goal.returns-then-found-eq0-clause-claimed
returns-then-found-eq0-clause-claimed g c = let told = (hit g c).0 c.if-found-eq0.true in let a = got g c in let v : c.exchange.new.seat.me.0 ≡ c.compare_exchange-found.new.seat.me.0 = ap (λ (z : Seated g.row.N.Denot). z.0) (final g c) in
    let same : Some told.1.0 ≡ Some c.unwrap-body.result = (top_same c.args.node (Some told.1.0) c.exchange.result c.compare_exchange-found.new.seat.me.1 _ _ told.1.1 c.exchange.ensures.2).0 ∙ c.unwrap-body.ensures in let body : told.1.0 ≡ c.unwrap-body.result = cc in
    let blank : g.N.Node.body c.unwrap-body.result ≡ blank_body g.N.Node.ranged = ap g.N.Node.body (sym body) ∙ told.1.2 in let me = c.args.pass.now.caller in let i : ℕ = c.args.node in
    let state : graph_after c.exchange.new.seat.me.0.seen i ≡ Claimed me = ap (λ (z : View). graph_after z.seen i) v ∙ ap (λ (z : List Event). graph_after z i) a.grows.is ∙ cond_here i i (Claimed me) (graph_after (a.grows.rest ++ c.args.pass.now.seat.me.0.seen) i) refl in (
      refl,
      record {
        live = refl;
        blank = blank;
        matches = record { is = (ap live_record state, blank) };
        state = state;
        moment = c.exchange.new.seat.me.0.seen;
        grows = subst (λ (z : View). GrowsWith me (Claim me i) c.args.pass.now.seat.me.0.seen z.seen) (sym v) a.grows;
        since = by_others_none me c.exchange.new.seat.me.0.seen;
        fresh = λ has. claim_fresh (sort_of g.N.Node.layout g.N.Node.ranged) g.D.Discipline.begins g.D.Discipline.step c.args.self.now.table.shared.table_id.slots me i (ready g c) (after g c) c.requires.pass.own told.0 (holds_it _ c.args.pass.now.seat.me.0.seen me i c.args.pass.now.seat.me.1 c.requires.pass.carries c.requires.pass.slots has);
        hand = ap (λ (z : View). hand me z.seen) v ∙ a.hand_is;
        mine = ap (λ (z : View). mine me z.seen) v ∙ a.mine_is;
      },
    )

pub returns-then-found-eq0-clause-kept : goal.returns-then-found-eq0-clause-kept
returns-then-found-eq0-clause-kept g c = subst (λ (z : Seated g.row.N.Denot). Kept c.args.pass.now.caller c.args.pass.now.seat.me.0.seen z.0.seen) (sym (final g c)) (got g c).kept

missed : (g : Over) (c : Else-found-eq0 g) → Looked (sort_of g.N.Node.layout g.N.Node.ranged) g.D.Discipline.begins g.D.Discipline.step c.args.self.now.table.shared.table_id.slots c.args.pass.now.caller c.args.pass.now.seat.me c.compare_exchange-found.new.seat.me
missed g c = let told = (c.compare_exchange-found.ensures.seat.2 c.args.pass.now.caller c.args.node c.requires.pass.own c.turn_at-turn.ensures).1 c.if-found-eq0.false in let p = c.requires.pass in looked _ _ _ _ c.args.pass.now.caller c.args.pass.now.seat.me c.compare_exchange-found.new.seat.me p.own p.carries p.slots told.1 told.0

pub returns-else-found-eq0-clause-pass : goal.returns-else-found-eq0-clause-pass
returns-else-found-eq0-clause-pass g c = let a = missed g c in pass_again _ _ _ _ _ c.args.pass.now _ c.compare_exchange-found.new.seat.me c.requires.pass refl c.compare_exchange-found.ensures.seat.0 refl a.follows a.carries a.slots a.sounds a.knows

pub returns-else-found-eq0-clause-claimed : goal.returns-else-found-eq0-clause-claimed
returns-else-found-eq0-clause-claimed g c = let a = missed g c in let told = (c.compare_exchange-found.ensures.seat.2 c.args.pass.now.caller c.args.node c.requires.pass.own c.turn_at-turn.ensures).1 c.if-found-eq0.false in (record { grows = a.grows; hand = a.hand_is; mine = a.mine_is }, told.2)

pub returns-else-found-eq0-clause-kept : goal.returns-else-found-eq0-clause-kept
returns-else-found-eq0-clause-kept g c = (missed g c).kept
