use Rattle.std.proofs.Common.{◌≡◌, ℕ, List, inl, refl, sym, ap, ◌∙◌, subst}
use Rattle.ks_history.specs.Passes.{Has}
use Rattle.ks_history.specs.Own.{hand}
use Rattle.ks_history.specs.Trace.{held, turn_after}
use Rattle.ks_arena.specs.Sound.{sort_of}
use Rattle.ks_arena.specs.Clauses.{HasLooked, Kept, seen_of, hand_of}
use Rattle.ks_arena.proofs.Hold.{holds_it}
use Rattle.ks_arena.specs.Laws.Tells.{claimed_then}
use Rattle.ks_arena.proofs.arena.Arena.try_claim.Goals as goal

pub returns-clause-claimed : goal.returns-clause-claimed
returns-clause-claimed g c = let me : ℕ = c.args.pass.now.caller in let x = c.in_ok-held.held in let e = c.in_ok-held.ensures in let p = c.catch.new.pass in let q = c.clear_bit.new.pass in let so = e.claimed.1 in
    let has : Has (hand_of p) x.node = subst (λ (z : List ℕ). Has z x.node) (sym (ap (λ (z : ℕ). hand z (seen_of p)) e.caller ∙ so.hand)) (inl refl) in
    let holds : turn_after (seen_of p) x.node ≡ held me = holds_it _ (seen_of p) p.caller x.node p.seat.me.1 e.pass.carries e.pass.slots has ∙ ap held e.caller in
    let looked = subst (λ (z : ℕ). HasLooked z (seen_of p) (seen_of q)) e.caller c.clear_bit.ensures.looked in let kept = subst (λ (z : ℕ). Kept z (seen_of p) (seen_of q)) e.caller c.clear_bit.ensures.rest.kept in
    (e.claimed.0, claimed_then (sort_of g.N.Node.layout g.N.Node.ranged) g.N.Node.body me (seen_of c.args.pass.now) (seen_of p) (seen_of q) x so looked (c.clear_bit.ensures.rest.still x has so.matches) (kept x.node holds).state)
