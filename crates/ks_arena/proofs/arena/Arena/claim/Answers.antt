use Rattle.std.proofs.Common.{arith, ◌≡◌, ◌≢◌, ℕ, ◌++◌, List, sym, ◌∙◌, subst}
use Rattle.std.specs.Prelude.{Some, None}
use Rattle.ks_history.specs.declared.Event.{Event}
use Rattle.ks_history.specs.Trace.{◌⊑◌, free, turn_after}
use Rattle.ks_history.specs.Alone.{ActsAlone, HoldsAlone}
use Rattle.ks_history.specs.Laws.Begins.{by_others_begins}
use Rattle.ks_arena.specs.Sound.{sort_of, Sound}
use Rattle.atomic_table.specs.Seated.{TableId}
use Rattle.ks_history.specs.Callers.{CallersBelow}
use Rattle.ks_history.specs.Laws.Stays.{cond_here}
use Rattle.ks_arena.specs.declared.held.Pass.{Pass}
use Rattle.ks_arena.proofs.Words.{one_alone}
use Rattle.ks_arena.specs.Clauses.{IsPass, seen_of, Kept, DidClaimIn}
use Rattle.ks_arena.specs.Laws.Tells.{kept_both, claimed_begins}
use Rattle.ks_arena.proofs.Tries.{tried_more, root_taken, did_claim, alone_next}
use Rattle.ks_arena.proofs.Rest.{rest_of}
use Rattle.ks_arena.proofs.arena.Arena.claim.Given.{Over}
use Rattle.ks_arena.proofs.arena.Arena.claim.Goals as goal
use Rattle.ks_arena.proofs.arena.Arena.claim.Goals.{In-Some, In_default}

told : (g : Over) (c : In-Some g) → DidClaimIn (sort_of g.N.Node.layout g.N.Node.ranged) g.N.Node.body c.args.self.now.nodes c.loop-index.index c.args.pass.now.caller (seen_of c.loop-index.pass) (seen_of c.claim_in.new.pass) (Some c.in-Some.held)
told g c = subst (λ (z : ℕ). DidClaimIn (sort_of g.N.Node.layout g.N.Node.ranged) g.N.Node.body c.args.self.now.nodes c.loop-index.index z (seen_of c.loop-index.pass) (seen_of c.claim_in.new.pass) (Some c.in-Some.held)) c.loop-index.invariant.1 c.in-Some.ensures.claimed

not_root : (g : Over) (c : In-Some g) → c.in-Some.held.node ≢ 0
not_root g c = λ z. let so = (told g c).0 in let me : ℕ = c.args.pass.now.caller in let i : ℕ = c.in-Some.held.node in let sort = sort_of g.N.Node.layout g.N.Node.ranged in let n : ℕ = c.args.self.now.table.shared.table_id.slots in let before : List Event = so.grows.rest ++ seen_of c.loop-index.pass in
    let all = subst (Sound sort g.D.Discipline.begins g.D.Discipline.step n) so.grows.is (c.sound_law.ensures.begins sort n so.moment (seen_of c.claim_in.new.pass) (by_others_begins me so.moment (seen_of c.claim_in.new.pass) so.since) c.in-Some.ensures.pass.sound) in
    root_taken before (c.sound_law.ensures.lawful sort n before all.0) (c.sound_law.ensures.good sort n before all.0) (subst (λ (j : ℕ). turn_after before j ≡ free) z all.1.0)

pub returns-in-Some-clause-claimed : goal.returns-in-Some-clause-claimed
returns-in-Some-clause-claimed g c = did_claim (sort_of g.N.Node.layout g.N.Node.ranged) g.N.Node.body c.args.self.now.nodes c.loop-index.index c.args.pass.now.caller (seen_of c.args.pass.now) (seen_of c.loop-index.pass) (seen_of c.claim_in.new.pass) c.in-Some.held c.loop-index.invariant.2 (told g c) (not_root g c)

pub returns-in-Some-clause-rest : goal.returns-in-Some-clause-rest
returns-in-Some-clause-rest g c = let inv = c.loop-index.invariant in let me : ℕ = c.args.pass.now.caller in let kept = subst (λ (z : ℕ). Kept z (seen_of c.loop-index.pass) (seen_of c.claim_in.new.pass)) inv.1 c.in-Some.ensures.kept in
    rest_of c.args.self.now c.args.pass.now _ c.requires (kept_both me (seen_of c.args.pass.now) (seen_of c.loop-index.pass) (seen_of c.claim_in.new.pass) inv.2.kept kept)

pub returns-in-Some-clause-cost : goal.returns-in-Some-clause-cost
returns-in-Some-clause-cost g c = λ alone holds. let inv = c.loop-index.invariant in let me : ℕ = c.args.pass.now.caller in let t = told g c in
    let parts = alone_next me (seen_of c.args.pass.now) (seen_of c.loop-index.pass) (seen_of c.claim_in.new.pass) inv.2.looked (claimed_begins (sort_of g.N.Node.layout g.N.Node.ranged) g.N.Node.body me (seen_of c.loop-index.pass) (seen_of c.claim_in.new.pass) c.in-Some.held t.0) alone holds in
    let before = inv.3 parts.0 holds in let same = inv.1 in let cost = c.in-Some.ensures.cost (subst (λ (z : ℕ). ActsAlone z (seen_of c.loop-index.pass) (seen_of c.claim_in.new.pass)) (sym same) parts.1) (subst (λ (z : ℕ). HoldsAlone z (seen_of c.loop-index.pass)) (sym same) parts.2) in
    let is = t.2.2 in let low = t.2.1 in omega arith

pub returns-in-Some-clause-bound : goal.returns-in-Some-clause-bound
returns-in-Some-clause-bound g c = λ alone holds. let cost = returns-in-Some-clause-cost g c alone holds in let near = (told g c).1 in omega arith

pub loop-index-preserved : goal.loop-index-preserved
loop-index-preserved g c = let inv = c.loop-index.invariant in let me : ℕ = c.args.pass.now.caller in let same = inv.1 in let e = c.in_default.ensures in
    let found = subst (λ (z : ℕ). DidClaimIn (sort_of g.N.Node.layout g.N.Node.ranged) g.N.Node.body c.args.self.now.nodes c.loop-index.index z (seen_of c.loop-index.pass) (seen_of c.claim_in.new.pass) None) same e.claimed in
    let kept = subst (λ (z : ℕ). Kept z (seen_of c.loop-index.pass) (seen_of c.claim_in.new.pass)) same e.kept in (
      e.pass,
      e.caller ∙ same,
      tried_more c.args.self.now.nodes me c.loop-index.index (seen_of c.args.pass.now) (seen_of c.loop-index.pass) (seen_of c.claim_in.new.pass) inv.2 found.0 kept found.1,
      λ alone holds. let parts = alone_next me (seen_of c.args.pass.now) (seen_of c.loop-index.pass) (seen_of c.claim_in.new.pass) inv.2.looked (by_others_begins me (seen_of c.loop-index.pass) (seen_of c.claim_in.new.pass) found.0.grows) alone holds in
          let before = inv.3 parts.0 holds in let cost = e.cost (subst (λ (z : ℕ). ActsAlone z (seen_of c.loop-index.pass) (seen_of c.claim_in.new.pass)) (sym same) parts.1) (subst (λ (z : ℕ). HoldsAlone z (seen_of c.loop-index.pass)) (sym same) parts.2) in omega arith,
    )

pub returns-clause-rest : goal.returns-clause-rest
returns-clause-rest g c = rest_of c.args.self.now c.args.pass.now _ c.requires c.loop-index.invariant.2.kept

-- the pass of the only caller knows that no other acts
lone : (g : Over) (callers : ℕ) (p : Pass g.row.N.Denot g.row.D.Denot) (t : TableId) (h : List Event) → IsPass (sort_of g.N.Node.layout g.N.Node.ranged) g.D.Discipline.begins g.D.Discipline.step t callers p → callers ≡ 1 → p.caller ≡ 0 → h ⊑ seen_of p → ActsAlone 0 h (seen_of p) × HoldsAlone 0 h
lone g callers p t h is one first begins = let made : p.seat.me.0.made ≡ 1 = is.made ∙ cond_here p.caller 0 callers 0 first ∙ one in one_alone h (seen_of p) begins (subst (λ (z : ℕ). CallersBelow z (seen_of p)) made (is.known (λ e. omega arith)))

pub returns-in-Some-clause-one : goal.returns-in-Some-clause-one
returns-in-Some-clause-one g c = λ one first. let t = returns-in-Some-clause-claimed g c in let me : ℕ = c.args.pass.now.caller in let same = c.in-Some.ensures.caller ∙ c.loop-index.invariant.1 in
    let alone = lone g c.args.self.now.callers c.claim_in.new.pass _ (seen_of c.args.pass.now) c.in-Some.ensures.pass one (same ∙ first) (claimed_begins (sort_of g.N.Node.layout g.N.Node.ranged) g.N.Node.body me (seen_of c.args.pass.now) (seen_of c.claim_in.new.pass) c.in-Some.held t.0) in
    returns-in-Some-clause-cost g c (subst (λ (z : ℕ). ActsAlone z (seen_of c.args.pass.now) (seen_of c.claim_in.new.pass)) (sym first) alone.0) (subst (λ (z : ℕ). HoldsAlone z (seen_of c.args.pass.now)) (sym first) alone.1)

pub returns-clause-one : goal.returns-clause-one
returns-clause-one g c = λ one first. let inv = c.loop-index.invariant in let alone = lone g c.args.self.now.callers c.loop-index.pass _ (seen_of c.args.pass.now) inv.0 one (inv.1 ∙ first) (by_others_begins c.args.pass.now.caller (seen_of c.args.pass.now) (seen_of c.loop-index.pass) inv.2.looked.grows) in
    let cost = inv.3 (subst (λ (z : ℕ). ActsAlone z (seen_of c.args.pass.now) (seen_of c.loop-index.pass)) (sym first) alone.0) (subst (λ (z : ℕ). HoldsAlone z (seen_of c.args.pass.now)) (sym first) alone.1) in
    let low = c.loop-index-test.false in let high = c.loop-index.auto.index-end in let many = c.div_ceil-index-end.ensures in omega arith
