use Rattle.std.proofs.Common.{rules, arith, ◌≡◌, ◌≢◌, ℕ, ◌+◌, ◌*◌, ◌^◌, ◌<◌, ap, ◌∙◌, subst, w64}
use Rattle.std.specs.Prelude.{Some, None}
use Rattle.std.specs.Int.{bit_at, trailing_zeros}
use Rattle.std.proofs.lemmas.Nat.Bits.{bit_at-trailing_zeros, bit_at-zero}
use Rattle.ks_history.specs.Laws.Alone.{alone_first}
use Rattle.ks_history.specs.Laws.Begins.{by_others_begins}
use Rattle.ks_arena.specs.Sound.{sort_of}
use Rattle.ks_arena.specs.Clauses.{seen_of, Kept, TryClaimed}
use Rattle.ks_arena.specs.Laws.Tells.{claimed_begins}
use Rattle.ks_arena.proofs.Tries.{told_word, missed, missed_not_alone, without_less, claimed_in}
use Rattle.ks_arena.proofs.arena.Arena.claim_in.Goals as goal
use Rattle.ks_arena.proofs.arena.Arena.claim_in.Goals.{After-try_claim}

-- the lowest bit that is set
lowest : (left : ℕ) → left ≢ 0 → left < 2 ^ 64 → (trailing_zeros w64 left < 64) × (bit_at left (trailing_zeros w64 left) ≡ 1) × ((a : ℕ) → a < trailing_zeros w64 left → bit_at left a ≡ 0)
lowest left some fits = bit_at-trailing_zeros w64 left (omega arith) fits

pub loop-left-init : goal.loop-left-init
loop-left-init g c = let e = c.scan-left.ensures in let me : ℕ = c.args.pass.now.caller in (e.pass, e.caller, told_word c.args.self.now.nodes c.args.index me c.scan-left.result (seen_of c.args.pass.now) (seen_of c.scan-left.new.pass) e.looked e.kept e.told, λ alone holds. e.cost)

pub try_claim-requires-clause-node : goal.try_claim-requires-clause-node
try_claim-requires-clause-node g c κs within = let low = lowest c.loop-left.left (search rules) (search rules) in c.loop-left.invariant.2.near (trailing_zeros w64 c.loop-left.left) low.0 low.1

pub returns-in-Some-clause-claimed : goal.returns-in-Some-clause-claimed
returns-in-Some-clause-claimed g c = let inv = c.loop-left.invariant in let me : ℕ = c.args.pass.now.caller in let low = lowest c.loop-left.left (search rules) (search rules) in let b : ℕ = trailing_zeros w64 c.loop-left.left in
    let told = subst (λ (z : ℕ). TryClaimed (sort_of g.N.Node.layout g.N.Node.ranged) g.N.Node.body z (64 * c.args.index + b) (seen_of c.loop-left.pass) (seen_of c.try_claim.new.pass) (Some c.in-Some.held)) inv.1 c.in-Some.ensures.claimed in
    claimed_in (sort_of g.N.Node.layout g.N.Node.ranged) g.N.Node.body c.args.self.now.nodes c.args.index me c.loop-left.left b (seen_of c.args.pass.now) (seen_of c.loop-left.pass) (seen_of c.try_claim.new.pass) c.in-Some.held inv.2 low.0 low.1 low.2 told

pub returns-in-Some-clause-cost : goal.returns-in-Some-clause-cost
returns-in-Some-clause-cost g c = λ alone holds. let inv = c.loop-left.invariant in let me : ℕ = c.args.pass.now.caller in let b : ℕ = trailing_zeros w64 c.loop-left.left in
    let told = subst (λ (z : ℕ). TryClaimed (sort_of g.N.Node.layout g.N.Node.ranged) g.N.Node.body z (64 * c.args.index + b) (seen_of c.loop-left.pass) (seen_of c.try_claim.new.pass) (Some c.in-Some.held)) inv.1 c.in-Some.ensures.claimed in
    let first = alone_first me (seen_of c.args.pass.now) (seen_of c.loop-left.pass) (seen_of c.try_claim.new.pass) (by_others_begins me (seen_of c.args.pass.now) (seen_of c.loop-left.pass) inv.2.looked.grows) (claimed_begins (sort_of g.N.Node.layout g.N.Node.ranged) g.N.Node.body me (seen_of c.loop-left.pass) (seen_of c.try_claim.new.pass) c.in-Some.held told.1) alone in
    let before = inv.3 first holds in let cost = c.in-Some.ensures.cost in omega arith

pub loop-left-smaller : goal.loop-left-smaller
loop-left-smaller g c = let low = lowest c.loop-left.left (search rules) (search rules) in without_less c.loop-left.left (trailing_zeros w64 c.loop-left.left) low.0 low.1

pub loop-left-preserved : goal.loop-left-preserved
loop-left-preserved g c = let inv = c.loop-left.invariant in let me : ℕ = c.args.pass.now.caller in let low = lowest c.loop-left.left (search rules) (search rules) in let b : ℕ = trailing_zeros w64 c.loop-left.left in let e = c.in_default.ensures in
    let told = subst (λ (z : ℕ). TryClaimed (sort_of g.N.Node.layout g.N.Node.ranged) g.N.Node.body z (64 * c.args.index + b) (seen_of c.loop-left.pass) (seen_of c.try_claim.new.pass) None) inv.1 e.claimed in
    let kept = subst (λ (z : ℕ). Kept z (seen_of c.loop-left.pass) (seen_of c.try_claim.new.pass)) inv.1 e.kept in (
      e.pass,
      e.caller ∙ inv.1,
      missed c.args.self.now.nodes c.args.index me c.loop-left.left b (seen_of c.args.pass.now) (seen_of c.loop-left.pass) (seen_of c.try_claim.new.pass) inv.2 told.0 kept low.0 low.1 told.1,
      λ alone holds. absurd (missed_not_alone c.args.self.now.nodes c.args.index me c.loop-left.left b (seen_of c.args.pass.now) (seen_of c.loop-left.pass) (seen_of c.try_claim.new.pass) inv.2 told.0 low.0 low.1 told.1 alone holds),
    )

pub returns-clause-claimed : goal.returns-clause-claimed
returns-clause-claimed g c = let inv = c.loop-left.invariant in let none_left : c.loop-left.left ≡ 0 = search rules in (inv.2.looked, λ b low near. inv.2.taken b low near (ap (λ (z : ℕ). bit_at z b) none_left ∙ bit_at-zero b))
