use Rattle.std.proofs.Common.{◌≡◌, ◌∙◌, ◌+◌, ◌%◌, ◌^◌, ℕ, [], arith, sym, subst, inl}
use Rattle.ks_history.specs.Own.{hand}
use Rattle.ks_arena.specs.Sound.{sort_of}
use Rattle.ks_arena.specs.Clauses.{seen_of}
use Rattle.ks_shape.specs.Stretches.{Stretches}
use Rattle.ks_shape.specs.Laws.Stretches.{stretches_as, stretches_both}
use Rattle.ks_shape.specs.Frees.{Counts}
use Rattle.ks_shape.specs.Laws.Frees.{counts_as, counts_both, counts_of, counts_on, frees_as, frees_others, frees_take}
use Rattle.ks_tidy.specs.Pair.{IsPair}
use Rattle.ks_shape.specs.Does.{DoesOnly, MayDel}
use Rattle.ks_shape.specs.Laws.Does.{dels_search, does_on, searched_dels}
use Rattle.ks_tidy.proofs.tries.try_pair_tidy.Given.{Over}
use Rattle.ks_tidy.proofs.tries.try_pair_tidy.Goals as goal
use Rattle.ks_tidy.proofs.tries.try_pair_tidy.Goals.{After-try_tidy_at-tidied}

pub returns-in-Err-clause-counts : goal.returns-in-Err-clause-counts
returns-in-Err-clause-counts g c = let me : ℕ = c.args.pass.now.caller in let h = seen_of c.args.pass.now in let k = seen_of c.try_enter.new.pass in
    counts_of me 0 h k (omega arith) (frees_others me h k c.in-Err.ensures.took)

pub returns-in-Err-clause-pass : goal.returns-in-Err-clause-pass
returns-in-Err-clause-pass g c = (c.try_enter.ensures.pass, subst (λ (z : ℕ). hand z (seen_of c.try_enter.new.pass) ≡ []) (sym c.try_enter.ensures.caller) c.in-Err.ensures.path)

pub loop-steps-init : goal.loop-steps-init
loop-steps-init g c = let me : ℕ = c.args.pass.now.caller in let h = seen_of c.args.pass.now in let k = seen_of c.try_enter.new.pass in let e = c.try_enter.ensures in let o = c.in-Ok.ensures in
    (e.pass, e.caller, record { path = o.path; rooted = λ none. inl o.took.0 }, e.stretch, counts_of me 0 h k (omega arith) (frees_take me 0 h k o.took.1), searched_dels (sort_of g.N.Node.layout g.N.Node.ranged) me h k e.leaves)

-- where the search is after it tidied
now : (g : Over) (c : After-try_tidy_at-tidied g) → c.try_tidy_at-tidied.new.pass.caller ≡ c.args.pass.now.caller
now g c = c.try_tidy_at-tidied.ensures.caller ∙ c.loop-steps.invariant.1

pair : (g : Over) (c : After-try_tidy_at-tidied g) → IsPair (sort_of g.N.Node.layout g.N.Node.ranged) g.N.Node.body c.args.pass.now.caller c.args.place (seen_of c.try_tidy_at-tidied.new.pass) c.try_tidy_at-tidied.result.path
pair g c = subst (λ (z : ℕ). IsPair (sort_of g.N.Node.layout g.N.Node.ranged) g.N.Node.body z c.args.place (seen_of c.try_tidy_at-tidied.new.pass) c.try_tidy_at-tidied.result.path) c.loop-steps.invariant.1 c.try_tidy_at-tidied.ensures.pair

pair_now : (g : Over) (c : After-try_tidy_at-tidied g) → IsPair (sort_of g.N.Node.layout g.N.Node.ranged) g.N.Node.body c.try_tidy_at-tidied.new.pass.caller c.args.place (seen_of c.try_tidy_at-tidied.new.pass) c.try_tidy_at-tidied.result.path
pair_now g c = subst (λ (z : ℕ). IsPair (sort_of g.N.Node.layout g.N.Node.ranged) g.N.Node.body z c.args.place (seen_of c.try_tidy_at-tidied.new.pass) c.try_tidy_at-tidied.result.path) (sym c.try_tidy_at-tidied.ensures.caller) c.try_tidy_at-tidied.ensures.pair

stretch : (g : Over) (c : After-try_tidy_at-tidied g) → Stretches c.args.pass.now.caller (seen_of c.args.pass.now) (seen_of c.try_tidy_at-tidied.new.pass)
stretch g c = let me : ℕ = c.args.pass.now.caller in let h = seen_of c.loop-steps.pass in let k = seen_of c.try_tidy_at-tidied.new.pass in
    stretches_both me (seen_of c.args.pass.now) h k c.loop-steps.invariant.3 (stretches_as me c.loop-steps.pass.caller h k c.loop-steps.invariant.1 c.try_tidy_at-tidied.ensures.stretch)

counts : (g : Over) (c : After-try_tidy_at-tidied g) → Counts c.args.pass.now.caller (seen_of c.args.pass.now) (seen_of c.try_tidy_at-tidied.new.pass) ((c.loop-steps.freed + c.try_tidy_at-tidied.result.freed) % 2 ^ 32)
counts g c = let me : ℕ = c.args.pass.now.caller in let h = seen_of c.loop-steps.pass in let k = seen_of c.try_tidy_at-tidied.new.pass in
    counts_both me c.loop-steps.freed c.try_tidy_at-tidied.result.freed (seen_of c.args.pass.now) h k c.loop-steps.invariant.4 (counts_as me c.loop-steps.pass.caller c.try_tidy_at-tidied.result.freed h k c.loop-steps.invariant.1 c.try_tidy_at-tidied.ensures.counts)

dels : (g : Over) (c : After-try_tidy_at-tidied g) → DoesOnly (MayDel (sort_of g.N.Node.layout g.N.Node.ranged)) c.args.pass.now.caller (seen_of c.args.pass.now) (seen_of c.try_tidy_at-tidied.new.pass)
dels g c = does_on (MayDel (sort_of g.N.Node.layout g.N.Node.ranged)) c.args.pass.now.caller c.loop-steps.pass.caller (seen_of c.args.pass.now) (seen_of c.loop-steps.pass) (seen_of c.try_tidy_at-tidied.new.pass) c.loop-steps.invariant.1 c.loop-steps.invariant.5 c.try_tidy_at-tidied.ensures.dels

pub leave-requires-clause-pair : goal.leave-requires-clause-pair
leave-requires-clause-pair g c = pair_now g (goal.at.leave-requires-clause-pair g c).After-try_tidy_at-tidied

pub try_go_down-requires-clause-pair : goal.try_go_down-requires-clause-pair
try_go_down-requires-clause-pair g c = pair_now g (goal.at.try_go_down-requires-clause-pair g c).After-try_tidy_at-tidied

pub loop-steps-preserved : goal.loop-steps-preserved
loop-steps-preserved g c = let at = (goal.at.loop-steps-preserved g c).After-try_tidy_at-tidied in let me : ℕ = c.args.pass.now.caller in let s = seen_of c.args.pass.now in let h₁ = seen_of c.try_tidy_at-tidied.new.pass in let b : ℕ = c.try_tidy_at-tidied.new.pass.caller in let k = seen_of c.try_go_down.new.pass in let e = c.try_go_down.ensures in (
  e.pass,
  e.caller ∙ now g at,
  subst (λ (z : ℕ). IsPair (sort_of g.N.Node.layout g.N.Node.ranged) g.N.Node.body z c.args.place k c.in-Some.below) (now g at) c.in-Some.ensures.came,
  stretches_both me s h₁ k (stretch g at) (stretches_as me b h₁ k (now g at) e.stretch),
  counts_on me ((c.loop-steps.freed + c.try_tidy_at-tidied.result.freed) % 2 ^ 32) s h₁ k (counts g at) (frees_as me b h₁ k (now g at) e.frees),
  dels_search (sort_of g.N.Node.layout g.N.Node.ranged) me b s h₁ k (now g at) (dels g at) e.leaves,
)

pub returns-in-None-clause-pass : goal.returns-in-None-clause-pass
returns-in-None-clause-pass g c = (c.try_go_down.ensures.pass, c.in-None.ensures.came)

pub returns-in-None-clause-stretch : goal.returns-in-None-clause-stretch
returns-in-None-clause-stretch g c = let at = (goal.at.returns-in-None-clause-stretch g c).After-try_tidy_at-tidied in let me : ℕ = c.args.pass.now.caller in let h₁ = seen_of c.try_tidy_at-tidied.new.pass in let k = seen_of c.try_go_down.new.pass in
    stretches_both me (seen_of c.args.pass.now) h₁ k (stretch g at) (stretches_as me c.try_tidy_at-tidied.new.pass.caller h₁ k (now g at) c.try_go_down.ensures.stretch)

pub returns-in-None-clause-counts : goal.returns-in-None-clause-counts
returns-in-None-clause-counts g c = let at = (goal.at.returns-in-None-clause-counts g c).After-try_tidy_at-tidied in let me : ℕ = c.args.pass.now.caller in let h₁ = seen_of c.try_tidy_at-tidied.new.pass in let k = seen_of c.try_go_down.new.pass in
    counts_on me ((c.loop-steps.freed + c.try_tidy_at-tidied.result.freed) % 2 ^ 32) (seen_of c.args.pass.now) h₁ k (counts g at) (frees_as me c.try_tidy_at-tidied.new.pass.caller h₁ k (now g at) c.try_go_down.ensures.frees)

pub returns-in-Here-clause-stretch : goal.returns-in-Here-clause-stretch
returns-in-Here-clause-stretch g c = let at = (goal.at.returns-in-Here-clause-stretch g c).After-try_tidy_at-tidied in let me : ℕ = c.args.pass.now.caller in let h₁ = seen_of c.try_tidy_at-tidied.new.pass in let k = seen_of c.leave.new.pass in
    stretches_both me (seen_of c.args.pass.now) h₁ k (stretch g at) (stretches_as me c.try_tidy_at-tidied.new.pass.caller h₁ k (now g at) c.leave.ensures.stretch)

pub returns-in-Here-clause-counts : goal.returns-in-Here-clause-counts
returns-in-Here-clause-counts g c = let at = (goal.at.returns-in-Here-clause-counts g c).After-try_tidy_at-tidied in let me : ℕ = c.args.pass.now.caller in let h₁ = seen_of c.try_tidy_at-tidied.new.pass in let k = seen_of c.leave.new.pass in
    counts_on me ((c.loop-steps.freed + c.try_tidy_at-tidied.result.freed) % 2 ^ 32) (seen_of c.args.pass.now) h₁ k (counts g at) (frees_as me c.try_tidy_at-tidied.new.pass.caller h₁ k (now g at) c.leave.ensures.frees)

-- as many nodes were taken as there are

pub leave-requires-2-clause-pair : goal.leave-requires-2-clause-pair
leave-requires-2-clause-pair g c = subst (λ (z : ℕ). IsPair (sort_of g.N.Node.layout g.N.Node.ranged) g.N.Node.body z c.args.place (seen_of c.loop-steps.pass) c.loop-steps.path) (sym c.loop-steps.invariant.1) c.loop-steps.invariant.2

pub returns-clause-stretch : goal.returns-clause-stretch
returns-clause-stretch g c = let me : ℕ = c.args.pass.now.caller in let inv = c.loop-steps.invariant in let h₁ = seen_of c.loop-steps.pass in let k = seen_of c.leave-2.new.pass in
    stretches_both me (seen_of c.args.pass.now) h₁ k inv.3 (stretches_as me c.loop-steps.pass.caller h₁ k inv.1 c.leave-2.ensures.stretch)

pub returns-clause-counts : goal.returns-clause-counts
returns-clause-counts g c = let me : ℕ = c.args.pass.now.caller in let inv = c.loop-steps.invariant in let h₁ = seen_of c.loop-steps.pass in let k = seen_of c.leave-2.new.pass in
    counts_on me c.loop-steps.freed (seen_of c.args.pass.now) h₁ k inv.4 (frees_as me c.loop-steps.pass.caller h₁ k inv.1 c.leave-2.ensures.frees)

-- the kinds of its events

pub returns-in-Err-clause-dels : goal.returns-in-Err-clause-dels
returns-in-Err-clause-dels g c = searched_dels (sort_of g.N.Node.layout g.N.Node.ranged) c.args.pass.now.caller (seen_of c.args.pass.now) (seen_of c.try_enter.new.pass) c.try_enter.ensures.leaves

pub returns-in-None-clause-dels : goal.returns-in-None-clause-dels
returns-in-None-clause-dels g c = let at = (goal.at.returns-in-None-clause-dels g c).After-try_tidy_at-tidied in dels_search (sort_of g.N.Node.layout g.N.Node.ranged) c.args.pass.now.caller c.try_tidy_at-tidied.new.pass.caller (seen_of c.args.pass.now) (seen_of c.try_tidy_at-tidied.new.pass) (seen_of c.try_go_down.new.pass) (now g at) (dels g at) c.try_go_down.ensures.leaves

pub returns-in-Here-clause-dels : goal.returns-in-Here-clause-dels
returns-in-Here-clause-dels g c = let at = (goal.at.returns-in-Here-clause-dels g c).After-try_tidy_at-tidied in dels_search (sort_of g.N.Node.layout g.N.Node.ranged) c.args.pass.now.caller c.try_tidy_at-tidied.new.pass.caller (seen_of c.args.pass.now) (seen_of c.try_tidy_at-tidied.new.pass) (seen_of c.leave.new.pass) (now g at) (dels g at) c.leave.ensures.leaves

pub returns-clause-dels : goal.returns-clause-dels
returns-clause-dels g c = let inv = c.loop-steps.invariant in dels_search (sort_of g.N.Node.layout g.N.Node.ranged) c.args.pass.now.caller c.loop-steps.pass.caller (seen_of c.args.pass.now) (seen_of c.loop-steps.pass) (seen_of c.leave-2.new.pass) inv.1 inv.5 c.leave-2.ensures.leaves
