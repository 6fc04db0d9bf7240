use Rattle.std.proofs.Common.{◌≡◌, ◌∙◌, ◌+◌, ◌%◌, ◌^◌, ℕ, false, arith, sym, subst, inl, inr}
use Rattle.std.specs.Prelude.{Some, None}
use Rattle.ks_arena.specs.Sound.{sort_of}
use Rattle.ks_arena.specs.Clauses.{seen_of}
use Rattle.ks_shape.specs.Stretches.{Stretches}
use Rattle.ks_shape.specs.Laws.Stretches.{stretches_as, stretches_both}
use Rattle.ks_shape.specs.Frees.{Counts}
use Rattle.ks_shape.specs.Laws.Frees.{counts_as, counts_both, counts_of, counts_on, frees_as}
use Rattle.ks_node.specs.Room.{in_place}
use Rattle.ks_tidy.specs.Pair.{ComesAgain, IsPair, IsWhole}
use Rattle.ks_tidy.proofs.Again.{again_as, again_both, again_none, again_on, neither}
use Rattle.ks_shape.specs.Does.{DoesOnly, MayDel}
use Rattle.ks_shape.specs.Laws.Does.{dels_search, does_on, searched_dels}
use Rattle.ks_tidy.proofs.descent.come_down.Given.{Over}
use Rattle.ks_tidy.proofs.descent.come_down.Goals as goal
use Rattle.ks_tidy.proofs.descent.come_down.Goals.{After-tidy_branch-tidied, After-either-again}

pub loop-init : goal.loop-init
loop-init g c = let me : ℕ = c.args.pass.now.caller in let h = seen_of c.args.pass.now in let k = seen_of c.descend-path.new.pass in let e = c.descend-path.ensures in
    (e.pass, e.caller, e.pair, e.stretch, counts_of me 0 h k (omega arith) e.frees, searched_dels (sort_of g.N.Node.layout g.N.Node.ranged) me h k e.leaves, again_none (in_place g.N.Node.layout) me h k e.frees, e.whole)

-- where the search is after it tidied
now : (g : Over) (c : After-tidy_branch-tidied g) → c.tidy_branch-tidied.new.pass.caller ≡ c.args.pass.now.caller
now g c = c.tidy_branch-tidied.ensures.caller ∙ c.loop.invariant.1

pair : (g : Over) (c : After-tidy_branch-tidied g) → IsPair (sort_of g.N.Node.layout g.N.Node.ranged) g.N.Node.body c.args.pass.now.caller c.args.place (seen_of c.tidy_branch-tidied.new.pass) c.tidy_branch-tidied.result.path
pair g c = subst (λ (z : ℕ). IsPair (sort_of g.N.Node.layout g.N.Node.ranged) g.N.Node.body z c.args.place (seen_of c.tidy_branch-tidied.new.pass) c.tidy_branch-tidied.result.path) c.loop.invariant.1 c.tidy_branch-tidied.ensures.pair

stretch : (g : Over) (c : After-tidy_branch-tidied g) → Stretches c.args.pass.now.caller (seen_of c.args.pass.now) (seen_of c.tidy_branch-tidied.new.pass)
stretch g c = let me : ℕ = c.args.pass.now.caller in let h = seen_of c.loop.pass in let k = seen_of c.tidy_branch-tidied.new.pass in
    stretches_both me (seen_of c.args.pass.now) h k c.loop.invariant.3 (stretches_as me c.loop.pass.caller h k c.loop.invariant.1 c.tidy_branch-tidied.ensures.stretch)

counts : (g : Over) (c : After-tidy_branch-tidied g) → Counts c.args.pass.now.caller (seen_of c.args.pass.now) (seen_of c.tidy_branch-tidied.new.pass) ((c.loop.freed + c.tidy_branch-tidied.result.freed) % 2 ^ 32)
counts g c = let me : ℕ = c.args.pass.now.caller in let h = seen_of c.loop.pass in let k = seen_of c.tidy_branch-tidied.new.pass in
    counts_both me c.loop.freed c.tidy_branch-tidied.result.freed (seen_of c.args.pass.now) h k c.loop.invariant.4 (counts_as me c.loop.pass.caller c.tidy_branch-tidied.result.freed h k c.loop.invariant.1 c.tidy_branch-tidied.ensures.counts)

dels : (g : Over) (c : After-tidy_branch-tidied g) → DoesOnly (MayDel (sort_of g.N.Node.layout g.N.Node.ranged)) c.args.pass.now.caller (seen_of c.args.pass.now) (seen_of c.tidy_branch-tidied.new.pass)
dels g c = does_on (MayDel (sort_of g.N.Node.layout g.N.Node.ranged)) c.args.pass.now.caller c.loop.pass.caller (seen_of c.args.pass.now) (seen_of c.loop.pass) (seen_of c.tidy_branch-tidied.new.pass) c.loop.invariant.1 c.loop.invariant.5 c.tidy_branch-tidied.ensures.dels

again : (g : Over) (c : After-either-again g) → ComesAgain (in_place g.N.Node.layout) c.args.pass.now.caller (seen_of c.args.pass.now) (seen_of c.tidy_branch-tidied.new.pass) c.either-again.result
again g c = let me : ℕ = c.args.pass.now.caller in let s = seen_of c.args.pass.now in let h = seen_of c.loop.pass in let k = seen_of c.tidy_branch-tidied.new.pass in let inv = c.loop.invariant in let e = c.tidy_branch-tidied.ensures in
    subst (ComesAgain (in_place g.N.Node.layout) me s k) (sym c.either-again.ensures)
    (again_both (in_place g.N.Node.layout) me inv.4.count e.counts.count s h k c.loop.again c.tidy_branch-tidied.result.again inv.4.frees (frees_as me c.loop.pass.caller h k inv.1 e.counts.frees) inv.6 (again_as (in_place g.N.Node.layout) me c.loop.pass.caller h k c.tidy_branch-tidied.result.again inv.1 e.again))

whole : (g : Over) (c : After-either-again g) → c.either-again.result ≡ false → IsWhole c.tidy_branch-tidied.result.path
whole g c off = λ none. elim (c.tidy_branch-tidied.ensures.pair.rooted none) [
  | inl root ↦ root
  | inr on ↦ (subst IsWhole (sym (c.tidy_branch-tidied.ensures.rests (neither c.loop.again c.tidy_branch-tidied.result.again (sym c.either-again.ensures ∙ off)).1 on)) c.loop.invariant.7 none)
]

pub go_down-path-requires-clause-pair : goal.go_down-path-requires-clause-pair
go_down-path-requires-clause-pair g c = let at = (goal.at.go_down-path-requires-clause-pair g c).After-tidy_branch-tidied in subst (λ (z : ℕ). IsPair (sort_of g.N.Node.layout g.N.Node.ranged) g.N.Node.body z c.args.place (seen_of c.tidy_branch-tidied.new.pass) c.tidy_branch-tidied.result.path) (sym (now g at)) (pair g at)

pub loop-preserved : goal.loop-preserved
loop-preserved g c = let at = (goal.at.loop-preserved g c).After-tidy_branch-tidied in let me : ℕ = c.args.pass.now.caller in let s = seen_of c.args.pass.now in let h₁ = seen_of c.tidy_branch-tidied.new.pass in let b : ℕ = c.tidy_branch-tidied.new.pass.caller in let k = seen_of c.go_down-path.new.pass in let e = c.go_down-path.ensures in (
  e.pass,
  e.caller ∙ now g at,
  subst (λ (z : ℕ). IsPair (sort_of g.N.Node.layout g.N.Node.ranged) g.N.Node.body z c.args.place k c.go_down-path.result) (now g at) e.pair,
  stretches_both me s h₁ k (stretch g at) (stretches_as me b h₁ k (now g at) e.stretch),
  counts_on me ((c.loop.freed + c.tidy_branch-tidied.result.freed) % 2 ^ 32) s h₁ k (counts g at) (frees_as me b h₁ k (now g at) e.frees),
  dels_search (sort_of g.N.Node.layout g.N.Node.ranged) me b s h₁ k (now g at) (dels g at) e.leaves,
  again_on (in_place g.N.Node.layout) me (counts g at).count s h₁ k c.either-again.result (counts g at).frees (again g (goal.at.loop-preserved g c).After-either-again) (frees_as me b h₁ k (now g at) e.frees),
  (λ none. absurd (let q : Some c.tidy_branch-tidied.result.path.node ≡ None = sym e.parent ∙ none in let z : ⊥ = cc in z)),
)

pub returns-in-Here-clause-pair : goal.returns-in-Here-clause-pair
returns-in-Here-clause-pair g c = pair g (goal.at.returns-in-Here-clause-pair g c).After-tidy_branch-tidied

pub returns-in-Here-clause-stretch : goal.returns-in-Here-clause-stretch
returns-in-Here-clause-stretch g c = stretch g (goal.at.returns-in-Here-clause-stretch g c).After-tidy_branch-tidied

pub returns-in-Here-clause-counts : goal.returns-in-Here-clause-counts
returns-in-Here-clause-counts g c = counts g (goal.at.returns-in-Here-clause-counts g c).After-tidy_branch-tidied

pub returns-in-Here-clause-again : goal.returns-in-Here-clause-again
returns-in-Here-clause-again g c = again g (goal.at.returns-in-Here-clause-again g c).After-either-again

pub returns-in-Here-clause-whole : goal.returns-in-Here-clause-whole
returns-in-Here-clause-whole g c = whole g (goal.at.returns-in-Here-clause-whole g c).After-either-again

pub returns-in-Here-clause-dels : goal.returns-in-Here-clause-dels
returns-in-Here-clause-dels g c = dels g (goal.at.returns-in-Here-clause-dels g c).After-tidy_branch-tidied
