use Rattle.std.proofs.Common.{◌∙◌, ℕ, sym, subst}
use Rattle.ks_history.specs.Alone.{ActsAlone}
use Rattle.ks_history.specs.Laws.Alone.{alone_then}
use Rattle.ks_arena.specs.Sound.{sort_of}
use Rattle.ks_arena.specs.Clauses.{seen_of}
use Rattle.ks_shape.specs.Laws.Stretches.{stretches_as, stretches_begins, stretches_both}
use Rattle.ks_shape.specs.Laws.Frees.{counts_as, counts_both, frees_as}
use Rattle.ks_node.specs.Room.{in_place}
use Rattle.ks_tidy.specs.Pair.{ComesAgain, IsPair}
use Rattle.ks_tidy.proofs.Again.{again_as, again_both, neither}
use Rattle.ks_tidy.proofs.Standing.{keyset_here}
use Rattle.ks_shape.specs.Does.{MayDel}
use Rattle.ks_shape.specs.Laws.Does.{does_on}
use Rattle.ks_tidy.proofs.descent.sweep.Goals as goal

pub tidy_end-ended-requires-clause-pair : goal.tidy_end-ended-requires-clause-pair
tidy_end-ended-requires-clause-pair g c = subst (λ (z : ℕ). IsPair (sort_of g.N.Node.layout g.N.Node.ranged) g.N.Node.body z c.args.place (seen_of c.come_down-path.new.pass) c.come_down-path.result.path) (sym c.come_down-path.ensures.caller) c.come_down-path.ensures.pair

pub tidy_end-ended-requires-clause-ends : goal.tidy_end-ended-requires-clause-ends
tidy_end-ended-requires-clause-ends g c = let e = c.come_down-path.ensures in let path = e.pair.path in keyset_here (sort_of g.N.Node.layout g.N.Node.ranged) g.N.Node.body c.args.place (seen_of c.come_down-path.new.pass) c.come_down-path.result.path.node path.live path.matches c.node_law.ensures.sound path.inside e.ends

pub returns-clause-stretch : goal.returns-clause-stretch
returns-clause-stretch g c = let me : ℕ = c.args.pass.now.caller in let h = seen_of c.args.pass.now in let h₁ = seen_of c.come_down-path.new.pass in let k = seen_of c.tidy_end-ended.new.pass in
    stretches_both me h h₁ k c.come_down-path.ensures.stretch (stretches_as me c.come_down-path.new.pass.caller h₁ k c.come_down-path.ensures.caller c.tidy_end-ended.ensures.stretch)

pub returns-clause-counts : goal.returns-clause-counts
returns-clause-counts g c = let me : ℕ = c.args.pass.now.caller in let h = seen_of c.args.pass.now in let h₁ = seen_of c.come_down-path.new.pass in let k = seen_of c.tidy_end-ended.new.pass in
    counts_both me c.come_down-path.result.freed c.tidy_end-ended.result.freed h h₁ k c.come_down-path.ensures.counts (counts_as me c.come_down-path.new.pass.caller c.tidy_end-ended.result.freed h₁ k c.come_down-path.ensures.caller c.tidy_end-ended.ensures.counts)

pub returns-clause-again : goal.returns-clause-again
returns-clause-again g c = let me : ℕ = c.args.pass.now.caller in let h = seen_of c.args.pass.now in let h₁ = seen_of c.come_down-path.new.pass in let k = seen_of c.tidy_end-ended.new.pass in let b : ℕ = c.come_down-path.new.pass.caller in let e = c.come_down-path.ensures in let t = c.tidy_end-ended.ensures in
    subst (ComesAgain (in_place g.N.Node.layout) me h k) (sym c.either.ensures)
    (again_both (in_place g.N.Node.layout) me e.counts.count t.counts.count h h₁ k c.come_down-path.result.again c.tidy_end-ended.result.again e.counts.frees (frees_as me b h₁ k e.caller t.counts.frees) e.again (again_as (in_place g.N.Node.layout) me b h₁ k c.tidy_end-ended.result.again e.caller t.again))

pub returns-clause-tidy : goal.returns-clause-tidy
returns-clause-tidy g c = λ last alone. let me : ℕ = c.args.pass.now.caller in let h = seen_of c.args.pass.now in let h₁ = seen_of c.come_down-path.new.pass in let k = seen_of c.tidy_end-ended.new.pass in let e = c.come_down-path.ensures.caller in
    let on = stretches_as me c.come_down-path.new.pass.caller h₁ k e c.tidy_end-ended.ensures.stretch in
    let then : ActsAlone me h₁ k = alone_then me h h₁ k (stretches_begins me h h₁ c.come_down-path.ensures.stretch) (stretches_begins me h₁ k on) alone in
    c.tidy_end-ended.ensures.tidy (λ on. let off = neither c.come_down-path.result.again c.tidy_end-ended.result.again (sym c.either.ensures ∙ last on) in (c.come_down-path.ensures.whole off.0, off.1)) (subst (λ (z : ℕ). ActsAlone z h₁ k) (sym e) then)

pub returns-clause-dels : goal.returns-clause-dels
returns-clause-dels g c = does_on (MayDel (sort_of g.N.Node.layout g.N.Node.ranged)) c.args.pass.now.caller c.come_down-path.new.pass.caller (seen_of c.args.pass.now) (seen_of c.come_down-path.new.pass) (seen_of c.tidy_end-ended.new.pass) c.come_down-path.ensures.caller c.come_down-path.ensures.dels c.tidy_end-ended.ensures.dels
