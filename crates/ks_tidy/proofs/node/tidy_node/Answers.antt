use Rattle.std.proofs.Common.{◌≡◌, ◌∙◌, ◌+◌, ℕ, true, false, arith, refl, sym, subst}
use Rattle.std.specs.Prelude.{◌⊎◌, IsTrue}
use Rattle.ks_history.specs.Alone.{ActsAlone}
use Rattle.ks_history.specs.Laws.Alone.{alone_then}
use Rattle.ks_history.specs.Trace.{graph_after}
use Rattle.ks_node.specs.Room.{in_place, is_low}
use Rattle.ks_arena.specs.Sound.{sort_of}
use Rattle.ks_arena.specs.Clauses.{hand_of, seen_of}
use Rattle.ks_shape.specs.declared.path.Path.{Path}
use Rattle.ks_shape.specs.Laws.Places.{places_both}
use Rattle.ks_shape.specs.Laws.Stretches.{stretches_as, stretches_both, stretches_here}
use Rattle.ks_shape.specs.Laws.Frees.{counts_more, counts_of, counts_on, frees_as, frees_begins, frees_both, frees_here, frees_same, undisturbed_first}
use Rattle.ks_tidy.specs.Pair.{ComesAgain, FitsAlone, IsNoSole, IsPair, IsWhole}
use Rattle.ks_tidy.proofs.Again.{again_here, again_more, again_on}
use Rattle.ks_tidy.proofs.Keeping.{few_on}
use Rattle.ks_tidy.proofs.Steps.{places_here}
use Rattle.ks_shape.specs.Does.{MayDel}
use Rattle.ks_shape.specs.Laws.Does.{does_none, does_on}
use Rattle.ks_tidy.proofs.node.tidy_node.Goals as goal

pub loop-init : goal.loop-init
loop-init g c = let me : ℕ = c.args.pass.now.caller in let h = seen_of c.args.pass.now in (
  c.requires.pass,
  refl,
  c.requires.pair,
  places_here (graph_after h) c.args.path.node.node,
  stretches_here me h (let few = few_on c.args.path.parent (hand_of c.args.pass.now) c.args.path.node.node c.requires.pair.path.hands in omega (arith, few)),
  counts_of me 0 h h (omega arith) (frees_here me h),
  (λ calm. refl),
  (λ off. does_none (MayDel (sort_of g.N.Node.layout g.N.Node.ranged)) me h),
  again_here (in_place g.N.Node.layout) me h,
  (λ off on. refl),
)

pub loop-preserved : goal.loop-preserved
loop-preserved g c = let me : ℕ = c.args.pass.now.caller in let s = seen_of c.args.pass.now in let h = seen_of c.loop.pass in let k = seen_of c.tidy_once.new.pass in let inv = c.loop.invariant in let e = c.tidy_once.ensures in let sort = sort_of g.N.Node.layout g.N.Node.ranged in
    let one = frees_as me c.loop.pass.caller h k inv.1 c.in-Freed.ensures.step in (
      e.pass,
      e.caller ∙ inv.1,
      subst (λ (z : ℕ). IsPair sort g.N.Node.body z c.args.place k c.in-Freed.next) inv.1 c.in-Freed.ensures.pair,
      places_both (graph_after s) (graph_after h) (graph_after k) c.args.path.node.node c.loop.path.node.node c.in-Freed.next.node.node inv.3 c.in-Freed.ensures.places,
      stretches_both me s h k inv.4 (stretches_as me c.loop.pass.caller h k inv.1 e.stretch),
      counts_more me c.loop.freed 1 s h k inv.5 one,
      (λ calm. absurd (let zero = frees_same me (inv.5.count + 1) 0 s k (frees_both me inv.5.count 1 s h k inv.5.frees one) calm.none in omega (arith, zero))),
      (λ off. does_on (MayDel (sort_of g.N.Node.layout g.N.Node.ranged)) me c.loop.pass.caller s h k inv.1 (inv.7 off) (e.dels off)),
      subst (ComesAgain (in_place g.N.Node.layout) me s k) (sym c.grows_in_place-again.ensures) (again_more (in_place g.N.Node.layout) me inv.5.count s h k inv.5.frees one),
      (λ off on. absurd (let q : true ≡ false = sym on ∙ sym c.grows_in_place-again.ensures ∙ off in let z : ⊥ = cc in z)),
    )

pub returns-in-Rests-clause-pair : goal.returns-in-Rests-clause-pair
returns-in-Rests-clause-pair g c = let k = seen_of c.tidy_once.new.pass in subst (λ (z : ℕ). IsPair (sort_of g.N.Node.layout g.N.Node.ranged) g.N.Node.body z c.args.place k c.in-Rests.rest) c.loop.invariant.1 c.in-Rests.ensures.pair

pub returns-in-Rests-clause-places : goal.returns-in-Rests-clause-places
returns-in-Rests-clause-places g c = let s = seen_of c.args.pass.now in let h = seen_of c.loop.pass in let k = seen_of c.tidy_once.new.pass in
    places_both (graph_after s) (graph_after h) (graph_after k) c.args.path.node.node c.loop.path.node.node c.in-Rests.rest.node.node c.loop.invariant.3 c.in-Rests.ensures.places

pub returns-in-Rests-clause-stretch : goal.returns-in-Rests-clause-stretch
returns-in-Rests-clause-stretch g c = let me : ℕ = c.args.pass.now.caller in let s = seen_of c.args.pass.now in let h = seen_of c.loop.pass in let k = seen_of c.tidy_once.new.pass in let inv = c.loop.invariant in
    stretches_both me s h k inv.4 (stretches_as me c.loop.pass.caller h k inv.1 c.tidy_once.ensures.stretch)

pub returns-in-Rests-clause-counts : goal.returns-in-Rests-clause-counts
returns-in-Rests-clause-counts g c = let me : ℕ = c.args.pass.now.caller in let s = seen_of c.args.pass.now in let h = seen_of c.loop.pass in let k = seen_of c.tidy_once.new.pass in let inv = c.loop.invariant in
    counts_on me c.loop.freed s h k inv.5 (frees_as me c.loop.pass.caller h k inv.1 c.in-Rests.ensures.step.frees)

pub returns-in-Rests-clause-same : goal.returns-in-Rests-clause-same
returns-in-Rests-clause-same g c = λ calm. let me : ℕ = c.args.pass.now.caller in let s = seen_of c.args.pass.now in let h = seen_of c.loop.pass in let k = seen_of c.tidy_once.new.pass in let inv = c.loop.invariant in
    c.in-Rests.ensures.step.same ∙ inv.6 (undisturbed_first me inv.5.count 0 s h k inv.5.frees (frees_as me c.loop.pass.caller h k inv.1 c.in-Rests.ensures.step.frees) calm)

pub returns-in-Rests-clause-again : goal.returns-in-Rests-clause-again
returns-in-Rests-clause-again g c = let me : ℕ = c.args.pass.now.caller in let s = seen_of c.args.pass.now in let h = seen_of c.loop.pass in let k = seen_of c.tidy_once.new.pass in let inv = c.loop.invariant in
    again_on (in_place g.N.Node.layout) me inv.5.count s h k c.loop.again inv.5.frees inv.8 (frees_as me c.loop.pass.caller h k inv.1 c.in-Rests.ensures.step.frees)

pub returns-in-Rests-clause-rests : goal.returns-in-Rests-clause-rests
returns-in-Rests-clause-rests g c = λ off on. c.in-Rests.ensures.step.same ∙ c.loop.invariant.9 off on

pub returns-in-Rests-clause-no_sole : goal.returns-in-Rests-clause-no_sole
returns-in-Rests-clause-no_sole g c = let step = c.in-Rests.ensures.step in subst (λ (z : Path g.row.N.Denot). IsNoSole (sort_of g.N.Node.layout g.N.Node.ranged) g.N.Node.body z.parent) (sym step.same) step.no_sole

pub returns-in-Rests-clause-tested : goal.returns-in-Rests-clause-tested
returns-in-Rests-clause-tested g c = λ whole which alone. let me : ℕ = c.args.pass.now.caller in let s = seen_of c.args.pass.now in let h = seen_of c.loop.pass in let k = seen_of c.tidy_once.new.pass in let inv = c.loop.invariant in let step = c.in-Rests.ensures.step in let sort = sort_of g.N.Node.layout g.N.Node.ranged in
    let now : ActsAlone me h k = alone_then me s h k (frees_begins me s h inv.5.frees) (frees_begins me h k (frees_as me c.loop.pass.caller h k inv.1 step.frees)) alone in
    let low = subst (λ (z : Path g.row.N.Denot). IsTrue c.args.thorough ⊎ IsTrue (is_low g.N.Node.layout (g.N.Node.body z.node.body))) step.same which in
    subst (λ (z : Path g.row.N.Denot). FitsAlone sort g.N.Node.body me z.node.node h k) (sym step.same) (subst (λ (z : ℕ). FitsAlone sort g.N.Node.body z c.loop.path.node.node h k) inv.1 (step.tested (subst IsWhole step.same whole) low)) now

pub returns-in-Rests-clause-dels : goal.returns-in-Rests-clause-dels
returns-in-Rests-clause-dels g c = λ off. let inv = c.loop.invariant in does_on (MayDel (sort_of g.N.Node.layout g.N.Node.ranged)) c.args.pass.now.caller c.loop.pass.caller (seen_of c.args.pass.now) (seen_of c.loop.pass) (seen_of c.tidy_once.new.pass) inv.1 (inv.7 off) (c.tidy_once.ensures.dels off)
