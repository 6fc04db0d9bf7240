use Rattle.std.proofs.Common.{◌≡◌, ◌∙◌, ℕ, [], sym, subst, arith}
use Rattle.ks_history.specs.Own.{hand}
use Rattle.ks_history.specs.Done.{link_move}
use Rattle.ks_history.specs.Underway.{Underway}
use Rattle.ks_history.specs.Laws.Underway.{underway_first}
use Rattle.ks_arena.specs.Sound.{sort_of}
use Rattle.ks_arena.specs.Clauses.{seen_of}
use Rattle.ks_arena.specs.Visits.{held_if}
use Rattle.ks_shape.specs.Does.{DoesOnly, MaySearch}
use Rattle.ks_shape.specs.Laws.Does.{does_both}
use Rattle.ks_shape.specs.Laws.Located.{hint_begins, hint_on}
use Rattle.ks_shape.specs.Laws.Makes.{makes_both}
use Rattle.ks_shape.specs.Makes.{MakesNone}
use Rattle.ks_shape.specs.SearchEnd.{IsEnd}
use Rattle.ks_link.specs.Near.{CameNear, HasWalked}
use Rattle.ks_link.proofs.Where.{was_above_since}
use Rattle.ks_link.proofs.near.find_near.Given.{Over}
use Rattle.ks_link.proofs.near.find_near.Goals as goal
use Rattle.ks_link.proofs.near.find_near.Goals.{After-walk_from}

pub begin_at-begun-requires-clause-node : goal.begin_at-begun-requires-clause-node
begin_at-begun-requires-clause-node g c = omega (arith, c.start_of-start.ensures.near (omega (arith, c.nodes-nodes.ensures)), c.nodes-nodes.ensures)

pub loop-init : goal.loop-init
loop-init g c = let me : ℕ = c.args.pass.now.caller in let s = seen_of c.args.pass.now in let k = seen_of c.begin_at-begun.new.pass in let e = c.begin_at-begun.ensures in (
  e.pass,
  e.caller,
  e.came,
  e.lies,
  (λ op. e.under op s (underway_first link_move me op s c.requires.pass.1)),
  e.makes,
  e.leaves,
  hint_begins c.args.arena.now.nodes c.nodes-nodes.result me c.start_of-start.result s k c.nodes-nodes.ensures c.args.hint c.start_of-start.ensures.hinted e.first,
)

pub walk_from-requires-clause-begun : goal.walk_from-requires-clause-begun
walk_from-requires-clause-begun g c = subst (λ (z : ℕ). CameNear (sort_of g.N.Node.layout g.N.Node.ranged) g.N.Node.body z c.args.place (seen_of c.loop.pass) (held_if c.loop.begun)) (sym c.loop.invariant.1) c.loop.invariant.2

-- up to the end of the walk

same : (g : Over) (c : After-walk_from g) → c.walk_from.new.pass.caller ≡ c.args.pass.now.caller
same g c = c.walk_from.ensures.caller ∙ c.loop.invariant.1

walked : (g : Over) (c : After-walk_from g) → HasWalked (sort_of g.N.Node.layout g.N.Node.ranged) g.N.Node.body c.args.pass.now.caller c.args.place (seen_of c.loop.pass) (seen_of c.walk_from.new.pass) c.walk_from.result
walked g c = subst (λ (z : ℕ). HasWalked (sort_of g.N.Node.layout g.N.Node.ranged) g.N.Node.body z c.args.place (seen_of c.loop.pass) (seen_of c.walk_from.new.pass) c.walk_from.result) c.loop.invariant.1 c.walk_from.ensures.walked

on : (g : Over) (c : After-walk_from g) → DoesOnly MaySearch c.args.pass.now.caller (seen_of c.loop.pass) (seen_of c.walk_from.new.pass)
on g c = subst (λ (z : ℕ). DoesOnly MaySearch z (seen_of c.loop.pass) (seen_of c.walk_from.new.pass)) c.loop.invariant.1 c.walk_from.ensures.leaves

under : (g : Over) (c : After-walk_from g) → (op : _) → Underway link_move c.args.pass.now.caller op (seen_of c.args.pass.now) (seen_of c.walk_from.new.pass)
under g c = λ op. let s = seen_of c.args.pass.now in subst (λ (z : ℕ). Underway link_move z op s (seen_of c.loop.pass) → Underway link_move z op s (seen_of c.walk_from.new.pass)) c.loop.invariant.1 (c.walk_from.ensures.under op s) (c.loop.invariant.4 op)

makes : (g : Over) (c : After-walk_from g) → MakesNone c.args.pass.now.caller (seen_of c.args.pass.now) (seen_of c.walk_from.new.pass)
makes g c = let h = seen_of c.loop.pass in let k = seen_of c.walk_from.new.pass in makes_both c.args.pass.now.caller (seen_of c.args.pass.now) h k c.loop.invariant.6.grows (on g c).grows c.loop.invariant.5 (subst (λ (z : ℕ). MakesNone z h k) c.loop.invariant.1 c.walk_from.ensures.makes)

leaves : (g : Over) (c : After-walk_from g) → DoesOnly MaySearch c.args.pass.now.caller (seen_of c.args.pass.now) (seen_of c.walk_from.new.pass)
leaves g c = does_both MaySearch c.args.pass.now.caller (seen_of c.args.pass.now) (seen_of c.loop.pass) (seen_of c.walk_from.new.pass) c.loop.invariant.6 (on g c)

-- it has ended

pub returns-in-Some-walk_from-clause-leaves : goal.returns-in-Some-walk_from-clause-leaves
returns-in-Some-walk_from-clause-leaves g c = leaves g (goal.at.returns-in-Some-walk_from-clause-leaves g c).After-walk_from

pub returns-in-Some-walk_from-clause-under : goal.returns-in-Some-walk_from-clause-under
returns-in-Some-walk_from-clause-under g c = under g (goal.at.returns-in-Some-walk_from-clause-under g c).After-walk_from

pub returns-in-Some-walk_from-clause-makes : goal.returns-in-Some-walk_from-clause-makes
returns-in-Some-walk_from-clause-makes g c = makes g (goal.at.returns-in-Some-walk_from-clause-makes g c).After-walk_from

pub returns-in-Some-walk_from-clause-way : goal.returns-in-Some-walk_from-clause-way
returns-in-Some-walk_from-clause-way g c = (rw c.in-Some-walk_from.is at (walked g (goal.at.returns-in-Some-walk_from-clause-way g c).After-walk_from)).0

pub returns-in-Some-walk_from-clause-ends : goal.returns-in-Some-walk_from-clause-ends
returns-in-Some-walk_from-clause-ends g c = let at = (goal.at.returns-in-Some-walk_from-clause-ends g c).After-walk_from in
    subst (λ (z : ℕ). IsEnd (sort_of g.N.Node.layout g.N.Node.ranged) g.N.Node.body z c.args.place (seen_of c.walk_from.new.pass) c.in-Some-walk_from.reached.held) (sym (same g at)) (rw c.in-Some-walk_from.is at (walked g at)).1

pub returns-in-Some-walk_from-clause-above : goal.returns-in-Some-walk_from-clause-above
returns-in-Some-walk_from-clause-above g c = let at = (goal.at.returns-in-Some-walk_from-clause-above g c).After-walk_from in
    was_above_since (sort_of g.N.Node.layout g.N.Node.ranged) c.args.place (seen_of c.args.pass.now) (seen_of c.loop.pass) (seen_of c.walk_from.new.pass) c.loop.invariant.6.grows c.in-Some-walk_from.reached.above (rw c.in-Some-walk_from.is at (walked g at)).2

pub returns-in-Some-walk_from-clause-first : goal.returns-in-Some-walk_from-clause-first
returns-in-Some-walk_from-clause-first g c = let at = (goal.at.returns-in-Some-walk_from-clause-first g c).After-walk_from in
    hint_on c.args.arena.now.nodes c.args.pass.now.caller (seen_of c.args.pass.now) (seen_of c.loop.pass) (seen_of c.walk_from.new.pass) c.loop.invariant.6.grows (on g at).grows c.args.hint c.loop.invariant.7

-- it begins at the root

pub begin_at-begun-requires-in-None-walk_from-clause-pass : goal.begin_at-begun-requires-in-None-walk_from-clause-pass
begin_at-begun-requires-in-None-walk_from-clause-pass g c = let at = (goal.at.begin_at-begun-requires-in-None-walk_from-clause-pass g c).After-walk_from in
    (c.walk_from.ensures.pass, subst (λ (z : ℕ). hand z (seen_of c.walk_from.new.pass) ≡ []) (sym (same g at)) (rw c.in-None-walk_from.is at (walked g at)))

pub loop-preserved : goal.loop-preserved
loop-preserved g c = let at = (goal.at.loop-preserved g c).After-walk_from in let sort = sort_of g.N.Node.layout g.N.Node.ranged in let me : ℕ = c.args.pass.now.caller in let inv = c.loop.invariant in let s = seen_of c.args.pass.now in let h = seen_of c.loop.pass in let k = seen_of c.walk_from.new.pass in let l = seen_of c.begin_at-begun-in-None-walk_from.new.pass in let e = c.begin_at-begun-in-None-walk_from.ensures in
    let own = same g at in
    let more : DoesOnly MaySearch me k l = subst (λ (z : ℕ). DoesOnly MaySearch z k l) own e.leaves in
    let both : DoesOnly MaySearch me h l = does_both MaySearch me h k l (on g at) more in (
      e.pass,
      e.caller ∙ own,
      subst (λ (z : ℕ). CameNear sort g.N.Node.body z c.args.place l (held_if c.begin_at-begun-in-None-walk_from.result)) own e.came,
      e.lies,
      (λ op. subst (λ (z : ℕ). Underway link_move z op s k → Underway link_move z op s l) own (e.under op s) (under g at op)),
      makes_both me s k l (leaves g at).grows more.grows (makes g at) (subst (λ (z : ℕ). MakesNone z k l) own e.makes),
      does_both MaySearch me s k l (leaves g at) more,
      hint_on c.args.arena.now.nodes me s h l inv.6.grows both.grows c.args.hint inv.7,
    )
