use Rattle.std.proofs.Common.{◌≡◌, ℕ, [], ◌∷◌, ap, ◌∙◌, length, subst, arith}
use Rattle.ks_history.specs.declared.Event.TheVariants.{Give}
use Rattle.ks_history.specs.Own.{hand}
use Rattle.ks_history.specs.Passes.{GrowsWith}
use Rattle.ks_history.specs.Done.{link_move}
use Rattle.ks_history.specs.Stretch.{Stretch}
use Rattle.ks_history.specs.Laws.Stretch.{stretch_both, stretch_give, stretch_begins}
use Rattle.ks_arena.specs.Sound.{sort_of}
use Rattle.ks_arena.specs.Clauses.{seen_of}
use Rattle.ks_link.proofs.Parting.{split_off_later}
use Rattle.ks_shape.specs.Does.{MayFill}
use Rattle.ks_shape.specs.Laws.Does.{does_on, fills_search, search_fills_on, searched_fills, searches_give}
use Rattle.ks_link.proofs.try_attaches.try_attach_one.Given.{Over}
use Rattle.ks_link.proofs.try_attaches.try_attach_one.Goals as goal
use Rattle.ks_link.proofs.try_attaches.try_attach_one.Goals.{After-ready-half, After-give}

module _ (g : Over) (c : After-ready-half g) where
  -- till the node is ready
  stretch_ready : Stretch link_move c.args.pass.now.caller (seen_of c.args.pass.now) (seen_of c.ready-half.new.pass)
  stretch_ready = stretch_both link_move c.args.pass.now.caller (seen_of c.args.pass.now) (seen_of c.try_find_above.new.pass) (seen_of c.ready-half.new.pass) c.try_find_above.ensures.stretch (subst (λ (z : ℕ). Stretch link_move z (seen_of c.try_find_above.new.pass) (seen_of c.ready-half.new.pass)) c.try_find_above.ensures.caller c.ready-half.ensures.stretch)

module _ (g : Over) (c : After-give g) where
  -- from then on
  stretch_on : Stretch link_move c.args.pass.now.caller (seen_of c.ready-half.new.pass) (seen_of c.give.new.pass)
  stretch_on = let me : ℕ = c.args.pass.now.caller in let k = seen_of c.ready-half.new.pass in let l = seen_of c.lead.new.pass in let m = seen_of c.give.new.pass in let node : ℕ = c.lead.new.held.node in
      let e = c.ready-half.ensures.caller ∙ c.try_find_above.ensures.caller in
      let gave = subst (λ (z : ℕ). GrowsWith z (Give z node) l m) (c.lead.ensures.caller ∙ e) c.give.ensures.gave in
      let alone = subst (λ (z : ℕ). hand z l ≡ node ∷ []) e c.lead.ensures.held.alone in
      stretch_both link_move me k l m (subst (λ (z : ℕ). Stretch link_move z k l) e c.lead.ensures.stretch) (stretch_give link_move me l m node (omega (arith, ap length alone)) gave)

pub ready-half-requires-clause-way : goal.ready-half-requires-clause-way
ready-half-requires-clause-way g c = c.in-Some.ensures.above.0

pub ready-half-requires-clause-above : goal.ready-half-requires-clause-above
ready-half-requires-clause-above g c = omega (arith, c.in-Some.ensures.above.1)

pub ready-half-requires-clause-within : goal.ready-half-requires-clause-within
ready-half-requires-clause-within g c = c.in-Some.ensures.above.2

pub lead-requires-clause-off : goal.lead-requires-clause-off
lead-requires-clause-off g c = let at = (goal.at.lead-requires-clause-off g c).After-ready-half in let sort = sort_of g.N.Node.layout g.N.Node.ranged in let n : ℕ = c.args.arena.now.table.shared.table_id.slots in let h = seen_of c.args.pass.now in let k = seen_of c.ready-half.new.pass in
    split_off_later sort h k c.args.to (c.sound_law.ensures.lasts sort n h k (stretch_begins link_move c.args.pass.now.caller h k (stretch_ready g at)) c.ready-half.ensures.pass.sound) c.requires.off

pub returns-clause-off : goal.returns-clause-off
returns-clause-off g c = λ w is. let at = (goal.at.returns-clause-off g c).After-give in let sort = sort_of g.N.Node.layout g.N.Node.ranged in let n : ℕ = c.args.arena.now.table.shared.table_id.slots in let k = seen_of c.ready-half.new.pass in let m = seen_of c.give.new.pass in
    split_off_later sort k m w (c.sound_law.ensures.lasts sort n k m (stretch_begins link_move c.args.pass.now.caller k m (stretch_on g at)) c.give.ensures.pass.sound) (c.ready-half.ensures.parted.2 w is).0

pub returns-clause-higher : goal.returns-clause-higher
returns-clause-higher g c = λ w is. (c.ready-half.ensures.parted.2 w is).1 ∙ c.in-Some.ensures.above.1

pub returns-clause-stretch : goal.returns-clause-stretch
returns-clause-stretch g c = let at = (goal.at.returns-clause-stretch g c).After-give in let before = (goal.at.returns-clause-stretch g c).After-ready-half in
    stretch_both link_move c.args.pass.now.caller (seen_of c.args.pass.now) (seen_of c.ready-half.new.pass) (seen_of c.give.new.pass) (stretch_ready g before) (stretch_on g at)

-- the kinds of its events

pub returns-clause-fills : goal.returns-clause-fills
returns-clause-fills g c = λ place. let own : ℕ = c.args.pass.now.caller in let h = seen_of c.args.pass.now in let i = seen_of c.try_find_above.new.pass in let j = seen_of c.ready-half.new.pass in let k = seen_of c.lead.new.pass in let l = seen_of c.give.new.pass in
    let one = c.try_find_above.ensures.caller in let two = c.ready-half.ensures.caller ∙ one in let three = c.lead.ensures.caller ∙ two in
    let first = search_fills_on (sort_of g.N.Node.layout g.N.Node.ranged) place own c.try_find_above.new.pass.caller h i j one c.try_find_above.ensures.leaves (c.ready-half.ensures.fills place) in
    let then = does_on (MayFill (sort_of g.N.Node.layout g.N.Node.ranged) place) own c.ready-half.new.pass.caller h j k two first (c.lead.ensures.fills place) in
    fills_search (sort_of g.N.Node.layout g.N.Node.ranged) place own c.lead.new.pass.caller h k l three then (searches_give c.lead.new.pass.caller c.lead.new.held.node k l c.give.ensures.gave)

pub returns-in_default-clause-fills : goal.returns-in_default-clause-fills
returns-in_default-clause-fills g c = λ place. searched_fills (sort_of g.N.Node.layout g.N.Node.ranged) place c.args.pass.now.caller (seen_of c.args.pass.now) (seen_of c.try_find_above.new.pass) c.try_find_above.ensures.leaves
