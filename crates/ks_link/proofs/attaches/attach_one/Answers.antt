use Rattle.std.proofs.Common.{◌≡◌, ℕ, List, [], ◌∷◌, inl, sym, ap, ◌∙◌, length, subst, arith}
use Rattle.ks_flow.specs.Discipline.{BeginsLink, LinkStep}
use Rattle.ks_history.specs.declared.Event.{Event}
use Rattle.ks_history.specs.declared.Event.TheVariants.{Give}
use Rattle.ks_history.specs.Alone.{ActsAlone}
use Rattle.ks_history.specs.Laws.Alone.{alone_first, alone_then}
use Rattle.ks_history.specs.Laws.Begins.{begins_both, with_begins}
use Rattle.ks_history.specs.Laws.Dues.{holds_one}
use Rattle.ks_history.specs.Laws.Stays.{lawful_in_turn}
use Rattle.ks_history.specs.Trace.{◌⊑◌}
use Rattle.ks_history.specs.Own.{hand}
use Rattle.ks_history.specs.Passes.{GrowsWith}
use Rattle.ks_history.specs.Done.{link_move}
use Rattle.ks_history.specs.Stretch.{Stretch}
use Rattle.ks_history.specs.Laws.Stretch.{stretch_both, stretch_give, stretch_begins}
use Rattle.ks_arena.specs.Sound.{Sort, Sound, sort_of}
use Rattle.ks_arena.specs.Clauses.{seen_of}
use Rattle.ks_shape.specs.Makes.{MakesNone, TwoFree}
use Rattle.ks_shape.specs.Laws.Makes.{makes_both, makes_with, two_before}
use Rattle.ks_link.specs.Descent.{IsOnWay}
use Rattle.ks_link.specs.Leads.{LedBut, waits_if}
use Rattle.ks_link.proofs.Leading.{Lasts, led_none, led_then}
use Rattle.ks_link.proofs.Parting.{live_in, split_off_later}
use Rattle.ks_shape.specs.Does.{MayFill}
use Rattle.ks_shape.specs.Laws.Does.{does_on, fills_search, search_fills_on, searches_give}
use Rattle.ks_link.proofs.attaches.attach_one.Given.{Over}
use Rattle.ks_link.proofs.attaches.attach_one.Goals as goal
use Rattle.ks_link.proofs.attaches.attach_one.Goals.{After-ready-half, After-give}

module _ (g : Over) (c : After-ready-half g) where
  -- till the node is ready
  stretch_ready : Stretch link_move c.args.pass.now.caller (seen_of c.args.pass.now) (seen_of c.ready-half.new.pass)
  stretch_ready = stretch_both link_move c.args.pass.now.caller (seen_of c.args.pass.now) (seen_of c.find_above-held.new.pass) (seen_of c.ready-half.new.pass) c.find_above-held.ensures.stretch (subst (λ (z : ℕ). Stretch link_move z (seen_of c.find_above-held.new.pass) (seen_of c.ready-half.new.pass)) c.find_above-held.ensures.caller c.ready-half.ensures.stretch)

module _ (g : Over) (c : After-give g) where
  -- from then on
  stretch_on : Stretch link_move c.args.pass.now.caller (seen_of c.ready-half.new.pass) (seen_of c.give.new.pass)
  stretch_on = let me : ℕ = c.args.pass.now.caller in let k = seen_of c.ready-half.new.pass in let l = seen_of c.lead.new.pass in let m = seen_of c.give.new.pass in let node : ℕ = c.lead.new.held.node in
      let e = c.ready-half.ensures.caller ∙ c.find_above-held.ensures.caller in
      let gave = subst (λ (z : ℕ). GrowsWith z (Give z node) l m) (c.lead.ensures.caller ∙ e) c.give.ensures.gave in
      let alone = subst (λ (z : ℕ). hand z l ≡ node ∷ []) e c.lead.ensures.held.alone in
      stretch_both link_move me k l m (subst (λ (z : ℕ). Stretch link_move z k l) e c.lead.ensures.stretch) (stretch_give link_move me l m node (omega (arith, ap length alone)) gave)

pub lead-requires-clause-off : goal.lead-requires-clause-off
lead-requires-clause-off g c = let at = (goal.at.lead-requires-clause-off g c).After-ready-half in let sort = sort_of g.N.Node.layout g.N.Node.ranged in let n : ℕ = c.args.arena.now.table.shared.table_id.slots in let h = seen_of c.args.pass.now in let k = seen_of c.ready-half.new.pass in
    split_off_later sort h k c.args.to (c.sound_law.ensures.lasts sort n h k (stretch_begins link_move c.args.pass.now.caller h k (stretch_ready g at)) c.ready-half.ensures.pass.sound) c.requires.off

pub returns-clause-off : goal.returns-clause-off
returns-clause-off g c = λ w is. let at = (goal.at.returns-clause-off g c).After-give in let sort = sort_of g.N.Node.layout g.N.Node.ranged in let n : ℕ = c.args.arena.now.table.shared.table_id.slots in let k = seen_of c.ready-half.new.pass in let m = seen_of c.give.new.pass in
    split_off_later sort k m w (c.sound_law.ensures.lasts sort n k m (stretch_begins link_move c.args.pass.now.caller k m (stretch_on g at)) c.give.ensures.pass.sound) (c.ready-half.ensures.parted.2 w is).0

pub returns-clause-stretch : goal.returns-clause-stretch
returns-clause-stretch g c = let at = (goal.at.returns-clause-stretch g c).After-give in let before = (goal.at.returns-clause-stretch g c).After-ready-half in
    stretch_both link_move c.args.pass.now.caller (seen_of c.args.pass.now) (seen_of c.ready-half.new.pass) (seen_of c.give.new.pass) (stretch_ready g before) (stretch_on g at)

module _ (g : Over) (c : After-give g) where
  abbrev me : ℕ
  me = c.args.pass.now.caller

  abbrev sort : Sort
  sort = sort_of g.N.Node.layout g.N.Node.ranged

  abbrev n : ℕ
  n = c.args.arena.now.table.shared.table_id.slots

  -- the moments: at first, over the node, once it is ready, once it leads, and at the end

  abbrev first : List Event
  first = seen_of c.args.pass.now

  abbrev over : List Event
  over = seen_of c.find_above-held.new.pass

  abbrev prepared : List Event
  prepared = seen_of c.ready-half.new.pass

  abbrev led : List Event
  led = seen_of c.lead.new.pass

  abbrev last : List Event
  last = seen_of c.give.new.pass

  same : c.ready-half.new.pass.caller ≡ me
  same = c.ready-half.ensures.caller ∙ c.find_above-held.ensures.caller

  gave : GrowsWith me (Give me c.lead.new.held.node) led last
  gave = subst (λ (z : ℕ). GrowsWith z (Give z c.lead.new.held.node) led last) (c.lead.ensures.caller ∙ same) c.give.ensures.gave

  to_over : first ⊑ over
  to_over = stretch_begins link_move me first over c.find_above-held.ensures.stretch

  to_ready : over ⊑ prepared
  to_ready = stretch_begins link_move c.find_above-held.new.pass.caller over prepared c.ready-half.ensures.stretch

  to_led : prepared ⊑ led
  to_led = stretch_begins link_move c.ready-half.new.pass.caller prepared led c.lead.ensures.stretch

  to_last : led ⊑ last
  to_last = with_begins me _ led last gave

  on_ready : prepared ⊑ last
  on_ready = begins_both prepared led last to_led to_last

  on_over : over ⊑ last
  on_over = begins_both over prepared last to_ready on_ready

  lasts : (k l : List Event) → k ⊑ l → Sound sort BeginsLink LinkStep n l → Lasts sort k l
  lasts k l begins sound = c.sound_law.ensures.lasts sort n k l begins sound

  -- the halves are led to, or wait
  till_ready : ActsAlone me first last → LedBut sort (waits_if c.ready-half.result.new) first prepared
  till_ready alone = let then = alone_then me first over last to_over on_over alone in
      led_then sort (waits_if c.ready-half.result.new) first over prepared (lasts over prepared to_ready c.ready-half.ensures.pass.sound) (λ i live. inl (c.find_above-held.ensures.makes (alone_first me first over last to_over on_over alone) i live))
      (subst (λ (z : ℕ). ActsAlone z over prepared → LedBut sort (waits_if c.ready-half.result.new) over prepared) c.find_above-held.ensures.caller c.ready-half.ensures.led (alone_first me over prepared last to_ready on_ready then))

  since_ready : ActsAlone me first last → ActsAlone me prepared last
  since_ready alone = alone_then me over prepared last to_ready on_ready (alone_then me first over last to_over on_over alone)

  -- from then on no node is made live
  makes_on : MakesNone me prepared last
  makes_on = makes_both me prepared led last to_led to_last (subst (λ (z : ℕ). MakesNone z prepared led) same c.lead.ensures.makes) (makes_with me _ led last tt gave)

  -- two nodes that are free at the end were free
  two_ready : ActsAlone me first last → TwoFree c.args.arena.now.nodes last → TwoFree c.args.arena.now.nodes prepared
  two_ready alone two = let way = subst (λ (z : ℕ). IsOnWay sort g.N.Node.body z c.args.to.cut prepared c.ready-half.result.half) c.find_above-held.ensures.caller c.ready-half.ensures.parted.0 in
      two_before c.args.arena.now.nodes me prepared last (since_ready alone) (lawful_in_turn last (c.sound_law.ensures.lawful sort n last c.give.ensures.pass.sound)) (lasts prepared last on_ready c.give.ensures.pass.sound).live
      (holds_one me c.ready-half.result.half.node prepared way.alone (live_in sort g.N.Node.body prepared c.ready-half.result.half way.live way.matches)) two

pub returns-clause-led : goal.returns-clause-led
returns-clause-led g c = λ alone. let at = (goal.at.returns-clause-led g c).After-give in
    led_none (sort g at) (waits_if c.ready-half.result.new) (first g at) (prepared g at) (last g at) (lasts g at (prepared g at) (last g at) (on_ready g at) c.give.ensures.pass.sound) (till_ready g at alone) (makes_on g at (since_ready g at alone))

pub returns-clause-leads : goal.returns-clause-leads
returns-clause-leads g c = λ adopts halves alone two. let at = (goal.at.returns-clause-leads g c).After-give in
    let then = alone_then (me g at) (first g at) (over g at) (last g at) (to_over g at) (on_over g at) alone in
    let part = subst (λ (z : ℕ). ActsAlone z (over g at) (prepared g at)) (sym c.find_above-held.ensures.caller) (alone_first (me g at) (over g at) (prepared g at) (last g at) (to_ready g at) (on_ready g at) then) in
    let which = c.ready-half.ensures.ready adopts halves part (two_ready g at alone two) in
    (lasts g at (led g at) (last g at) (to_last g at) c.give.ensures.pass.sound).led c.args.to.node (c.lead.ensures.led adopts which)

-- the kinds of its events

pub returns-clause-fills : goal.returns-clause-fills
returns-clause-fills g c = λ place. let own : ℕ = c.args.pass.now.caller in let h = seen_of c.args.pass.now in let i = seen_of c.find_above-held.new.pass in let j = seen_of c.ready-half.new.pass in let k = seen_of c.lead.new.pass in let l = seen_of c.give.new.pass in
    let one = c.find_above-held.ensures.caller in let two = c.ready-half.ensures.caller ∙ one in let three = c.lead.ensures.caller ∙ two in
    let first = search_fills_on (sort_of g.N.Node.layout g.N.Node.ranged) place own c.find_above-held.new.pass.caller h i j one c.find_above-held.ensures.leaves (c.ready-half.ensures.fills place) in
    let then = does_on (MayFill (sort_of g.N.Node.layout g.N.Node.ranged) place) own c.ready-half.new.pass.caller h j k two first (c.lead.ensures.fills place) in
    fills_search (sort_of g.N.Node.layout g.N.Node.ranged) place own c.lead.new.pass.caller h k l three then (searches_give c.lead.new.pass.caller c.lead.new.held.node k l c.give.ensures.gave)
