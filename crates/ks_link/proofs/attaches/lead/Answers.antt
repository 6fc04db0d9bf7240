use Rattle.std.proofs.Common.{◌≡◌, ℕ, ◌<◌, ◌≤◌, inl, inr, Bool, true, false, sym, refl, ap, ◌∙◌, length, subst, arith}
use Rattle.std.specs.Prelude.{◌⊎◌, IsTrue}
use Rattle.std.proofs.lemmas.Bool.{cases_lt}
use Rattle.ks_keysets.specs.declared.Frame.{Frame}
use Rattle.ks_keysets.specs.Keyset.{IsLive}
use Rattle.ks_history.specs.Own.{hand}
use Rattle.ks_history.specs.Trace.{graph_after}
use Rattle.ks_history.specs.Frames.{frame_after}
use Rattle.ks_history.specs.Laws.Begins.{good_now}
use Rattle.ks_node.specs.Asks.{IsCut}
use Rattle.ks_node.specs.Body.{Body, begins, is_branch, last_of}
use Rattle.ks_node.specs.Edges.{record_of}
use Rattle.ks_node.specs.Room.{is_full}
use Rattle.ks_bodies.specs.Links.{IsLinked, StandsUnder, attach}
use Rattle.ks_arena.specs.Sound.{sort_of, blank_of}
use Rattle.ks_arena.specs.Clauses.{hand_of, seen_of}
use Rattle.ks_shape.specs.Laws.Single.{shown}
use Rattle.ks_history.specs.Done.{link_move}
use Rattle.ks_history.specs.Laws.Stretch.{stretch_here, stretch_shape}
use Rattle.ks_link.specs.Leads.{CanLead}
use Rattle.ks_link.proofs.Leading.{shape_live}
use Rattle.ks_link.proofs.Nearer.{branch_above}
use Rattle.ks_link.proofs.Parting.{live_in, stands_now}
use Rattle.ks_shape.specs.Does.{MayFill}
use Rattle.ks_shape.specs.Laws.Does.{does_none}
use Rattle.ks_link.proofs.attaches.lead.Goals as goal

pub returns-then-can_lead-clause-stretch : goal.returns-then-can_lead-clause-stretch
returns-then-can_lead-clause-stretch g c = let me : ℕ = c.args.pass.now.caller in let h = seen_of c.args.pass.now in let k = seen_of c.attach.new.pass in let few = ap length c.requires.held.alone in
    let same = subst (λ (z : ℕ). hand z k ≡ hand_of c.args.pass.now) c.attach.ensures.caller c.attach.ensures.shaped.hand in
    stretch_shape link_move me h k (attach c.args.held.now.node c.args.to.node c.args.to.cut (g.N.Node.body c.args.held.now.body)) (omega (arith, few)) (omega (arith, few, ap length same)) c.attach.ensures.shaped.adds

pub returns-else-can_lead-clause-stretch : goal.returns-else-can_lead-clause-stretch
returns-else-can_lead-clause-stretch g c = let h = seen_of c.args.pass.now in stretch_here link_move c.args.pass.now.caller h h (omega (arith, ap length c.requires.held.alone))

pub returns-then-can_lead-clause-makes : goal.returns-then-can_lead-clause-makes
returns-then-can_lead-clause-makes g c = λ alone i live. let me : ℕ = c.args.pass.now.caller in let sort = sort_of g.N.Node.layout g.N.Node.ranged in let h = seen_of c.args.pass.now in let k = seen_of c.attach.new.pass in let x = c.args.held.now in
    elim (shape_live me (attach x.node c.args.to.node c.args.to.cut (g.N.Node.body x.body)) h k c.attach.ensures.shaped.adds alone i live) [
      | inl named ↦ elim named [ inl node ↦ subst (IsLive (graph_after h)) node (live_in sort g.N.Node.body h x c.requires.held.live c.requires.held.matches) | inr none ↦ absurd none ]
      | inr was ↦ was
    ]

pub returns-else-can_lead-clause-makes : goal.returns-else-can_lead-clause-makes
returns-else-can_lead-clause-makes g c = λ alone i live. live

pub returns-else-can_lead-clause-led : goal.returns-else-can_lead-clause-led
returns-else-can_lead-clause-led g c = λ adopts which. let sort = sort_of g.N.Node.layout g.N.Node.ranged in let n : ℕ = c.args.arena.now.table.shared.table_id.slots in let shows = g.N.Node.body in let h = seen_of c.args.pass.now in let x = c.args.held.now in let b : Body = shows x.body in let cut : ℕ = c.args.to.cut in let id : ℕ = c.args.to.node in
    let law = c.sound_law.ensures in let r = c.requires in let facts = law.facts sort n h r.pass.sound in let adopting = c.node_law.ensures.adopting adopts in
    let never : CanLead g.N.Node.can_adopt_at b cut → ⊥ = λ can. let clash : true ≡ false = sym (c.can_lead.ensures.1 can) ∙ c.if-can_lead.false in cc in
    let room : is_full g.N.Node.layout b ≡ false = elim which [ inl can ↦ absurd (never can) | inr room ↦ room ] in
    let linked : IsLinked b = record { sound = c.node_law.ensures.sound; ranged = c.node_law.ensures.has_range ∙ c.linked_law.ensures.is_ranged; framed = c.node_law.ensures.framed; link_where = c.linked_law.ensures.link_where x.body } in
    let stands = stands_now sort shows h x r.held.live r.held.matches linked in
    let under : StandsUnder (graph_after h) (frame_after (blank_of sort) h) id b.level cut = record { live = r.off.live; level = omega (arith, r.off.level, r.level); low = r.off.low } in
    let frame = (shown sort shows h x r.held.live r.held.matches).1 in
    let place : cut ≤ 18446744073709551615 = (let range = facts.range id r.off.live in omega (arith, range.1.low, range.1.filled, range.1.last, r.off.low)) in
    let branch : IsTrue (is_branch b) = branch_above (graph_after h) (frame_after (blank_of sort) h) x.node cut b facts stands.has frame (omega (arith, r.level)) r.low place r.within c.node_law.ensures.sound adopting.bare in
    let off : (b.low < cut) → begins cut b.starts ≡ false → ⊥ = λ low none. let cuts : IsCut b cut = (low, λ s is. omega (arith, r.within, ap last_of is)) in never (branch, cuts, adopting.inside cut branch room cuts none) in
    let at : (b.low ≡ cut) ⊎ IsTrue (begins cut b.starts) = elim (cases_lt b.low cut) [ inl lt ↦ inr (is_true (begins cut b.starts) (off lt)) | inr ge ↦ inl (omega (arith, ge, r.low)) ] in
    let leads = c.link_leads_law.ensures.begun (graph_after h) (frame_after (blank_of sort) h) x.node id cut b (good_now (law.good sort n h r.pass.sound)) facts stands under r.low r.within at in
    record { above = x.node; node = record_of b; place = cut; is = stands.has; leads = leads; level = ap (λ (f : Frame). f.level) frame ∙ sym under.level }
  where
    is_true : (t : Bool) → (t ≡ false → ⊥) → t ≡ true
    is_true true never = refl
    is_true false never = absurd (never refl)

-- the kinds of its events

pub returns-then-can_lead-clause-fills : goal.returns-then-can_lead-clause-fills
returns-then-can_lead-clause-fills g c = λ place. c.attach.ensures.fills place

pub returns-else-can_lead-clause-fills : goal.returns-else-can_lead-clause-fills
returns-else-can_lead-clause-fills g c = λ place. does_none (MayFill (sort_of g.N.Node.layout g.N.Node.ranged) place) c.args.pass.now.caller (seen_of c.args.pass.now)
