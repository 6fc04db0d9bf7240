use Rattle.std.proofs.Common.{None, inl, inr, arith}
use Rattle.ks_node.specs.Edges.{record_of}
use Rattle.ks_node.specs.Effect.{split_right, with_link}
use Rattle.ks_flow.specs.Changes.{NamedOnce}
use Rattle.ks_bodies.specs.Stands.{live_as}
use Rattle.ks_bodies.specs.Links.{split_linked, grown_higher, grow_right, attach}
use Rattle.ks_bodies.proofs.Standing.{Made, fresh_apart}
use Rattle.ks_bodies.proofs.Once.{once_three}
use Rattle.ks_bodies.proofs.GrowRight.{meets_grow_right}
use Rattle.ks_bodies.proofs.Attach.{attach_leads}
use Rattle.ks_bodies.proofs.Begun.{begun_leads, first_leads}
use Rattle.ks_bodies.proofs.links.link_leads_law.Goals as goal

pub returns-clause-grow_right : goal.returns-clause-grow_right
returns-clause-grow_right c g f kind left right cut b good link x branch lower upper =
    let xs = grow_right kind 0 left right cut b in
    let once : NamedOnce xs = once_three (live_as 0 (grown_higher kind cut left right b)) (live_as left (split_linked cut right b)) (live_as right (with_link None (split_right cut b)))
    (fresh_apart g 0 left (record_of b) x.stands.has x.fresh_left)
    (fresh_apart g 0 right (record_of b) x.stands.has x.fresh)
    x.other in
    let made : Made g f xs = record { differs = c.changes_law.ensures.differs g xs; frames = c.changes_law.ensures.frames f xs; named = c.changes_law.ensures.named g f xs once } in
    let y = meets_grow_right g f kind left right cut b good link x branch lower upper made in
    ((y.below_cut 0 y.above).0, (y.from_cut cut y.within (omega arith)).0)

pub returns-clause-attach : goal.returns-clause-attach
returns-clause-attach c g f node id cut b good link x after =
    let xs = attach node id cut b in
    let once : NamedOnce xs = λ i j d lt lt'. absurd (omega arith) in
    let made : Made g f xs = record { differs = c.changes_law.ensures.differs g xs; frames = c.changes_law.ensures.frames f xs; named = c.changes_law.ensures.named g f xs once } in
    attach_leads g f node id cut b link x after made

pub returns-clause-begun : goal.returns-clause-begun
returns-clause-begun c g f node id cut b good link stands under low within at = elim at [
  | inl first ↦ first_leads g f node id cut b good link stands under within first
  | inr begun ↦ begun_leads g f node id cut b good link stands under within low begun
]
