use Rattle.std.proofs.Common.{None, arith, inl, inr, refl}
use Rattle.ks_node.specs.Edges.{record_of}
use Rattle.ks_node.specs.Effect.{split_right, with_link}
use Rattle.ks_flow.specs.Changes.{NamedOnce}
use Rattle.ks_bodies.specs.Stands.{live_as}
use Rattle.ks_bodies.specs.Links.{split_linked, grown_higher, split_to_right, grow_right, attach}
use Rattle.ks_bodies.proofs.Standing.{Made, fresh_apart}
use Rattle.ks_bodies.proofs.Once.{once_two, once_three}
use Rattle.ks_bodies.proofs.LinkRecords.{range_of}
use Rattle.ks_bodies.proofs.SplitRight.{meets_split_right}
use Rattle.ks_bodies.proofs.GrowRight.{meets_grow_right}
use Rattle.ks_bodies.proofs.Attach.{meets_attach}
use Rattle.ks_bodies.proofs.links.link_steps_law.Goals as goal

pub returns-clause-split_right : goal.returns-clause-split_right
returns-clause-split_right c g f node right cut b good link x lower upper =
    let xs = split_to_right node right cut b in
    let once : NamedOnce xs = once_two (live_as node (split_linked cut right b)) (live_as right (split_right cut b)) (fresh_apart g node right (record_of b) x.stands.has x.fresh) in
    let made : Made g f xs = record { differs = c.changes_law.ensures.differs g xs; frames = c.changes_law.ensures.frames f xs; named = c.changes_law.ensures.named g f xs once } in
    let y = c.link_shapes_law.ensures.split_right g _ f _ node right cut (range_of b x.stands.linked).0 _ _ _ good link (meets_split_right g f node right cut b good x lower upper made) in
    record { ways = inl y.0; keeps = y.1 }

pub returns-clause-grow_right : goal.returns-clause-grow_right
returns-clause-grow_right c g f kind left right cut b good link x branch lower upper =
    let xs = grow_right kind 0 left right cut b in
    let once : NamedOnce xs = once_three (live_as 0 (grown_higher kind cut left right b)) (live_as left (split_linked cut right b)) (live_as right (with_link None (split_right cut b)))
    (fresh_apart g 0 left (record_of b) x.stands.has x.fresh_left)
    (fresh_apart g 0 right (record_of b) x.stands.has x.fresh)
    x.other in
    let made : Made g f xs = record { differs = c.changes_law.ensures.differs g xs; frames = c.changes_law.ensures.frames f xs; named = c.changes_law.ensures.named g f xs once } in
    let y = c.link_shapes_law.ensures.grow_right g _ f _ left right cut _ _ _ _ good link (meets_grow_right g f kind left right cut b good link x branch lower upper made) in
    record { ways = inl y.0; keeps = y.1 }

pub returns-clause-attach : goal.returns-clause-attach
returns-clause-attach c g f node id cut b good link x after =
    let xs = attach node id cut b in
    let once : NamedOnce xs = λ i j d lt lt'. absurd (omega arith) in
    let made : Made g f xs = record { differs = c.changes_law.ensures.differs g xs; frames = c.changes_law.ensures.frames f xs; named = c.changes_law.ensures.named g f xs once } in
    let y = c.link_shapes_law.ensures.attach g _ f _ node id cut (range_of b x.stands.linked).0 _ _ good link (meets_attach g f node id cut b link x after made) in
    record { ways = inr (record { node = node; before = _; after = _; alone = refl; is = y.0 }); keeps = y.1 }
