use Rattle.std.proofs.Common.{ℕ, ◌≡◌, ◌<◌}
use Rattle.ks_keysets.specs.Record.{LeadsTo}
use Rattle.ks_keysets.specs.Keyset.{InInset}
use Rattle.ks_node.specs.Edges.{record_of, edges_of}
use Rattle.ks_node.specs.Effect.{split_left, split_right, grown, adopted, absorbed, forgot, collapsed}
use Rattle.ks_flow.specs.Tree.{edges_to}
use Rattle.ks_flow.specs.Changes.{NamedOnce}
use Rattle.ks_bodies.specs.Stands.{live_as, free_as}
use Rattle.ks_bodies.specs.Shapes.{split_on, split_own, split_under, grow, absorb_own, absorb_under, collapse}
use Rattle.ks_bodies.proofs.Standing.{Made, fresh_apart}
use Rattle.ks_bodies.proofs.Records.{leads_edge}
use Rattle.ks_bodies.proofs.Once.{once_two, once_three}
use Rattle.ks_bodies.proofs.Own.{meets_split_own}
use Rattle.ks_bodies.proofs.Under.{meets_split_under}
use Rattle.ks_bodies.proofs.Grow.{meets_grow}
use Rattle.ks_bodies.proofs.Absorb.{meets_absorb_own, own_leads}
use Rattle.ks_bodies.proofs.AbsorbUnder.{meets_absorb_under, SoleParent, other, some_node, some_right}
use Rattle.ks_bodies.proofs.Collapse.{meets_collapse, child_leads}
use Rattle.ks_bodies.proofs.steps.tree_insets_law.Goals as goal

pub returns-clause-split_own : goal.returns-clause-split_own
returns-clause-split_own c g f node right cut b good tree part plain upper =
    let xs = split_own node right cut b in
    let apart = fresh_apart g node right (record_of b) part.stands.has part.fresh in
    let once : NamedOnce xs = once_two (live_as node (split_on cut right b)) (live_as right (split_right cut b)) apart in
    let made : Made g f xs = record { differs = c.changes_law.ensures.differs g xs; frames = c.changes_law.ensures.frames f xs; named = c.changes_law.ensures.named g f xs once } in
    c.insets_law.ensures.split_own g _ f _ node right cut _ _ _ good tree (meets_split_own g f node right cut b good tree part plain upper (λ n. c.tree_facts_law.ensures.fresh g n right good part.fresh) made)

pub returns-clause-split_under : goal.returns-clause-split_under
returns-clause-split_under c g f parent node right cut u b good tree adopt part after lower upper =
    let xs = split_under parent node right cut u b in
    let some = leads_edge u adopt.place node adopt.stands.plain adopt.leads in
    let once : NamedOnce xs = once_three (live_as parent (adopted cut right u)) (live_as node (split_left cut b)) (live_as right (split_right cut b))
    (c.tree_facts_law.ensures.apart g f parent node (record_of u) good tree adopt.stands.has some)
    (fresh_apart g parent right (record_of u) adopt.stands.has part.fresh)
    (fresh_apart g node right (record_of b) part.stands.has part.fresh) in
    let made : Made g f xs = record { differs = c.changes_law.ensures.differs g xs; frames = c.changes_law.ensures.frames f xs; named = c.changes_law.ensures.named g f xs once } in
    let up : (p : ℕ) → InInset g node p → InInset g parent p × LeadsTo (record_of u) p node =
    λ p i. let z = c.tree_facts_law.ensures.child g parent node p (record_of u) tree.edges adopt.stands.has some i.1 in ((i.0, z.0), z.1) in
    c.insets_law.ensures.split_under g _ f _ parent node right cut _ _ _ _ _ good tree (meets_split_under g f parent node right cut u b good tree adopt part after lower upper (λ n. c.tree_facts_law.ensures.fresh g n right good part.fresh) up made)

pub returns-clause-grow : goal.returns-clause-grow
returns-clause-grow c g f kind node left right cut b good tree part fresh other plain lower upper =
    let xs = grow kind node left right cut b in
    let once : NamedOnce xs = once_three (live_as node (grown kind cut left right b)) (live_as left (split_left cut b)) (live_as right (split_right cut b))
    (fresh_apart g node left (record_of b) part.stands.has fresh)
    (fresh_apart g node right (record_of b) part.stands.has part.fresh)
    other in
    let made : Made g f xs = record { differs = c.changes_law.ensures.differs g xs; frames = c.changes_law.ensures.frames f xs; named = c.changes_law.ensures.named g f xs once } in
    c.insets_law.ensures.grow g _ f _ node left right cut _ _ _ _ good tree (meets_grow g f kind node left right cut b good tree part fresh other plain lower upper (λ n m. c.tree_facts_law.ensures.fresh g n m good) made)

pub returns-clause-absorb_own : goal.returns-clause-absorb_own
returns-clause-absorb_own c g f node right b q good tree x plain =
    let xs = absorb_own node right b q in
    let some = own_leads b right x.stands.plain x.chained in
    let apart = c.tree_facts_law.ensures.apart g f node right (record_of b) good tree x.stands.has some in
    let once : NamedOnce xs = once_two (live_as node (absorbed b q)) (free_as right) apart in
    let made : Made g f xs = record { differs = c.changes_law.ensures.differs g xs; frames = c.changes_law.ensures.frames f xs; named = c.changes_law.ensures.named g f xs once } in
    let up : (p : ℕ) → InInset g right p → InInset g node p × LeadsTo (record_of b) p right =
    λ p i. let z = c.tree_facts_law.ensures.child g node right p (record_of b) tree.edges x.stands.has some i.1 in ((i.0, z.0), z.1) in
    c.insets_law.ensures.absorb_own g _ f _ node right _ _ _ good tree (meets_absorb_own g f node right b q good tree x apart up plain made)

pub returns-clause-absorb_under : goal.returns-clause-absorb_under
returns-clause-absorb_under c g f parent node right u b q good tree x plain_parent plain =
    let xs = absorb_under parent node right u b q in
    let sole : SoleParent g = λ e m p s is lt reach. c.tree_facts_law.ensures.child g e m p s tree.edges is lt reach in
    let apart : (m : ℕ) → 0 < edges_to (edges_of u) m → parent ≡ m → ⊥ = λ m lt. c.tree_facts_law.ensures.apart g f parent m (record_of u) good tree x.above.has lt in
    let once : NamedOnce xs = once_three (live_as parent (forgot right u)) (live_as node (absorbed b q)) (free_as right)
    (apart node (some_node g f parent node right u b q good tree x sole apart))
    (apart right (some_right g f parent node right u b q good tree x sole apart))
    (other g f parent node right u b q good tree x sole apart) in
    let made : Made g f xs = record { differs = c.changes_law.ensures.differs g xs; frames = c.changes_law.ensures.frames f xs; named = c.changes_law.ensures.named g f xs once } in
    c.insets_law.ensures.absorb_under g _ f _ parent node right _ _ _ _ _ good tree (meets_absorb_under g f parent node right u b q good tree x sole apart plain_parent plain made)

pub returns-clause-collapse : goal.returns-clause-collapse
returns-clause-collapse c g f node child b q good tree x plain =
    let xs = collapse node child b q in
    let apart = c.tree_facts_law.ensures.apart g f node child (record_of b) good tree x.stands.has (child_leads b child x.stands.plain x.sole) in
    let once : NamedOnce xs = once_two (live_as node (collapsed b q)) (free_as child) apart in
    let made : Made g f xs = record { differs = c.changes_law.ensures.differs g xs; frames = c.changes_law.ensures.frames f xs; named = c.changes_law.ensures.named g f xs once } in
    c.insets_law.ensures.collapse g _ f _ node child _ _ _ good tree (meets_collapse g f node child b q good tree x plain apart made)
