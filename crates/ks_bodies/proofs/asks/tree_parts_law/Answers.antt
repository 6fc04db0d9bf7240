use Rattle.std.proofs.Common.{ℕ, suc, ◌≡◌, [], ◌∷◌, Some, arith}
use Rattle.ks_keysets.specs.declared.Record.{Record}
use Rattle.ks_keysets.specs.Record.{LeadsTo}
use Rattle.ks_keysets.specs.Keyset.{record_at, Reaches, along, InInset}
use Rattle.ks_node.specs.Edges.{record_of}
use Rattle.ks_node.specs.Effect.{split_left, split_right, grown, adopted}
use Rattle.ks_keysets.specs.Walk.{further}
use Rattle.ks_keysets.specs.Laws.Descents.{meets_once}
use Rattle.ks_flow.specs.Changes.{NamedOnce, graph_with}
use Rattle.ks_bodies.specs.Stands.{live_as}
use Rattle.ks_bodies.specs.Shapes.{split_on, split_own, split_under, grow}
use Rattle.ks_bodies.proofs.Standing.{Made, fresh_apart}
use Rattle.ks_bodies.proofs.Records.{leads_edge}
use Rattle.ks_bodies.proofs.Once.{once_two, once_three}
use Rattle.ks_bodies.proofs.Own.{meets_split_own}
use Rattle.ks_bodies.proofs.Under.{meets_split_under}
use Rattle.ks_bodies.proofs.Grow.{meets_grow}
use Rattle.ks_bodies.proofs.Entered.{descended, leads_any, entered, not_two, not_three, counts}
use Rattle.ks_bodies.proofs.asks.tree_parts_law.Goals as goal

pub returns-clause-own : goal.returns-clause-own
returns-clause-own c g f node right cut p b good tree part plain upper inside =
    let xs = split_own node right cut b in
    let k = graph_with xs g in
    let apart = fresh_apart g node right (record_of b) part.stands.has part.fresh in
    let once : NamedOnce xs = once_two (live_as node (split_on cut right b)) (live_as right (split_right cut b)) apart in
    let made : Made g f xs = record { differs = c.changes_law.ensures.differs g xs; frames = c.changes_law.ensures.frames f xs; named = c.changes_law.ensures.named g f xs once } in
    let meets = meets_split_own g f node right cut b good tree part plain upper (λ n. c.tree_facts_law.ensures.fresh g n right good part.fresh) made in
    let keeps = c.tree_law.ensures.split_own g k f _ node right cut _ _ _ good tree meets in
    let at : InInset k node p = entered g k (node ∷ right ∷ []) node p made.differs (λ n out i. (keeps.insets n p out).1 i) keeps.ways.root (record_of (split_on cut right b), meets.ways.after)
    (λ n r is to before. not_two node right n (c.tree_facts_law.ensures.apart g f n node r good tree is (counts r p node to)) (fresh_apart g n right r is part.fresh)) inside in
    (at, λ le. let to = (meets.ways.from_cut p inside le).0 in (to, (at.0, along (record_of (split_on cut right b)) at.1 meets.ways.after to (record_of (split_right cut b), meets.ways.after_right))))

pub returns-clause-under : goal.returns-clause-under
returns-clause-under c g f parent node right cut p u b good tree adopt part after lower upper inside =
    let xs = split_under parent node right cut u b in
    let k = graph_with xs g in
    let some = leads_edge u adopt.place node adopt.stands.plain adopt.leads in
    let once : NamedOnce xs = once_three (live_as parent (adopted cut right u)) (live_as node (split_left cut b)) (live_as right (split_right cut b))
    (c.tree_facts_law.ensures.apart g f parent node (record_of u) good tree adopt.stands.has some)
    (fresh_apart g parent right (record_of u) adopt.stands.has part.fresh)
    (fresh_apart g node right (record_of b) part.stands.has part.fresh) in
    let made : Made g f xs = record { differs = c.changes_law.ensures.differs g xs; frames = c.changes_law.ensures.frames f xs; named = c.changes_law.ensures.named g f xs once } in
    let up : (p : ℕ) → InInset g node p → InInset g parent p × LeadsTo (record_of u) p node =
    λ p i. let z = c.tree_facts_law.ensures.child g parent node p (record_of u) tree.edges adopt.stands.has some i.1 in ((i.0, z.0), z.1) in
    let meets = meets_split_under g f parent node right cut u b good tree adopt part after lower upper (λ n. c.tree_facts_law.ensures.fresh g n right good part.fresh) up made in
    let keeps = c.tree_law.ensures.split_under g k f _ parent node right cut _ _ _ _ _ good tree meets in
    let above = up p inside in
    let never : (n : ℕ) (r : Record) → record_at g n ≡ Some r → LeadsTo r p parent → Reaches g p n → n ≡ node → ⊥ =
    λ n r is to before same. let deep = descended g p n before in
    let last = further (record_of u) (further r deep.1 is (leads_any r p parent to)) adopt.stands.has (leads_any (record_of u) p node above.1) in
    let loop : deep.0 ≡ suc (suc deep.0) = meets_once g deep.0 (suc (suc deep.0)) n node (c.tree_facts_law.ensures.parents g tree.edges) deep.1 last same in omega (arith, loop) in
    let at : InInset k parent p = entered g k (parent ∷ node ∷ right ∷ []) parent p made.differs (λ n out i. (keeps.insets n p out).1 i) keeps.ways.root (record_of (adopted cut right u), meets.after_parent)
    (λ n r is to before. not_three parent node right n (c.tree_facts_law.ensures.apart g f n parent r good tree is (counts r p parent to)) (never n r is to before) (fresh_apart g n right r is part.fresh)) above.0 in (
      λ lt. let to = (meets.below_cut p above.0 above.1 lt).0 in (to, (at.0, along (record_of (adopted cut right u)) at.1 meets.after_parent to (record_of (split_left cut b), meets.after))),
      λ le. let to = (meets.from_cut p above.0 above.1 le).0 in (to, (at.0, along (record_of (adopted cut right u)) at.1 meets.after_parent to (record_of (split_right cut b), meets.after_right))),
    )

pub returns-clause-grow : goal.returns-clause-grow
returns-clause-grow c g f kind node left right cut p b good tree part fresh other plain lower upper inside =
    let xs = grow kind node left right cut b in
    let k = graph_with xs g in
    let once : NamedOnce xs = once_three (live_as node (grown kind cut left right b)) (live_as left (split_left cut b)) (live_as right (split_right cut b))
    (fresh_apart g node left (record_of b) part.stands.has fresh)
    (fresh_apart g node right (record_of b) part.stands.has part.fresh)
    other in
    let made : Made g f xs = record { differs = c.changes_law.ensures.differs g xs; frames = c.changes_law.ensures.frames f xs; named = c.changes_law.ensures.named g f xs once } in
    let meets = meets_grow g f kind node left right cut b good tree part fresh other plain lower upper (λ n m. c.tree_facts_law.ensures.fresh g n m good) made in
    let keeps = c.tree_law.ensures.grow g k f _ node left right cut _ _ _ _ good tree meets in
    let at : InInset k node p = entered g k (node ∷ left ∷ right ∷ []) node p made.differs (λ n out i. (keeps.insets n p out).1 i) keeps.ways.root (record_of (grown kind cut left right b), meets.ways.after)
    (λ n r is to before. not_three node left right n (c.tree_facts_law.ensures.apart g f n node r good tree is (counts r p node to)) (fresh_apart g n left r is fresh) (fresh_apart g n right r is part.fresh)) inside in (
      λ lt. let to = (meets.ways.below_cut p inside lt).0 in (to, (at.0, along (record_of (grown kind cut left right b)) at.1 meets.ways.after to (record_of (split_left cut b), meets.ways.after_left))),
      λ le. let to = (meets.ways.from_cut p inside le).0 in (to, (at.0, along (record_of (grown kind cut left right b)) at.1 meets.ways.after to (record_of (split_right cut b), meets.ways.after_right))),
    )
