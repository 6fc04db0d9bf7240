use Rattle.std.proofs.Common.{ℕ}
use Rattle.ks_keysets.specs.Record.{LeadsTo}
use Rattle.ks_keysets.specs.Keyset.{InInset}
use Rattle.ks_node.specs.Edges.{record_of}
use Rattle.ks_bodies.proofs.Records.{leads_edge}
use Rattle.ks_bodies.proofs.Absorb.{own_leads}
use Rattle.ks_bodies.proofs.Collapse.{child_leads, child_down}
use Rattle.ks_bodies.proofs.Asked.{fit_alike, adopt_asks, own_asks, absorb_own_asks, absorb_under_asks, forget_asks, collapse_asks}
use Rattle.ks_bodies.proofs.Adopts.{adopt_free}
use Rattle.ks_bodies.proofs.asks.tree_asks_law.Goals as goal

pub returns-clause-own : goal.returns-clause-own
returns-clause-own c = own_asks

pub returns-clause-adopt : goal.returns-clause-adopt
returns-clause-adopt c g f parent node cut u b good tree x stands inside above =
    adopt_asks g f parent node cut u b good tree (λ e m p s. c.tree_facts_law.ensures.child g e m p s tree.edges) x stands inside above (leads_edge u x.place node x.stands.plain x.leads)

pub returns-clause-absorb_own : goal.returns-clause-absorb_own
returns-clause-absorb_own c g f node right b q good tree x =
    let some = own_leads b right x.stands.plain x.chained in
    let up : (p : ℕ) → InInset g right p → InInset g node p × LeadsTo (record_of b) p right =
    λ p i. let z = c.tree_facts_law.ensures.child g node right p (record_of b) tree.edges x.stands.has some i.1 in ((i.0, z.0), z.1) in
    absorb_own_asks g f node right b q good tree x (c.tree_facts_law.ensures.apart g f node right (record_of b) good tree x.stands.has some) up

pub returns-clause-absorb_under : goal.returns-clause-absorb_under
returns-clause-absorb_under c g f parent node right u b q good tree x =
    absorb_under_asks g f parent node right u b q good tree x (λ e m p s. c.tree_facts_law.ensures.child g e m p s tree.edges) (λ m lt. c.tree_facts_law.ensures.apart g f parent m (record_of u) good tree x.above.has lt)

pub returns-clause-forget : goal.returns-clause-forget
returns-clause-forget c g f parent node right u b q good tree x =
    forget_asks g f parent node right u b q good tree x (λ e m p s. c.tree_facts_law.ensures.child g e m p s tree.edges) (λ m lt. c.tree_facts_law.ensures.apart g f parent m (record_of u) good tree x.above.has lt)

pub returns-clause-collapse : goal.returns-clause-collapse
returns-clause-collapse c g f node child b q good tree x ranged =
    collapse_asks g f node child b q tree (λ e m p s. c.tree_facts_law.ensures.child g e m p s tree.edges) x ranged (child_leads b child x.stands.plain x.sole) (child_down g f node child b q tree x)

pub returns-clause-fit : goal.returns-clause-fit
returns-clause-fit c layout b q fits = fit_alike layout b q fits

pub returns-clause-adopt_free : goal.returns-clause-adopt_free
returns-clause-adopt_free c g f parent node cut u b good tree x stands inside above =
    adopt_free g f parent node cut u b tree (λ e m p s. c.tree_facts_law.ensures.child g e m p s tree.edges) x stands inside above (leads_edge u x.place node x.stands.plain x.leads)

pub returns-clause-adopts : goal.returns-clause-adopts
returns-clause-adopts c can layout g f parent node cut u b good tree x stands inside above adopts room =
    adopts cut x.branch room
    (adopt_asks g f parent node cut u b good tree (λ e m p s. c.tree_facts_law.ensures.child g e m p s tree.edges) x stands inside above (leads_edge u x.place node x.stands.plain x.leads)).0
    (adopt_free g f parent node cut u b tree (λ e m p s. c.tree_facts_law.ensures.child g e m p s tree.edges) x stands inside above (leads_edge u x.place node x.stands.plain x.leads))
