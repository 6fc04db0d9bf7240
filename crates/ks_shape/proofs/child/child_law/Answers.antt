use Rattle.std.proofs.Common.{◌≡◌, ◌≢◌, ◌<◌, ℕ, List, arith, refl, sym, subst, inl, ⊎_elim}
use Rattle.std.specs.Prelude.{Some, Any}
use Rattle.ks_keysets.specs.declared.Edge.{Edge}
use Rattle.ks_keysets.specs.declared.Record.{Record}
use Rattle.ks_keysets.specs.Record.{LeadsTo}
use Rattle.ks_keysets.specs.Keyset.{record_at, IsLive, along}
use Rattle.ks_history.specs.Trace.{held, turn_after, graph_after}
use Rattle.ks_history.specs.Frames.{frame_after}
use Rattle.ks_history.specs.Passes.{Has}
use Rattle.ks_history.specs.Laws.Stays.{lawful_in_turn}
use Rattle.ks_history.specs.Laws.Hand.{is_hand}
use Rattle.ks_history.specs.Laws.Begins.{good_now}
use Rattle.ks_node.specs.Edges.{record_of}
use Rattle.ks_node.specs.Laws.Ways.{next_leads}
use Rattle.ks_arena.specs.Sound.{sort_of, blank_of}
use Rattle.ks_arena.specs.Clauses.{seen_of}
use Rattle.ks_shape.specs.Laws.Single.{led_live, record_is}
use Rattle.ks_shape.specs.Laws.Counted.{counted}
use Rattle.ks_shape.proofs.child.child_law.Goals as goal

pub returns : goal.returns
returns g c = let sort = sort_of g.N.Node.layout g.N.Node.ranged in let n : ℕ = c.args.arena.now.table.shared.table_id.slots in let p = c.args.pass.now in let h = seen_of p in let me : ℕ = p.caller in
    let x = c.args.held.now in let i : ℕ = x.node in let j : ℕ = c.args.child in let place : ℕ = c.args.place in let way = c.requires.way in let sound = c.requires.pass.sound in
    let r : Record = record_of (g.N.Node.body x.body) in
    let is : record_at (graph_after h) i ≡ Some r = record_is sort g.N.Node.body h x way.live way.matches in
    let leads : LeadsTo r place j = next_leads (g.N.Node.body x.body) place j c.node_law.ensures.sound (omega (arith, c.ranges.place)) c.requires.goes in
    let among : Any (λ (e : Edge). e.node ≡ j) r.edges = (leads.0, leads.1, leads.2, leads.3, leads.4.1) in
    let good = good_now (c.sound_law.ensures.good sort n h sound) in
    let facts = c.sound_law.ensures.facts sort n h sound in
    let mine : turn_after h i ≡ held me = (is_hand h me (lawful_in_turn h (c.sound_law.ensures.lawful sort n h sound))).held i (subst (λ (z : List ℕ). Has z i) (sym way.alone) (inl refl)) in
    let live : IsLive (graph_after h) j = led_live (graph_after h) i place j r good is leads in
    let parents = c.tree_beside_law.ensures.parents sort n h sound in
    let apart : i ≢ j = c.tree_facts_law.ensures.apart (graph_after h) (frame_after (blank_of sort) h) i j r good facts is (counted r place j leads) in
    let few : (m : ℕ) → IsLive (graph_after h) m → m < c.args.arena.now.nodes = λ m at. (let less : m < n = c.beside_law.ensures.live sort n m h (omega arith) sound at in omega (arith, less)) in
    record {
      node = r;
      is = is;
      leads = leads;
      among = among;
      mine = mine;
      live = live;
      near = few j live;
      fresh = λ has. ⊎_elim (λ (e : i ≡ j). apart e) (λ (z : ⊥). z) (subst (λ (z : List ℕ). Has z j) way.alone has);
      apart = apart;
      below = λ root. parents.root i r is (subst (λ (z : ℕ). Any (λ (e : Edge). e.node ≡ z) r.edges) root among);
      inside = (way.inside.0, along r way.inside.1 is leads live);
      stays = λ k grows so. c.target_law.ensures sort n me i j h k r grows so mine is among;
      parents = parents;
      few = few;
    }
