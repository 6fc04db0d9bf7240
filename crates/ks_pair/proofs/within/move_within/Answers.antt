use Rattle.std.proofs.Common.{ℕ, ◌≡◌, ◌∙◌, refl, sym, ap, subst, true, false}
use Rattle.std.specs.Prelude.{Option, Some, None, is_some}
use Rattle.ks_history.specs.Trace.{held, turn_after}
use Rattle.ks_history.specs.Laws.Hand.{is_hand}
use Rattle.ks_history.specs.Laws.Stays.{lawful_in_turn}
use Rattle.ks_node.specs.Body.{Body, value_at}
use Rattle.ks_arena.specs.declared.held.Held.{Held as Hand}
use Rattle.ks_arena.specs.Sound.{sort_of}
use Rattle.ks_arena.specs.Clauses.{seen_of}
use Rattle.ks_history.specs.Passes.{Has}
use Rattle.ks_node.specs.Effect.{pairs_del, pairs_put, with_pairs}
use Rattle.ks_node.specs.Room.{is_full}
use Rattle.std.proofs.Common.{List, inl}
use Rattle.ks_pair.specs.Laws.Ends.{admitted}
use Rattle.ks_pair.proofs.Fewer.{del_fewer, fewer_has_room}
use Rattle.ks_pair.proofs.Ready.{no_branch, none_of, nothing_within, kept_within, moved_within}
use Rattle.ks_pair.proofs.within.move_within.Goals as goal

pub conclude_within-number-requires-clause-ready : goal.conclude_within-number-requires-clause-ready
conclude_within-number-requires-clause-ready g c κs within = let sort = sort_of g.N.Node.layout g.N.Node.ranged in let shows = g.N.Node.body in let n : ℕ = c.args.arena.now.nodes in let me : ℕ = c.args.pass.now.caller in let h = seen_of c.args.pass.now in let x : Hand g.row.N.Denot = c.args.held in let r = c.requires in
    let mine : turn_after h x.node ≡ held me = (is_hand h me (lawful_in_turn h (c.sound_law.ensures.lawful sort c.args.arena.now.table.shared.table_id.slots h r.pass.sound))).held x.node (subst (λ (z : List ℕ). Has z x.node) (sym r.from.alone) (inl refl)) in
    let at = admitted sort shows me c.args.from h x r.from in let at' = admitted sort shows me c.args.to h x r.to in
    nothing_within sort shows n me c.args.from c.args.to h x mine at at' c.node_law.ensures.sound (sym c.get.ensures ∙ c.in_default.is)

pub conclude_within-number-requires-then-is_some-clause-ready : goal.conclude_within-number-requires-then-is_some-clause-ready
conclude_within-number-requires-then-is_some-clause-ready g c κs within = let sort = sort_of g.N.Node.layout g.N.Node.ranged in let shows = g.N.Node.body in let n : ℕ = c.args.arena.now.nodes in let me : ℕ = c.args.pass.now.caller in let h = seen_of c.args.pass.now in let x : Hand g.row.N.Denot = c.args.held in let r = c.requires in
    let mine : turn_after h x.node ≡ held me = (is_hand h me (lawful_in_turn h (c.sound_law.ensures.lawful sort c.args.arena.now.table.shared.table_id.slots h r.pass.sound))).held x.node (subst (λ (z : List ℕ). Has z x.node) (sym r.from.alone) (inl refl)) in
    let at = admitted sort shows me c.args.from h x r.from in let at' = admitted sort shows me c.args.to h x r.to in
    kept_within sort shows n me c.args.from c.args.to h x mine at at' c.node_law.ensures.sound c.in-Some.value (sym c.get.ensures ∙ c.in-Some.is) (subst (λ (z : Option ℕ). is_some z ≡ true) c.get-2.ensures (sym c.is_some.ensures ∙ c.if-is_some.true))

pub put-requires-clause-room : goal.put-requires-clause-room
put-requires-clause-room g c = λ absent. let b : Body = g.N.Node.body c.args.held.body in let r = c.requires in
    let fewer = del_fewer c.args.from c.in-Some.value b.pairs c.node_law.ensures.sound.pairs_ascend (sym c.get.ensures ∙ c.in-Some.is) in
    subst (λ (z : Body). is_full g.N.Node.layout z ≡ false) (sym c.del.ensures.body) (fewer_has_room g.N.Node.layout b (pairs_del c.args.from b.pairs) (no_branch (sort_of g.N.Node.layout g.N.Node.ranged) g.N.Node.body (seen_of c.args.pass.now) c.args.held c.args.from (admitted (sort_of g.N.Node.layout g.N.Node.ranged) g.N.Node.body c.args.pass.now.caller c.args.from (seen_of c.args.pass.now) c.args.held r.from) c.node_law.ensures.sound) c.node_law.ensures.held fewer)

pub conclude_within-number-requires-2-clause-ready : goal.conclude_within-number-requires-2-clause-ready
conclude_within-number-requires-2-clause-ready g c κs within = let sort = sort_of g.N.Node.layout g.N.Node.ranged in let shows = g.N.Node.body in let n : ℕ = c.args.arena.now.nodes in let me : ℕ = c.args.pass.now.caller in let h = seen_of c.args.pass.now in let x : Hand g.row.N.Denot = c.args.held in let r = c.requires in
    let mine : turn_after h x.node ≡ held me = (is_hand h me (lawful_in_turn h (c.sound_law.ensures.lawful sort c.args.arena.now.table.shared.table_id.slots h r.pass.sound))).held x.node (subst (λ (z : List ℕ). Has z x.node) (sym r.from.alone) (inl refl)) in
    let at = admitted sort shows me c.args.from h x r.from in let at' = admitted sort shows me c.args.to h x r.to in
    let x' : Hand g.row.N.Denot = record { node = c.args.held.node; body = c.put.new.self; live = c.args.held.live } in
    moved_within sort shows n me c.args.from c.args.to h x mine at at' c.node_law.ensures.sound c.in-Some.value (sym c.get.ensures ∙ c.in-Some.is) (none_of (value_at (shows x.body).pairs c.args.to) (subst (λ (z : Option ℕ). is_some z ≡ false) c.get-2.ensures (sym c.is_some.ensures ∙ c.if-is_some.false))) x' refl at.live
    (c.put.ensures.body ∙ ap (λ (z : Body). with_pairs z (pairs_put c.args.to c.in-Some.value z.pairs)) c.del.ensures.body)
