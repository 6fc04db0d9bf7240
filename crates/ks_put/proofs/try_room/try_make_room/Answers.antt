use Rattle.std.proofs.Common.{◌≡◌, ◌∙◌, ℕ, suc, true, false, [], refl, sym, subst, arith}
use Rattle.std.specs.Prelude.{Option}
use Rattle.ks_keysets.specs.Layout.{Layout}
use Rattle.ks_history.specs.declared.Event.TheVariants.{Take}
use Rattle.ks_history.specs.Descent.{TookSince}
use Rattle.ks_history.specs.Passes.{GrowsWith}
use Rattle.ks_history.specs.Done.{coupling}
use Rattle.ks_history.specs.Own.{hand}
use Rattle.ks_arena.specs.declared.held.Held.{Held as Hand}
use Rattle.ks_arena.specs.Sound.{sort_of}
use Rattle.ks_arena.specs.Clauses.{seen_of}
use Rattle.ks_shape.specs.Laws.Stretches.{stretches_as, stretches_both, stretches_on}
use Rattle.ks_shape.specs.Stretches.{Stretches}
use Rattle.ks_shape.specs.Descents.{IsCauseAt}
use Rattle.ks_shape.specs.Down.{IsDown}
use Rattle.ks_shape.specs.Laws.Down.{down_root}
use Rattle.ks_put.specs.Deeper.{IsDownPath, StandsDown}
use Rattle.ks_shape.specs.OnPath.{IsOnPath}
use Rattle.ks_put.specs.Parts.{HasRoomAbove}
use Rattle.ks_put.proofs.Going.{on_was, new_was, found_none, found_room}
use Rattle.ks_put.specs.Narrows.{cuts_left}
use Rattle.ks_put.proofs.Narrowing.{less_on, less_split}
use Rattle.ks_put.proofs.Trying.{path_leaf}
use Rattle.ks_shape.specs.Does.{DoesOnly, MayFill}
use Rattle.ks_shape.specs.Laws.Does.{fills_on, fills_search, searched_fills}
use Rattle.ks_put.proofs.try_room.try_make_room.Goals as goal

not_both : true ≡ false → ⊥
not_both e = cc

pub loop-child-init : goal.loop-child-init
loop-child-init g c = let sort = sort_of g.N.Node.layout g.N.Node.ranged in let n : ℕ = c.args.arena.now.nodes in let me : ℕ = c.args.pass.now.caller in let s = seen_of c.args.pass.now in let b : ℕ = c.try_enter.new.pass.caller in let k = seen_of c.try_enter.new.pass in let e = c.try_enter.ensures in let x = c.in-Ok.root in let o = c.in-Ok.ensures in (
  e.pass,
  e.caller,
  subst (λ (z : ℕ). IsOnPath sort g.N.Node.body z c.args.place k x) (sym e.caller) o.path,
  subst (λ (z : ℕ). Stretches z s k) (sym e.caller) e.stretch,
  (λ told. absurd (let z : ⊥ = cc in z)),
  (λ start took. subst (λ (y : Option (Hand g.row.N.Denot)). StandsDown n b start k 1 2 0 x.node y) (sym o.root) (subst (λ (i : ℕ). IsDown n b start k 1 2 0 i) (sym o.took.0)
      (down_root n b start s k 1 (subst (λ (z : ℕ). GrowsWith z (Take z 0) s k) (sym e.caller) o.took.1) took))),
  omega arith,
  (λ r grow full. subst (λ (y : Option (Hand g.row.N.Denot)). HasRoomAbove g.N.Node.layout g.N.Node.body y) (sym o.root) tt),
  subst (λ (z : ℕ). DoesOnly (MayFill (sort_of g.N.Node.layout g.N.Node.ranged) c.args.place) z s k) (sym e.caller) (searched_fills (sort_of g.N.Node.layout g.N.Node.ranged) c.args.place me s k e.leaves),
)

pub loop-child-preserved-then-refused : goal.loop-child-preserved-then-refused
loop-child-preserved-then-refused g c = let layout : Layout = g.N.Node.layout in let n : ℕ = c.args.arena.now.nodes in let place : ℕ = c.args.place in let a : ℕ = c.loop-child.pass.caller in let s = seen_of c.args.pass.now in let h = seen_of c.loop-child.pass in let inv = c.loop-child.invariant in
    let e = c.in-Ok-try_go_on.ensures in let b : ℕ = c.try_go_on.new.pass.caller in let k = seen_of c.try_go_on.new.pass in let y = c.in-Ok-try_go_on.field-0.path in let deeper : ℕ = c.in-Ok-try_go_on.field-0.depth in (
      e.pass,
      e.caller ∙ inv.1,
      subst (λ (z : ℕ). IsOnPath (sort_of layout g.N.Node.ranged) g.N.Node.body z place k y) (sym e.caller) e.path,
      stretches_on a b s h k e.caller inv.3 e.stretch,
      (λ told. on_was layout n place a b s h k e.caller e.stretch (inv.4 c.if-refused.true)),
      (λ start took. subst (λ (z : ℕ). IsDownPath n z start k (suc deeper) 2 deeper y) (sym e.caller) (e.down start (inv.5 start (subst (λ (z : ℕ). TookSince z start s 0 1) e.caller took)))),
      e.near,
      (λ r grow. absurd (not_both (sym c.if-refused.true ∙ r))),
      fills_on (sort_of g.N.Node.layout g.N.Node.ranged) place a b s h k e.caller inv.8 e.fills,
    )

pub loop-child-preserved-else-refused : goal.loop-child-preserved-else-refused
loop-child-preserved-else-refused g c = let layout : Layout = g.N.Node.layout in let n : ℕ = c.args.arena.now.nodes in let place : ℕ = c.args.place in let a : ℕ = c.loop-child.pass.caller in let s = seen_of c.args.pass.now in let h = seen_of c.loop-child.pass in let inv = c.loop-child.invariant in
    let e = c.in-Ok-try_go_on.ensures in let b : ℕ = c.try_go_on.new.pass.caller in let k = seen_of c.try_go_on.new.pass in let y = c.in-Ok-try_go_on.field-0.path in let deeper : ℕ = c.in-Ok-try_go_on.field-0.depth in (
      e.pass,
      e.caller ∙ inv.1,
      subst (λ (z : ℕ). IsOnPath (sort_of layout g.N.Node.ranged) g.N.Node.body z place k y) (sym e.caller) e.path,
      stretches_on a b s h k e.caller inv.3 e.stretch,
      (λ told. new_was layout n place a b s h k e.caller inv.3 (e.refused told)),
      (λ start took. subst (λ (z : ℕ). IsDownPath n z start k (suc deeper) 2 deeper y) (sym e.caller) (e.down start (inv.5 start (subst (λ (z : ℕ). TookSince z start s 0 1) e.caller took)))),
      e.near,
      e.eased (λ all. inv.7 c.if-refused.false all),
      fills_on (sort_of g.N.Node.layout g.N.Node.ranged) place a b s h k e.caller inv.8 e.fills,
    )

pub loop-child-smaller-then-refused : goal.loop-child-smaller-then-refused
loop-child-smaller-then-refused g c = less_on g.N.Node.layout g.N.Node.body c.args.place c.args.arena.now.nodes c.loop-child.depth c.loop-child.path c.in-Ok-try_go_on.field-0.depth c.in-Ok-try_go_on.field-0.path c.loop-child.invariant.6 c.in-Ok-try_go_on.ensures.nearer

pub loop-child-smaller-else-refused : goal.loop-child-smaller-else-refused
loop-child-smaller-else-refused g c = less_on g.N.Node.layout g.N.Node.body c.args.place c.args.arena.now.nodes c.loop-child.depth c.loop-child.path c.in-Ok-try_go_on.field-0.depth c.in-Ok-try_go_on.field-0.path c.loop-child.invariant.6 c.in-Ok-try_go_on.ensures.nearer

pub loop-child-preserved : goal.loop-child-preserved
loop-child-preserved g c = let layout : Layout = g.N.Node.layout in let n : ℕ = c.args.arena.now.nodes in let place : ℕ = c.args.place in let a : ℕ = c.loop-child.pass.caller in let s = seen_of c.args.pass.now in let h = seen_of c.loop-child.pass in let inv = c.loop-child.invariant in
    let e = c.split.ensures in let b : ℕ = c.split.new.pass.caller in let k = seen_of c.split.new.pass in let y = c.in-Split.half in let depth : ℕ = c.loop-child.depth in (
      e.pass,
      e.caller ∙ inv.1,
      subst (λ (z : ℕ). IsOnPath (sort_of layout g.N.Node.ranged) g.N.Node.body z place k y) (sym e.caller) c.in-Split.ensures.part,
      stretches_on a b s h k e.caller inv.3 e.stretch,
      (λ told. on_was layout n place a b s h k e.caller e.stretch (inv.4 told)),
      (λ start took. subst (λ (z : ℕ). IsDownPath n z start k (suc depth) 2 depth y) (sym e.caller) (c.in-Split.ensures.down start (suc depth) 2 depth (inv.5 start (subst (λ (z : ℕ). TookSince z start s 0 1) e.caller took)))),
      inv.6,
      (λ r grow full. absurd (not_both (sym full ∙ c.in-Split.ensures.halves grow.2))),
      fills_on (sort_of g.N.Node.layout g.N.Node.ranged) place a b s h k e.caller inv.8 (e.fills (let none = c.has_room.ensures.none c.if-has_room.false in (none.1, λ leaf. none.0))),
    )

pub loop-child-smaller : goal.loop-child-smaller
loop-child-smaller g c = less_split c.args.arena.now.nodes c.loop-child.depth c.loop-child.depth (cuts_left g.N.Node.layout g.N.Node.body c.args.place c.loop-child.path) (cuts_left g.N.Node.layout g.N.Node.body c.args.place c.in-Split.half) refl c.in-Split.ensures.narrows

-- put off

pub returns-in-Err-clause-cause : goal.returns-in-Err-clause-cause
returns-in-Err-clause-cause g c = λ start took. c.in-Err.ensures.busy start took.grows

pub returns-in-Err-try_go_on-clause-cause : goal.returns-in-Err-try_go_on-clause-cause
returns-in-Err-try_go_on-clause-cause g c = λ start took. let n : ℕ = c.args.arena.now.nodes in let s = seen_of c.args.pass.now in let k = seen_of c.try_go_on.new.pass in let inv = c.loop-child.invariant in
    subst (λ (z : ℕ). IsCauseAt coupling n z c.args.place start k c.in-Err-try_go_on.later) inv.1
    (c.in-Err-try_go_on.ensures.down start (inv.5 start (subst (λ (z : ℕ). TookSince z start s 0 1) (sym inv.1) took)))

pub returns-in-Err-try_go_on-clause-room : goal.returns-in-Err-try_go_on-clause-room
returns-in-Err-try_go_on-clause-room g c = subst (λ (z : ℕ). hand z (seen_of c.try_go_on.new.pass) ≡ []) c.loop-child.invariant.1 c.in-Err-try_go_on.ensures.path

pub returns-in-Err-try_go_on-clause-stretch : goal.returns-in-Err-try_go_on-clause-stretch
returns-in-Err-try_go_on-clause-stretch g c = let me : ℕ = c.args.pass.now.caller in let a : ℕ = c.loop-child.pass.caller in let s = seen_of c.args.pass.now in let h = seen_of c.loop-child.pass in let k = seen_of c.try_go_on.new.pass in let inv = c.loop-child.invariant in
    stretches_as me a s k inv.1 (stretches_both a s h k inv.3 c.try_go_on.ensures.stretch)

-- where its search ends

pub returns-then-has_room-clause-room : goal.returns-then-has_room-clause-room
returns-then-has_room-clause-room g c = let n : ℕ = c.args.arena.now.nodes in let me : ℕ = c.args.pass.now.caller in let s = seen_of c.args.pass.now in let inv = c.loop-child.invariant in let e = c.come_to_end.ensures in
    found_room (sort_of g.N.Node.layout g.N.Node.ranged) g.N.Node.body n c.args.place me c.come_to_end.new.pass.caller s (seen_of c.come_to_end.new.pass) c.loop-child.path.node c.come_to_end.result (e.caller ∙ inv.1) e.node e.ends (c.has_room.ensures.room c.if-has_room.true)

pub returns-then-has_room-clause-stretch : goal.returns-then-has_room-clause-stretch
returns-then-has_room-clause-stretch g c = let me : ℕ = c.args.pass.now.caller in let a : ℕ = c.loop-child.pass.caller in let s = seen_of c.args.pass.now in let h = seen_of c.loop-child.pass in let k = seen_of c.come_to_end.new.pass in let inv = c.loop-child.invariant in
    stretches_as me a s k inv.1 (stretches_both a s h k inv.3 c.come_to_end.ensures.stretch)

pub returns-in-Refused-clause-room : goal.returns-in-Refused-clause-room
returns-in-Refused-clause-room g c = let layout : Layout = g.N.Node.layout in let n : ℕ = c.args.arena.now.nodes in let place : ℕ = c.args.place in let me : ℕ = c.args.pass.now.caller in let a : ℕ = c.loop-child.pass.caller in let s = seen_of c.args.pass.now in let h = seen_of c.loop-child.pass in let inv = c.loop-child.invariant in let e₁ = c.split.ensures in let b : ℕ = c.split.new.pass.caller in let m = seen_of c.split.new.pass in let e = c.come_to_end-in-Refused.ensures in let k = seen_of c.come_to_end-in-Refused.new.pass in
    found_none (sort_of g.N.Node.layout g.N.Node.ranged) g.N.Node.body n place me c.come_to_end-in-Refused.new.pass.caller s k c.loop-child.path.node c.come_to_end-in-Refused.result (e.caller ∙ e₁.caller ∙ inv.1) (e.node ∙ c.in-Refused.ensures.part.0) e.ends (c.has_room.ensures.none c.if-has_room.false)
    (on_was layout n place b me s m k (sym (e₁.caller ∙ inv.1)) e.stretch (new_was layout n place a b s h m e₁.caller inv.3 c.in-Refused.ensures.part.2))

pub returns-in-Refused-clause-stretch : goal.returns-in-Refused-clause-stretch
returns-in-Refused-clause-stretch g c = let me : ℕ = c.args.pass.now.caller in let a : ℕ = c.loop-child.pass.caller in let s = seen_of c.args.pass.now in let h = seen_of c.loop-child.pass in let inv = c.loop-child.invariant in let e = c.split.ensures in let b : ℕ = c.split.new.pass.caller in let m = seen_of c.split.new.pass in let k = seen_of c.come_to_end-in-Refused.new.pass in
    stretches_as me b s k (e.caller ∙ inv.1) (stretches_both b s m k (stretches_on a b s h m e.caller inv.3 e.stretch) c.come_to_end-in-Refused.ensures.stretch)

pub returns-in-Shut-clause-room : goal.returns-in-Shut-clause-room
returns-in-Shut-clause-room g c = let layout : Layout = g.N.Node.layout in let n : ℕ = c.args.arena.now.nodes in let place : ℕ = c.args.place in let me : ℕ = c.args.pass.now.caller in let a : ℕ = c.loop-child.pass.caller in let s = seen_of c.args.pass.now in let h = seen_of c.loop-child.pass in let inv = c.loop-child.invariant in let e₁ = c.split.ensures in let b : ℕ = c.split.new.pass.caller in let m = seen_of c.split.new.pass in let e = c.come_to_end-end.ensures in let k = seen_of c.come_to_end-end.new.pass in
    found_none (sort_of g.N.Node.layout g.N.Node.ranged) g.N.Node.body n place me c.come_to_end-end.new.pass.caller s k c.loop-child.path.node c.come_to_end-end.result (e.caller ∙ e₁.caller ∙ inv.1) (e.node ∙ c.in-Shut.ensures.part.0) e.ends (c.has_room.ensures.none c.if-has_room.false)
    (on_was layout n place b me s m k (sym (e₁.caller ∙ inv.1)) e.stretch (on_was layout n place a b s h m e₁.caller e₁.stretch (inv.4 c.if-not-refused.false)))

pub returns-in-Shut-clause-stretch : goal.returns-in-Shut-clause-stretch
returns-in-Shut-clause-stretch g c = let me : ℕ = c.args.pass.now.caller in let a : ℕ = c.loop-child.pass.caller in let s = seen_of c.args.pass.now in let h = seen_of c.loop-child.pass in let inv = c.loop-child.invariant in let e = c.split.ensures in let b : ℕ = c.split.new.pass.caller in let m = seen_of c.split.new.pass in let k = seen_of c.come_to_end-end.new.pass in
    stretches_as me b s k (e.caller ∙ inv.1) (stretches_both b s m k (stretches_on a b s h m e.caller inv.3 e.stretch) c.come_to_end-end.ensures.stretch)

-- a node with no room is full

pub split-requires-clause-full : goal.split-requires-clause-full
split-requires-clause-full g c = (c.has_room.ensures.none c.if-has_room.false).1

-- there is a way to split the node where the search ends, unless a claim was refused

pub unreachable-requires : goal.unreachable-requires
unreachable-requires g c = let sort = sort_of g.N.Node.layout g.N.Node.ranged in let slots : ℕ = c.args.arena.now.table.shared.table_id.slots in let h = seen_of c.loop-child.pass in let inv = c.loop-child.invariant in
    let leaf = path_leaf sort g.N.Node.body c.loop-child.pass.caller c.args.place h c.loop-child.path inv.2 ((c.search_law.ensures sort slots).facts h inv.0.sound) (omega (arith, c.ranges.place)) c.node_law.ensures.sound (sym c.next.ensures ∙ c.in-Here.is) in
    c.in-Shut.ensures.open (λ branch. absurd (let q : true ≡ false = sym branch ∙ leaf in let z : ⊥ = cc in z)) (λ grow. inv.7 c.if-not-refused.true grow (c.has_room.ensures.none c.if-has_room.false).1) tt

-- the kinds of its events

pub returns-in-Err-clause-fills : goal.returns-in-Err-clause-fills
returns-in-Err-clause-fills g c = searched_fills (sort_of g.N.Node.layout g.N.Node.ranged) c.args.place c.args.pass.now.caller (seen_of c.args.pass.now) (seen_of c.try_enter.new.pass) c.try_enter.ensures.leaves

pub returns-in-Err-try_go_on-clause-fills : goal.returns-in-Err-try_go_on-clause-fills
returns-in-Err-try_go_on-clause-fills g c = let a : ℕ = c.loop-child.pass.caller in let s = seen_of c.args.pass.now in let h = seen_of c.loop-child.pass in let k = seen_of c.try_go_on.new.pass in let inv = c.loop-child.invariant in
    subst (λ (z : ℕ). DoesOnly (MayFill (sort_of g.N.Node.layout g.N.Node.ranged) c.args.place) z s k) inv.1 (fills_on (sort_of g.N.Node.layout g.N.Node.ranged) c.args.place a a s h k refl inv.8 c.try_go_on.ensures.fills)

pub returns-then-has_room-clause-fills : goal.returns-then-has_room-clause-fills
returns-then-has_room-clause-fills g c = let a : ℕ = c.loop-child.pass.caller in let s = seen_of c.args.pass.now in let h = seen_of c.loop-child.pass in let k = seen_of c.come_to_end.new.pass in let inv = c.loop-child.invariant in
    subst (λ (z : ℕ). DoesOnly (MayFill (sort_of g.N.Node.layout g.N.Node.ranged) c.args.place) z s k) inv.1 (fills_search (sort_of g.N.Node.layout g.N.Node.ranged) c.args.place a a s h k refl inv.8 c.come_to_end.ensures.leaves)

pub returns-in-Refused-clause-fills : goal.returns-in-Refused-clause-fills
returns-in-Refused-clause-fills g c = let a : ℕ = c.loop-child.pass.caller in let s = seen_of c.args.pass.now in let h = seen_of c.loop-child.pass in let inv = c.loop-child.invariant in let e = c.split.ensures in let b : ℕ = c.split.new.pass.caller in let m = seen_of c.split.new.pass in let k = seen_of c.come_to_end-in-Refused.new.pass in
    subst (λ (z : ℕ). DoesOnly (MayFill (sort_of g.N.Node.layout g.N.Node.ranged) c.args.place) z s k) (e.caller ∙ inv.1) (fills_search (sort_of g.N.Node.layout g.N.Node.ranged) c.args.place b b s m k refl (fills_on (sort_of g.N.Node.layout g.N.Node.ranged) c.args.place a b s h m e.caller inv.8 (e.fills (let none = c.has_room.ensures.none c.if-has_room.false in (none.1, λ leaf. none.0)))) c.come_to_end-in-Refused.ensures.leaves)

pub returns-in-Shut-clause-fills : goal.returns-in-Shut-clause-fills
returns-in-Shut-clause-fills g c = let a : ℕ = c.loop-child.pass.caller in let s = seen_of c.args.pass.now in let h = seen_of c.loop-child.pass in let inv = c.loop-child.invariant in let e = c.split.ensures in let b : ℕ = c.split.new.pass.caller in let m = seen_of c.split.new.pass in let k = seen_of c.come_to_end-end.new.pass in
    subst (λ (z : ℕ). DoesOnly (MayFill (sort_of g.N.Node.layout g.N.Node.ranged) c.args.place) z s k) (e.caller ∙ inv.1) (fills_search (sort_of g.N.Node.layout g.N.Node.ranged) c.args.place b b s m k refl (fills_on (sort_of g.N.Node.layout g.N.Node.ranged) c.args.place a b s h m e.caller inv.8 (e.fills (let none = c.has_room.ensures.none c.if-has_room.false in (none.1, λ leaf. none.0)))) c.come_to_end-end.ensures.leaves)
