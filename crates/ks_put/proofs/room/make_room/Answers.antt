use Rattle.std.proofs.Common.{◌∙◌, ℕ, true, false, sym, subst, ◌≡◌, refl, arith}
use Rattle.ks_keysets.specs.Layout.{Layout}
use Rattle.ks_arena.specs.Sound.{sort_of}
use Rattle.ks_arena.specs.Clauses.{seen_of}
use Rattle.ks_shape.specs.Laws.Stretches.{stretches_as, stretches_both, stretches_on}
use Rattle.ks_shape.specs.OnPath.{IsOnPath}
use Rattle.ks_put.proofs.Going.{on_was, new_was, found_none, found_room}
use Rattle.ks_put.proofs.Trying.{path_leaf}
use Rattle.ks_shape.specs.Does.{MayFill, DoesOnly}
use Rattle.ks_shape.specs.Laws.Does.{fills_on, fills_search, searched_fills}
use Rattle.ks_put.proofs.room.make_room.Goals as goal

not_both : true ≡ false → ⊥
not_both e = cc

pub loop-preserved-then-refused : goal.loop-preserved-then-refused
loop-preserved-then-refused g c = let layout : Layout = g.N.Node.layout in let n : ℕ = c.args.arena.now.nodes in let a : ℕ = c.loop.pass.caller in let s = seen_of c.args.pass.now in let h = seen_of c.loop.pass in let inv = c.loop.invariant in let e = c.go_on-next.ensures in let b : ℕ = c.go_on-next.new.pass.caller in let k = seen_of c.go_on-next.new.pass in
    (e.pass, e.caller ∙ inv.1, subst (λ (z : ℕ). IsOnPath (sort_of g.N.Node.layout g.N.Node.ranged) g.N.Node.body z c.args.place k c.go_on-next.result.0) (sym e.caller) e.path, stretches_on a b s h k e.caller inv.3 e.stretch, (λ t. on_was layout n c.args.place a b s h k e.caller e.stretch (inv.4 c.if-refused.true)), fills_on (sort_of g.N.Node.layout g.N.Node.ranged) c.args.place a b s h k e.caller inv.5 e.fills, λ r grow. absurd (not_both (sym c.if-refused.true ∙ r)))

pub loop-preserved-else-refused : goal.loop-preserved-else-refused
loop-preserved-else-refused g c = let layout : Layout = g.N.Node.layout in let n : ℕ = c.args.arena.now.nodes in let a : ℕ = c.loop.pass.caller in let s = seen_of c.args.pass.now in let h = seen_of c.loop.pass in let inv = c.loop.invariant in let e = c.go_on-next.ensures in let b : ℕ = c.go_on-next.new.pass.caller in let k = seen_of c.go_on-next.new.pass in
    (e.pass, e.caller ∙ inv.1, subst (λ (z : ℕ). IsOnPath (sort_of g.N.Node.layout g.N.Node.ranged) g.N.Node.body z c.args.place k c.go_on-next.result.0) (sym e.caller) e.path, stretches_on a b s h k e.caller inv.3 e.stretch, (λ t. new_was layout n c.args.place a b s h k e.caller inv.3 (e.refused t)), fills_on (sort_of g.N.Node.layout g.N.Node.ranged) c.args.place a b s h k e.caller inv.5 e.fills, λ r grow. e.eased r (λ all. inv.6 c.if-refused.false all) grow)

pub loop-preserved : goal.loop-preserved
loop-preserved g c = let layout : Layout = g.N.Node.layout in let n : ℕ = c.args.arena.now.nodes in let a : ℕ = c.loop.pass.caller in let s = seen_of c.args.pass.now in let h = seen_of c.loop.pass in let inv = c.loop.invariant in let e = c.split.ensures in let b : ℕ = c.split.new.pass.caller in let k = seen_of c.split.new.pass in
    (e.pass, e.caller ∙ inv.1, subst (λ (z : ℕ). IsOnPath (sort_of g.N.Node.layout g.N.Node.ranged) g.N.Node.body z c.args.place k c.in-Split.half) (sym e.caller) c.in-Split.ensures.part, stretches_on a b s h k e.caller inv.3 e.stretch, (λ t. on_was layout n c.args.place a b s h k e.caller e.stretch (inv.4 t)), fills_on (sort_of g.N.Node.layout g.N.Node.ranged) c.args.place a b s h k e.caller inv.5 (e.fills (let none = c.has_room.ensures.none c.if-has_room.false in (none.1, λ leaf. none.0))), λ r grow full. absurd (not_both (sym full ∙ c.in-Split.ensures.halves grow.2)))

-- what the search returns

pub returns-then-has_room-clause-room : goal.returns-then-has_room-clause-room
returns-then-has_room-clause-room g c = let n : ℕ = c.args.arena.now.nodes in let me : ℕ = c.args.pass.now.caller in let s = seen_of c.args.pass.now in let inv = c.loop.invariant in let e = c.come_to_end.ensures in
    found_room (sort_of g.N.Node.layout g.N.Node.ranged) g.N.Node.body n c.args.place me c.come_to_end.new.pass.caller s (seen_of c.come_to_end.new.pass) c.loop.path.node c.come_to_end.result (e.caller ∙ inv.1) e.node e.ends (c.has_room.ensures.room c.if-has_room.true)

pub returns-then-has_room-clause-stretch : goal.returns-then-has_room-clause-stretch
returns-then-has_room-clause-stretch g c = let me : ℕ = c.args.pass.now.caller in let a : ℕ = c.loop.pass.caller in let s = seen_of c.args.pass.now in let h = seen_of c.loop.pass in let k = seen_of c.come_to_end.new.pass in let inv = c.loop.invariant in
    stretches_as me a s k inv.1 (stretches_both a s h k inv.3 c.come_to_end.ensures.stretch)

pub returns-in-Refused-clause-room : goal.returns-in-Refused-clause-room
returns-in-Refused-clause-room g c = let layout : Layout = g.N.Node.layout in let n : ℕ = c.args.arena.now.nodes in let place : ℕ = c.args.place in let me : ℕ = c.args.pass.now.caller in let a : ℕ = c.loop.pass.caller in let s = seen_of c.args.pass.now in let h = seen_of c.loop.pass in let inv = c.loop.invariant in let e₁ = c.split.ensures in let b : ℕ = c.split.new.pass.caller in let m = seen_of c.split.new.pass in let e = c.come_to_end-in-Refused.ensures in let k = seen_of c.come_to_end-in-Refused.new.pass in
    found_none (sort_of g.N.Node.layout g.N.Node.ranged) g.N.Node.body n place me c.come_to_end-in-Refused.new.pass.caller s k c.loop.path.node c.come_to_end-in-Refused.result (e.caller ∙ e₁.caller ∙ inv.1) (e.node ∙ c.in-Refused.ensures.part.0) e.ends (c.has_room.ensures.none c.if-has_room.false)
    (on_was layout n place b me s m k (sym (e₁.caller ∙ inv.1)) e.stretch (new_was layout n place a b s h m e₁.caller inv.3 c.in-Refused.ensures.part.2))

pub returns-in-Refused-clause-stretch : goal.returns-in-Refused-clause-stretch
returns-in-Refused-clause-stretch g c = let me : ℕ = c.args.pass.now.caller in let a : ℕ = c.loop.pass.caller in let s = seen_of c.args.pass.now in let h = seen_of c.loop.pass in let inv = c.loop.invariant in let e = c.split.ensures in let b : ℕ = c.split.new.pass.caller in let m = seen_of c.split.new.pass in let k = seen_of c.come_to_end-in-Refused.new.pass in
    stretches_as me b s k (e.caller ∙ inv.1) (stretches_both b s m k (stretches_on a b s h m e.caller inv.3 e.stretch) c.come_to_end-in-Refused.ensures.stretch)

pub returns-in-Shut-clause-room : goal.returns-in-Shut-clause-room
returns-in-Shut-clause-room g c = let layout : Layout = g.N.Node.layout in let n : ℕ = c.args.arena.now.nodes in let place : ℕ = c.args.place in let me : ℕ = c.args.pass.now.caller in let a : ℕ = c.loop.pass.caller in let s = seen_of c.args.pass.now in let h = seen_of c.loop.pass in let inv = c.loop.invariant in let e₁ = c.split.ensures in let b : ℕ = c.split.new.pass.caller in let m = seen_of c.split.new.pass in let e = c.come_to_end-in-Shut.ensures in let k = seen_of c.come_to_end-in-Shut.new.pass in
    found_none (sort_of g.N.Node.layout g.N.Node.ranged) g.N.Node.body n place me c.come_to_end-in-Shut.new.pass.caller s k c.loop.path.node c.come_to_end-in-Shut.result (e.caller ∙ e₁.caller ∙ inv.1) (e.node ∙ c.in-Shut.ensures.part.0) e.ends (c.has_room.ensures.none c.if-has_room.false)
    (on_was layout n place b me s m k (sym (e₁.caller ∙ inv.1)) e.stretch (on_was layout n place a b s h m e₁.caller e₁.stretch (inv.4 c.if-not-refused.false)))

pub returns-in-Shut-clause-stretch : goal.returns-in-Shut-clause-stretch
returns-in-Shut-clause-stretch g c = let me : ℕ = c.args.pass.now.caller in let a : ℕ = c.loop.pass.caller in let s = seen_of c.args.pass.now in let h = seen_of c.loop.pass in let inv = c.loop.invariant in let e = c.split.ensures in let b : ℕ = c.split.new.pass.caller in let m = seen_of c.split.new.pass in let k = seen_of c.come_to_end-in-Shut.new.pass in
    stretches_as me b s k (e.caller ∙ inv.1) (stretches_both b s m k (stretches_on a b s h m e.caller inv.3 e.stretch) c.come_to_end-in-Shut.ensures.stretch)

-- there is a way to split the node where the search ends, unless a claim was refused

pub unreachable-requires : goal.unreachable-requires
unreachable-requires g c = let sort = sort_of g.N.Node.layout g.N.Node.ranged in let slots : ℕ = c.args.arena.now.table.shared.table_id.slots in let h = seen_of c.loop.pass in let inv = c.loop.invariant in
    let leaf = path_leaf sort g.N.Node.body c.loop.pass.caller c.args.place h c.loop.path inv.2 ((c.search_law.ensures sort slots).facts h inv.0.sound) (omega (arith, c.ranges.place)) c.node_law.ensures.sound (sym c.next-in-loop.ensures ∙ c.in-Here.is) in
    c.in-Shut.ensures.open (λ branch. absurd (let q : true ≡ false = sym branch ∙ leaf in let z : ⊥ = cc in z)) (λ grow. inv.6 c.if-not-refused.true grow (c.has_room.ensures.none c.if-has_room.false).1) tt

-- a node with no room is full

pub split-requires-clause-full : goal.split-requires-clause-full
split-requires-clause-full g c = (c.has_room.ensures.none c.if-has_room.false).1

-- the kinds of its events

pub loop-init : goal.loop-init
loop-init g c = let e = c.come_to_full-path.ensures in let s = seen_of c.args.pass.now in let k = seen_of c.come_to_full-path.new.pass in (
  e.pass,
  e.caller,
  subst (λ (z : ℕ). IsOnPath (sort_of g.N.Node.layout g.N.Node.ranged) g.N.Node.body z c.args.place k c.come_to_full-path.result) (sym e.caller) e.path,
  stretches_as c.come_to_full-path.new.pass.caller c.args.pass.now.caller s k (sym e.caller) e.stretch,
  (λ told. absurd (let z : ⊥ = cc in z)),
  subst (λ (z : ℕ). DoesOnly (MayFill (sort_of g.N.Node.layout g.N.Node.ranged) c.args.place) z s k) (sym e.caller) (searched_fills (sort_of g.N.Node.layout g.N.Node.ranged) c.args.place c.args.pass.now.caller s k e.leaves),
  (λ r grow. e.eased),
)

pub returns-then-has_room-clause-fills : goal.returns-then-has_room-clause-fills
returns-then-has_room-clause-fills g c = let a : ℕ = c.loop.pass.caller in let s = seen_of c.args.pass.now in let h = seen_of c.loop.pass in let k = seen_of c.come_to_end.new.pass in let inv = c.loop.invariant in
    subst (λ (z : ℕ). DoesOnly (MayFill (sort_of g.N.Node.layout g.N.Node.ranged) c.args.place) z s k) inv.1 (fills_search (sort_of g.N.Node.layout g.N.Node.ranged) c.args.place a a s h k refl inv.5 c.come_to_end.ensures.leaves)

pub returns-in-Refused-clause-fills : goal.returns-in-Refused-clause-fills
returns-in-Refused-clause-fills g c = let a : ℕ = c.loop.pass.caller in let s = seen_of c.args.pass.now in let h = seen_of c.loop.pass in let inv = c.loop.invariant in let e = c.split.ensures in let b : ℕ = c.split.new.pass.caller in let m = seen_of c.split.new.pass in let k = seen_of c.come_to_end-in-Refused.new.pass in
    subst (λ (z : ℕ). DoesOnly (MayFill (sort_of g.N.Node.layout g.N.Node.ranged) c.args.place) z s k) (e.caller ∙ inv.1) (fills_search (sort_of g.N.Node.layout g.N.Node.ranged) c.args.place b b s m k refl (fills_on (sort_of g.N.Node.layout g.N.Node.ranged) c.args.place a b s h m e.caller inv.5 (e.fills (let none = c.has_room.ensures.none c.if-has_room.false in (none.1, λ leaf. none.0)))) c.come_to_end-in-Refused.ensures.leaves)

pub returns-in-Shut-clause-fills : goal.returns-in-Shut-clause-fills
returns-in-Shut-clause-fills g c = let a : ℕ = c.loop.pass.caller in let s = seen_of c.args.pass.now in let h = seen_of c.loop.pass in let inv = c.loop.invariant in let e = c.split.ensures in let b : ℕ = c.split.new.pass.caller in let m = seen_of c.split.new.pass in let k = seen_of c.come_to_end-in-Shut.new.pass in
    subst (λ (z : ℕ). DoesOnly (MayFill (sort_of g.N.Node.layout g.N.Node.ranged) c.args.place) z s k) (e.caller ∙ inv.1) (fills_search (sort_of g.N.Node.layout g.N.Node.ranged) c.args.place b b s m k refl (fills_on (sort_of g.N.Node.layout g.N.Node.ranged) c.args.place a b s h m e.caller inv.5 (e.fills (let none = c.has_room.ensures.none c.if-has_room.false in (none.1, λ leaf. none.0)))) c.come_to_end-in-Shut.ensures.leaves)
