use Rattle.std.proofs.Common.{◌≡◌, ◌+◌, ◌∷◌, [], ℕ, List, length, length-append, Some, refl, sym, ap, ◌∙◌, subst, arith}
use Rattle.ks_arena.specs.Clauses.{seen_of}
use Rattle.ks_shape.specs.Parts.{DonePart}
use Rattle.ks_lines.specs.declared.parts.Part.{Part}
use Rattle.ks_dictionary.specs.Scan.{DoneParts, HasSearched}
use Rattle.ks_lines.specs.Scan.{PartsAscend, end_of}
use Rattle.ks_dictionary.proofs.Numbers.{numbers_ascend}
use Rattle.ks_dictionary.proofs.Rows.{next_from, next_more, end_more, done_more, ascend_more, end_before, searched_none, searched_more}
use Rattle.ks_dictionary.proofs.row.scan_into.Goals as goal
use Rattle.ks_dictionary.proofs.row.scan_into.Given.{Over}
use Rattle.ks_dictionary.proofs.row.scan_into.Goals.{After-push_reserved}

pub loop-init : goal.loop-init
loop-init g c = record {
  searched = searched_none (g.A.Shelf.site c.args.arena.now) c.args.pass.now c.requires.pass;
  long = ap (λ (parts : List Part). length parts) c.requires.blank;
  capacity = refl;
  done = subst (λ (parts : List Part). DoneParts g.N.Node.layout g.T.Ruled.technique (g.A.Shelf.site c.args.arena.now).nodes c.args.pass.now.caller c.args.low c.args.last (seen_of c.args.pass.now) parts (seen_of c.args.pass.now)) (sym c.requires.blank) refl;
  ascend = subst (PartsAscend c.args.low c.args.last) (sym c.requires.blank) tt;
  from = ap (next_from c.args.low) (sym c.requires.blank);
  to = c.requires.span;
}

pub push_reserved-requires : goal.push_reserved-requires
push_reserved-requires g c = let i = c.loop.invariant in let r = c.requires.room in omega (arith, i.long, i.capacity, r, c.loop.into.ok.0, c.loop-test.true)

-- what the row is with the new part

searched : (g : Over) (c : After-push_reserved g) → HasSearched (g.A.Shelf.site c.args.arena.now) c.args.pass.now c.scan_part-part.new.pass
searched g c = let e = c.scan_part-part.ensures in searched_more (g.A.Shelf.site c.args.arena.now) c.args.pass.now c.loop.pass c.scan_part-part.new.pass c.loop.invariant.searched e.pass e.caller e.leaves

more : (g : Over) (c : After-push_reserved g) → DonePart g.N.Node.layout g.T.Ruled.technique (g.A.Shelf.site c.args.arena.now).nodes c.args.pass.now.caller (next_from c.args.low c.loop.into.items) c.args.last (seen_of c.loop.pass) (seen_of c.scan_part-part.new.pass) c.scan_part-part.result
more g c = let i = c.loop.invariant in
    subst (λ (z : ℕ). DonePart g.N.Node.layout g.T.Ruled.technique (g.A.Shelf.site c.args.arena.now).nodes c.args.pass.now.caller z c.args.last (seen_of c.loop.pass) (seen_of c.scan_part-part.new.pass) c.scan_part-part.result) i.from
    (subst (λ (z : ℕ). DonePart g.N.Node.layout g.T.Ruled.technique (g.A.Shelf.site c.args.arena.now).nodes z c.loop.from c.args.last (seen_of c.loop.pass) (seen_of c.scan_part-part.new.pass) c.scan_part-part.result) i.searched.caller c.scan_part-part.ensures.done)

done : (g : Over) (c : After-push_reserved g) → DoneParts g.N.Node.layout g.T.Ruled.technique (g.A.Shelf.site c.args.arena.now).nodes c.args.pass.now.caller c.args.low c.args.last (seen_of c.args.pass.now) c.push_reserved.new.self.items (seen_of c.scan_part-part.new.pass)
done g c = subst (λ (parts : List Part). DoneParts g.N.Node.layout g.T.Ruled.technique (g.A.Shelf.site c.args.arena.now).nodes c.args.pass.now.caller c.args.low c.args.last (seen_of c.args.pass.now) parts (seen_of c.scan_part-part.new.pass)) (sym c.push_reserved.ensures.items)
    (done_more g.N.Node.layout g.T.Ruled.technique (g.A.Shelf.site c.args.arena.now).nodes c.args.pass.now.caller c.args.low c.args.last (seen_of c.args.pass.now) c.loop.into.items (seen_of c.loop.pass) (seen_of c.scan_part-part.new.pass) c.scan_part-part.result c.loop.invariant.done (more g c))

ascend : (g : Over) (c : After-push_reserved g) → PartsAscend c.args.low c.args.last c.push_reserved.new.self.items
ascend g c = let m = more g c in
    subst (PartsAscend c.args.low c.args.last) (sym c.push_reserved.ensures.items) (ascend_more c.args.low c.args.last c.loop.into.items c.scan_part-part.result c.loop.invariant.ascend m.span.0 m.span.1)

long : (g : Over) (c : After-push_reserved g) → length c.push_reserved.new.self.items ≡ c.loop.counter + 1
long g c = ap (λ (parts : List Part). length parts) c.push_reserved.ensures.items ∙ length-append c.loop.into.items (c.scan_part-part.result ∷ []) ∙ ap (λ (n : ℕ). n + 1) c.loop.invariant.long

pub returns-then-end-last-clause-searched : goal.returns-then-end-last-clause-searched
returns-then-end-last-clause-searched g c = searched g (goal.at.returns-then-end-last-clause-searched g c).After-push_reserved

pub returns-then-end-last-clause-done : goal.returns-then-end-last-clause-done
returns-then-end-last-clause-done g c = done g (goal.at.returns-then-end-last-clause-done g c).After-push_reserved

pub returns-then-end-last-clause-scan : goal.returns-then-end-last-clause-scan
returns-then-end-last-clause-scan g c = let d = (goal.at.returns-then-end-last-clause-scan g c).After-push_reserved in record {
  ascend = ascend g d;
  few = let n = long g d in let t = c.loop-test.true in omega arith;
  stops = ap end_of c.push_reserved.ensures.items ∙ end_more c.loop.into.items c.scan_part-part.result ∙ ap (λ (p : ℕ). Some p) c.if-end-last.true;
}

pub returns-then-end-last-clause-ascend : goal.returns-then-end-last-clause-ascend
returns-then-end-last-clause-ascend g c = numbers_ascend _ _ _ _ _ _ _ _ _ (done g (goal.at.returns-then-end-last-clause-ascend g c).After-push_reserved)

pub loop-preserved : goal.loop-preserved
loop-preserved g c = let d = (goal.at.loop-preserved g c).After-push_reserved in let m = more g d in record {
  searched = searched g d;
  long = long g d;
  capacity = c.push_reserved.ensures.capacity ∙ c.loop.invariant.capacity;
  done = done g d;
  ascend = ascend g d;
  from = let e = next_more c.args.low c.loop.into.items c.scan_part-part.result in let s = ap (next_from c.args.low) c.push_reserved.ensures.items in omega (arith, e, s);
  to = let t = m.span.1 in let e = c.if-end-last.false in omega arith;
}

pub returns-clause-scan : goal.returns-clause-scan
returns-clause-scan g c = let i = c.loop.invariant in let f = c.loop-test.false in let a = c.loop.auto.counter-end in
    let most : length c.loop.into.items ≡ c.args.most = omega (arith, i.long, f, a) in
    let e = end_before c.args.low c.loop.into.items (let s = c.requires.some in omega (arith, most, s)) in record {
      ascend = i.ascend;
      few = omega (arith, most);
      stops = (most, e.0, e.1, (let t = i.to in let n = i.from in omega (arith, t, n, e.2)), (let n = i.from in n ∙ e.2));
    }

pub returns-clause-ascend : goal.returns-clause-ascend
returns-clause-ascend g c = numbers_ascend _ _ _ _ _ _ _ _ _ c.loop.invariant.done
