use Rattle.std.proofs.Common.{◌≡◌, ◌++◌, ◌∷◌, [], ℕ, Option, Some, refl, sym, ap, ◌∙◌, subst, arith}
use Rattle.ks_arena.specs.Clauses.{seen_of}
use Rattle.ks_shape.specs.Parts.{DonePart}
use Rattle.ks_dictionary.specs.Scan.{DoneParts, HasSearched}
use Rattle.ks_dictionary.specs.declared.ends.Found.{Found}
use Rattle.ks_dictionary.specs.Ends.{found_or, last_found, last_of}
use Rattle.ks_dictionary.proofs.Rows.{next_from, next_more, end_more, done_more, searched_none, searched_more}
use Rattle.ks_dictionary.proofs.Finds.{last_more}
use Rattle.ks_dictionary.proofs.ends.last_in.Goals as goal
use Rattle.ks_dictionary.proofs.ends.last_in.Given.{Over}
use Rattle.ks_dictionary.proofs.ends.last_in.Goals.{After-last_of, After-or_before-found}

pub loop-part-init : goal.loop-part-init
loop-part-init g c = record {
  searched = searched_none (g.A.Shelf.site c.args.arena.now) c.args.pass.now c.requires.pass;
  row = ([], refl, refl, refl);
  to = c.requires.span;
}

pub scan_part-part-requires-clause-pass : goal.scan_part-part-requires-clause-pass
scan_part-part-requires-clause-pass g c = c.loop-part.invariant.searched.pass

pub scan_part-part-requires-clause-span : goal.scan_part-part-requires-clause-span
scan_part-part-requires-clause-span g c = c.loop-part.invariant.to

-- what the row is with the new part

searched : (g : Over) (c : After-last_of g) → HasSearched (g.A.Shelf.site c.args.arena.now) c.args.pass.now c.scan_part-part.new.pass
searched g c = let e = c.scan_part-part.ensures in searched_more (g.A.Shelf.site c.args.arena.now) c.args.pass.now c.loop-part.pass c.scan_part-part.new.pass c.loop-part.invariant.searched e.pass e.caller e.leaves

more : (g : Over) (c : After-last_of g) → DonePart g.N.Node.layout g.T.Ruled.technique (g.A.Shelf.site c.args.arena.now).nodes c.args.pass.now.caller (next_from c.args.low c.loop-part.invariant.row.0) c.args.last (seen_of c.loop-part.pass) (seen_of c.scan_part-part.new.pass) c.scan_part-part.result
more g c = let i = c.loop-part.invariant in
    subst (λ (z : ℕ). DonePart g.N.Node.layout g.T.Ruled.technique (g.A.Shelf.site c.args.arena.now).nodes c.args.pass.now.caller z c.args.last (seen_of c.loop-part.pass) (seen_of c.scan_part-part.new.pass) c.scan_part-part.result) i.row.3
    (subst (λ (z : ℕ). DonePart g.N.Node.layout g.T.Ruled.technique (g.A.Shelf.site c.args.arena.now).nodes z c.loop-part.from c.args.last (seen_of c.loop-part.pass) (seen_of c.scan_part-part.new.pass) c.scan_part-part.result) i.searched.caller c.scan_part-part.ensures.done)

done : (g : Over) (c : After-last_of g) → DoneParts g.N.Node.layout g.T.Ruled.technique (g.A.Shelf.site c.args.arena.now).nodes c.args.pass.now.caller c.args.low c.args.last (seen_of c.args.pass.now) (c.loop-part.invariant.row.0 ++ c.scan_part-part.result ∷ []) (seen_of c.scan_part-part.new.pass)
done g c = done_more g.N.Node.layout g.T.Ruled.technique (g.A.Shelf.site c.args.arena.now).nodes c.args.pass.now.caller c.args.low c.args.last (seen_of c.args.pass.now) c.loop-part.invariant.row.0 (seen_of c.loop-part.pass) (seen_of c.scan_part-part.new.pass) c.scan_part-part.result c.loop-part.invariant.row.1 (more g c)

found : (g : Over) (c : After-or_before-found g) → c.or_before-found.result ≡ last_found (c.loop-part.invariant.row.0 ++ c.scan_part-part.result ∷ [])
found g c = c.or_before-found.ensures ∙ ap (λ (f : Option Found). found_or f c.loop-part.found) c.last_of.ensures ∙ ap (found_or (last_of c.scan_part-part.result)) c.loop-part.invariant.row.2 ∙ sym (last_more c.loop-part.invariant.row.0 c.scan_part-part.result)

pub returns-then-part-last-clause-searched : goal.returns-then-part-last-clause-searched
returns-then-part-last-clause-searched g c = searched g (goal.at.returns-then-part-last-clause-searched g c).After-last_of

pub returns-then-part-last-clause-done : goal.returns-then-part-last-clause-done
returns-then-part-last-clause-done g c = let d = (goal.at.returns-then-part-last-clause-done g c).After-last_of in record {
  parts = c.loop-part.invariant.row.0 ++ c.scan_part-part.result ∷ [];
  done = done g d;
  whole = end_more c.loop-part.invariant.row.0 c.scan_part-part.result ∙ ap (λ (p : ℕ). Some p) c.if-part-last.true;
  greatest = found g (goal.at.returns-then-part-last-clause-done g c).After-or_before-found;
}

pub loop-part-smaller : goal.loop-part-smaller
loop-part-smaller g c = let m = more g (goal.at.loop-part-smaller g c).After-last_of in let s = m.span.0 in let t = m.span.1 in let n = c.loop-part.invariant.row.3 in let f = c.if-part-last.false in omega (arith, s, t, n, f)

pub loop-part-preserved : goal.loop-part-preserved
loop-part-preserved g c = let d = (goal.at.loop-part-preserved g c).After-last_of in let m = more g d in let i = c.loop-part.invariant in record {
  searched = searched g d;
  row = (i.row.0 ++ c.scan_part-part.result ∷ [], done g d, found g (goal.at.loop-part-preserved g c).After-or_before-found, (let e = next_more c.args.low i.row.0 c.scan_part-part.result in omega (arith, e)));
  to = let t = m.span.1 in let f = c.if-part-last.false in omega (arith, t, f);
}
