use Rattle.std.proofs.Common.{◌++◌, ◌∷◌, [], ℕ, Some, None, refl, sym, ◌∙◌, subst, arith}
use Rattle.ks_arena.specs.Clauses.{seen_of}
use Rattle.ks_shape.specs.Parts.{DonePart}
use Rattle.ks_dictionary.specs.Scan.{DoneParts, HasSearched}
use Rattle.ks_dictionary.proofs.Rows.{next_from, next_more, done_more, searched_none, searched_more}
use Rattle.ks_dictionary.proofs.Finds.{first_more, none_more, not_none}
use Rattle.ks_dictionary.proofs.ends.first_in.Goals as goal
use Rattle.ks_dictionary.proofs.ends.first_in.Given.{Over}
use Rattle.ks_dictionary.proofs.ends.first_in.Goals.{After-first_of}

pub loop-found-init : goal.loop-found-init
loop-found-init g c = record {
  searched = searched_none (g.A.Shelf.site c.args.arena.now) c.args.pass.now c.requires.pass;
  row = ([], refl, tt, refl);
  to = c.requires.span;
}

pub scan_part-part-requires-clause-pass : goal.scan_part-part-requires-clause-pass
scan_part-part-requires-clause-pass g c = c.loop-found.invariant.searched.pass

pub scan_part-part-requires-clause-span : goal.scan_part-part-requires-clause-span
scan_part-part-requires-clause-span g c = c.loop-found.invariant.to

-- what the row is with the new part

searched : (g : Over) (c : After-first_of g) → HasSearched (g.A.Shelf.site c.args.arena.now) c.args.pass.now c.scan_part-part.new.pass
searched g c = let e = c.scan_part-part.ensures in searched_more (g.A.Shelf.site c.args.arena.now) c.args.pass.now c.loop-found.pass c.scan_part-part.new.pass c.loop-found.invariant.searched e.pass e.caller e.leaves

more : (g : Over) (c : After-first_of g) → DonePart g.N.Node.layout g.T.Ruled.technique (g.A.Shelf.site c.args.arena.now).nodes c.args.pass.now.caller (next_from c.args.low c.loop-found.invariant.row.0) c.args.last (seen_of c.loop-found.pass) (seen_of c.scan_part-part.new.pass) c.scan_part-part.result
more g c = let i = c.loop-found.invariant in
    subst (λ (z : ℕ). DonePart g.N.Node.layout g.T.Ruled.technique (g.A.Shelf.site c.args.arena.now).nodes c.args.pass.now.caller z c.args.last (seen_of c.loop-found.pass) (seen_of c.scan_part-part.new.pass) c.scan_part-part.result) i.row.3
    (subst (λ (z : ℕ). DonePart g.N.Node.layout g.T.Ruled.technique (g.A.Shelf.site c.args.arena.now).nodes z c.loop-found.from c.args.last (seen_of c.loop-found.pass) (seen_of c.scan_part-part.new.pass) c.scan_part-part.result) i.searched.caller c.scan_part-part.ensures.done)

done : (g : Over) (c : After-first_of g) → DoneParts g.N.Node.layout g.T.Ruled.technique (g.A.Shelf.site c.args.arena.now).nodes c.args.pass.now.caller c.args.low c.args.last (seen_of c.args.pass.now) (c.loop-found.invariant.row.0 ++ c.scan_part-part.result ∷ []) (seen_of c.scan_part-part.new.pass)
done g c = done_more g.N.Node.layout g.T.Ruled.technique (g.A.Shelf.site c.args.arena.now).nodes c.args.pass.now.caller c.args.low c.args.last (seen_of c.args.pass.now) c.loop-found.invariant.row.0 (seen_of c.loop-found.pass) (seen_of c.scan_part-part.new.pass) c.scan_part-part.result c.loop-found.invariant.row.1 (more g c)

pub returns-in-Some-clause-searched : goal.returns-in-Some-clause-searched
returns-in-Some-clause-searched g c = searched g (goal.at.returns-in-Some-clause-searched g c).After-first_of

pub returns-in-Some-clause-done : goal.returns-in-Some-clause-done
returns-in-Some-clause-done g c = let d = (goal.at.returns-in-Some-clause-done g c).After-first_of in record {
  parts = c.loop-found.invariant.row.0 ++ c.scan_part-part.result ∷ [];
  done = done g d;
  least = first_more c.args.last c.loop-found.invariant.row.0 c.scan_part-part.result (Some c.in-Some.found) c.loop-found.invariant.row.2 (sym c.in-Some.is ∙ c.first_of.ensures) (λ none. absurd (not_none c.in-Some.found none));
}

pub returns-then-part-last-clause-searched : goal.returns-then-part-last-clause-searched
returns-then-part-last-clause-searched g c = searched g (goal.at.returns-then-part-last-clause-searched g c).After-first_of

pub returns-then-part-last-clause-done : goal.returns-then-part-last-clause-done
returns-then-part-last-clause-done g c = let d = (goal.at.returns-then-part-last-clause-done g c).After-first_of in record {
  parts = c.loop-found.invariant.row.0 ++ c.scan_part-part.result ∷ [];
  done = done g d;
  least = first_more c.args.last c.loop-found.invariant.row.0 c.scan_part-part.result None c.loop-found.invariant.row.2 (sym c.in_default.is ∙ c.first_of.ensures) (λ none. c.if-part-last.true);
}

pub loop-found-smaller : goal.loop-found-smaller
loop-found-smaller g c = let m = more g (goal.at.loop-found-smaller g c).After-first_of in let s = m.span.0 in let t = m.span.1 in let n = c.loop-found.invariant.row.3 in let f = c.if-part-last.false in omega (arith, s, t, n, f)

pub loop-found-preserved : goal.loop-found-preserved
loop-found-preserved g c = let d = (goal.at.loop-found-preserved g c).After-first_of in let m = more g d in let i = c.loop-found.invariant in record {
  searched = searched g d;
  row = (i.row.0 ++ c.scan_part-part.result ∷ [], done g d, none_more i.row.0 c.scan_part-part.result i.row.2 (sym c.first_of.ensures ∙ c.in_default.is), (let e = next_more c.args.low i.row.0 c.scan_part-part.result in omega (arith, e)));
  to = let t = m.span.1 in let f = c.if-part-last.false in omega (arith, t, f);
}
