use Rattle.std.proofs.Common.{◌≡◌, ℕ, length, arith, refl, sym, ap, subst}
use Rattle.ks_history.specs.declared.Event.TheVariants.{Call}
use Rattle.ks_history.specs.declared.Op.TheVariants.{Del}
use Rattle.ks_history.specs.Laws.Begins.{with_begins}
use Rattle.ks_history.specs.Map.{told}
use Rattle.ks_history.specs.Passes.{Has}
use Rattle.ks_history.specs.Own.{hand}
use Rattle.ks_history.specs.Laws.Underway.{underway_call}
use Rattle.ks_arena.specs.declared.held.Held.{Held as Hand}
use Rattle.ks_arena.specs.Sound.{blank_of, sort_of}
use Rattle.ks_arena.specs.Clauses.{IsReady, seen_of}
use Rattle.ks_node.specs.Body.{frame_of}
use Rattle.ks_shape.specs.Laws.Single.{shown}
use Rattle.ks_tidy.specs.Laws.Deciding.{decided_there}
use Rattle.ks_tidy.proofs.Keeping.{places_kept}
use Rattle.ks_tidy.proofs.Standing.{keyset_here, no_branch}
use Rattle.ks_shape.specs.Laws.Does.{searches_call}
use Rattle.ks_shape.specs.Laws.Found.{never_full}
use Rattle.ks_tidy.proofs.deletes.delete.Goals as goal

pub del-found-requires : goal.del-found-requires
del-found-requires g c = let sort = sort_of g.N.Node.layout g.N.Node.ranged in let h = seen_of c.args.pass.now in
    no_branch sort g.N.Node.body c.args.place h c.args.held.now c.requires.body.0 c.requires.body.1 c.requires.inside ((c.search_law.ensures sort c.args.arena.now.table.shared.table_id.slots).facts h c.requires.pass.sound) (omega (arith, c.ranges.place)) c.node_law.ensures.sound c.requires.ends

pub del_told-number-requires-clause-ready : goal.del_told-number-requires-clause-ready
del_told-number-requires-clause-ready g c = let x : Hand g.row.N.Denot = record { node = c.args.held.now.node; body = c.del-found.new.self; live = c.args.held.now.live } in
    subst (IsReady (sort_of g.N.Node.layout g.N.Node.ranged) g.N.Node.body c.args.arena.now.nodes c.args.pass.now.caller (seen_of c.args.pass.now) x (Del c.args.place)) (ap told (sym c.del-found.ensures.answer))
    (c.del_law.ensures x refl c.requires.body.0 c.del-found.ensures.body)

pub returns-clause-keyset : goal.returns-clause-keyset
returns-clause-keyset g c = let sort = sort_of g.N.Node.layout g.N.Node.ranged in let n : ℕ = c.args.arena.now.table.shared.table_id.slots in let me : ℕ = c.args.pass.now.caller in let h = seen_of c.args.pass.now in let k = seen_of c.del_told-number.new.pass in let x = c.args.held.now in let e = c.del_told-number.ensures in
    let hands : hand me k ≡ hand me h = subst (λ (z : ℕ). hand z k ≡ hand me h) e.caller e.decided.hand in
    (places_kept sort n me (c.search_law.ensures sort n) (Call me x.node (Del c.args.place) (told c.del-found.result)) h k x.node tt e.decided.adds.grows c.requires.pass.sound e.pass.sound c.requires.holds (subst (λ l. Has l x.node) (sym hands) c.requires.holds)).keyset c.args.place
    (keyset_here sort g.N.Node.body c.args.place h x c.requires.body.0 c.requires.body.1 c.node_law.ensures.sound c.requires.inside c.requires.ends)

pub returns-clause-decided : goal.returns-clause-decided
returns-clause-decided g c = λ template start under. let me : ℕ = c.args.pass.now.caller in let h = seen_of c.args.pass.now in let k = seen_of c.del_told-number.new.pass in let e = c.del_told-number.ensures in let op = Del c.args.place in
    let hands : hand me k ≡ hand me h = subst (λ (z : ℕ). hand z k ≡ hand me h) e.caller e.decided.hand in
    underway_call g.N.Node.layout template c.args.arena.now.nodes me c.args.held.now.node op (told c.del-found.result) c.del_told-number.result start h k e.decided.adds.grows (omega (arith, ap length hands, c.requires.few)) e.decided.adds.number (λ full. absurd (never_full c.del-found.result full)) under

pub returns-clause-begins : goal.returns-clause-begins
returns-clause-begins g c = with_begins c.args.pass.now.caller (Call c.args.pass.now.caller c.args.held.now.node (Del c.args.place) (told c.del-found.result)) (seen_of c.args.pass.now) (seen_of c.del_told-number.new.pass) c.del_told-number.ensures.decided.adds.grows

pub returns-clause-leaves : goal.returns-clause-leaves
returns-clause-leaves g c = searches_call c.args.pass.now.caller c.args.held.now.node (Del c.args.place) (told c.del-found.result) (seen_of c.args.pass.now) (seen_of c.del_told-number.new.pass) c.del_told-number.ensures.decided.adds.grows

pub returns-clause-at : goal.returns-clause-at
returns-clause-at g c = λ template start under. let sort = sort_of g.N.Node.layout g.N.Node.ranged in let n : ℕ = c.args.arena.now.table.shared.table_id.slots in let me : ℕ = c.args.pass.now.caller in let h = seen_of c.args.pass.now in let k = seen_of c.del_told-number.new.pass in let e = c.del_told-number.ensures in let op = Del c.args.place in let x = c.args.held.now in
    let hands : hand me k ≡ hand me h = subst (λ (z : ℕ). hand z k ≡ hand me h) e.caller e.decided.hand in
    let y : Hand g.row.N.Denot = record { node = x.node; body = c.del-found.new.self; live = x.live } in
    decided_there g.N.Node.layout template c.args.arena.now.nodes me x.node c.del_told-number.result op (told c.del-found.result) (blank_of sort) (frame_of (g.N.Node.body x.body)) start h k ((c.search_law.ensures sort n).turns k e.pass.sound)
    (c.del_law.ensures y refl c.requires.body.0 c.del-found.ensures.body).meets.0 (shown sort g.N.Node.body h x c.requires.body.0 c.requires.body.1).1 e.decided.adds (omega (arith, ap length hands, c.requires.few)) (never_full c.del-found.result) under
