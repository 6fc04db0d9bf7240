use Rattle.std.proofs.Common.{◌≡◌, ℕ, List, sym, subst}
use Rattle.std.specs.Prelude.{Result, Ok, Err}
use Rattle.ks_history.specs.declared.Event.{Event}
use Rattle.ks_history.specs.declared.Op.{Op}
use Rattle.ks_history.specs.Due.{NoneFree}
use Rattle.ks_history.specs.Map.{told}
use Rattle.ks_history.specs.Passes.{NoCallBy}
use Rattle.ks_history.specs.Trace.{◌⊑◌}
use Rattle.ks_node.specs.Body.{Body}
use Rattle.ks_arena.specs.declared.held.Held.{Held as Hand}
use Rattle.ks_arena.specs.Sound.{Sort, sort_of}
use Rattle.ks_arena.specs.Clauses.{seen_of}
use Rattle.ks_shape.specs.declared.fills.Fill.{Fill}
use Rattle.ks_shape.specs.declared.fills.Fill.TheVariants.{Put, Add}
use Rattle.ks_shape.specs.Fills.{EndsForRoom, ended_at, filling}
use Rattle.ks_shape.specs.Of.{FinishesAt}
use Rattle.ks_shape.proofs.fills.fill_at.Goals as goal

-- if it ended at a full node, no node was free
refused : {N : Type 0} (sort : Sort) (shows : N → Body) (n c place : ℕ) (k : List Event) (found : Result (Hand N) (Hand N)) (held : Hand N) → found ≡ Err held → EndsForRoom sort shows n c place k found → (h : List Event) × (since : h ⊑ k) × NoCallBy c since.rest × NoneFree sort.layout n c place h k
refused {N = N} sort shows n c place k found held is so =
    let ends = subst (λ (z : Result (Hand N) (Hand N)). EndsForRoom sort shows n c place k z) is so in
    (ends.0, ends.1, ends.2, ends.3.1)

pub refuse_here-requires-clause-refused : goal.refuse_here-requires-clause-refused
refuse_here-requires-clause-refused g c κs within = refused (sort_of g.N.Node.layout g.N.Node.ranged) g.N.Node.body c.args.arena.now.nodes c.args.pass.now.caller c.args.place (seen_of c.args.pass.now) c.args.found c.in-Put-Err.held c.in-Put-Err.is-1 c.requires.found

pub refuse_here-requires-in-Add-Err-clause-refused : goal.refuse_here-requires-in-Add-Err-clause-refused
refuse_here-requires-in-Add-Err-clause-refused g c κs within = refused (sort_of g.N.Node.layout g.N.Node.ranged) g.N.Node.body c.args.arena.now.nodes c.args.pass.now.caller c.args.place (seen_of c.args.pass.now) c.args.found c.in-Add-Err.held c.in-Add-Err.is-1 c.requires.found

-- what holds of an operation at the node where the search ended holds of the fill and the result that these are
at_end : {N : Type 0} (place : ℕ) (P : Hand N → Op → Type 0) (fill f : Fill) (found : Result (Hand N) (Hand N)) (x : Hand N) → fill ≡ f → found ≡ Ok x → P x (filling place f) → P (ended_at found) (filling place fill)
at_end {N} place P fill f found x is ok so = subst (λ (z : Fill). P (ended_at found) (filling place z)) (sym is) (subst (λ (z : Result (Hand N) (Hand N)). P (ended_at z) (filling place f)) (sym ok) so)

pub returns-in-Put-Ok-clause-at : goal.returns-in-Put-Ok-clause-at
returns-in-Put-Ok-clause-at g c = at_end c.args.place (λ x op. FinishesAt c.args.arena.now x op c.args.pass.now c.put_here.new.pass (told c.put_here.result.found) c.put_here.result.number) c.args.fill (Put c.in-Put-Ok.value) c.args.found c.in-Put-Ok.held c.in-Put-Ok.is-0 c.in-Put-Ok.is-1 c.put_here.ensures.at

pub returns-in-Add-Ok-clause-at : goal.returns-in-Add-Ok-clause-at
returns-in-Add-Ok-clause-at g c = at_end c.args.place (λ x op. FinishesAt c.args.arena.now x op c.args.pass.now c.add_here.new.pass (told c.add_here.result.found) c.add_here.result.number) c.args.fill (Add c.in-Add-Ok.value) c.args.found c.in-Add-Ok.held c.in-Add-Ok.is-0 c.in-Add-Ok.is-1 c.add_here.ensures.at
