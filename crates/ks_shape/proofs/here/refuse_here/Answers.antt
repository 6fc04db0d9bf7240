use Rattle.std.proofs.Common.{ℕ, inl, inr, refl, sym, subst}
use Rattle.ks_history.specs.declared.Op.{Op}
use Rattle.ks_history.specs.declared.Op.TheVariants.{Add, Put}
use Rattle.ks_history.specs.declared.Reply.TheVariants.{Full}
use Rattle.ks_history.specs.Map.{Touches}
use Rattle.ks_arena.specs.Sound.{sort_of}
use Rattle.ks_arena.specs.Clauses.{IsReady, seen_of}
use Rattle.ks_shape.specs.SearchEnd.{Fills}
use Rattle.ks_shape.specs.Laws.SearchEnd.{unbranched}
use Rattle.ks_shape.proofs.here.refuse_here.Goals as goal

pub full_law-requires-clause-no_branch : goal.full_law-requires-clause-no_branch
full_law-requires-clause-no_branch g c κs within = unbranched (sort_of g.N.Node.layout g.N.Node.ranged) g.N.Node.body c.args.pass.now.caller c.args.place (seen_of c.args.pass.now) c.args.held c.requires.crowded.ends c.node_law.ensures.sound

-- of a put or an add
by_op : (p v : ℕ) (op : Op) (P : Op → Type 0) → Fills p v op → P (Put p v) → P (Add p v) → P op
by_op p v op P (inl e) put add = subst P (sym e) put
by_op p v op P (inr e) put add = subst P (sym e) add

pub refuse-requires-clause-ready : goal.refuse-requires-clause-ready
refuse-requires-clause-ready g c κs within = by_op c.args.place c.args.value c.args.op (λ (op : Op). IsReady (sort_of g.N.Node.layout g.N.Node.ranged) g.N.Node.body c.args.arena.now.nodes c.args.pass.now.caller (seen_of c.args.pass.now) c.args.held op Full) c.requires.fills c.full_law.ensures.put c.full_law.ensures.add

pub returns-clause-done : goal.returns-clause-done
returns-clause-done g c = λ template start under none. let p : ℕ = c.args.place in (c.refuse.ensures.done template start p (by_op p c.args.value c.args.op (λ (op : Op). Touches op p) c.requires.fills refl refl) none under).done
