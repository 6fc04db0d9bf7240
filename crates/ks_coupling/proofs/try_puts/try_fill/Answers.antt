use Rattle.std.proofs.Common.{ℕ, List, arith}
use Rattle.ks_history.specs.declared.Event.{Event}
use Rattle.ks_history.specs.Descent.{TookSince}
use Rattle.ks_history.specs.Done.{coupling}
use Rattle.ks_history.specs.Laws.Descent.{took_none}
use Rattle.ks_history.specs.Laws.Underway.{underway_first}
use Rattle.ks_arena.specs.Clauses.{seen_of}
use Rattle.ks_shape.specs.Fills.{filling}
use Rattle.ks_coupling.proofs.try_puts.try_fill.Goals as goal

-- at first the caller took no root
once : (c : ℕ) (h : List Event) → TookSince c h h 0 1
once c h = let at = took_none c h in record { grows = at.grows; many = at.many; root = (let r = at.root in omega (arith, r)) }

pub returns-clause-tried : goal.returns-clause-tried
returns-clause-tried g c = let me : ℕ = c.args.pass.now.caller in let h = seen_of c.args.pass.now in
    c.try_pair_fill.ensures.tried coupling h tt (once me h) (underway_first coupling me (filling c.args.place c.args.fill) h c.requires.pass.1)

pub returns-clause-fills : goal.returns-clause-fills
returns-clause-fills g c = c.try_pair_fill.ensures.fills
