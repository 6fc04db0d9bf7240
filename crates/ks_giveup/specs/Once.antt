-- Searches by giving up that take the root once.
use Rattle.std.specs.Prelude.{Result, Ok, Err}
use Rattle.ks_history.specs.Descent.{TookSince}
use Rattle.ks_arena.specs.declared.held.Pass.{Pass}
use Rattle.ks_arena.specs.declared.held.Held.{Held as Hand}
use Rattle.ks_arena.specs.Clauses.{seen_of}
use Rattle.ks_shape.specs.declared.answers.Later.{Later}

module _ {N D : Type 0} where
  -- the search between p and q that came to a node took the root once at most
  abbrev pub TookRootOnce : Pass N D → Pass N D → Result (Hand N) Later → Type 0
  TookRootOnce p q (Ok x) = TookSince p.caller (seen_of p) (seen_of q) 0 1
  TookRootOnce p q (Err later) = Unit {0}
