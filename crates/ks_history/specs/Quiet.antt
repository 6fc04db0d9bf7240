-- Traces that grow only by the events Take and Give: what is live stays as it is.
use Rattle.std.proofs.Common.{◌≡◌, List, [], ◌∷◌, ◌++◌}
use Rattle.ks_history.specs.declared.Event.{Event}
use Rattle.ks_history.specs.declared.Event.TheVariants.{Take, Give, Claim, Shape, Call, Twin}

-- the event takes a node, or releases one
abbrev pub IsTurn : Event → Type 0
IsTurn (Take c i) = Unit {0}
IsTurn (Give c i) = Unit {0}
IsTurn (Claim c i) = ⊥
IsTurn (Shape c changes) = ⊥
IsTurn (Call c i op reply) = ⊥
IsTurn (Twin c i j op reply) = ⊥

abbrev pub AllTurns : List Event → Type 0
AllTurns [] = Unit {0}
AllTurns (e ∷ es) = IsTurn e × AllTurns es

-- the trace k continues h only by the events Take and Give
pub record OnlyTurns (h k : List Event) : Type 0 where
  pub rest : List Event
  pub is : k ≡ rest ++ h
  pub turns : AllTurns rest
