-- Traces whose events name only nodes of the arena.
use Rattle.std.specs.Prelude.{ℕ, ◌<◌, List, [], ◌∷◌, All}
use Rattle.ks_history.specs.declared.Event.{Event}
use Rattle.ks_history.specs.declared.Event.TheVariants.{Take, Give, Claim, Shape, Call, Twin}

-- the nodes that the event names are below n
abbrev pub NamesBelow : ℕ → Event → Type 0
NamesBelow n (Take c i) = i < n
NamesBelow n (Give c i) = i < n
NamesBelow n (Claim c i) = i < n
NamesBelow n (Shape c changes) = All (λ x. x.node < n) changes
NamesBelow n (Call c i op reply) = i < n
NamesBelow n (Twin c i j op reply) = (i < n) × (j < n)

-- so does each event of the trace
abbrev pub AllNamedBelow : ℕ → List Event → Type 0
AllNamedBelow n [] = Unit {0}
AllNamedBelow n (e ∷ h) = AllNamedBelow n h × NamesBelow n e
