-- Laws of traces: the hand of a caller and its own events, while others act and after its own event.
use Rattle.std.proofs.Common.{ℕ, List, [], ◌∷◌}
use Rattle.ks_history.specs.Passes.{Has}

-- the hand of c is the nodes whose turn is its own, each once
abbrev pub AreOnce : List ℕ → Type 0
AreOnce [] = Unit {0}
AreOnce (x ∷ xs) = (¬ Has xs x) × AreOnce xs
