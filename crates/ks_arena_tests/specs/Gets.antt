-- The events of gets at node 0.
use Rattle.std.specs.Prelude.{ℕ, List, [], ◌∷◌}
use Rattle.ks_history.specs.declared.Event.{Event}
use Rattle.ks_history.specs.declared.Event.TheVariants.{Take, Give, Call}
use Rattle.ks_history.specs.declared.Op.TheVariants.{Get}
use Rattle.ks_history.specs.Map.{told}
use Rattle.ks_arena_tests.specs.declared.gets.GetOutcome.{GetOutcome}
use Rattle.ks_arena_tests.specs.declared.gets.GetOutcome.TheVariants.{Decided, Elsewhere}

-- the events of a get by c, the newest first: it takes node 0, makes one call or none, and releases it
abbrev pub get_events : ℕ → ℕ → GetOutcome → List Event
get_events c place (Decided number found) = Give c 0 ∷ Call c 0 (Get place) (told found) ∷ Take c 0 ∷ []
get_events c place Elsewhere = Give c 0 ∷ Take c 0 ∷ []
