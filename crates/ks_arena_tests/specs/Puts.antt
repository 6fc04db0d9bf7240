-- The events of puts at node 0.
use Rattle.std.specs.Prelude.{ℕ, ◌+◌, List, [], ◌∷◌, ◌++◌}
use Rattle.ks_keysets.specs.Keyset.{InOutset}
use Rattle.ks_keysets.specs.Layout.{Layout}
use Rattle.ks_history.specs.declared.Event.{Event}
use Rattle.ks_history.specs.declared.Event.TheVariants.{Take, Give, Call}
use Rattle.ks_history.specs.declared.Op.TheVariants.{Put}
use Rattle.ks_history.specs.Map.{told}
use Rattle.ks_history.specs.Trace.{graph_after, NumberedCall}
use Rattle.ks_history.specs.Calls.{numbered}
use Rattle.ks_history.specs.Due.{IsFullFor}
use Rattle.ks_history.specs.Refusals.{Sometime}
use Rattle.ks_arena_tests.specs.declared.puts.PutOutcome.{PutOutcome}
use Rattle.ks_arena_tests.specs.declared.puts.PutOutcome.TheVariants.{Decided, NoRoom, Elsewhere}

-- the events of a put by c, the newest first: it takes node 0, makes one call or none, and releases it
abbrev pub put_events : ℕ → ℕ → ℕ → PutOutcome → List Event
put_events c place value (Decided number old) = Give c 0 ∷ Call c 0 (Put place value) (told old) ∷ Take c 0 ∷ []
put_events c place value NoRoom = Give c 0 ∷ Take c 0 ∷ []
put_events c place value Elsewhere = Give c 0 ∷ Take c 0 ∷ []

-- its call with its number
abbrev pub put_calls : ℕ → ℕ → PutOutcome → List NumberedCall
put_calls place value (Decided number old) = numbered number (Put place value) (told old) ∷ []
put_calls place value NoRoom = []
put_calls place value Elsewhere = []

-- if no call was made, node 0 was at some moment full for the place, or an edge of it carried the place
abbrev pub IsPutDue : Layout → ℕ → List Event → List Event → PutOutcome → Type 0
IsPutDue layout place h k (Decided number old) = Unit {0}
IsPutDue layout place h k NoRoom = Sometime h k (λ m. IsFullFor layout (graph_after m) 0 place)
IsPutDue layout place h k Elsewhere = Sometime h k (λ m. InOutset (graph_after m) 0 place)

-- the calls of puts at every other place from one on, each with its place as the value
abbrev pub calls_from : ℕ → List PutOutcome → List NumberedCall
calls_from place [] = []
calls_from place (x ∷ xs) = put_calls place place x ++ calls_from (place + 2) xs
