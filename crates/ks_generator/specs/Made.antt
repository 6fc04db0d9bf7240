-- Scripts that are made of numbers drawn one after another.
use Rattle.std.specs.Prelude.{ℕ, zero, suc, ◌==◌, ◌+◌, ◌*◌, ◌/◌, ◌%◌, ◌^◌, nat_lt, List, [], ◌∷◌, if◌then◌else◌}
use Rattle.ks_history.specs.declared.Op.{Op}
use Rattle.ks_history.specs.declared.Op.TheVariants.{Get, Put, Del}
use Rattle.ks_lines.specs.declared.Line.{Line}
use Rattle.ks_lines.specs.declared.Line.TheVariants.{Call}

-- the state after a draw
abbrev pub draw : ℕ → ℕ
draw x = (x * 6364136223846793005 + 1442695040888963407) % 2 ^ 64

-- the number drawn, from the state after the draw
abbrev pub drawn : ℕ → ℕ
drawn x = x / 2 ^ 33

-- the key of caller c, of that number of callers, for a drawn number: no two callers share one
abbrev pub key_of : ℕ → ℕ → ℕ → ℕ
key_of callers c s = c + callers * (s % 256)

-- what a call does, by the first drawn number: half of the calls put, a quarter gets, a quarter deletes
abbrev pub op_of : ℕ → ℕ → ℕ → Op
op_of kind key value = if nat_lt kind 2 then Put key value else (if kind == 2 then Get key else Del key)

-- the call of caller c that is made from the state x: first its kind is drawn, then its key, and for a put its value
abbrev pub call_made : ℕ → ℕ → ℕ → Op
call_made callers c x = op_of (drawn (draw x) % 4) (key_of callers c (drawn (draw (draw x)))) (drawn (draw (draw (draw x))))

-- the state after it
abbrev pub after_call : ℕ → ℕ
after_call x = if nat_lt (drawn (draw x) % 4) 2 then draw (draw (draw x)) else draw (draw x)

-- n lines of caller c, each a call, made from the state x
abbrev pub calls_made : ℕ → ℕ → ℕ → ℕ → List Line
calls_made callers c zero x = []
calls_made callers c (suc n) x = Call (call_made callers c x) ∷ calls_made callers c n (after_call x)

-- the state after n calls
abbrev pub after_calls : ℕ → ℕ → ℕ
after_calls zero x = x
after_calls (suc n) x = after_calls n (after_call x)

-- the scripts of the last k callers of that number, the first of them c, each of n calls, made from the state x
abbrev pub callers_made : ℕ → ℕ → ℕ → ℕ → ℕ → List (List Line)
callers_made callers n c zero x = []
callers_made callers n c (suc k) x = calls_made callers c n x ∷ callers_made callers n (c + 1) k (after_calls n x)

-- the script of that number of callers with n calls each, made from the first state
abbrev pub made : ℕ → ℕ → ℕ → List (List Line)
made callers n first = callers_made callers n 0 callers first
