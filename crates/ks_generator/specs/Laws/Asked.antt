-- A script that is made asks only for gets, puts and dels: for no scan and for no move.
use Rattle.std.specs.Prelude.{ℕ, zero, suc, ◌==◌, ◌+◌, ◌%◌, nat_lt, Bool, true, false, All, if◌then◌else◌}
use Rattle.std.proofs.lemmas.List.Elements.{All-nil, All-cons}
use Rattle.ks_history.specs.declared.Op.{Op}
use Rattle.ks_history.specs.declared.Op.TheVariants.{Get, Put, Del}
use Rattle.ks_lines.specs.declared.Line.{Line}
use Rattle.ks_lines.specs.declared.Line.TheVariants.{Call}
use Rattle.ks_lines.specs.Lines.{IsServedLine}
use Rattle.ks_lines.specs.Asked.{IsLine, AreServedLines}
use Rattle.ks_generator.specs.Made.{draw, drawn, key_of, call_made, after_call, calls_made, after_calls, callers_made, made}

module _ (scans moves : Bool) where
  -- the line may be there, and such a pairing serves it
  abbrev IsAsked : Line → Type 0
  IsAsked l = IsLine l × IsServedLine scans moves l

  either : (b : Bool) (x y : Op) → IsAsked (Call x) → IsAsked (Call y) → IsAsked (Call (if b then x else y))
  either true x y first second = first
  either false x y first second = second

  call_asked : (callers c x : ℕ) → IsAsked (Call (call_made callers c x))
  call_asked callers c x =
      let kind : ℕ = drawn (draw x) % 4 in
      let key : ℕ = key_of callers c (drawn (draw (draw x))) in
      let value : ℕ = drawn (draw (draw (draw x))) in
      either (nat_lt kind 2) (Put key value) (if kind == 2 then Get key else Del key) (tt, tt) (either (kind == 2) (Get key) (Del key) (tt, tt) (tt, tt))

  calls_asked : (callers c n x : ℕ) → All IsAsked (calls_made callers c n x)
  calls_asked callers c zero x = All-nil IsAsked
  calls_asked callers c (suc n) x =
      All-cons IsAsked (Call (call_made callers c x)) (calls_made callers c n (after_call x)) (call_asked callers c x) (calls_asked callers c n (after_call x))

  callers_asked : (callers n c k x : ℕ) → All (All IsAsked) (callers_made callers n c k x)
  callers_asked callers n c zero x = All-nil (All IsAsked)
  callers_asked callers n c (suc k) x =
      All-cons (All IsAsked) (calls_made callers c n x) (callers_made callers n (c + 1) k (after_calls n x)) (calls_asked callers c n x)
      (callers_asked callers n (c + 1) k (after_calls n x))

  -- each line of it may be there, and any pairing serves it
  pub made_served : (callers calls first : ℕ) → AreServedLines scans moves (made callers calls first)
  made_served callers calls first = callers_asked callers calls 0 callers first
