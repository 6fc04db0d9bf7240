-- Halves of a node reach less far past their lows than it did.
use Rattle.std.proofs.Common.{◌≡◌, ℕ, ◌-◌, ◌<◌, ◌≤◌, true, refl, arith}
use Rattle.std.specs.Prelude.{Option, Some, None, is_some}
use Rattle.std.specs.Option.{ForSome}
use Rattle.ks_keysets.specs.declared.Span.{Span}
use Rattle.ks_node.specs.Body.{last_of}
use Rattle.ks_node.specs.Effect.{begins_at, ends_at}

pub left_less : (o : Option Span) (low cut : ℕ) → is_some o ≡ true → low < cut → ForSome o (λ r. cut ≤ r.last) → last_of (ends_at (cut - 1) o) - low < last_of o - low
left_less None low cut some above within = absurd (let q : ⊥ = cc in q)
left_less (Some r) low cut some above within = omega (arith, above, within r refl)

pub right_less : (o : Option Span) (low cut : ℕ) → is_some o ≡ true → low < cut → ForSome o (λ r. cut ≤ r.last) → last_of (begins_at cut o) - cut < last_of o - low
right_less None low cut some above within = absurd (let q : ⊥ = cc in q)
right_less (Some r) low cut some above within = omega (arith, above, within r refl)
