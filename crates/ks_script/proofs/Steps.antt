-- Lists of which each entry has a property, and the calls and parts of callers, one list after another.
use Rattle.ks_script.proofs.Common.{◌≡◌, ◌+◌, List, [], ◌∷◌, ◌++◌, arith, AllByRecursion, Line, calls_in, parts_in}

pub all_right : {X : Type 0} (P : X → Type 0) (a b : List X) → AllByRecursion P (a ++ b) → AllByRecursion P b
all_right P [] b h = h
all_right P (x ∷ a) b h = all_right P a b h.1

pub all_append : {X : Type 0} (P : X → Type 0) (a b : List X) → AllByRecursion P a → AllByRecursion P b → AllByRecursion P (a ++ b)
all_append P [] b h k = k
all_append P (x ∷ a) b h k = (h.0, all_append P a b h.1 k)

pub all_push : {X : Type 0} (P : X → Type 0) (a : List X) (x : X) → AllByRecursion P a → P x → AllByRecursion P (a ++ x ∷ [])
all_push P a x h p = all_append P a (x ∷ []) h (p, tt)

pub calls_append : (a b : List (List Line)) → calls_in (a ++ b) ≡ calls_in a + calls_in b
calls_append [] b = omega arith
calls_append (ls ∷ a) b = omega (arith, calls_append a b)

pub parts_append : (a b : List (List Line)) → parts_in (a ++ b) ≡ parts_in a + parts_in b
parts_append [] b = omega arith
parts_append (ls ∷ a) b = omega (arith, parts_append a b)
