-- The words of commands.
use Rattle.std.proofs.Common.{ℕ, ◌≡◌, ◌<◌, ◌≤◌, ◌^◌, Result, Ok, List, arith}
use Rattle.std.specs.Fmt.{decimal}
use Rattle.std.specs.Str.Parse.{ParsesUnsigned}
use Rattle.std.proofs.lemmas.Fmt.{parse-decimal}

-- a word that spells a number is read as that number
pub read_as : {E : Type 0} (n most : ℕ) (word : List ℕ) (r : Result ℕ E) → ParsesUnsigned 64 10 word r → word ≡ decimal n → n ≤ most → most < 2 ^ 64 → r ≡ Ok n
read_as n most word r parses is le fits = parse-decimal 64 n word r (omega arith) (omega arith) is parses
