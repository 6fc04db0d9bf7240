-- What scripts may ask for.
use Rattle.std.specs.Prelude.{List, All}
use Rattle.ks_history.specs.declared.Op.{Op}
use Rattle.ks_history.specs.declared.Op.TheVariants.{Get, Put, Del, Add, Swap, Part, Move}

-- what a line of a script may ask for
abbrev pub IsAsked : Op → Type 0
IsAsked (Get k) = Unit {0}
IsAsked (Put k v) = Unit {0}
IsAsked (Del k) = Unit {0}
IsAsked (Add k v) = Unit {0}
IsAsked (Swap k old new) = Unit {0}
IsAsked (Part low last) = ⊥
IsAsked (Move from to) = ⊥

-- each line of each script asks for such an operation
abbrev pub AreAsked : List (List Op) → Type 0
AreAsked scripts = All (λ ops. All IsAsked ops) scripts
