-- Lists of disjoint edges, with one more edge.
use Rattle.std.proofs.Common.{ℕ, ◌<◌, ◌+◌, List, length, get_or, take, sym, subst, arith}
use Rattle.std.specs.Prelude.{All}
use Rattle.std.proofs.lemmas.List.{take_more, get_or-take, get_or_default, length-take-le}
use Rattle.std.proofs.lemmas.List.Quantifiers.{all_pairs_push}
use Rattle.ks_keysets.specs.declared.Edge.{Edge}
use Rattle.ks_keysets.specs.Record.{Carries}
use Rattle.ks_keysets.specs.Apart.{AreTwoApart, AreEdgesApart}

pub more_apart : (es : List Edge) (i : ℕ) (d : Edge) → i < length es → AreEdgesApart (take i es) → All (AreTwoApart (get_or es i d)) (take i es) → AreEdgesApart (take (i + 1) es)
more_apart es i d lt before last =
    subst AreEdgesApart (sym (take_more es i d lt)) (all_pairs_push AreTwoApart (take i es) (get_or es i d) before (λ k x less p there here. last k x less p here there))

pub earlier_apart : (es : List Edge) (i : ℕ) (d : Edge) → i < length es → AreEdgesApart es → All (AreTwoApart (get_or es i d)) (take i es)
earlier_apart es i d lt all k x less p here there =
    let within : k < i = omega (arith, less, length-take-le i es (omega arith)) in
    all k i x within lt p
    (subst (λ (e : Edge). Carries e p) (get_or-take i es k x within) there)
    (subst (λ (e : Edge). Carries e p) (get_or_default es i d x lt) here)
