-- The last of the first edges.
use Rattle.std.proofs.Common.{◌≡◌, ℕ, zero, suc, ◌-◌, ◌<◌, ◌≤◌, List, [], ◌∷◌, length, get_or, take, refl, arith, ap, ◌∙◌}
use Rattle.std.proofs.lemmas.List.{length-take-le, get_or-take}
use Rattle.std.specs.Prelude.{slice_get, Some}
use Rattle.std.specs.Option.{option_map}
use Rattle.ks_node.specs.declared.start.Start.{Start}
use Rattle.ks_node.specs.Body.{last_node}

pub slice_get_is : {X : Type 0} (xs : List X) (i : ℕ) (d : X) → i < length xs → slice_get xs i ≡ Some (get_or xs i d)
slice_get_is [] i d h = absurd (omega arith)
slice_get_is (x ∷ xs) zero d h = refl
slice_get_is (x ∷ xs) (suc i) d h = slice_get_is xs i d (omega arith)

pub last_node_take : (ss : List Start) (i : ℕ) (d : Start) → i < length ss → last_node (take (suc i) ss) ≡ Some (get_or ss i d).node
last_node_take ss i d h =
    let long : length (take (suc i) ss) ≡ suc i = length-take-le (suc i) ss (omega arith) in
    let last : length (take (suc i) ss) - 1 ≡ i = omega arith in
    ap (λ n. option_map (λ s. s.node) (slice_get (take (suc i) ss) n)) last
    ∙ ap (option_map (λ s. s.node)) (slice_get_is (take (suc i) ss) i d (omega arith))
    ∙ ap (λ s. Some s.node) (get_or-take (suc i) ss i d (omega arith))

pub last_node_front : (ss : List Start) (i : ℕ) (d : Start) → 0 < i → i ≤ length ss → last_node (take i ss) ≡ Some (get_or ss (i - 1) d).node
last_node_front ss zero d p h = absurd (omega arith)
last_node_front ss (suc i) d p h =
    let same : i ≡ suc i - 1 = omega arith in
    last_node_take ss i d (omega arith) ∙ ap (λ n. Some (get_or ss n d).node) same
