-- What reads through the traits show of a body.
use Rattle.std.specs.Prelude.{◌≡◌, ℕ, suc, ◌+◌, ◌<◌, true, false, nat_lt, nat_le, IsTrue, List, [], ◌∷◌, length, get_or, All, drop, Some, refl}
use Rattle.std.proofs.Common.{arith, subst, sym, inl, inr}
use Rattle.std.proofs.lemmas.Bool.{lt-ltb, le-ltb, le-leb, eqb-true}
use Rattle.std.proofs.lemmas.Bool.Decides.{eqb_tells}
use Rattle.std.proofs.lemmas.List.{get_or_read}
use Rattle.std.proofs.lemmas.List.Elements.{All-tail}
use Rattle.ks_keysets.specs.declared.Span.{Span}
use Rattle.ks_node.specs.declared.start.Start.{Start}
use Rattle.ks_node.specs.declared.start.Next.TheVariants.{Go}
use Rattle.ks_node.specs.Body.{Body, starts_below, first_node, led_to, next_at}
use Rattle.ks_node.specs.Sound.{Framed, starts_at_zero}
use Rattle.ks_node.specs.Laws.Starts.{differ}

-- one more element of which a fact holds
pub one_more : {X : Type 0} (P : X → Type 0) (xs : List X) (n : ℕ) (x : X) → n < length xs → x ≡ get_or xs n x → P x →
    ((k : ℕ) (d : X) → k < n → P (get_or xs k d)) → (k : ℕ) (d : X) → k < n + 1 → P (get_or xs k d)
one_more P xs n x within is holds before k d h =
    elim (eqb_tells k n) [
      | inl same ↦ subst (λ m. P (get_or xs m d)) (sym same.1) (subst P (get_or_read xs n x within is d) holds)
      | inr other ↦ before k d (omega (arith, other.1))
    ]

none_below : (p : ℕ) (ss : List Start) → All (λ s. p < s.low) ss → starts_below (suc p) ss ≡ []
none_below p [] high = refl
none_below p (s ∷ ss) high =
    let first : p < s.low = high 0 s (omega arith) in
    let off : nat_lt s.low (suc p) ≡ false = le-ltb _ _ (omega arith) in
    rw off (none_below p ss (All-tail (λ s. p < s.low) s ss high))

-- at a place below all edges of a branch but the first a search is led by that
pub led_first : (ss : List Start) (p id : ℕ) → IsTrue (starts_at_zero ss) → All (λ s. p < s.low) (drop 1 ss) → first_node ss ≡ Some id → led_to ss p ≡ Some id
led_first [] p id zero above leads = absurd (differ refl zero)
led_first (s ∷ ss) p id zero above leads =
    let low : s.low ≡ 0 = eqb-true s.low 0 zero in
    let on : nat_lt s.low (suc p) ≡ true = lt-ltb _ _ (omega arith) in
    rw (on, none_below p ss above) leads

pub next_first : (b : Body) (r : Span) (id : ℕ) → b.range ≡ Some r → Framed r b → IsTrue (starts_at_zero b.starts) → first_node b.starts ≡ Some id → next_at b r.low ≡ Go id
next_first b r id range framed zero leads =
    let from : nat_le r.low r.low ≡ true = le-leb _ _ (omega arith) in
    let upto : nat_le r.low r.last ≡ true = le-leb _ _ framed.ordered in
    let led : led_to b.starts r.low ≡ Some id = led_first b.starts r.low id zero framed.above leads in
    rw (range, from, upto, led) refl

pub same_target : (m n : ℕ) → Go m ≡ Go n → m ≡ n
same_target m n e = cc
