-- A node from which a pair was removed has room.
use Rattle.std.proofs.Common.{◌≡◌, ◌≢◌, ℕ, ◌<◌, ◌≤◌, Bool, true, false, cond, not, List, [], ◌∷◌, length, sym, refl, ◌∙◌, subst, inl, inr, arith}
use Rattle.std.specs.Prelude.{◌==◌, Option, Some, None, IsTrue, nat_eq}
use Rattle.std.proofs.lemmas.Bool.{ne_eqb}
use Rattle.std.proofs.lemmas.Bool.Decides.{eqb_tells}
use Rattle.ks_keysets.specs.declared.Pair.{Pair}
use Rattle.ks_keysets.specs.declared.Kind.{Kind}
use Rattle.ks_keysets.specs.declared.Kind.TheVariants.{NoBranch, Inner, Directory}
use Rattle.ks_keysets.specs.Layout.{Layout, room}
use Rattle.ks_keysets.specs.Record.{first_value}
use Rattle.ks_keysets.specs.Tight.{capacity}
use Rattle.ks_history.specs.Write.{pairs_without}
use Rattle.ks_node.specs.Body.{Body, is_branch, is_branch_kind, value_at}
use Rattle.ks_node.specs.Keyed.{Ascends}
use Rattle.ks_node.specs.Effect.{pairs_del, with_pairs}
use Rattle.ks_node.specs.Room.{is_full, is_full_at, IsHeld}
use Rattle.std.specs.Option.{ForSome}
use Rattle.ks_node.specs.Laws.Puts.{value_first}
use Rattle.ks_node.specs.Laws.Starts.{filter_le}
use Rattle.ks_arena.specs.Laws.Writes.{del_removes}

without_fewer : (p v : ℕ) (xs : List Pair) → first_value xs p ≡ Some v → length (pairs_without xs p) < length xs
without_fewer p v [] is = absurd (let e : None ≡ Some v = is in let q : ⊥ = cc in q)
without_fewer p v (x ∷ xs) is = elim (eqb_tells x.place p) [
  | inl e ↦ rw e.0 (omega (arith, filter_le (λ (y : Pair). not (y.place == p)) xs))
  | inr n ↦ rw n.0 (let rest : first_value xs p ≡ Some v = subst (λ (z : Bool). cond z (Some x.value) (first_value xs p) ≡ Some v) n.0 is in let fewer : length (pairs_without xs p) < length xs = without_fewer p v xs rest in omega (arith, fewer))
]

-- the pairs without one that was there are fewer
pub del_fewer : (p v : ℕ) (xs : List Pair) → Ascends (λ x. x.place) xs → value_at xs p ≡ Some v → length (pairs_del p xs) < length xs
del_fewer p v xs up is = subst (λ (ys : List Pair). length ys < length xs) (del_removes p xs up) (without_fewer p v xs (value_first xs p ∙ is))

-- a body that is no branch, with fewer pairs than it had, is not full
pub fewer_has_room : (layout : Layout) (b : Body) (ps : List Pair) → is_branch b ≡ false → IsHeld layout b → length ps < length b.pairs → is_full layout (with_pairs b ps) ≡ false
fewer_has_room layout b ps leaf held fewer = go b.kind refl
  where
    count : (k : Kind) → k ≡ NoBranch → ForSome (capacity layout k) (λ c. cond (is_branch_kind k) (length b.starts) (length b.pairs) ≤ c) → is_full_at (capacity layout k) (cond (is_branch_kind k) (length b.starts) (length ps)) ≡ false
    count NoBranch e within = let few : length b.pairs ≤ room layout = within (room layout) refl in ne_eqb (length ps) (room layout) (λ s. omega (arith, s, few, fewer))
    count Inner e within = absurd (let q : ⊥ = cc in q)
    count Directory e within = absurd (let q : ⊥ = cc in q)

    go : (k : Kind) → b.kind ≡ k → is_full layout (with_pairs b ps) ≡ false
    go NoBranch e = count b.kind e held
    go Inner e = absurd (let q : is_branch_kind Inner ≡ false = subst (λ (z : Kind). is_branch_kind z ≡ false) e leaf in let z : ⊥ = cc in z)
    go Directory e = absurd (let q : is_branch_kind Directory ≡ false = subst (λ (z : Kind). is_branch_kind z ≡ false) e leaf in let z : ⊥ = cc in z)

-- a full body that is no branch has as many pairs as its layout has room for
pub filled : (layout : Layout) (b : Body) → is_branch b ≡ false → IsTrue (is_full layout b) → length b.pairs ≡ room layout
filled layout b leaf full = go b.kind refl
  where
    count : (n m : ℕ) → nat_eq n m ≡ true → n ≡ m
    count n m t = elim (eqb_tells n m) [ inl e ↦ e.1 | inr e ↦ absurd (let q : false ≡ true = sym e.0 ∙ t in let z : ⊥ = cc in z) ]

    go : (k : Kind) → b.kind ≡ k → length b.pairs ≡ room layout
    go NoBranch e = let s : IsTrue (is_full_at (capacity layout NoBranch) (cond (is_branch_kind NoBranch) (length b.starts) (length b.pairs))) = subst (λ (z : Kind). IsTrue (is_full_at (capacity layout z) (cond (is_branch_kind z) (length b.starts) (length b.pairs)))) e full in count (length b.pairs) (room layout) s
    go Inner e = absurd (let q : is_branch_kind Inner ≡ false = subst (λ (z : Kind). is_branch_kind z ≡ false) e leaf in let z : ⊥ = cc in z)
    go Directory e = absurd (let q : is_branch_kind Directory ≡ false = subst (λ (z : Kind). is_branch_kind z ≡ false) e leaf in let z : ⊥ = cc in z)
