use Rattle.std.proofs.Common.{ℕ, ◌≡◌, ◌==◌, List, [], rules, length, get_or, Option, None, sym, ◌∙◌, subst, refl, arith}
use Rattle.std.specs.Prelude.{All, nat_eq}
use Rattle.std.specs.HashMap.{get}
use Rattle.ks_keysets.specs.Record.{IsPlace}
use Rattle.std.proofs.lemmas.Bool.{false≢true}
use Rattle.std.proofs.lemmas.Iterator.{items_from_collect}
use Rattle.ks_judge.specs.Table.{found}
use Rattle.ks_judge.proofs.Listing.{none_decided, nothing_low, none_low, listing_along}
use Rattle.ks_judge.proofs.table.TableStore.has_nothing.Goals as goal

pub returns-then-not-are_none : goal.returns-then-not-are_none
returns-then-not-are_none c =
    let t = c.args.self in (
      λ yes. absurd (false≢true yes),
      λ listing. absurd (false≢true (sym c.if-not-are_none.true ∙ c.are_none.ensures.1
          (subst (λ (xs : List (Option ℕ)). (at : ℕ) → get_or xs at None ≡ None) (sym c.deref.ensures.value) (none_low t.low.items (get nat_eq t.high) (found t) (λ k. refl) (λ at lt. omega (arith, t.low.small)) listing)))),
    )

pub returns : goal.returns
returns c =
    let t = c.args.self in
    let e : c.in_ok-entries.entries.items ≡ t.high.entries = search (rules, items_from_collect) in
    let is : c.as_slice-listed.result.now ≡ t.high.entries = c.as_slice-listed.ensures.value ∙ e in
    let keys : All (λ z. IsPlace z.0) t.high.entries = subst (λ (xs : List (ℕ × ℕ)). All (λ z. IsPlace z.0) xs) is c.keys_can_be_places.ensures in
    let decided = none_decided t.high.entries c.is_empty.result keys (subst (λ (xs : List (ℕ × ℕ)). c.is_empty.result ≡ (length xs == 0)) is c.is_empty.ensures) in
    let none : (at : ℕ) → get_or t.low.items at None ≡ None = subst (λ (xs : List (Option ℕ)). (at : ℕ) → get_or xs at None ≡ None) c.deref.ensures.value (c.are_none.ensures.0 c.if-not-are_none.false) in
    let same = nothing_low t.low.items (get nat_eq t.high) (found t) (λ k. refl) none t.apart in (
      λ yes. listing_along (get nat_eq t.high) (found t) [] (λ p. sym (same p)) (decided.0 yes),
      λ listing. decided.1 (listing_along (found t) (get nat_eq t.high) [] same listing),
    )
