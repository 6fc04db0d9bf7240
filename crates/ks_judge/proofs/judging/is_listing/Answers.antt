use Rattle.std.proofs.Common.{ℕ, ◌≡◌, ◌≤◌, ◌+◌, ◌∷◌, List, drop, get_or, sym, ◌∙◌, subst, arith}
use Rattle.std.proofs.lemmas.Bool.{false≢true}
use Rattle.std.proofs.lemmas.List.{drop_more}
use Rattle.ks_judge.proofs.Listing.{Lists, lists_head, lists_tail, lists_more}
use Rattle.ks_judge.proofs.judging.is_listing.Goals as goal

pub returns-then-from-least : goal.returns-then-from-least
returns-then-from-least g c =
    let i = c.loop-pair.pair-index in
    let pairs = c.args.pairs.now in
    let m = g.M.Store.has c.loop-pair.rest in
    let x : ℕ × ℕ = get_or pairs i (0, 0) in (
      λ t. absurd (false≢true t),
      λ listing.
          let l : Lists c.loop-pair.least m (x ∷ drop (i + 1) pairs) = subst (Lists c.loop-pair.least m) (drop_more pairs i (0, 0) c.loop-pair-test.true) (c.loop-pair.invariant.down listing) in
          let h = lists_head c.loop-pair.least m x (drop (i + 1) pairs) l in
          absurd (omega (arith, h.0, c.from.ensures)),
    )

pub returns-then-not-takes : goal.returns-then-not-takes
returns-then-not-takes g c =
    let i = c.loop-pair.pair-index in
    let pairs = c.args.pairs.now in
    let m = g.M.Store.has c.loop-pair.rest in
    let x : ℕ × ℕ = get_or pairs i (0, 0) in (
      λ t. absurd (false≢true t),
      λ listing.
          let l : Lists c.loop-pair.least m (x ∷ drop (i + 1) pairs) = subst (Lists c.loop-pair.least m) (drop_more pairs i (0, 0) c.loop-pair-test.true) (c.loop-pair.invariant.down listing) in
          let h = lists_head c.loop-pair.least m x (drop (i + 1) pairs) l in
          absurd (false≢true (sym c.if-not-takes.true ∙ c.takes.ensures.had.1 h.1)),
    )

pub loop-pair-preserved : goal.loop-pair-preserved
loop-pair-preserved g c =
    let i = c.loop-pair.pair-index in
    let pairs = c.args.pairs.now in
    let least = c.loop-pair.least in
    let m = g.M.Store.has c.loop-pair.rest in
    let k = g.M.Store.has c.takes.new.map in
    let x : ℕ × ℕ = get_or pairs i (0, 0) in
    let rest : List (ℕ × ℕ) = drop (i + 1) pairs in
    let cut : drop i pairs ≡ x ∷ rest = drop_more pairs i (0, 0) c.loop-pair-test.true in
    let key : c.from-least.result ≡ x.0 = c.from-least.ensures in
    let le : least ≤ x.0 = omega (arith, c.from.ensures) in
    record {
      down = λ listing. subst (λ (n : ℕ). Lists (n + 1) k rest) (sym key) (lists_tail least m k x rest c.takes.ensures.gone (subst (Lists least m) cut (c.loop-pair.invariant.down listing)));
      up = λ l. c.loop-pair.invariant.up (subst (Lists least m) (sym cut)
          (lists_more least m k x rest c.takes.ensures.gone le (c.keys_can_be_places.ensures i (0, 0) c.loop-pair-test.true) (c.takes.ensures.had.0 c.if-not-takes.false) (subst (λ (n : ℕ). Lists (n + 1) k rest) key l)));
    }
