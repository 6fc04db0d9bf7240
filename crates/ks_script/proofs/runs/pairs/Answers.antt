use Rattle.ks_script.proofs.Common.{ℕ, ◌≡◌, ◌≤◌, ◌<◌, ◌+◌, ◌^◌, List, [], ◌∷◌, ◌++◌, length, map, map_push, sym, subst, ap, ◌∙◌, arith, length-append, lines_of, pair_line, AscendFrom, Lines, NoneFirst, Reads, IsPairFrom, next_key}
use Rattle.ks_script.proofs.CallLines.{one_pair}
use Rattle.ks_script.proofs.Leading.{reads_line}
use Rattle.ks_script.proofs.RunRead.{ascend_push, next_key_push}
use Rattle.ks_script.proofs.runs.pairs.Goals as goal

abbrev Pairs : Type 0
Pairs = List (ℕ × ℕ)

-- a pair whose key is too small
small_key : (bound : ℕ) (x : ℕ × ℕ) (lines more : Lines) → lines ≡ pair_line x ∷ more → x.0 < bound → x.0 < 2 ^ 64 → x.1 < 2 ^ 128 → NoneFirst (IsPairFrom bound) pair_line lines
small_key bound x lines more e small k v =
    subst (NoneFirst (IsPairFrom bound) pair_line) (sym e) (λ y is same.
    let first : x.0 ≡ y.0 = ap (λ (p : ℕ × ℕ). p.0) (one_pair x y k v is.1 is.2 same) in
    let least = is.0 in
    omega arith)

pub returns-then-key-least-clause-stops : goal.returns-then-key-least-clause-stops
returns-then-key-least-clause-stops c =
    let some = c.in-Some.ensures.some in
    let x : ℕ × ℕ = (c.in-Some.key, c.in-Some.value) in
    small_key (next_key 0 c.pairs.pairs.items) x (lines_of c.pairs.rest.now) (lines_of c.in-Some.more.now) some.1 (omega (arith, c.pairs.invariant.least)) some.0.1 some.0.2

pub pairs-preserved : goal.pairs-preserved
pairs-preserved c =
    let inv = c.pairs.invariant in
    let was = c.pairs.pairs.items in
    let x : ℕ × ℕ = (c.in-Some.key, c.in-Some.value) in
    let some = c.in-Some.ensures.some in
    let pushed : c.push.new.self.items ≡ was ++ x ∷ [] = c.in_ok-push.ensures.items in
    let count : length c.push.new.self.items ≡ length was + 1 = ap (λ (xs : Pairs). length xs) pushed ∙ length-append was (x ∷ []) in
    let fits : next_key 0 was ≤ c.in-Some.key = omega (arith, inv.least) in
    record {
      ascend = subst (AscendFrom 0) (sym pushed) (ascend_push 0 was x inv.ascend (fits, some.0.1, some.0.2));
      reads = subst (λ (front : Lines). Reads front c.args.bytes.now c.in-Some.more.now (length c.push.new.self.items)) (sym (ap (map pair_line) pushed ∙ map_push pair_line was x))
          (reads_line (map pair_line was) (pair_line x) c.args.bytes.now c.pairs.rest.now c.in-Some.more.now (length was) (length c.push.new.self.items) inv.reads some.1 count);
      shorter = omega (arith, inv.shorter, c.in-Some.ensures.shorter, count);
      least = sym (ap (next_key 0) pushed ∙ next_key_push 0 was x);
      small = omega (arith, some.0.1);
    }
