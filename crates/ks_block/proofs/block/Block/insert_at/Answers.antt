-- The later pairs go up, and the place that they leave is filled.
use Rattle.std.proofs.Common.{◌≡◌, ℕ, ◌+◌, ◌<◌, ◌≤◌, List, ◌∷◌, length, take, drop, set, sym, ap, subst, ◌∙◌, arith, length-append, length-take, length-drop}
use Rattle.std.specs.List.{insert}
use Rattle.std.specs.Prelude.{Some}
use Rattle.ks_block.specs.Contents.{Contents, contents, with_pairs}
use Rattle.ks_block.specs.Filled.{somes}
use Rattle.ks_block.proofs.Filling as filling
use Rattle.ks_block.proofs.block.Block.insert_at.Goals as goal

one_more : (ps : List (ℕ × ℕ)) (i : ℕ) (p : ℕ × ℕ) → i ≤ length ps → length (insert ps i p) ≡ length ps + 1
one_more ps i p h = omega (arith, length-append (take i ps) (p ∷ drop i ps), length-take i ps, length-drop i ps)

pub raise-requires : goal.raise-requires
raise-requires g c =
    let cs = c.self.inside.memory in let count = c.self.inside.len in let inv = c.self.invariant in
    let pairs : somes cs ≡ c.args.self.now.pairs = ap (λ (v : Contents). v.pairs) c.self.view_is in
    let low : c.args.at ≤ length (somes cs) = subst (λ (ps : List (ℕ × ℕ)). c.args.at ≤ length ps) (sym pairs) c.requires.in_bounds in
    let free : length (somes cs) < length cs = subst (λ (v : Contents). length v.pairs < v.room) (sym c.self.view_is) c.requires.room in
    filling.can_raise cs count inv.0 c.args.at low free

pub invariant_of-self : goal.invariant_of-self
invariant_of-self g c =
    let cs = c.self.inside.memory in let count = c.self.inside.len in let inv = c.self.invariant in
    let pairs : somes cs ≡ c.args.self.now.pairs = ap (λ (v : Contents). v.pairs) c.self.view_is in
    let low : c.args.at ≤ length (somes cs) = subst (λ (ps : List (ℕ × ℕ)). c.args.at ≤ length ps) (sym pairs) c.requires.in_bounds in
    let free : length (somes cs) < length cs = subst (λ (v : Contents). length v.pairs < v.room) (sym c.self.view_is) c.requires.room in
    let more = one_more (somes cs) c.args.at c.args.pair low in
    let laid = c.write.ensures ∙ ap (λ l. set l c.args.at (Some c.args.pair)) c.raise.ensures ∙ filling.inserted cs count inv.0 c.args.at c.args.pair low free in
    let many = inv.0.1 in
    filling.kept c.write.new.self (insert (somes cs) c.args.at c.args.pair) (length cs) (count + 1) laid (omega arith) (omega arith) inv.1 inv.2

pub returns : goal.returns
returns g c =
    let cs = c.self.inside.memory in let count = c.self.inside.len in let inv = c.self.invariant in
    let pairs : somes cs ≡ c.args.self.now.pairs = ap (λ (v : Contents). v.pairs) c.self.view_is in
    let low : c.args.at ≤ length (somes cs) = subst (λ (ps : List (ℕ × ℕ)). c.args.at ≤ length ps) (sym pairs) c.requires.in_bounds in
    let free : length (somes cs) < length cs = subst (λ (v : Contents). length v.pairs < v.room) (sym c.self.view_is) c.requires.room in
    let more = one_more (somes cs) c.args.at c.args.pair low in
    let laid = c.write.ensures ∙ ap (λ l. set l c.args.at (Some c.args.pair)) c.raise.ensures ∙ filling.inserted cs count inv.0 c.args.at c.args.pair low free in
    let told = filling.first c.write.new.self (insert (somes cs) c.args.at c.args.pair) (length cs) (omega arith) laid in
    (λ j. contents (told.0 j) (told.1 j)) ∙ ap (λ (v : Contents). with_pairs v (insert v.pairs c.args.at c.args.pair)) c.self.view_is
