-- The pairs before the index stay, and the others are all that the other block has.
use Rattle.std.proofs.Common.{◌≡◌, ℕ, ◌-◌, ◌≤◌, List, [], length, take, drop, sym, ap, subst, ◌∙◌, arith, length-take, length-drop}
use Rattle.ks_block.specs.Contents.{Contents, contents, with_pairs}
use Rattle.ks_block.specs.Filled.{somes}
use Rattle.ks_block.proofs.Filling as filling
use Rattle.ks_block.proofs.block.Block.move_tail.Goals as goal

pub hand_over-requires : goal.hand_over-requires
hand_over-requires g c =
    let cs = c.self.inside.memory in let count = c.self.inside.len in let inv = c.self.invariant in
    let pairs : somes cs ≡ c.args.self.now.pairs = ap (λ (v : Contents). v.pairs) c.self.view_is in
    let low : c.args.at ≤ length (somes cs) = subst (λ (ps : List (ℕ × ℕ)). c.args.at ≤ length ps) (sym pairs) c.requires.in_bounds in
    let ds = c.into.inside.memory in let inv' = c.into.invariant in
    let none : somes ds ≡ [] = ap (λ (v : Contents). v.pairs) c.into.view_is ∙ c.requires.empty in
    let room : length (somes cs) - c.args.at ≤ length ds = subst (λ (v : Contents). length (somes cs) - c.args.at ≤ v.room) (sym c.into.view_is) (subst (λ (ps : List (ℕ × ℕ)). length ps - c.args.at ≤ c.args.into.now.room) (sym pairs) c.requires.room) in
    let many = inv.0.1 in
    (filling.can_hand cs count inv.0 c.args.at low, filling.can_take cs count inv.0 ds inv'.0.0 none (count - c.args.at) (omega arith))

pub invariant_of-self : goal.invariant_of-self
invariant_of-self g c =
    let cs = c.self.inside.memory in let count = c.self.inside.len in let inv = c.self.invariant in
    let pairs : somes cs ≡ c.args.self.now.pairs = ap (λ (v : Contents). v.pairs) c.self.view_is in
    let low : c.args.at ≤ length (somes cs) = subst (λ (ps : List (ℕ × ℕ)). c.args.at ≤ length ps) (sym pairs) c.requires.in_bounds in
    let ds = c.into.inside.memory in let inv' = c.into.invariant in
    let none : somes ds ≡ [] = ap (λ (v : Contents). v.pairs) c.into.view_is ∙ c.requires.empty in
    let room : length (somes cs) - c.args.at ≤ length ds = subst (λ (v : Contents). length (somes cs) - c.args.at ≤ v.room) (sym c.into.view_is) (subst (λ (ps : List (ℕ × ℕ)). length ps - c.args.at ≤ c.args.into.now.room) (sym pairs) c.requires.room) in
    let many = inv.0.1 in let fits = inv.0.2 in let front = length-take c.args.at (somes cs) in
    filling.kept c.hand_over.new.self (take c.args.at (somes cs)) (length cs) c.args.at (c.hand_over.ensures.left ∙ filling.handed cs count inv.0 c.args.at low) (omega arith) (omega arith) inv.1 inv.2

pub invariant_of-into : goal.invariant_of-into
invariant_of-into g c =
    let cs = c.self.inside.memory in let count = c.self.inside.len in let inv = c.self.invariant in
    let pairs : somes cs ≡ c.args.self.now.pairs = ap (λ (v : Contents). v.pairs) c.self.view_is in
    let low : c.args.at ≤ length (somes cs) = subst (λ (ps : List (ℕ × ℕ)). c.args.at ≤ length ps) (sym pairs) c.requires.in_bounds in
    let ds = c.into.inside.memory in let inv' = c.into.invariant in
    let none : somes ds ≡ [] = ap (λ (v : Contents). v.pairs) c.into.view_is ∙ c.requires.empty in
    let room : length (somes cs) - c.args.at ≤ length ds = subst (λ (v : Contents). length (somes cs) - c.args.at ≤ v.room) (sym c.into.view_is) (subst (λ (ps : List (ℕ × ℕ)). length ps - c.args.at ≤ c.args.into.now.room) (sym pairs) c.requires.room) in
    let many = inv.0.1 in let back = length-drop c.args.at (somes cs) in
    filling.kept c.hand_over.new.into (drop c.args.at (somes cs)) (length ds) (count - c.args.at) (c.hand_over.ensures.came ∙ filling.taken cs count inv.0 ds inv'.0.0 none c.args.at low) (omega arith) (omega arith) inv'.1 inv'.2

pub returns-clause-kept : goal.returns-clause-kept
returns-clause-kept g c =
    let cs = c.self.inside.memory in let count = c.self.inside.len in let inv = c.self.invariant in
    let pairs : somes cs ≡ c.args.self.now.pairs = ap (λ (v : Contents). v.pairs) c.self.view_is in
    let low : c.args.at ≤ length (somes cs) = subst (λ (ps : List (ℕ × ℕ)). c.args.at ≤ length ps) (sym pairs) c.requires.in_bounds in
    let ds = c.into.inside.memory in let inv' = c.into.invariant in
    let none : somes ds ≡ [] = ap (λ (v : Contents). v.pairs) c.into.view_is ∙ c.requires.empty in
    let room : length (somes cs) - c.args.at ≤ length ds = subst (λ (v : Contents). length (somes cs) - c.args.at ≤ v.room) (sym c.into.view_is) (subst (λ (ps : List (ℕ × ℕ)). length ps - c.args.at ≤ c.args.into.now.room) (sym pairs) c.requires.room) in
    let many = inv.0.1 in let fits = inv.0.2 in let front = length-take c.args.at (somes cs) in
    let told = filling.first c.hand_over.new.self (take c.args.at (somes cs)) (length cs) (omega arith) (c.hand_over.ensures.left ∙ filling.handed cs count inv.0 c.args.at low) in
    (λ j. contents (told.0 j) (told.1 j)) ∙ ap (λ (v : Contents). with_pairs v (take c.args.at v.pairs)) c.self.view_is

pub returns-clause-moved : goal.returns-clause-moved
returns-clause-moved g c =
    let cs = c.self.inside.memory in let count = c.self.inside.len in let inv = c.self.invariant in
    let pairs : somes cs ≡ c.args.self.now.pairs = ap (λ (v : Contents). v.pairs) c.self.view_is in
    let low : c.args.at ≤ length (somes cs) = subst (λ (ps : List (ℕ × ℕ)). c.args.at ≤ length ps) (sym pairs) c.requires.in_bounds in
    let ds = c.into.inside.memory in let inv' = c.into.invariant in
    let none : somes ds ≡ [] = ap (λ (v : Contents). v.pairs) c.into.view_is ∙ c.requires.empty in
    let room : length (somes cs) - c.args.at ≤ length ds = subst (λ (v : Contents). length (somes cs) - c.args.at ≤ v.room) (sym c.into.view_is) (subst (λ (ps : List (ℕ × ℕ)). length ps - c.args.at ≤ c.args.into.now.room) (sym pairs) c.requires.room) in
    let back = length-drop c.args.at (somes cs) in
    let told = filling.first c.hand_over.new.into (drop c.args.at (somes cs)) (length ds) (omega arith) (c.hand_over.ensures.came ∙ filling.taken cs count inv.0 ds inv'.0.0 none c.args.at low) in
    (λ j. contents (told.0 j) (told.1 j)) ∙ (λ j. with_pairs (c.into.view_is j) (drop c.args.at (pairs j)))
