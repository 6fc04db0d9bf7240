-- The place is emptied, and the later pairs come down.
use Rattle.std.proofs.Common.{◌≡◌, ℕ, suc, ◌+◌, ◌-◌, ◌<◌, List, length, take, drop, get_or, sym, ap, subst, ◌∙◌, arith, length-append, length-take, length-drop}
use Rattle.std.specs.List.{remove}
use Rattle.std.specs.Prelude.{Option, None}
use Rattle.ks_block.specs.Contents.{Contents, contents, with_pairs}
use Rattle.ks_block.specs.Filled.{somes, filled}
use Rattle.ks_block.specs.Places.{IsRun, lowered}
use Rattle.ks_block.proofs.Filling as filling
use Rattle.ks_block.proofs.block.Block.remove_at.Given.{Over}
use Rattle.ks_block.proofs.block.Block.remove_at.Goals as goal

laid : (g : Over) (c : goal.After-lower g) → c.lower.new.self ≡ filled (remove (somes c.self.inside.memory) c.args.at) (length c.self.inside.memory)
laid g c =
    let cs = c.self.inside.memory in let count = c.self.inside.len in let inv = c.self.invariant in
    let pairs : somes cs ≡ c.args.self.now.pairs = ap (λ (v : Contents). v.pairs) c.self.view_is in
    let inside : c.args.at < length (somes cs) = subst (λ (ps : List (ℕ × ℕ)). c.args.at < length ps) (sym pairs) c.requires in
    c.lower.ensures ∙ ap (λ l. lowered l c.args.at (count - 1 - c.args.at)) c.read-pair.ensures.places ∙ filling.removed cs count inv.0 c.args.at (0, 0) inside

one_less : (ps : List (ℕ × ℕ)) (i : ℕ) → i < length ps → length (remove ps i) + 1 ≡ length ps
one_less ps i h = omega (arith, length-append (take i ps) (drop (suc i) ps), length-take i ps, length-drop (suc i) ps)

pub read-pair-requires : goal.read-pair-requires
read-pair-requires g c =
    let cs = c.self.inside.memory in let count = c.self.inside.len in let inv = c.self.invariant in
    let pairs : somes cs ≡ c.args.self.now.pairs = ap (λ (v : Contents). v.pairs) c.self.view_is in
    let inside : c.args.at < length (somes cs) = subst (λ (ps : List (ℕ × ℕ)). c.args.at < length ps) (sym pairs) c.requires in
    filling.can_read cs count inv.0 c.args.at (0, 0) inside

pub lower-requires : goal.lower-requires
lower-requires g c =
    let cs = c.self.inside.memory in let count = c.self.inside.len in let inv = c.self.invariant in
    let pairs : somes cs ≡ c.args.self.now.pairs = ap (λ (v : Contents). v.pairs) c.self.view_is in
    let inside : c.args.at < length (somes cs) = subst (λ (ps : List (ℕ × ℕ)). c.args.at < length ps) (sym pairs) c.requires in
    subst (λ (l : List (Option (ℕ × ℕ))). (get_or l c.args.at None ≡ None) × IsRun l (c.args.at + 1) (count - 1 - c.args.at)) (sym c.read-pair.ensures.places) (filling.can_lower cs count inv.0 c.args.at (0, 0) inside)

pub invariant_of-self : goal.invariant_of-self
invariant_of-self g c =
    let cs = c.self.inside.memory in let count = c.self.inside.len in let inv = c.self.invariant in
    let pairs : somes cs ≡ c.args.self.now.pairs = ap (λ (v : Contents). v.pairs) c.self.view_is in
    let inside : c.args.at < length (somes cs) = subst (λ (ps : List (ℕ × ℕ)). c.args.at < length ps) (sym pairs) c.requires in
    let many = inv.0.1 in let fits = inv.0.2 in let less = one_less (somes cs) c.args.at inside in
    filling.kept c.lower.new.self (remove (somes cs) c.args.at) (length cs) (count - 1) (laid g c) (omega arith) (omega arith) inv.1 inv.2

pub returns-clause-value : goal.returns-clause-value
returns-clause-value g c =
    let cs = c.self.inside.memory in let count = c.self.inside.len in let inv = c.self.invariant in
    let pairs : somes cs ≡ c.args.self.now.pairs = ap (λ (v : Contents). v.pairs) c.self.view_is in
    let inside : c.args.at < length (somes cs) = subst (λ (ps : List (ℕ × ℕ)). c.args.at < length ps) (sym pairs) c.requires in
    let pair = c.read-pair.result in
    filling.is_read cs count inv.0 c.args.at pair pair inside c.read-pair.ensures.value ∙ ap (λ (ps : List (ℕ × ℕ)). get_or ps c.args.at pair) pairs

pub returns-clause-rest : goal.returns-clause-rest
returns-clause-rest g c =
    let cs = c.self.inside.memory in let count = c.self.inside.len in let inv = c.self.invariant in
    let pairs : somes cs ≡ c.args.self.now.pairs = ap (λ (v : Contents). v.pairs) c.self.view_is in
    let inside : c.args.at < length (somes cs) = subst (λ (ps : List (ℕ × ℕ)). c.args.at < length ps) (sym pairs) c.requires in
    let many = inv.0.1 in let fits = inv.0.2 in let less = one_less (somes cs) c.args.at inside in
    let told = filling.first c.lower.new.self (remove (somes cs) c.args.at) (length cs) (omega arith) (laid g c) in
    (λ j. contents (told.0 j) (told.1 j)) ∙ ap (λ (v : Contents). with_pairs v (remove v.pairs c.args.at)) c.self.view_is
