-- The place is emptied and filled again.
use Rattle.std.proofs.Common.{◌≡◌, ℕ, ◌<◌, List, length, get_or, set, sym, ap, subst, ◌∙◌, arith, length-set}
use Rattle.std.specs.Prelude.{Some}
use Rattle.ks_block.specs.Contents.{Contents, contents, with_pairs, set_value}
use Rattle.ks_block.specs.Filled.{somes, filled}
use Rattle.ks_block.proofs.Filling as filling
use Rattle.ks_block.proofs.block.Block.set_value.Given.{Over}
use Rattle.ks_block.proofs.block.Block.set_value.Goals as goal

laid : (g : Over) (c : goal.After-write g) → c.write.new.self ≡ filled (set_value (somes c.self.inside.memory) c.args.at c.args.value) (length c.self.inside.memory)
laid g c =
    let cs = c.self.inside.memory in let count = c.self.inside.len in let inv = c.self.invariant in
    let pairs : somes cs ≡ c.args.self.now.pairs = ap (λ (v : Contents). v.pairs) c.self.view_is in
    let inside : c.args.at < length (somes cs) = subst (λ (ps : List (ℕ × ℕ)). c.args.at < length ps) (sym pairs) c.requires in
    let pair = c.read-place.result in
    let is : pair ≡ get_or (somes cs) c.args.at (0, c.args.value) = filling.is_read cs count inv.0 c.args.at pair (0, c.args.value) inside c.read-place.ensures.value in
    c.write.ensures ∙ ap (λ l. set l c.args.at (Some (pair.0, c.args.value))) c.read-place.ensures.places ∙ filling.rewritten cs count inv.0 c.args.at (pair.0, c.args.value) inside
    ∙ (λ j. filled (set (somes cs) c.args.at ((is j).0, c.args.value)) (length cs))

pub read-place-requires : goal.read-place-requires
read-place-requires g c =
    let cs = c.self.inside.memory in let count = c.self.inside.len in let inv = c.self.invariant in
    let pairs : somes cs ≡ c.args.self.now.pairs = ap (λ (v : Contents). v.pairs) c.self.view_is in
    let inside : c.args.at < length (somes cs) = subst (λ (ps : List (ℕ × ℕ)). c.args.at < length ps) (sym pairs) c.requires in
    filling.can_read cs count inv.0 c.args.at (0, 0) inside

pub invariant_of-self : goal.invariant_of-self
invariant_of-self g c =
    let cs = c.self.inside.memory in let inv = c.self.invariant in let many = inv.0.1 in let fits = inv.0.2 in
    let same = length-set (somes cs) c.args.at ((get_or (somes cs) c.args.at (0, c.args.value)).0, c.args.value) in
    filling.kept c.write.new.self (set_value (somes cs) c.args.at c.args.value) (length cs) c.self.inside.len (laid g c) (omega arith) (omega arith) inv.1 inv.2

pub returns : goal.returns
returns g c =
    let cs = c.self.inside.memory in let inv = c.self.invariant in let many = inv.0.1 in let fits = inv.0.2 in
    let same = length-set (somes cs) c.args.at ((get_or (somes cs) c.args.at (0, c.args.value)).0, c.args.value) in
    let told = filling.first c.write.new.self (set_value (somes cs) c.args.at c.args.value) (length cs) (omega arith) (laid g c) in
    (λ j. contents (told.0 j) (told.1 j)) ∙ ap (λ (v : Contents). with_pairs v (set_value v.pairs c.args.at c.args.value)) c.self.view_is
