-- The place at the index holds its pair.
use Rattle.std.proofs.Common.{◌≡◌, ℕ, ◌<◌, List, length, get_or, sym, ap, subst, ◌∙◌}
use Rattle.ks_block.specs.Contents.{Contents}
use Rattle.ks_block.specs.Filled.{somes}
use Rattle.ks_block.proofs.Filling as filling
use Rattle.ks_block.proofs.block.Block.get.Goals as goal

pub get-requires : goal.get-requires
get-requires g c =
    let cs = c.self.inside.memory in let count = c.self.inside.len in let inv = c.self.invariant in
    let pairs : somes cs ≡ c.args.self.now.pairs = ap (λ (v : Contents). v.pairs) c.self.view_is in
    let inside : c.args.at < length (somes cs) = subst (λ (ps : List (ℕ × ℕ)). c.args.at < length ps) (sym pairs) c.requires in
    filling.can_read cs count inv.0 c.args.at (0, 0) inside

pub returns : goal.returns
returns g c =
    let cs = c.self.inside.memory in let count = c.self.inside.len in let inv = c.self.invariant in
    let pairs : somes cs ≡ c.args.self.now.pairs = ap (λ (v : Contents). v.pairs) c.self.view_is in
    let inside : c.args.at < length (somes cs) = subst (λ (ps : List (ℕ × ℕ)). c.args.at < length ps) (sym pairs) c.requires in
    filling.is_read cs count inv.0 c.args.at c.get.result c.get.result inside c.get.ensures ∙ ap (λ (ps : List (ℕ × ℕ)). get_or ps c.args.at c.get.result) pairs
