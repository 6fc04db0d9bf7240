use Rattle.std.proofs.Common.{◌≡◌, ◌-◌, get_or, sym, ap, arith}
use Rattle.ks_lines.specs.declared.parts.Part.{Part}
use Rattle.ks_judge.proofs.Scans.{begins_before}
use Rattle.ks_judge.proofs.replay.begin_of.Goals as goal

pub overflow_add-result : goal.overflow_add-result
overflow_add-result c =
    let parts = c.args.parts.now in
    let p = c.index-parts-at.result in
    let q = c.index-parts-at-2.result in
    let low = begins_before c.args.first c.requires.ascend.0 parts c.args.at p q c.requires.ascend.1 c.requires.within c.if-at-eq0.false c.index-parts-at.is c.index-parts-at-2.is in
    let a : (get_or parts c.args.at p).last ≡ p.last = ap (λ (x : Part). x.last) (sym c.index-parts-at.is) in
    let b : (get_or parts (c.args.at - 1) q).last ≡ q.last = ap (λ (x : Part). x.last) (sym c.index-parts-at-2.is) in
    omega (arith, low, a, b, c.index-parts-at.element_fits)
