use Rattle.std.proofs.Common.{refl, sym, ◌∙◌}
use Rattle.std.proofs.lemmas.Bool.{false≢true}
use Rattle.std.proofs.lemmas.List.{get_or_read}
use Rattle.ks_judge.proofs.Scans.{no_part, part_right, part_wrong}
use Rattle.ks_judge.proofs.replay.after_part.Goals as goal

pub returns-then-part-number-clause-wrong : goal.returns-then-part-number-clause-wrong
returns-then-part-number-clause-wrong g c =
    let p = c.index-parts-at.result in
    let is_p = get_or_read c.args.parts.now c.args.at.part p c.requires.within c.index-parts-at.is no_part in
    part_wrong (g.M.Store.has c.args.map.now) c.args.first c.args.parts.now c.args.at.part c.args.number _ p c.requires.within is_p refl (λ is span. c.if-part-number.true is)

pub returns-then-not-lists_span-clause-wrong : goal.returns-then-not-lists_span-clause-wrong
returns-then-not-lists_span-clause-wrong g c =
    let p = c.index-parts-at.result in
    let is_p = get_or_read c.args.parts.now c.args.at.part p c.requires.within c.index-parts-at.is no_part in
    part_wrong (g.M.Store.has c.args.map.now) c.args.first c.args.parts.now c.args.at.part c.args.number c.begin_of-low.result p c.requires.within is_p c.begin_of-low.ensures
    (λ is span. false≢true (sym c.if-not-lists_span.true ∙ (c.lists_span.ensures c.requires.lists).1 span))

pub returns-then-at-parts-clause-right : goal.returns-then-at-parts-clause-right
returns-then-at-parts-clause-right g c =
    let p = c.index-parts-at.result in
    let is_p = get_or_read c.args.parts.now c.args.at.part p c.requires.within c.index-parts-at.is no_part in
    part_right (g.M.Store.has c.args.map.now) c.args.first c.args.parts.now c.args.at.part c.args.number c.begin_of-low.result p c.requires.within is_p c.begin_of-low.ensures
    c.if-part-number.false ((c.lists_span.ensures c.requires.lists).0 c.if-not-lists_span.false)

pub returns-clause-right : goal.returns-clause-right
returns-clause-right g c =
    let p = c.index-parts-at.result in
    let is_p = get_or_read c.args.parts.now c.args.at.part p c.requires.within c.index-parts-at.is no_part in
    part_right (g.M.Store.has c.args.map.now) c.args.first c.args.parts.now c.args.at.part c.args.number c.begin_of-low.result p c.requires.within is_p c.begin_of-low.ensures
    c.if-part-number.false ((c.lists_span.ensures c.requires.lists).0 c.if-not-lists_span.false)
