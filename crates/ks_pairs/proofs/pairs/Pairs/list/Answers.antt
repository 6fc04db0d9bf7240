use Rattle.std.proofs.Common.{arith, ap, sym, ◌∙◌, ◌++◌, ◌∷◌, [], length}
use Rattle.std.proofs.lemmas.List.{take_all}
use Rattle.ks_node.specs.Effect.{pairs_within}
use Rattle.ks_node.specs.Laws.Cuts.{later}
use Rattle.ks_pairs.proofs.Within.{none_below, one_more, all_before, within_few}
use Rattle.ks_pairs.proofs.pairs.Pairs.list.Goals as goal

pub loop-at-init : goal.loop-at-init
loop-at-init g c = record {
  listed = c.requires.empty ∙ sym (none_below c.args.low c.args.last c.rank-first.result c.args.self.now.items c.rank-first.ensures.before);
  from = omega arith;
}

pub push-requires : goal.push-requires
push-requires g c =
    let few = within_few c.args.low c.args.last c.loop-at.at c.args.self.now.items (omega arith) in
    omega (arith, c.requires.few, ap length c.loop-at.invariant.listed)

pub loop-at-preserved : goal.loop-at-preserved
loop-at-preserved g c =
    let xs = c.args.self.now.items in
    let pair = c.pair-pair.result in
    record {
      listed =
          c.push.ensures ∙ ap (λ l. l ++ pair ∷ []) c.loop-at.invariant.listed
          ∙ sym (one_more c.args.low c.args.last xs c.loop-at.at pair (omega arith) c.pair-pair.ensures (c.rank-first.ensures.after c.loop-at.at pair c.loop-at.invariant.from (omega arith)) (omega arith));
      from = omega (arith, c.loop-at.invariant.from);
    }

pub returns-then-last-place : goal.returns-then-last-place
returns-then-last-place g c =
    let xs = c.args.self.now.items in
    let pair = c.pair-pair.result in
    c.loop-at.invariant.listed
    ∙ all_before c.args.low c.args.last c.loop-at.at xs (later (λ x. x.place) xs c.loop-at.at _ pair c.requires.ascend c.pair-pair.ensures (omega arith))

pub returns : goal.returns
returns g c =
    let xs = c.args.self.now.items in
    c.loop-at.invariant.listed ∙ ap (pairs_within c.args.low c.args.last) (take_all c.loop-at.at xs (omega arith))
