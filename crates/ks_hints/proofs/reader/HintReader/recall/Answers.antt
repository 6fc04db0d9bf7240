use Rattle.std.proofs.Common.{◌≡◌, sym, subst, rules}
use Rattle.ks_hints.specs.Hints.{LowsAscend, list_after}
use Rattle.ks_hints.specs.Rule.{seen_by}
use Rattle.ks_hints.proofs.Lists.{list_ascends}
use Rattle.ks_hints.proofs.reader.HintReader.recall.Goals as goal

pub nearest-requires : goal.nearest-requires
nearest-requires c =
    let kept : c.args.self.now.list.value.items ≡ list_after (seen_by c.args.self.now.reader) = c.args.self.now.kept in
    let e : c.as_slice.result.now ≡ list_after (seen_by c.args.self.now.reader) = search rules in
    subst LowsAscend (sym e) (list_ascends (seen_by c.args.self.now.reader))
