use Rattle.std.proofs.Common.{refl, subst, sym}
use Rattle.ks_c.specs.declared.caller.Caller.TheVariants.{BLinkTree, GiveUpTree, BTree, LinkHashTable, BLinkWideTree, GiveUpWideTree}
use Rattle.ks_c.specs.Calls.{Called}
use Rattle.ks_c.proofs.caller.Caller.call.Goals as goal

pub returns-in-BLinkTree : goal.returns-in-BLinkTree
returns-in-BLinkTree c =
    subst (λ b. Called c.args.call c.args.key b (BLinkTree c.along_links.new.caller) c.along_links.result c.along_links.new.out) (sym c.in-BLinkTree.is) (c.along_links.new.caller, refl, c.along_links.ensures)

pub returns-in-GiveUpTree : goal.returns-in-GiveUpTree
returns-in-GiveUpTree c =
    subst (λ b. Called c.args.call c.args.key b (GiveUpTree c.by_giving_up.new.caller) c.by_giving_up.result c.by_giving_up.new.out) (sym c.in-GiveUpTree.is) (c.by_giving_up.new.caller, refl, c.by_giving_up.ensures)

pub returns-in-BTree : goal.returns-in-BTree
returns-in-BTree c =
    subst (λ b. Called c.args.call c.args.key b (BTree c.by_coupling.new.caller) c.by_coupling.result c.by_coupling.new.out) (sym c.in-BTree.is) (c.by_coupling.new.caller, refl, c.by_coupling.ensures)

pub returns-in-LinkHashTable : goal.returns-in-LinkHashTable
returns-in-LinkHashTable c =
    subst (λ b. Called c.args.call c.args.key b (LinkHashTable c.along_links-in-LinkHashTable.new.caller) c.along_links-in-LinkHashTable.result c.along_links-in-LinkHashTable.new.out) (sym c.in-LinkHashTable.is) (c.along_links-in-LinkHashTable.new.caller, refl, c.along_links-in-LinkHashTable.ensures)

pub returns-in-BLinkWideTree : goal.returns-in-BLinkWideTree
returns-in-BLinkWideTree c =
    subst (λ b. Called c.args.call c.args.key b (BLinkWideTree c.along_links-in-BLinkWideTree.new.caller) c.along_links-in-BLinkWideTree.result c.along_links-in-BLinkWideTree.new.out) (sym c.in-BLinkWideTree.is) (c.along_links-in-BLinkWideTree.new.caller, refl, c.along_links-in-BLinkWideTree.ensures)

pub returns-in-GiveUpWideTree : goal.returns-in-GiveUpWideTree
returns-in-GiveUpWideTree c =
    subst (λ b. Called c.args.call c.args.key b (GiveUpWideTree c.by_giving_up-in-GiveUpWideTree.new.caller) c.by_giving_up-in-GiveUpWideTree.result c.by_giving_up-in-GiveUpWideTree.new.out) (sym c.in-GiveUpWideTree.is) (c.by_giving_up-in-GiveUpWideTree.new.caller, refl, c.by_giving_up-in-GiveUpWideTree.ensures)
