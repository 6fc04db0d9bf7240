use Rattle.std.proofs.Common.{arith}
use Rattle.ks_keysets.proofs.Cells.{len_is, push_is}
use Rattle.ks_keysets.proofs.few.Few.push.Goals as goal

pub bounds-self-inside-self-inside : goal.bounds-self-inside-self-inside
bounds-self-inside-self-inside c = let same = len_is _ _ _ _ c.self.invariant c.self.told c.self.view_is in omega (arith, c.requires)

pub bounds-self-inside-self-inside-2 : goal.bounds-self-inside-self-inside-2
bounds-self-inside-self-inside-2 c = let same = len_is _ _ _ _ c.self.invariant c.self.told c.self.view_is in omega (arith, c.requires)

pub invariant_of-self : goal.invariant_of-self
invariant_of-self c = let same = len_is _ _ _ _ c.self.invariant c.self.told c.self.view_is in omega (arith, c.requires)

pub returns : goal.returns
returns c = push_is _ _ _ _ _ _ c.requires c.self.invariant c.self.told c.self.view_is
