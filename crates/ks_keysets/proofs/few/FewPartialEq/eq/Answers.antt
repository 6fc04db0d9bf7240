use Rattle.ks_keysets.proofs.Cells.{places_are, values_are, then_is, else_is}
use Rattle.ks_keysets.proofs.few.FewPartialEq.eq.Goals as goal

pub returns-then-eq : goal.returns-then-eq
returns-then-eq c =
    then_is _ _ _ _ _ _ _ _ (places_are _ _ _ _ c.self.invariant c.self.told c.self.view_is) (places_are _ _ _ _ c.other.invariant c.other.told c.other.view_is)
    (values_are _ _ _ _ c.self.invariant c.self.told c.self.view_is) (values_are _ _ _ _ c.other.invariant c.other.told c.other.view_is) c.if-eq.true c.eq.ensures c.eq-then-eq.ensures

pub returns-else-eq : goal.returns-else-eq
returns-else-eq c = else_is _ _ _ _ _ (places_are _ _ _ _ c.self.invariant c.self.told c.self.view_is) (places_are _ _ _ _ c.other.invariant c.other.told c.other.view_is) c.if-eq.false c.eq.ensures
