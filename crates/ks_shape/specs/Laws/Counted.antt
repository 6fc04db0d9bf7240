-- An edge that leads to a node is among those that are counted.
use Rattle.std.proofs.Common.{◌≡◌, ℕ, zero, suc, ◌<◌, ◌==◌, eq-eqb, true, List, [], ◌∷◌, length, get_or, ap, ◌∙◌, arith}
use Rattle.ks_keysets.specs.declared.Edge.{Edge}
use Rattle.ks_keysets.specs.declared.Record.{Record}
use Rattle.ks_keysets.specs.Record.{LeadsTo}
use Rattle.ks_flow.specs.Tree.{edges_to}

pub positive : (es : List Edge) (k m : ℕ) (x : Edge) → k < length es → get_or es k x ≡ x → x.node ≡ m → 0 < edges_to es m
positive [] k m x near is to = absurd (omega arith)
positive (e ∷ es) zero m x near is to = let t : (e.node == m) ≡ true = eq-eqb e.node m (ap (λ (z : Edge). z.node) is ∙ to) in rw t (omega arith)
positive (e ∷ es) (suc k) m x near is to = omega (arith, positive es k m x (omega arith) is to)

pub counted : (r : Record) (p m : ℕ) → LeadsTo r p m → 0 < edges_to r.edges m
counted r p m to = positive r.edges to.0 m to.1 to.2 to.3 to.4.1
