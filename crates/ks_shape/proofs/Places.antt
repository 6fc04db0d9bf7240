-- Merged nodes keep the places that they had.
use Rattle.std.proofs.Common.{◌≡◌, ℕ, inl}
use Rattle.std.specs.Prelude.{Some}
use Rattle.ks_keysets.specs.declared.NodeState.{NodeState}
use Rattle.ks_keysets.specs.declared.Record.{Record}
use Rattle.ks_keysets.specs.Keyset.{record_at, InInset}
use Rattle.ks_keysets.specs.Record.{LeadsTo}
use Rattle.ks_flow.specs.Discipline.{SameInset, SameKeyset}
use Rattle.ks_flow.specs.Insets.{AbsorbsInsetOwn, AbsorbsInsetUnder, CollapsesInset}
use Rattle.ks_shape.specs.Places.{HasPlacesOf}

module _ (s g k : ℕ → NodeState) where
  pub own_places : (node right : ℕ) → SameInset node s g → SameKeyset node s g → AbsorbsInsetOwn g k node right → HasPlacesOf s k node node
  own_places node right ins keys y = record { inset = λ p i. (y.at_node p).1 (ins.forth p i); keyset = λ p i. (y.keyset p).1 (inl (keys.forth p i)) }

  pub under_places : (parent node right : ℕ) → SameInset node s g → SameKeyset node s g → AbsorbsInsetUnder g k parent node right → HasPlacesOf s k node node
  under_places parent node right ins keys y = record { inset = λ p i. (y.at_node p).1 (inl (ins.forth p i)); keyset = λ p i. (y.keyset p).1 (inl (keys.forth p i)) }

  pub under_leads : (parent node right : ℕ) (r : Record) → SameInset node s g → AbsorbsInsetUnder g k parent node right → record_at k parent ≡ Some r → (p : ℕ) → InInset s node p → LeadsTo r p node
  under_leads parent node right r ins y is p i = y.leads_node p r is ((y.at_node p).1 (inl (ins.forth p i)))

  pub child_places : (node child : ℕ) → SameInset child s g → SameKeyset child s g → CollapsesInset g k node child → HasPlacesOf s k child node
  child_places node child ins keys y = record { inset = λ p i. (y.at_node p).1 ((y.at_child p).0 (ins.forth p i)); keyset = λ p i. (y.keyset p).1 (keys.forth p i) }
