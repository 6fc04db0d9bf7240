-- What each shape of a tree does to the insets and keysets of the nodes that it names.
-- In each g is the graph before it, and k that after it. A node that is not named keeps its inset and its keyset.
use Rattle.std.specs.Prelude.{ℕ, ◌≡◌, ◌<◌, ◌≤◌, ◌⊎◌, ◌↔◌, Some}
use Rattle.ks_keysets.specs.declared.NodeState.{NodeState}
use Rattle.ks_keysets.specs.declared.Record.{Record}
use Rattle.ks_keysets.specs.Record.{LeadsTo}
use Rattle.ks_keysets.specs.Keyset.{record_at, InInset, InKeyset}

-- the inset of node n is the places at which P holds
abbrev pub HasInset : (ℕ → NodeState) → ℕ → (ℕ → Type 0) → Type 0
HasInset k n P = (p : ℕ) → InInset k n p ↔ P p

-- the keyset of node n is the places at which P holds
abbrev pub HasKeyset : (ℕ → NodeState) → ℕ → (ℕ → Type 0) → Type 0
HasKeyset k n P = (p : ℕ) → InKeyset k n p ↔ P p

-- node n leads to node m at each place of the inset of m
abbrev pub LeadsAll : (ℕ → NodeState) → ℕ → ℕ → Type 0
LeadsAll k n m = (p : ℕ) (r : Record) → record_at k n ≡ Some r → InInset k m p → LeadsTo r p m

-- a node that splits by itself keeps its inset, and right has the part from the cut on, by an edge of the node; its keyset
-- is cut in two
pub record SplitsInsetOwn (g k : ℕ → NodeState) (node right cut : ℕ) : Type 0 where
  pub at_node : HasInset k node (InInset g node)
  pub at_right : HasInset k right (λ p. InInset g node p × (cut ≤ p))
  pub keyset_node : HasKeyset k node (λ p. InKeyset g node p × (p < cut))
  pub keyset_right : HasKeyset k right (λ p. InKeyset g node p × (cut ≤ p))
  pub leads_right : LeadsAll k node right

-- of a node that splits under its parent, inset and keyset are cut in two, and parent keeps its inset and leads to both
pub record SplitsInsetUnder (g k : ℕ → NodeState) (parent node right cut : ℕ) : Type 0 where
  pub at_parent : HasInset k parent (InInset g parent)
  pub at_node : HasInset k node (λ p. InInset g node p × (p < cut))
  pub at_right : HasInset k right (λ p. InInset g node p × (cut ≤ p))
  pub keyset_node : HasKeyset k node (λ p. InKeyset g node p × (p < cut))
  pub keyset_right : HasKeyset k right (λ p. InKeyset g node p × (cut ≤ p))
  pub leads_node : LeadsAll k parent node
  pub leads_right : LeadsAll k parent right

-- a node that grows keeps its inset; left and right, to which it leads, have its inset and its keyset, cut in two
pub record GrowsInset (g k : ℕ → NodeState) (node left right cut : ℕ) : Type 0 where
  pub at_node : HasInset k node (InInset g node)
  pub at_left : HasInset k left (λ p. InInset g node p × (p < cut))
  pub at_right : HasInset k right (λ p. InInset g node p × (cut ≤ p))
  pub keyset_left : HasKeyset k left (λ p. InKeyset g node p × (p < cut))
  pub keyset_right : HasKeyset k right (λ p. InKeyset g node p × (cut ≤ p))
  pub leads_left : LeadsAll k node left
  pub leads_right : LeadsAll k node right

-- a node that absorbs the node to which it leads keeps its inset, which has that of the other, and gets both keysets
pub record AbsorbsInsetOwn (g k : ℕ → NodeState) (node right : ℕ) : Type 0 where
  pub at_node : HasInset k node (InInset g node)
  pub within : (p : ℕ) → InInset g right p → InInset g node p
  pub keyset : HasKeyset k node (λ p. InKeyset g node p ⊎ InKeyset g right p)

-- a node that absorbs the node beside it gets the insets and the keysets of both, and parent keeps its inset and leads to it
pub record AbsorbsInsetUnder (g k : ℕ → NodeState) (parent node right : ℕ) : Type 0 where
  pub at_parent : HasInset k parent (InInset g parent)
  pub at_node : HasInset k node (λ p. InInset g node p ⊎ InInset g right p)
  pub keyset : HasKeyset k node (λ p. InKeyset g node p ⊎ InKeyset g right p)
  pub leads_node : LeadsAll k parent node

-- a node that takes over its only child keeps its inset, which was that of the child, and gets the child's keyset
pub record CollapsesInset (g k : ℕ → NodeState) (node child : ℕ) : Type 0 where
  pub at_node : HasInset k node (InInset g node)
  pub at_child : HasInset g child (InInset g node)
  pub keyset : HasKeyset k node (InKeyset g child)
