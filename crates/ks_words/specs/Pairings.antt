-- The structures of nodes and the techniques that the program serves, with a row for each, and which of them are paired.
use Rattle.std.specs.Prelude.{ℕ, List, codes, Bool, true, false, ◌&&◌}
use Rattle.ks_keysets.specs.Layout.{Layout, list_layout, bplus_layout, hash_layout, bst_layout}
use Rattle.ks_places.specs.Golden.{golden_place}
use Rattle.ks_words.specs.declared.pairing.Structure.{Structure}
use Rattle.ks_words.specs.declared.pairing.Structure.TheVariants.{List as SortedList, Bplus, Hash, Bst}
use Rattle.ks_words.specs.declared.pairing.Technique.{Technique}
use Rattle.ks_words.specs.declared.pairing.Technique.TheVariants.{Coupling, GiveUp, LinkMove}

-- the word of a structure, how much its nodes hold, which place a key has, and whether techniques that scan scan it
pub record StructureRow : Type 0 where
  pub word : List ℕ
  pub layout : Layout
  pub place : ℕ → ℕ
  pub scans : Bool

abbrev pub structure_row : Structure → StructureRow
structure_row SortedList = record { word = codes "list"; layout = list_layout; place = λ k. k; scans = false }
structure_row Bplus = record { word = codes "bplus"; layout = bplus_layout; place = λ k. k; scans = true }
structure_row Hash = record { word = codes "hash"; layout = hash_layout; place = golden_place; scans = false }
structure_row Bst = record { word = codes "bst"; layout = bst_layout; place = λ k. k; scans = false }

-- the word of a technique, whether it serves scans and moves, and whether its calls can begin at hints
pub record TechniqueRow : Type 0 where
  pub word : List ℕ
  pub scans : Bool
  pub moves : Bool
  pub hints : Bool

abbrev pub technique_row : Technique → TechniqueRow
technique_row Coupling = record { word = codes "coupling"; scans = false; moves = false; hints = false }
technique_row GiveUp = record { word = codes "giveup"; scans = true; moves = true; hints = true }
technique_row LinkMove = record { word = codes "link"; scans = true; moves = false; hints = true }

-- the pairings that are served
abbrev pub is_served : Structure → Technique → Bool
is_served SortedList Coupling = true
is_served SortedList GiveUp = true
is_served SortedList LinkMove = false
is_served Bplus Coupling = true
is_served Bplus GiveUp = true
is_served Bplus LinkMove = true
is_served Hash Coupling = true
is_served Hash GiveUp = true
is_served Hash LinkMove = true
is_served Bst Coupling = true
is_served Bst GiveUp = true
is_served Bst LinkMove = false

-- a pairing of the two serves scans
abbrev pub does_scan : Structure → Technique → Bool
does_scan structure technique = (structure_row structure).scans && (technique_row technique).scans
