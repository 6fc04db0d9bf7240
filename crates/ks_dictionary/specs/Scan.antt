-- Scans as rows of parts.
use Rattle.std.specs.Prelude.{ℕ, suc, ◌≡◌, List, [], ◌∷◌}
use Rattle.ks_keysets.specs.Layout.{Layout}
use Rattle.ks_history.specs.declared.Event.{Event}
use Rattle.ks_history.specs.Done.{Template}
use Rattle.ks_node.specs.Keyed.{Ascends}
use Rattle.ks_arena.specs.declared.held.Pass.{Pass}
use Rattle.ks_arena.specs.Clauses.{seen_of}
use Rattle.ks_arena.specs.Of.{SameCaller}
use Rattle.ks_shape.specs.Does.{OnlySearches}
use Rattle.ks_shape.specs.Idle.{IsIdle, Site}
use Rattle.ks_shape.specs.Parts.{DonePart}
use Rattle.ks_lines.specs.declared.parts.Part.{Part}

-- from p to q the caller only took and released nodes and decided, and at q its pass holds no node
pub record HasSearched {N D : Type 0} (a : Site) (p q : Pass N D) : Type 0 where
  pub pass : IsIdle a q
  pub caller : SameCaller p q
  pub leaves : OnlySearches p q

-- the parts were made one after another by c between s0 and s1, each from the place after the one before it, and nothing else
abbrev pub DoneParts : Layout → Template → ℕ → ℕ → ℕ → ℕ → List Event → List Part → List Event → Type 0
DoneParts layout template n c low last s0 [] s1 = s0 ≡ s1
DoneParts layout template n c low last s0 (part ∷ parts) s1 = (s : List Event) × DonePart layout template n c low last s0 s part × DoneParts layout template n c (suc part.last) last s parts s1

-- the same between two passes
abbrev pub IsDoneScan : {N D : Type 0} → Layout → Template → Site → ℕ → ℕ → Pass N D → Pass N D → List Part → Type 0
IsDoneScan layout technique a low last p q parts = DoneParts layout technique a.nodes p.caller low last (seen_of p) parts (seen_of q)

-- each part's number is less than those of all later ones
abbrev pub NumbersAscend : List Part → Type 0
NumbersAscend parts = Ascends (λ part. part.number) parts
