-- A row of parts with one more, and what was only a search and still is.
use Rattle.std.proofs.Common.{ℕ, suc, ◌≡◌, ◌≤◌, ◌<◌, List, [], ◌∷◌, ◌++◌, length, Some, refl, sym, ◌∙◌, subst, arith}
use Rattle.ks_keysets.specs.Layout.{Layout}
use Rattle.ks_history.specs.declared.Event.{Event}
use Rattle.ks_history.specs.Done.{Template}
use Rattle.ks_arena.specs.declared.held.Pass.{Pass}
use Rattle.ks_arena.specs.Clauses.{seen_of}
use Rattle.ks_arena.specs.Of.{SameCaller}
use Rattle.ks_shape.specs.Does.{DoesOnly, MaySearch, OnlySearches}
use Rattle.ks_shape.specs.Idle.{IsIdle, Site}
use Rattle.ks_shape.specs.Laws.Does.{does_both, does_none}
use Rattle.ks_shape.specs.Parts.{DonePart}
use Rattle.ks_lines.specs.declared.parts.Part.{Part}
use Rattle.ks_dictionary.specs.Scan.{DoneParts, HasSearched}
use Rattle.ks_lines.specs.Scan.{PartsAscend, end_of}

-- where the next part begins
abbrev pub next_from : ℕ → List Part → ℕ
next_from low [] = low
next_from low (part ∷ parts) = next_from (suc part.last) parts

pub next_more : (low : ℕ) (parts : List Part) (part : Part) → next_from low (parts ++ part ∷ []) ≡ suc part.last
next_more low [] part = refl
next_more low (x ∷ parts) part = next_more (suc x.last) parts part

pub end_more : (parts : List Part) (part : Part) → end_of (parts ++ part ∷ []) ≡ Some part.last
end_more [] part = refl
end_more (x ∷ []) part = refl
end_more (x ∷ y ∷ parts) part = end_more (y ∷ parts) part

pub done_more : (layout : Layout) (template : Template) (n c low last : ℕ) (s0 : List Event) (parts : List Part) (s1 s2 : List Event) (part : Part) → DoneParts layout template n c low last s0 parts s1 → DonePart layout template n c (next_from low parts) last s1 s2 part
    → DoneParts layout template n c low last s0 (parts ++ part ∷ []) s2
done_more layout template n c low last s0 [] s1 s2 part so more = (s2, subst (λ (s : List Event). DonePart layout template n c low last s s2 part) (sym so) more, refl)
done_more layout template n c low last s0 (x ∷ parts) s1 s2 part so more = (so.0, so.1, done_more layout template n c (suc x.last) last so.0 parts s1 s2 part so.2 more)

pub ascend_more : (low last : ℕ) (parts : List Part) (part : Part) → PartsAscend low last parts → next_from low parts ≤ part.last → part.last ≤ last → PartsAscend low last (parts ++ part ∷ [])
ascend_more low last [] part so from to = (from, to, tt)
ascend_more low last (x ∷ parts) part so from to = (so.0, so.1, ascend_more (suc x.last) last parts part so.2 from to)

-- a row that is not empty ends just before the next part
pub end_before : (low : ℕ) (parts : List Part) → 0 < length parts → (p : ℕ) × (end_of parts ≡ Some p) × (next_from low parts ≡ suc p)
end_before low [] some = absurd (omega (arith, some))
end_before low (x ∷ []) some = (x.last, refl, refl)
end_before low (x ∷ y ∷ parts) some = end_before (suc x.last) (y ∷ parts) (omega arith)

module _ {N D : Type 0} (a : Site) where
  pub searched_none : (p : Pass N D) → IsIdle a p → HasSearched a p p
  searched_none p idle = record { pass = idle; caller = refl; leaves = does_none MaySearch p.caller (seen_of p) }

  pub searched_more : (p q r : Pass N D) → HasSearched a p q → IsIdle a r → SameCaller q r → OnlySearches q r → HasSearched a p r
  searched_more p q r so idle same leaves = record {
    pass = idle;
    caller = same ∙ so.caller;
    leaves = does_both MaySearch p.caller (seen_of p) (seen_of q) (seen_of r) so.leaves (subst (λ (z : ℕ). DoesOnly MaySearch z (seen_of q) (seen_of r)) so.caller leaves);
  }
