-- What is found in a row of parts with one more.
use Rattle.std.proofs.Common.{ℕ, zero, suc, ◌≡◌, List, [], ◌∷◌, ◌++◌, length, slice_index_or, Option, Some, None, refl, sym, ap, ◌∙◌, subst, arith}
use Rattle.ks_keysets.specs.declared.Pair.{Pair}
use Rattle.ks_lines.specs.declared.parts.Part.{Part}
use Rattle.ks_dictionary.specs.Ends.{IsFirstOf, first_of, found_or, last_at, last_found, last_of}
use Rattle.ks_dictionary.specs.declared.ends.Found.{Found}

pub last_read : (n : ℕ) (pairs : List Pair) (at : ℕ) (pair : Pair) → suc at ≡ length pairs → pair ≡ slice_index_or pairs at pair → Some (record { number = n; pair = pair }) ≡ last_at n pairs
last_read n [] at pair long read = absurd (omega (arith, long))
last_read n (x ∷ []) zero pair long read = ap (λ (p : Pair). Some (record { number = n; pair = p })) read
last_read n (x ∷ []) (suc at) pair long read = absurd (omega (arith, long))
last_read n (x ∷ y ∷ pairs) zero pair long read = absurd (omega (arith, long))
last_read n (x ∷ y ∷ pairs) (suc at) pair long read = last_read n (y ∷ pairs) at pair (omega (arith, long)) read

-- parts without pairs
abbrev pub HaveNone : List Part → Type 0
HaveNone [] = Unit {0}
HaveNone (part ∷ parts) = (first_of part ≡ None) × HaveNone parts

pub none_more : (parts : List Part) (part : Part) → HaveNone parts → first_of part ≡ None → HaveNone (parts ++ part ∷ [])
none_more [] part none more = (more, tt)
none_more (x ∷ parts) part none more = (none.0, none_more parts part none.1 more)

pub first_more : (last : ℕ) (parts : List Part) (part : Part) (found : Option Found) → HaveNone parts → found ≡ first_of part → (found ≡ None → part.last ≡ last) → IsFirstOf last (parts ++ part ∷ []) found
first_more last [] part found none is to = (is, to)
first_more last (x ∷ []) part found none is to = (none.0, (is, to))
first_more last (x ∷ y ∷ parts) part found none is to = (none.0, first_more last (y ∷ parts) part found none.1 is to)

or_none : (found : Option Found) → found_or found None ≡ found
or_none None = refl
or_none (Some found) = refl

or_both : (a b c : Option Found) → found_or (found_or a b) c ≡ found_or a (found_or b c)
or_both None b c = refl
or_both (Some a) b c = refl

pub last_more : (parts : List Part) (part : Part) → last_found (parts ++ part ∷ []) ≡ found_or (last_of part) (last_found parts)
last_more [] part = sym (or_none (last_of part))
last_more (x ∷ parts) part = ap (λ (found : Option Found). found_or found (last_of x)) (last_more parts part) ∙ or_both (last_of part) (last_found parts) (last_of x)

abbrev IsFound : Option Found → Type 0
IsFound None = ⊥
IsFound (Some found) = Unit {0}

pub not_none : (found : Found) → Some found ≡ None → ⊥
not_none found none = subst IsFound none tt
