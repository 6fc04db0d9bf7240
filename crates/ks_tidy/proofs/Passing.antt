-- What a search does that takes and releases nodes and makes no call.
use Rattle.std.proofs.Common.{◌≡◌, ◌≤◌, ℕ, List, [], ◌∷◌, refl, sym, ◌∙◌, subst, arith}
use Rattle.std.proofs.lemmas.List.{append_cancel_right}
use Rattle.ks_history.specs.declared.Event.{Event}
use Rattle.ks_history.specs.declared.Event.TheVariants.{Take, Give, Claim, Shape, Call, Twin}
use Rattle.ks_history.specs.declared.Op.TheVariants.{Put}
use Rattle.ks_history.specs.Done.{coupling, most_held}
use Rattle.ks_history.specs.Passes.{NoCallBy}
use Rattle.ks_history.specs.Laws.Stays.{cond_else}
use Rattle.ks_arena.specs.declared.held.Pass.{Pass}
use Rattle.ks_arena.specs.Clauses.{seen_of}
use Rattle.ks_shape.specs.Does.{DoesOnly, EachOwn, MaySearch}
use Rattle.ks_shape.specs.Frees.{AllMerge, Frees, freed_by, freed_in}
use Rattle.ks_shape.specs.Stretches.{Stretches}
use Rattle.ks_shape.specs.Laws.Does.{does_on}
use Rattle.ks_shape.specs.Laws.Stretches.{stretches_as, stretches_both}

none_freed : (c : ℕ) (s es : List Event) → EachOwn MaySearch c s es → freed_by c es ≡ 0
none_freed c s [] each = refl
none_freed c s (Take d i ∷ es) each = omega (arith, none_freed c s es each.1)
none_freed c s (Give d i ∷ es) each = omega (arith, none_freed c s es each.1)
none_freed c s (Claim d i ∷ es) each = omega (arith, none_freed c s es each.1)
none_freed c s (Shape d changes ∷ es) each = omega (arith, cond_else d c (freed_in changes) 0 (λ same. each.0 same), none_freed c s es each.1)
none_freed c s (Call d i op reply ∷ es) each = omega (arith, none_freed c s es each.1)
none_freed c s (Twin d i j op reply ∷ es) each = omega (arith, none_freed c s es each.1)

all_merge : (c : ℕ) (s es : List Event) → EachOwn MaySearch c s es → NoCallBy c es → AllMerge c es
all_merge c s [] each none = tt
all_merge c s (Take d i ∷ es) each none = (tt, all_merge c s es each.1 none)
all_merge c s (Give d i ∷ es) each none = (tt, all_merge c s es each.1 none)
all_merge c s (Claim d i ∷ es) each none = ((λ same. each.0 same), all_merge c s es each.1 none)
all_merge c s (Shape d changes ∷ es) each none = ((λ same. absurd (each.0 same)), all_merge c s es each.1 none)
all_merge c s (Call d i op reply ∷ es) each none = (none.0, all_merge c s es each.1 none.1)
all_merge c s (Twin d i j op reply ∷ es) each none = (none.0, all_merge c s es each.1 none.1)

-- it makes no node free
pub frees_none : (c : ℕ) (h k : List Event) → Stretches c h k → DoesOnly MaySearch c h k → Frees c h k 0
frees_none c h k so does = let three : 3 ≤ most_held coupling (Put 0 0) = omega arith in let under = so coupling (Put 0 0) three in record {
  rest = does.grows.rest;
  is = does.grows.is;
  merges = all_merge c h does.grows.rest does.each (subst (NoCallBy c) (append_cancel_right under.rest does.grows.rest h (sym under.is ∙ does.grows.is)) under.none);
  made = none_freed c h does.grows.rest does.each;
}

-- a search that goes on from an equal pass
module _ {N D : Type 0} (c : ℕ) (h : List Event) (p q : Pass N D) (k : List Event) (own : p.caller ≡ c) (same : q ≡ p) where
  pub leaves_on : DoesOnly MaySearch c h (seen_of p) → DoesOnly MaySearch q.caller (seen_of q) k → DoesOnly MaySearch c h k
  leaves_on a b = does_on MaySearch c p.caller h (seen_of p) k own a (subst (λ (z : Pass N D). DoesOnly MaySearch z.caller (seen_of z) k) same b)

  pub stretch_on : Stretches c h (seen_of p) → Stretches q.caller (seen_of q) k → Stretches c h k
  stretch_on a b = stretches_both c h (seen_of p) k a (stretches_as c p.caller (seen_of p) k own (subst (λ (z : Pass N D). Stretches z.caller (seen_of z) k) same b))
