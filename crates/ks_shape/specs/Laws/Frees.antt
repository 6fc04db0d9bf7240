-- How many nodes a caller makes free while it merges nodes, and what remains while it makes none free.
use Rattle.std.proofs.Common.{◌≡◌, ◌≢◌, ℕ, ◌+◌, ◌<◌, ◌%◌, ◌^◌, List, [], ◌∷◌, ◌++◌, sym, refl, ap, ◌∙◌, subst, append_assoc, arith}
use Rattle.std.proofs.lemmas.List.{append_cancel_right}
use Rattle.ks_keysets.specs.declared.Frame.{Frame}
use Rattle.ks_keysets.specs.declared.Change.{Change}
use Rattle.ks_keysets.specs.Reframed.{SameNodes}
use Rattle.ks_history.specs.declared.Event.{Event}
use Rattle.ks_history.specs.declared.Event.TheVariants.{Take, Give, Claim, Shape, Call, Twin}
use Rattle.ks_history.specs.Trace.{◌⊑◌, caller_of, graph_after}
use Rattle.ks_history.specs.Frames.{frame_after}
use Rattle.ks_history.specs.Callers.{NoneBy}
use Rattle.ks_history.specs.Passes.{GrowsByOthers, GrowsWith}
use Rattle.ks_history.specs.Laws.Stays.{cond_here, cond_else}
use Rattle.ks_history.specs.Alone.{AllBy}
use Rattle.ks_history.specs.Laws.Alone.{alone_first, alone_then}
use Rattle.ks_history.specs.Quiet.{AllTurns, OnlyTurns}
use Rattle.ks_history.specs.Laws.Quiet.{turns_same}
use Rattle.ks_shape.specs.Frees.{freed_in, freed_with, freed_by, Merges, AllMerge, Frees, Counts, Undisturbed}

-- no step
pub frees_here : (c : ℕ) (h : List Event) → Frees c h h 0
frees_here c h = record { rest = []; is = refl; merges = tt; made = refl }

-- steps of others
others_free : (c : ℕ) (e : Event) → caller_of e ≢ c → freed_with c e ≡ 0
others_free c (Take d i) other = refl
others_free c (Give d i) other = refl
others_free c (Claim d i) other = refl
others_free c (Shape d changes) other = cond_else d c (freed_in changes) 0 other
others_free c (Call d i op reply) other = refl
others_free c (Twin d i j op reply) other = refl

others_merge : (c : ℕ) (e : Event) → caller_of e ≢ c → Merges c e
others_merge c (Take d i) other = tt
others_merge c (Give d i) other = tt
others_merge c (Claim d i) other = other
others_merge c (Shape d changes) other = λ same. absurd (other same)
others_merge c (Call d i op reply) other = other
others_merge c (Twin d i j op reply) other = other

none_freed : (c : ℕ) (es : List Event) → NoneBy c es → freed_by c es ≡ 0
none_freed c [] none = refl
none_freed c (e ∷ es) none = omega (arith, others_free c e none.0, none_freed c es none.1)

none_merge : (c : ℕ) (es : List Event) → NoneBy c es → AllMerge c es
none_merge c [] none = tt
none_merge c (e ∷ es) none = (others_merge c e none.0, none_merge c es none.1)

pub frees_others : (c : ℕ) (h k : List Event) → GrowsByOthers c h k → Frees c h k 0
frees_others c h k so = record { rest = so.rest; is = so.is; merges = none_merge c so.rest so.others; made = none_freed c so.rest so.others }

-- one step of its own
frees_with : (c count : ℕ) (e : Event) (h k : List Event) → Merges c e → freed_with c e ≡ count → GrowsWith c e h k → Frees c h k count
frees_with c count e h k merges made so = record {
  rest = e ∷ so.rest;
  is = so.is;
  merges = (merges, none_merge c so.rest so.others);
  made = omega (arith, made, none_freed c so.rest so.others);
}

pub frees_take : (c i : ℕ) (h k : List Event) → GrowsWith c (Take c i) h k → Frees c h k 0
frees_take c i h k so = frees_with c 0 (Take c i) h k tt refl so

pub frees_give : (c i : ℕ) (h k : List Event) → GrowsWith c (Give c i) h k → Frees c h k 0
frees_give c i h k so = frees_with c 0 (Give c i) h k tt refl so

pub frees_shape : (c : ℕ) {changes : List Change} (h k : List Event) → 0 < freed_in changes → GrowsWith c (Shape c changes) h k → Frees c h k (freed_in changes)
frees_shape c {changes} h k some so = frees_with c (freed_in changes) (Shape c changes) h k (λ same. some) (cond_here c c (freed_in changes) 0 refl) so

-- two stretches
merge_both : (c : ℕ) (es fs : List Event) → AllMerge c es → AllMerge c fs → AllMerge c (es ++ fs)
merge_both c [] fs a b = b
merge_both c (e ∷ es) fs a b = (a.0, merge_both c es fs a.1 b)

freed_both : (c : ℕ) (es fs : List Event) → freed_by c (es ++ fs) ≡ freed_by c fs + freed_by c es
freed_both c [] fs = omega arith
freed_both c (e ∷ es) fs = omega (arith, freed_both c es fs)

pub frees_both : (c a b : ℕ) (g h k : List Event) → Frees c g h a → Frees c h k b → Frees c g k (a + b)
frees_both c a b g h k x y = record {
  rest = y.rest ++ x.rest;
  is = y.is ∙ ap (λ (z : List Event). y.rest ++ z) x.is ∙ sym (append_assoc y.rest x.rest g);
  merges = merge_both c y.rest x.rest y.merges x.merges;
  made = omega (arith, freed_both c y.rest x.rest, x.made, y.made);
}

-- for a caller whose number is written in another way
pub frees_as : (c d : ℕ) {count : ℕ} (h k : List Event) → d ≡ c → Frees d h k count → Frees c h k count
frees_as c d {count} h k same so = subst (λ (z : ℕ). Frees z h k count) same so

pub frees_begins : (c : ℕ) {count : ℕ} (h k : List Event) → Frees c h k count → h ⊑ k
frees_begins c h k so = record { rest = so.rest; is = so.is }

-- two such numbers are equal
pub frees_same : (c a b : ℕ) (h k : List Event) → Frees c h k a → Frees c h k b → a ≡ b
frees_same c a b h k x y = sym x.made ∙ ap (freed_by c) (append_cancel_right x.rest y.rest h (sym x.is ∙ y.is)) ∙ y.made

-- the counts add up
pub counts_of : (c count : ℕ) (h k : List Event) → count < 2 ^ 32 → Frees c h k count → Counts c h k count
counts_of c count h k small so = record { count = count; frees = so; is = omega (arith, small) }

pub counts_both : (c a b : ℕ) (g h k : List Event) → Counts c g h a → Counts c h k b → Counts c g k ((a + b) % 2 ^ 32)
counts_both c a b g h k x y = record {
  count = x.count + y.count;
  frees = frees_both c x.count y.count g h k x.frees y.frees;
  is = omega (arith, x.is, y.is);
}

pub counts_more : (c a count : ℕ) (g h k : List Event) → Counts c g h a → Frees c h k count → Counts c g k ((a + count) % 2 ^ 32)
counts_more c a count g h k x y = record { count = x.count + count; frees = frees_both c x.count count g h k x.frees y; is = omega (arith, x.is) }

-- a stretch that makes none free leaves the count
pub counts_on : (c a : ℕ) (g h k : List Event) → Counts c g h a → Frees c h k 0 → Counts c g k a
counts_on c a g h k x y = record { count = x.count + 0; frees = frees_both c x.count 0 g h k x.frees y; is = omega (arith, x.is) }

pub counts_as : (c d a : ℕ) (h k : List Event) → d ≡ c → Counts d h k a → Counts c h k a
counts_as c d a h k same so = subst (λ (z : ℕ). Counts z h k a) same so

pub undisturbed_as : (c d : ℕ) (h k : List Event) → d ≡ c → Undisturbed d h k → Undisturbed c h k
undisturbed_as c d h k same so = subst (λ (z : ℕ). Undisturbed z h k) same so

-- if a stretch was undisturbed, each part of it was
pub undisturbed_first : (c a b : ℕ) (g h k : List Event) → Frees c g h a → Frees c h k b → Undisturbed c g k → Undisturbed c g h
undisturbed_first c a b g h k x y so = record {
  alone = alone_first c g h k (frees_begins c g h x) (frees_begins c h k y) so.alone;
  none = let same : a + b ≡ 0 = frees_same c (a + b) 0 g k (frees_both c a b g h k x y) so.none in let zero : a ≡ 0 = omega (arith, same) in subst (Frees c g h) zero x;
}

pub undisturbed_then : (c a b : ℕ) (g h k : List Event) → Frees c g h a → Frees c h k b → Undisturbed c g k → Undisturbed c h k
undisturbed_then c a b g h k x y so = record {
  alone = alone_then c g h k (frees_begins c g h x) (frees_begins c h k y) so.alone;
  none = let same : a + b ≡ 0 = frees_same c (a + b) 0 g k (frees_both c a b g h k x y) so.none in let zero : b ≡ 0 = omega (arith, same) in subst (Frees c h k) zero y;
}

-- and the caller only took and released nodes, so what is live stayed as it was
only_turns : (c : ℕ) (es : List Event) → AllBy c es → AllMerge c es → freed_by c es ≡ 0 → AllTurns es
only_turns c [] own merges none = tt
only_turns c (Take d i ∷ es) own merges none = (tt, only_turns c es own.1 merges.1 (omega (arith, none)))
only_turns c (Give d i ∷ es) own merges none = (tt, only_turns c es own.1 merges.1 (omega (arith, none)))
only_turns c (Claim d i ∷ es) own merges none = absurd (merges.0 own.0)
only_turns c (Shape d changes ∷ es) own merges none = absurd (omega (arith, merges.0 own.0, cond_here d c (freed_in changes) 0 own.0, none))
only_turns c (Call d i op reply ∷ es) own merges none = absurd (merges.0 own.0)
only_turns c (Twin d i j op reply ∷ es) own merges none = absurd (merges.0 own.0)

pub undisturbed_turns : (c : ℕ) (h k : List Event) → Undisturbed c h k → OnlyTurns h k
undisturbed_turns c h k so = record {
  rest = so.none.rest;
  is = so.none.is;
  turns = only_turns c so.none.rest (subst (AllBy c) (append_cancel_right so.alone.rest so.none.rest h (sym so.alone.is ∙ so.none.is)) so.alone.own) so.none.merges so.none.made;
}

pub undisturbed_same : (c : ℕ) (blank : Frame) (h k : List Event) → Undisturbed c h k → SameNodes (graph_after h) (frame_after blank h) (graph_after k) (frame_after blank k)
undisturbed_same c blank h k so = turns_same blank h k (undisturbed_turns c h k so)
