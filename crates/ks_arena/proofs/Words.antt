-- Turn words, and the turns of a sound trace.
use Rattle.std.proofs.Common.{◌≡◌, ◌≢◌, ℕ, ◌+◌, ◌-◌, ◌<◌, List, [], ◌∷◌, ◌++◌, refl, sym, ap, ◌∙◌, subst, arith}
use mathlib.Core.Logic.{dite}
use native.Mathlib.Decide.{ℕ_discrete}
use Rattle.ks_history.specs.declared.Event.{Event}
use Rattle.ks_history.specs.Trace.{◌⊑◌, Turn, free, idle, held, turn_after, caller_of}
use Rattle.ks_history.specs.Laws.Stays.{cond_here, cond_else, other_turn}
use Rattle.ks_history.specs.Callers.{CallersBelow}
use Rattle.ks_history.specs.Alone.{AllBy, ActsAlone, HoldsAlone}
use Rattle.ks_arena.specs.Rule.{turn_word}

pub word_idle : (t : Turn) → turn_word t ≡ 1 → t ≡ idle
word_idle free e = absurd (omega arith)
word_idle idle e = refl
word_idle (held c) e = absurd (omega arith)

pub word_free : (t : Turn) → turn_word t ≡ 0 → t ≡ free
word_free free e = refl
word_free idle e = absurd (omega arith)
word_free (held c) e = absurd (omega arith)

pub word_other : (t : Turn) (r : ℕ) → r ≡ turn_word t → r ≢ 1 → r ≢ 0 → t ≡ held (r - 2)
word_other free r e a b = absurd (b e)
word_other idle r e a b = absurd (a e)
word_other (held d) r e a b = let s : d ≡ r - 2 = omega arith in ap held s

pub word_below : (n : ℕ) (t : Turn) (r : ℕ) → r ≡ turn_word t → ((c : ℕ) → t ≡ held c → c < n) → r < n + 2
word_below n free r e low = omega arith
word_below n idle r e low = omega arith
word_below n (held c) r e low = let l : c < n = low c refl in omega arith

-- a caller that holds a node has an event
pub held_below : (n : ℕ) (h : List Event) (i c : ℕ) → CallersBelow n h → turn_after h i ≡ held c → c < n
held_below n [] i c low now = dite (ℕ_discrete i 0) (λ z. let e : idle ≡ held c = sym (cond_here i 0 idle free z) ∙ now in (cc)) (λ z. let e : free ≡ held c = sym (cond_else i 0 idle free z) ∙ now in (cc))
held_below n (e ∷ h) i c low now = dite (ℕ_discrete (caller_of e) c) (λ z. let x = low.0 in omega arith) (λ z. held_below n h i c low.1 (other_turn h e c i z now))

-- if there is only one caller, no other acts

all_by_one : (es h : List Event) → CallersBelow 1 (es ++ h) → AllBy 0 es
all_by_one [] h low = tt
all_by_one (e ∷ es) h low = let x = low.0 in (omega arith, all_by_one es h low.1)

below_old : (n : ℕ) (es h : List Event) → CallersBelow n (es ++ h) → CallersBelow n h
below_old n [] h low = low
below_old n (e ∷ es) h low = below_old n es h low.1

pub one_alone : (h k : List Event) → h ⊑ k → CallersBelow 1 k → ActsAlone 0 h k × HoldsAlone 0 h
one_alone h k begins low = let all = subst (CallersBelow 1) begins.is low in (
  record { rest = begins.rest; is = begins.is; own = all_by_one begins.rest h all },
  λ d i now. let x = held_below 1 h i d (below_old 1 begins.rest h all) now in omega arith,
)
