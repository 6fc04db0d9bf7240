-- What adds up over several tries.
use Rattle.std.proofs.Common.{◌≡◌, ◌≢◌, ℕ, ◌+◌, ◌-◌, ◌*◌, ◌%◌, ◌^◌, ◌<◌, ◌≤◌, ⊎_elim, bit_and, w64, List, sym, ap, ◌∙◌, subst, arith}
use Rattle.std.specs.Int.{bit_at, bit_not}
use Rattle.std.proofs.lemmas.Nat.Bits.{bit_at_clear_same, bit_at_clear_other}
use Rattle.std.proofs.lemmas.Bool.{cases_lt}
use lib.Bits.{and_le_l}
use Rattle.std.specs.Prelude.{Some, None}
use mathlib.Core.Logic.{dite}
use native.Mathlib.Decide.{ℕ_discrete}
use Rattle.ks_keysets.specs.declared.NodeState.TheVariants.{Free}
use Rattle.ks_keysets.specs.Keyset.{live_record}
use Rattle.ks_history.specs.declared.Event.{Event}
use Rattle.ks_history.specs.Trace.{◌⊑◌, free, held, graph_after, turn_after}
use Rattle.ks_history.specs.Lawful.{Lawful, GoodThroughout}
use Rattle.ks_history.specs.Alone.{ActsAlone, HoldsAlone}
use Rattle.ks_history.specs.Laws.Alone.{alone_still, alone_first, alone_then}
use Rattle.ks_history.specs.Laws.Stays.{lawful_in_turn}
use Rattle.ks_history.specs.Laws.Begins.{begins_self, begins_both, by_others_begins, good_now}
use Rattle.ks_node.specs.Body.{Body}
use Rattle.ks_arena.specs.declared.held.Held.{Held as Hand}
use Rattle.ks_arena.specs.Sound.{Sort}
use Rattle.ks_arena.specs.Laws.FromSound.{rested}
use Rattle.ks_arena.specs.Plays.{TellsFree}
use Rattle.ks_arena.specs.Laws.Tells.{looked_both, kept_both, taken_within, claimed_later, claimed_begins}
use Rattle.ks_arena.specs.Clauses.{Kept, HasLooked, WasTaken, HasClaimed, DidClaimIn, DidClaim}

-- the free words before the one of index w were tried: their nodes were found taken
pub record Tried (n c w : ℕ) (h k : List Event) : Type 0 where
  pub looked : HasLooked c h k
  pub kept : Kept c h k
  pub taken : (j : ℕ) → j < n → j < 64 * w → WasTaken h k j

-- node j is one of the 64 of this word
in_word : (w j : ℕ) → j < 64 * (w + 1) → 64 * w ≤ j → (j - 64 * w < 64) × (64 * w + (j - 64 * w) ≡ j)
in_word w j high low = (omega arith, omega arith)

pub tried_more : (n c w : ℕ) (h k l : List Event) → Tried n c w h k → HasLooked c k l → Kept c k l → ((b : ℕ) → b < 64 → 64 * w + b < n → WasTaken k l (64 * w + b)) → Tried n c (w + 1) h l
tried_more n c w h k l so looked kept found = record {
  looked = looked_both c h k l so.looked looked;
  kept = kept_both c h k l so.kept kept;
  taken = λ j near high. ⊎_elim
      (λ (low : j < 64 * w). taken_within h h k l j (begins_self h) (by_others_begins c k l looked.grows) (so.taken j near low))
      (λ (low : 64 * w ≤ j). let at = in_word w j high low in taken_within h k l l j (by_others_begins c h k so.looked.grows) (begins_self l) (subst (WasTaken k l) at.1 (found (j - 64 * w) at.0 (subst (λ (z : ℕ). z < n) (sym at.1) near)))) (cases_lt j (64 * w));
}

-- the tries among the nodes of free word w so far: those whose bits are no more in `left` were found taken; and if no other
-- caller acted or held a node, the others are free
pub record TriedIn (n w c left : ℕ) (h k : List Event) : Type 0 where
  pub looked : HasLooked c h k
  pub kept : Kept c h k
  pub near : (b : ℕ) → b < 64 → bit_at left b ≡ 1 → 64 * w + b < n
  pub taken : (b : ℕ) → b < 64 → 64 * w + b < n → bit_at left b ≡ 0 → WasTaken h k (64 * w + b)
  pub rest : ActsAlone c h k → HoldsAlone c h → (b : ℕ) → b < 64 → bit_at left b ≡ 1 → turn_after k (64 * w + b) ≡ free

pub told_word : (n w c left : ℕ) (h k : List Event) → HasLooked c h k → Kept c h k → TellsFree n w c k left → TriedIn n w c left h k
told_word n w c left h k looked kept told = record {
  looked = looked;
  kept = kept;
  near = λ b low on. (told.sets b low on).0;
  taken = λ b low near off. record { moment = k; since = by_others_begins c h k looked.grows; until = begins_self k; so = told.clears b low near off };
  rest = λ alone holds b low on. ⊎_elim (λ f. f) (λ other. absurd (other.1 (holds other.0 (64 * w + b) (subst (λ (z : List Event). turn_after z (64 * w + b) ≡ held other.0) (alone_still c h k alone looked.grows) other.2)))) (told.sets b low on).1;
}

-- a try cannot miss if no other caller acts
pub missed_not_alone : (n w c left b : ℕ) (h k l : List Event) → TriedIn n w c left h k → HasLooked c k l → b < 64 → bit_at left b ≡ 1 → turn_after l (64 * w + b) ≢ free → ActsAlone c h l → HoldsAlone c h → ⊥
missed_not_alone n w c left b h k l so looked low on found alone holds = let hk = by_others_begins c h k so.looked.grows in let kl = by_others_begins c k l looked.grows in
    let same : l ≡ k = alone_still c k l (alone_then c h k l hk kl alone) looked.grows in found (ap (λ (z : List Event). turn_after z (64 * w + b)) same ∙ so.rest (alone_first c h k l hk kl alone) holds b low on)

-- if no other caller acts from h to l, none did before the look and none after it
pub alone_next : (c : ℕ) (h k l : List Event) → HasLooked c h k → k ⊑ l → ActsAlone c h l → HoldsAlone c h → ActsAlone c h k × ActsAlone c k l × HoldsAlone c k
alone_next c h k l looked kl alone holds = let hk = by_others_begins c h k looked.grows in let first = alone_first c h k l hk kl alone in
    (first, alone_then c h k l hk kl alone, subst (HoldsAlone c) (sym (alone_still c h k first looked.grows)) holds)

-- the bits of a word without bit b
abbrev pub without : ℕ → ℕ → ℕ
without left b = bit_and left (bit_not w64 (1 * 2 ^ b % 2 ^ 64))

without_same : (left b : ℕ) → b < 64 → bit_at (without left b) b ≡ 0
without_same left b low = bit_at_clear_same w64 left b low

without_other : (left b a : ℕ) → b < 64 → a < 64 → a ≢ b → bit_at (without left b) a ≡ bit_at left a
without_other left b a low low' ne = bit_at_clear_other w64 left b low a low' ne

pub without_less : (left b : ℕ) → b < 64 → bit_at left b ≡ 1 → without left b < left
without_less left b low on = dite (ℕ_discrete (bit_and left (bit_not w64 (1 * 2 ^ b % 2 ^ 64))) left)
    (λ same. absurd (omega (arith, on, without_same left b low, ap (λ (z : ℕ). bit_at z b) same)))
    (λ other. omega (arith, and_le_l left (bit_not w64 (1 * 2 ^ b % 2 ^ 64))))

pub missed : (n w c left b : ℕ) (h k l : List Event) → TriedIn n w c left h k → HasLooked c k l → Kept c k l → b < 64 → bit_at left b ≡ 1 → turn_after l (64 * w + b) ≢ free → TriedIn n w c (without left b) h l
missed n w c left b h k l so looked kept low on found = let kl = by_others_begins c k l looked.grows in record {
  looked = looked_both c h k l so.looked looked;
  kept = kept_both c h k l so.kept kept;
  near = λ a low' on'. dite (ℕ_discrete a b) (λ e. absurd (omega (arith, on', without_same left b low, ap (bit_at (without left b)) e))) (λ ne. so.near a low' (sym (without_other left b a low low' ne) ∙ on'));
  taken = λ a low' near off. dite (ℕ_discrete a b)
      (λ e. subst (λ (z : ℕ). WasTaken h l (64 * w + z)) (sym e) (record { moment = l; since = begins_both h k l (by_others_begins c h k so.looked.grows) kl; until = begins_self l; so = found }))
      (λ ne. taken_within h h k l (64 * w + a) (begins_self h) kl (so.taken a low' near (sym (without_other left b a low low' ne) ∙ off)));
  rest = λ alone holds a low' on'. absurd (missed_not_alone n w c left b h k l so looked low on found alone holds);
}

-- the root is never free
pub root_taken : (h : List Event) → Lawful h → GoodThroughout h → turn_after h 0 ≢ free
root_taken h lawful good now = let r = (good_now good).root in let is : graph_after h 0 ≡ Free = (rested h (lawful_in_turn h lawful) 0).free_is now in let e : None ≡ Some r.0 = sym (ap live_record is) ∙ r.1 in absurd (let q : ⊥ = cc in q)

module _ {N : Type 0} (sort : Sort) (shows : N → Body) where
  -- what a claim among the nodes of a free word found, as those of all words before it were taken
  pub claimed_in : (n w c left b : ℕ) (h k l : List Event) (x : Hand N) → TriedIn n w c left h k → b < 64 → bit_at left b ≡ 1 → ((a : ℕ) → a < b → bit_at left a ≡ 0) → (x.node ≡ 64 * w + b) × HasClaimed sort shows c k l x → DidClaimIn sort shows n w c h l (Some x)
  claimed_in n w c left b h k l x so low on lowest told = let near : 64 * w + b < n = so.near b low on in (
    claimed_later sort shows c h k l x so.looked told.1,
    (let e = told.0 in omega arith),
    (b, low, told.0, λ a less. taken_within h h k l (64 * w + a) (begins_self h) (claimed_begins sort shows c k l x told.1) (so.taken a (omega arith) (omega arith) (lowest a less))),
  )

  -- and among the nodes of all
  pub did_claim : (n w c : ℕ) (h k l : List Event) (x : Hand N) → Tried n c w h k → DidClaimIn sort shows n w c k l (Some x) → x.node ≢ 0 → DidClaim sort shows n c h l (Some x)
  did_claim n w c h k l x so told not_root = let b : ℕ = told.2.0 in let is : x.node ≡ 64 * w + b = told.2.2 in let small : b < 64 = told.2.1 in let kl = claimed_begins sort shows c k l x told.0 in (
    claimed_later sort shows c h k l x so.looked told.0,
    omega arith,
    told.1,
    λ j pos high. let near = told.1 in ⊎_elim
        (λ (less : j < 64 * w). taken_within h h k l j (begins_self h) kl (so.taken j (omega arith) less))
        (λ (more : 64 * w ≤ j). let at = in_word w j (omega arith) more in taken_within h k l l j (by_others_begins c h k so.looked.grows) (begins_self l) (subst (WasTaken k l) at.1 (told.2.3 (j - 64 * w) (omega arith)))) (cases_lt j (64 * w)),
  )
