-- Laws of sound traces: each event is in turn, and nodes past the end of the arena stay free and are not named.
use Rattle.std.proofs.Common.{◌≡◌, ◌≢◌, ℕ, ◌<◌, ◌≤◌, List, [], ◌∷◌, sym, ap, ◌∙◌, ⊎_elim, arith}
use Rattle.std.proofs.lemmas.Bool.{cases_lt}
use Rattle.ks_keysets.specs.declared.Frame.{Frame}
use Rattle.ks_keysets.specs.declared.NodeState.{NodeState}
use Rattle.ks_keysets.specs.declared.NodeState.TheVariants.{Free}
use Rattle.ks_keysets.specs.declared.Change.{Change}
use Rattle.ks_history.specs.declared.Event.{Event}
use Rattle.ks_history.specs.declared.Event.TheVariants.{Take, Give, Claim, Shape, Call, Twin}
use Rattle.ks_history.specs.Trace.{free, idle, held, turn_given, graph_after, turn_after}
use Rattle.ks_history.specs.Laws.Stays.{IsInTurn, AreInTurn, cond_else}
use Rattle.ks_arena.specs.Sound.{Sort, Sound, StepsSoundly}
use Rattle.ks_arena.specs.Laws.FromSound.{rested}
use Rattle.ks_arena.specs.Named.{NamesBelow, AllNamedBelow}

module _ (sort : Sort) (begins : Frame → Type 0) (asks : (ℕ → NodeState) → (ℕ → Frame) → List Change → Type 0) (nodes : ℕ) where
  pub is_in_turn : (h : List Event) (e : Event) → StepsSoundly sort begins asks nodes h e → IsInTurn h e
  is_in_turn h (Take c j) so = so
  is_in_turn h (Give c j) so = so
  is_in_turn h (Claim c j) so = so.0
  is_in_turn h (Shape c xs) so = so.0
  is_in_turn h (Call c j o y) so = so.0.0
  is_in_turn h (Twin c j k o y) so = (so.0.0, so.0.1)

  pub are_in_turn : (h : List Event) → Sound sort begins asks nodes h → AreInTurn h
  are_in_turn [] so = tt
  are_in_turn (e ∷ h) so = (are_in_turn h so.0, is_in_turn h e so.1)

module _ (sort : Sort) (begins : Frame → Type 0) (asks : (ℕ → NodeState) → (ℕ → Frame) → List Change → Type 0) (nodes : ℕ) (some : 0 < nodes) where
  turn_beyond : (h : List Event) → Sound sort begins asks nodes h → (i : ℕ) → nodes ≤ i → turn_after h i ≡ free
  turn_beyond [] so i far = cond_else i 0 idle free (λ z. omega arith)
  turn_beyond (Take c j ∷ h) so i far = let before = turn_beyond h so.0 i far in
      cond_else i j (held c) (turn_after h i) (λ z. let e : idle ≡ free = sym so.1 ∙ ap (turn_after h) (sym z) ∙ before in let q : ⊥ = cc in q) ∙ before
  turn_beyond (Give c j ∷ h) so i far = let before = turn_beyond h so.0 i far in
      cond_else i j (turn_given (graph_after h j)) (turn_after h i) (λ z. let e : held c ≡ free = sym so.1 ∙ ap (turn_after h) (sym z) ∙ before in let q : ⊥ = cc in q) ∙ before
  turn_beyond (Claim c j ∷ h) so i far = let near = so.1.1 in cond_else i j (held c) (turn_after h i) (λ z. omega arith) ∙ turn_beyond h so.0 i far
  turn_beyond (Shape c changes ∷ h) so i far = turn_beyond h so.0 i far
  turn_beyond (Call c j op reply ∷ h) so i far = turn_beyond h so.0 i far
  turn_beyond (Twin c j k op reply ∷ h) so i far = turn_beyond h so.0 i far

  pub free_beyond : (h : List Event) → Sound sort begins asks nodes h → (i : ℕ) → nodes ≤ i → graph_after h i ≡ Free
  free_beyond h so i far = (rested h (are_in_turn sort begins asks nodes h so) i).free_is (turn_beyond h so i far)

  -- a node that is not free is one of the arena
  is_near : (h : List Event) → Sound sort begins asks nodes h → (i : ℕ) → turn_after h i ≢ free → i < nodes
  is_near h so i taken = ⊎_elim (λ (near : i < nodes). near) (λ (far : nodes ≤ i). absurd (taken (turn_beyond h so i far))) (cases_lt i nodes)

  held_near : (c : ℕ) (h : List Event) → Sound sort begins asks nodes h → (i : ℕ) → turn_after h i ≡ held c → i < nodes
  held_near c h so i mine = is_near h so i (λ e. let q : held c ≡ free = sym mine ∙ e in let z : ⊥ = cc in z)

  named_then : (h : List Event) (e : Event) → Sound sort begins asks nodes h → StepsSoundly sort begins asks nodes h e → NamesBelow nodes e
  named_then h (Take c j) so may = is_near h so j (λ e. let q : idle ≡ free = sym may ∙ e in let z : ⊥ = cc in z)
  named_then h (Give c j) so may = held_near c h so j may
  named_then h (Claim c j) so may = may.1
  named_then h (Shape c changes) so may = λ k x lt. held_near c h so _ (may.0 k x lt)
  named_then h (Call c j op reply) so may = held_near c h so j may.0.0
  named_then h (Twin c j k op reply) so may = (held_near c h so j may.0.0, held_near c h so k may.0.1)

  -- so every event names nodes of the arena
  pub named_below : (h : List Event) → Sound sort begins asks nodes h → AllNamedBelow nodes h
  named_below [] so = tt
  named_below (e ∷ h) so = (named_below h so.0, named_then h e so.0 so.1)
