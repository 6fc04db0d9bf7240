-- Laws of traces: the turn of a node says whether it is live.
use Rattle.std.proofs.Common.{◌≡◌, ◌≢◌, ℕ, zero, suc, List, [], ◌∷◌, Option, Some, None, sym, refl, ap, ◌∙◌, arith}
use Rattle.std.specs.Prelude.{All}
use Rattle.std.proofs.lemmas.Option.{same_Some}
use mathlib.Core.Logic.{dite}
use native.Mathlib.Decide.{ℕ_discrete}
use Rattle.ks_keysets.specs.declared.NodeState.{NodeState}
use Rattle.ks_keysets.specs.declared.NodeState.TheVariants.{Free, Claimed, Live}
use Rattle.ks_keysets.specs.declared.Record.{Record}
use Rattle.ks_keysets.specs.declared.Change.{Change}
use Rattle.ks_keysets.specs.Frame.{empty_record}
use Rattle.ks_keysets.specs.Keyset.{live_record, record_at, IsLive}
use Rattle.ks_keysets.specs.Laws.Found.{KeepsEdges}
use Rattle.ks_history.specs.declared.Event.{Event}
use Rattle.ks_history.specs.declared.Event.TheVariants.{Take, Give, Claim, Shape, Call, Twin}
use Rattle.ks_history.specs.Write.{Write, written, taken_out, put_in, pairs_with}
use Rattle.ks_history.specs.Trace.{given, state_with, written_at, graph_after, free, idle, held, turn_given, turn_after}
use Rattle.ks_history.specs.Laws.Stays.{AreInTurn, cond_here, cond_else, written_else, twice_else, shaped_else}

-- what events do to the state of one node

-- a record after a write
abbrev pub record_with : Write → Record → Record
record_with w r = record { edges = r.edges; pairs = pairs_with r.pairs w }

pub given_kept : (s : NodeState) → live_record (given s) ≡ live_record s
given_kept Free = refl
given_kept (Claimed c) = refl
given_kept (Live r) = refl

pub state_written : (w : Write) (s : NodeState) (r : Record) → live_record s ≡ Some r → live_record (state_with w s) ≡ Some (record_with w r)
state_written w Free r is = absurd (cc)
state_written w (Claimed c) r is = absurd (cc)
state_written w (Live s) r is = ap some_with is
  where
    some_with : Option Record → Option Record
    some_with None = None
    some_with (Some t) = Some (record_with w t)

-- and conversely
pub state_was : (w : Write) (s : NodeState) (t : Record) → live_record (state_with w s) ≡ Some t → (r : Record) × (live_record s ≡ Some r) × (r.edges ≡ t.edges)
state_was w Free t is = absurd (cc)
state_was w (Claimed c) t is = absurd (cc)
state_was w (Live r) t is = (r, refl, ap (λ (z : Record). z.edges) (same_Some (record_with w r) t is))

-- a write at a node leaves each live node live, with its edges, and makes no node live
pub written_forth : (w : Write) (j : ℕ) (g : ℕ → NodeState) → KeepsEdges g (written_at w j g)
written_forth w j g = record {
  at = λ n r is. dite (ℕ_discrete n j)
      (λ same. (record_with w r, ap live_record (cond_here n j (state_with w (g j)) (g n) same) ∙ state_written w (g j) r (ap (record_at g) (sym same) ∙ is), refl))
      (λ apart. (r, ap live_record (written_else w j g n apart) ∙ is, refl));
}

pub written_back : (w : Write) (j : ℕ) (g : ℕ → NodeState) → KeepsEdges (written_at w j g) g
written_back w j g = record {
  at = λ n r is. dite (ℕ_discrete n j)
      (λ same. let was = state_was w (g j) r (sym (ap live_record (cond_here n j (state_with w (g j)) (g n) same)) ∙ is) in (was.0, ap (record_at g) same ∙ was.1, was.2))
      (λ apart. (r, sym (ap live_record (written_else w j g n apart)) ∙ is, refl));
}

pub edges_both : (g h k : ℕ → NodeState) → KeepsEdges g h → KeepsEdges h k → KeepsEdges g k
edges_both g h k a b = record { at = λ n r is. let s = a.at n r is in let t = b.at n s.0 s.1 in (t.0, t.1, t.2 ∙ s.2) }

pub given_turn_free : (s : NodeState) → turn_given s ≡ free → live_record s ≡ None
given_turn_free Free is = refl
given_turn_free (Claimed c) is = refl
given_turn_free (Live r) is = absurd (cc)

pub given_turn_idle : (s : NodeState) → turn_given s ≡ idle → (r : Record) × (live_record (given s) ≡ Some r)
given_turn_idle Free is = absurd (cc)
given_turn_idle (Claimed c) is = absurd (cc)
given_turn_idle (Live r) is = (r, refl)

-- the nodes of a Shape are held, so one that is free or idle is not among them
unheld_apart : (h : List Event) (c i : ℕ) (changes : List Change) → All (λ x. turn_after h x.node ≡ held c) changes → (turn_after h i ≡ held c → ⊥) → All (λ x. x.node ≢ i) changes
unheld_apart h c i changes are other k x lt same = other (sym (ap (turn_after h) same) ∙ are k x lt)

-- a node that is free to claim is not live
pub free_not_live : (h : List Event) (i : ℕ) → AreInTurn h → turn_after h i ≡ free → record_at (graph_after h) i ≡ None
free_not_live [] zero are is = absurd (cc)
free_not_live [] (suc i) are is = refl
free_not_live (Take c j ∷ h) i are is = dite (ℕ_discrete i j)
    (λ s. let x : held c ≡ free = sym (cond_here i j (held c) (turn_after h i) s) ∙ is in absurd (cc))
    (λ n. free_not_live h i are.0 (sym (cond_else i j (held c) (turn_after h i) n) ∙ is))
free_not_live (Give c j ∷ h) i are is = dite (ℕ_discrete i j)
    (λ s. let none : live_record (graph_after h j) ≡ None = given_turn_free (graph_after h j) (sym (cond_here i j (turn_given (graph_after h j)) (turn_after h i) s) ∙ is) in
    ap live_record (cond_here i j (given (graph_after h j)) (graph_after h i) s) ∙ given_kept (graph_after h j) ∙ none)
    (λ n. ap live_record (cond_else i j (given (graph_after h j)) (graph_after h i) n) ∙ free_not_live h i are.0 (sym (cond_else i j (turn_given (graph_after h j)) (turn_after h i) n) ∙ is))
free_not_live (Claim c j ∷ h) i are is = dite (ℕ_discrete i j)
    (λ s. let x : held c ≡ free = sym (cond_here i j (held c) (turn_after h i) s) ∙ is in absurd (cc))
    (λ n. ap live_record (cond_else i j (Claimed c) (graph_after h i) n) ∙ free_not_live h i are.0 (sym (cond_else i j (held c) (turn_after h i) n) ∙ is))
free_not_live (Shape c changes ∷ h) i are is =
    ap live_record (shaped_else changes i (graph_after h i) (unheld_apart h c i changes are.1 (λ mine. let x : held c ≡ free = sym mine ∙ is in cc)))
    ∙ free_not_live h i are.0 is
free_not_live (Call c j op reply ∷ h) i are is =
    ap live_record (cond_else i j (state_with (written op reply) (graph_after h j)) (graph_after h i) (λ s. let x : held c ≡ free = sym are.1 ∙ ap (turn_after h) (sym s) ∙ is in cc))
    ∙ free_not_live h i are.0 is
free_not_live (Twin c j k op reply ∷ h) i are is =
    let n : i ≢ j = λ s. let x : held c ≡ free = sym are.1.0 ∙ ap (turn_after h) (sym s) ∙ is in cc in
    let m : i ≢ k = λ s. let x : held c ≡ free = sym are.1.1 ∙ ap (turn_after h) (sym s) ∙ is in cc in
    ap live_record (twice_else (taken_out (written op reply)) (put_in (written op reply)) j k (graph_after h) i n m)
    ∙ free_not_live h i are.0 is

-- a node that is idle is live
pub idle_live : (h : List Event) (i : ℕ) → AreInTurn h → turn_after h i ≡ idle → IsLive (graph_after h) i
idle_live [] zero are is = (empty_record, refl)
idle_live [] (suc i) are is = let x : free ≡ idle = sym (cond_else (suc i) 0 idle free (λ e. omega arith)) ∙ is in absurd (cc)
idle_live (Take c j ∷ h) i are is = dite (ℕ_discrete i j)
    (λ s. let x : held c ≡ idle = sym (cond_here i j (held c) (turn_after h i) s) ∙ is in absurd (cc))
    (λ n. idle_live h i are.0 (sym (cond_else i j (held c) (turn_after h i) n) ∙ is))
idle_live (Give c j ∷ h) i are is = dite (ℕ_discrete i j)
    (λ s. let r = given_turn_idle (graph_after h j) (sym (cond_here i j (turn_given (graph_after h j)) (turn_after h i) s) ∙ is) in
    (r.0, ap live_record (cond_here i j (given (graph_after h j)) (graph_after h i) s) ∙ r.1))
    (λ n. let r = idle_live h i are.0 (sym (cond_else i j (turn_given (graph_after h j)) (turn_after h i) n) ∙ is) in
    (r.0, ap live_record (cond_else i j (given (graph_after h j)) (graph_after h i) n) ∙ r.1))
idle_live (Claim c j ∷ h) i are is = dite (ℕ_discrete i j)
    (λ s. let x : held c ≡ idle = sym (cond_here i j (held c) (turn_after h i) s) ∙ is in absurd (cc))
    (λ n. let r = idle_live h i are.0 (sym (cond_else i j (held c) (turn_after h i) n) ∙ is) in
    (r.0, ap live_record (cond_else i j (Claimed c) (graph_after h i) n) ∙ r.1))
idle_live (Shape c changes ∷ h) i are is =
    let r = idle_live h i are.0 is in
    (r.0, ap live_record (shaped_else changes i (graph_after h i) (unheld_apart h c i changes are.1 (λ mine. let x : held c ≡ idle = sym mine ∙ is in cc))) ∙ r.1)
idle_live (Call c j op reply ∷ h) i are is =
    let r = idle_live h i are.0 is in
    (r.0, ap live_record (cond_else i j (state_with (written op reply) (graph_after h j)) (graph_after h i) (λ s. let x : held c ≡ idle = sym are.1 ∙ ap (turn_after h) (sym s) ∙ is in cc)) ∙ r.1)
idle_live (Twin c j k op reply ∷ h) i are is =
    let n : i ≢ j = λ s. let x : held c ≡ idle = sym are.1.0 ∙ ap (turn_after h) (sym s) ∙ is in cc in
    let m : i ≢ k = λ s. let x : held c ≡ idle = sym are.1.1 ∙ ap (turn_after h) (sym s) ∙ is in cc in
    let r = idle_live h i are.0 is in
    (r.0, ap live_record (twice_else (taken_out (written op reply)) (put_in (written op reply)) j k (graph_after h) i n m) ∙ r.1)

-- so a live node is not free
pub live_not_free : (h : List Event) (i : ℕ) → AreInTurn h → IsLive (graph_after h) i → turn_after h i ≢ free
live_not_free h i are live is = let x : None ≡ Some live.0 = sym (free_not_live h i are is) ∙ live.1 in cc
