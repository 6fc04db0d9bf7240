-- Laws of traces: what a caller holds stays as it is while others act.
use Rattle.std.proofs.Common.{◌≡◌, ◌≢◌, ℕ, suc, ◌==◌, Bool, cond, eq-eqb, ne_eqb, List, [], ◌∷◌, ◌++◌, sym, refl, ap, ◌∙◌, arith}
use Rattle.std.specs.Prelude.{All}
use mathlib.Core.Logic.{dite}
use native.Mathlib.Decide.{ℕ_discrete}
use Rattle.ks_keysets.specs.declared.Frame.{Frame}
use Rattle.ks_keysets.specs.declared.NodeState.{NodeState}
use Rattle.ks_keysets.specs.declared.NodeState.TheVariants.{Free, Claimed, Live}
use Rattle.ks_keysets.specs.declared.Change.{Change}
use Rattle.ks_keysets.specs.Change.{shaped, new_state}
use Rattle.ks_keysets.specs.Reframed.{reframed, new_frame}
use Rattle.ks_history.specs.declared.Event.{Event}
use Rattle.ks_history.specs.declared.Event.TheVariants.{Take, Give, Claim, Shape, Call, Twin}
use Rattle.ks_history.specs.Write.{Write, written, taken_out, put_in}
use Rattle.ks_history.specs.Trace.{caller_of, given, state_with, written_at, graph_after, free, idle, held, turn_given, turn_after}
use Rattle.ks_history.specs.Frames.{frame_after}
use Rattle.ks_history.specs.Lawful.{Meets, Lawful}
use Rattle.ks_history.specs.Callers.{NoneBy}
use Rattle.ks_history.specs.Stays.{StaysHeld}

-- the event names only nodes that its caller may use at that moment: this is the part of its condition on turns
abbrev pub IsInTurn : List Event → Event → Type 0
IsInTurn h (Take c i) = turn_after h i ≡ idle
IsInTurn h (Claim c i) = turn_after h i ≡ free
IsInTurn h (Give c i) = turn_after h i ≡ held c
IsInTurn h (Shape c changes) = All (λ x. turn_after h x.node ≡ held c) changes
IsInTurn h (Call c i op reply) = turn_after h i ≡ held c
IsInTurn h (Twin c i j op reply) = (turn_after h i ≡ held c) × (turn_after h j ≡ held c)

-- so does each event of the trace
abbrev pub AreInTurn : List Event → Type 0
AreInTurn [] = Unit {0}
AreInTurn (e ∷ h) = AreInTurn h × IsInTurn h e

-- a lawful trace is in turn
pub meets_in_turn : (h : List Event) (e : Event) → Meets h e → IsInTurn h e
meets_in_turn h (Take c i) meets = meets
meets_in_turn h (Claim c i) meets = meets
meets_in_turn h (Give c i) meets = meets
meets_in_turn h (Shape c changes) meets = meets.0
meets_in_turn h (Call c i op reply) meets = meets.0
meets_in_turn h (Twin c i j op reply) meets = (meets.0, meets.1)

pub lawful_in_turn : (h : List Event) → Lawful h → AreInTurn h
lawful_in_turn [] lawful = tt
lawful_in_turn (e ∷ h) lawful = (lawful_in_turn h lawful.0, meets_in_turn h e lawful.1)

-- choices by equality of numbers
module _ {A : Type 0} where
  pub cond_here : (i j : ℕ) (a b : A) → i ≡ j → cond (i == j) a b ≡ a
  cond_here i j a b e = ap (λ (t : Bool). cond t a b) (eq-eqb i j e)

  pub cond_else : (i j : ℕ) (a b : A) → i ≢ j → cond (i == j) a b ≡ b
  cond_else i j a b e = ap (λ (t : Bool). cond t a b) (ne_eqb i j e)

pub held_same : (c d : ℕ) → held c ≡ held d → c ≡ d
held_same c d e = cc

pub given_not_held : (c : ℕ) (s : NodeState) → turn_given s ≡ held c → ⊥
given_not_held c Free e = cc
given_not_held c (Claimed d) e = cc
given_not_held c (Live r) e = cc

-- a write leaves every other node, and so do two
pub written_else : (w : Write) (j : ℕ) (g : ℕ → NodeState) (i : ℕ) → i ≢ j → written_at w j g i ≡ g i
written_else w j g i n = cond_else i j (state_with w (g j)) (g i) n

pub twice_else : (w x : Write) (j k : ℕ) (g : ℕ → NodeState) (i : ℕ) → i ≢ j → i ≢ k → written_at x k (written_at w j g) i ≡ g i
twice_else w x j k g i n m = written_else x k (written_at w j g) i m ∙ written_else w j g i n

-- one event of another caller

-- a Shape leaves the nodes that it does not name
pub shaped_else : (changes : List Change) (i : ℕ) (s : NodeState) → All (λ x. x.node ≢ i) changes → shaped changes i s ≡ s
shaped_else [] i s apart = refl
shaped_else (x ∷ xs) i s apart = cond_else i x.node (new_state x.state) (shaped xs i s) (λ e. apart 0 x (omega arith) (sym e)) ∙ shaped_else xs i s (λ k d lt. apart (suc k) d (omega arith))

pub reframed_else : (changes : List Change) (i : ℕ) (f : Frame) → All (λ x. x.node ≢ i) changes → reframed changes i f ≡ f
reframed_else [] i f apart = refl
reframed_else (x ∷ xs) i f apart = cond_else i x.node (new_frame x.state f) (reframed xs i f) (λ e. apart 0 x (omega arith) (sym e)) ∙ reframed_else xs i f (λ k d lt. apart (suc k) d (omega arith))

-- node i is not named by a Shape of another caller than the one that holds it
pub held_apart : (h : List Event) (c d i : ℕ) (changes : List Change) → All (λ x. turn_after h x.node ≡ held d) changes → d ≢ c → turn_after h i ≡ held c → All (λ x. x.node ≢ i) changes
held_apart h c d i changes are other mine k x lt same = other (held_same d c (sym (are k x lt) ∙ ap (turn_after h) same ∙ mine))

pub other_keeps : (h : List Event) (e : Event) (c i : ℕ) → IsInTurn h e → caller_of e ≢ c → turn_after h i ≡ held c → StaysHeld c i h (e ∷ h)
other_keeps h (Take d j) c i may other mine =
    let n : i ≢ j = λ e. let x : idle ≡ held c = sym may ∙ ap (turn_after h) (sym e) ∙ mine in cc in
    record { turn = cond_else i j (held d) (turn_after h i) n ∙ mine; state = refl; frame = λ blank. refl }
other_keeps h (Give d j) c i may other mine =
    let n : i ≢ j = λ e. other (held_same d c (sym may ∙ ap (turn_after h) (sym e) ∙ mine)) in
    record { turn = cond_else i j (turn_given (graph_after h j)) (turn_after h i) n ∙ mine; state = cond_else i j (given (graph_after h j)) (graph_after h i) n; frame = λ blank. refl }
other_keeps h (Claim d j) c i may other mine =
    let n : i ≢ j = λ e. let x : free ≡ held c = sym may ∙ ap (turn_after h) (sym e) ∙ mine in cc in
    record { turn = cond_else i j (held d) (turn_after h i) n ∙ mine; state = cond_else i j (Claimed d) (graph_after h i) n; frame = λ blank. refl }
other_keeps h (Shape d changes) c i may other mine =
    let apart : All (λ x. x.node ≢ i) changes = held_apart h c d i changes may other mine in
    record { turn = mine; state = shaped_else changes i (graph_after h i) apart; frame = λ blank. reframed_else changes i (frame_after blank h i) apart }
other_keeps h (Call d j op reply) c i may other mine =
    let n : i ≢ j = λ e. other (held_same d c (sym may ∙ ap (turn_after h) (sym e) ∙ mine)) in
    record { turn = mine; state = cond_else i j (state_with (written op reply) (graph_after h j)) (graph_after h i) n; frame = λ blank. refl }
other_keeps h (Twin d j k op reply) c i may other mine =
    let n : i ≢ j = λ e. other (held_same d c (sym may.0 ∙ ap (turn_after h) (sym e) ∙ mine)) in
    let m : i ≢ k = λ e. other (held_same d c (sym may.1 ∙ ap (turn_after h) (sym e) ∙ mine)) in
    record { turn = mine; state = twice_else (taken_out (written op reply)) (put_in (written op reply)) j k (graph_after h) i n m; frame = λ blank. refl }

-- and any number of them
pub others_keep : (rest h : List Event) (c i : ℕ) → NoneBy c rest → AreInTurn (rest ++ h) → turn_after h i ≡ held c → StaysHeld c i h (rest ++ h)
others_keep [] h c i none are mine = record { turn = mine; state = refl; frame = λ blank. refl }
others_keep (e ∷ es) h c i none are mine =
    let so : StaysHeld c i h (es ++ h) = others_keep es h c i none.1 are.0 mine in
    let x : StaysHeld c i (es ++ h) (e ∷ (es ++ h)) = other_keeps (es ++ h) e c i are.1 none.0 so.turn in
    record { turn = x.turn; state = x.state ∙ so.state; frame = λ blank. x.frame blank ∙ so.frame blank }

-- events of others do not make a node c's own
pub other_turn : (h : List Event) (e : Event) (c i : ℕ) → caller_of e ≢ c → turn_after (e ∷ h) i ≡ held c → turn_after h i ≡ held c
other_turn h (Take d j) c i other mine = dite (ℕ_discrete i j) (λ s. absurd (other (held_same d c (sym (cond_here i j (held d) (turn_after h i) s) ∙ mine)))) (λ n. sym (cond_else i j (held d) (turn_after h i) n) ∙ mine)
other_turn h (Give d j) c i other mine = dite (ℕ_discrete i j) (λ s. absurd (given_not_held c (graph_after h j) (sym (cond_here i j (turn_given (graph_after h j)) (turn_after h i) s) ∙ mine))) (λ n. sym (cond_else i j (turn_given (graph_after h j)) (turn_after h i) n) ∙ mine)
other_turn h (Claim d j) c i other mine = dite (ℕ_discrete i j) (λ s. absurd (other (held_same d c (sym (cond_here i j (held d) (turn_after h i) s) ∙ mine)))) (λ n. sym (cond_else i j (held d) (turn_after h i) n) ∙ mine)
other_turn h (Shape d changes) c i other mine = mine
other_turn h (Call d j op reply) c i other mine = mine
other_turn h (Twin d j j' op reply) c i other mine = mine

pub others_turn : (rest h : List Event) (c i : ℕ) → NoneBy c rest → turn_after (rest ++ h) i ≡ held c → turn_after h i ≡ held c
others_turn [] h c i none mine = mine
others_turn (e ∷ es) h c i none mine = others_turn es h c i none.1 (other_turn (es ++ h) e c i none.0 mine)
