-- Traces that grow only by the events Take and Give: what is live stays as it is.
use Rattle.std.proofs.Common.{◌≡◌, ℕ, inl, inr, List, [], ◌∷◌, ◌++◌, sym, refl, ap, ◌∙◌, subst, append_assoc}
use Rattle.std.proofs.lemmas.Bool.Decides.{eqb_tells}
use Rattle.ks_keysets.specs.declared.Frame.{Frame}
use Rattle.ks_keysets.specs.declared.NodeState.{NodeState}
use Rattle.ks_keysets.specs.declared.NodeState.TheVariants.{Free, Claimed, Live}
use Rattle.ks_keysets.specs.Keyset.{live_record, record_at}
use Rattle.ks_keysets.specs.Reframed.{SameNodes}
use Rattle.ks_history.specs.declared.Event.{Event}
use Rattle.ks_history.specs.declared.Event.TheVariants.{Take, Give, Claim, Shape, Call, Twin}
use Rattle.ks_history.specs.Trace.{◌⊑◌, given, graph_after}
use Rattle.ks_history.specs.Frames.{frame_after}
use Rattle.ks_history.specs.Passes.{GrowsByOthers, GrowsWith}
use Rattle.ks_history.specs.Laws.Stays.{cond_here, cond_else}
use Rattle.ks_history.specs.Alone.{ActsAlone}
use Rattle.ks_history.specs.Laws.Alone.{alone_first, alone_then, alone_still}
use Rattle.ks_history.specs.Quiet.{IsTurn, AllTurns, OnlyTurns}

pub no_turns : (h : List Event) → OnlyTurns h h
no_turns h = record { rest = []; is = refl; turns = tt }

-- if no other caller acts, and this one only looks or takes or releases nodes, the trace grows only by Take and Give
pub alone_looks : (c : ℕ) (h k m : List Event) → h ⊑ k → OnlyTurns h k → GrowsByOthers c k m → ActsAlone c h m → OnlyTurns h m
alone_looks c h k m from turns grows alone =
    let same : m ≡ k = alone_still c k m (alone_then c h k m from (record { rest = grows.rest; is = grows.is }) alone) grows in
    subst (λ (z : List Event). OnlyTurns h z) (sym same) turns

pub alone_turns : (c : ℕ) (h k m : List Event) (e : Event) → h ⊑ k → OnlyTurns h k → IsTurn e → GrowsWith c e k m → ActsAlone c h m → OnlyTurns h m
alone_turns c h k m e from turns turn grows alone =
    let mid : List Event = grows.rest ++ k in
    let up : mid ⊑ m = record { rest = e ∷ []; is = grows.is } in
    let down : h ⊑ mid = record { rest = grows.rest ++ from.rest; is = ap (λ (z : List Event). grows.rest ++ z) from.is ∙ sym (append_assoc grows.rest from.rest h) } in
    let before : OnlyTurns h mid = alone_looks c h k mid from turns (record { rest = grows.rest; is = refl; others = grows.others }) (alone_first c h mid m down up alone) in
    record { rest = e ∷ before.rest; is = grows.is ∙ ap (λ (z : List Event). e ∷ z) before.is; turns = (turn, before.turns) }

-- what is live stays as it is
given_record : (s : NodeState) → live_record (given s) ≡ live_record s
given_record Free = refl
given_record (Claimed c) = refl
given_record (Live r) = refl

turn_record : (e : Event) (h : List Event) (n : ℕ) → IsTurn e → record_at (graph_after (e ∷ h)) n ≡ record_at (graph_after h) n
turn_record (Take c j) h n turn = refl
turn_record (Give c j) h n turn = elim (eqb_tells n j) [
  | inl y ↦ ap live_record (cond_here n j (given (graph_after h j)) (graph_after h n) y.1) ∙ given_record (graph_after h j) ∙ ap (λ (z : ℕ). record_at (graph_after h) z) (sym y.1)
  | inr y ↦ ap live_record (cond_else n j (given (graph_after h j)) (graph_after h n) y.1)
]
turn_record (Claim c j) h n turn = absurd turn
turn_record (Shape c changes) h n turn = absurd turn
turn_record (Call c j op reply) h n turn = absurd turn
turn_record (Twin c j j' op reply) h n turn = absurd turn

turn_frame : (blank : Frame) (e : Event) (h : List Event) (n : ℕ) → IsTurn e → frame_after blank (e ∷ h) n ≡ frame_after blank h n
turn_frame blank (Take c j) h n turn = refl
turn_frame blank (Give c j) h n turn = refl
turn_frame blank (Claim c j) h n turn = absurd turn
turn_frame blank (Shape c changes) h n turn = absurd turn
turn_frame blank (Call c j op reply) h n turn = absurd turn
turn_frame blank (Twin c j j' op reply) h n turn = absurd turn

turns_keep : (blank : Frame) (es h : List Event) → AllTurns es → SameNodes (graph_after h) (frame_after blank h) (graph_after (es ++ h)) (frame_after blank (es ++ h))
turns_keep blank [] h turns = record { records = λ n. refl; frames = λ n. refl }
turns_keep blank (e ∷ es) h turns =
    let y = turns_keep blank es h turns.1 in
    record { records = λ n. turn_record e (es ++ h) n turns.0 ∙ y.records n; frames = λ n. turn_frame blank e (es ++ h) n turns.0 ∙ y.frames n }

pub turns_same : (blank : Frame) (h k : List Event) → OnlyTurns h k → SameNodes (graph_after h) (frame_after blank h) (graph_after k) (frame_after blank k)
turns_same blank h k x = subst (λ (z : List Event). SameNodes (graph_after h) (frame_after blank h) (graph_after z) (frame_after blank z)) (sym x.is) (turns_keep blank x.rest h x.turns)
