-- Laws of traces: edges remain while no Shape is made, and whether a caller other than c made one.
use Rattle.std.proofs.Common.{◌≡◌, ℕ, suc, ◌⊎◌, inl, inr, List, [], ◌∷◌, ◌++◌, Some, None, sym, refl, ap, ◌∙◌, arith}
use Rattle.std.specs.Prelude.{Any}
use mathlib.Core.Logic.{dite}
use native.Mathlib.Decide.{ℕ_discrete}
use Rattle.ks_keysets.specs.declared.NodeState.{NodeState}
use Rattle.ks_keysets.specs.declared.NodeState.TheVariants.{Claimed}
use Rattle.ks_keysets.specs.Keyset.{live_record, record_at}
use Rattle.ks_keysets.specs.Laws.Found.{KeepsEdges}
use Rattle.ks_history.specs.declared.Event.{Event}
use Rattle.ks_history.specs.declared.Event.TheVariants.{Take, Give, Claim, Shape, Call, Twin}
use Rattle.ks_history.specs.Write.{written, taken_out, put_in}
use Rattle.ks_history.specs.Trace.{given, written_at, graph_after}
use Rattle.ks_history.specs.Refusals.{ShapesBesides}
use Rattle.ks_history.specs.Laws.Stays.{IsInTurn, AreInTurn, cond_here, cond_else}
use Rattle.ks_history.specs.Laws.Turns.{given_kept, written_forth, edges_both, free_not_live}

-- the event is no Shape
abbrev pub IsNoShape : Event → Type 0
IsNoShape (Take c i) = Unit {0}
IsNoShape (Give c i) = Unit {0}
IsNoShape (Claim c i) = Unit {0}
IsNoShape (Shape c changes) = ⊥
IsNoShape (Call c i op reply) = Unit {0}
IsNoShape (Twin c i j op reply) = Unit {0}

-- none of the events is a Shape
abbrev pub NoShapes : List Event → Type 0
NoShapes [] = Unit {0}
NoShapes (e ∷ es) = IsNoShape e × NoShapes es

-- each Shape among the events is of c
abbrev pub NoShapesBesides : ℕ → List Event → Type 0
NoShapesBesides c [] = Unit {0}
NoShapesBesides c (e ∷ es) = (¬ ShapesBesides c e) × NoShapesBesides c es

-- a Shape of a caller other than c is among the events, or none is

beside_or_not : (c : ℕ) (e : Event) → ShapesBesides c e ⊎ (¬ ShapesBesides c e)
beside_or_not c (Take d i) = inr (λ s. s)
beside_or_not c (Give d i) = inr (λ s. s)
beside_or_not c (Claim d i) = inr (λ s. s)
beside_or_not c (Shape d changes) = dite (ℕ_discrete d c) (λ same. inr (λ other. other same)) (λ other. inl other)
beside_or_not c (Call d i op reply) = inr (λ s. s)
beside_or_not c (Twin d i i' op reply) = inr (λ s. s)

any_later : (c : ℕ) (e : Event) (es : List Event) → Any (ShapesBesides c) es → Any (ShapesBesides c) (e ∷ es)
any_later c e es (k, x, lt, is, so) = (suc k, x, omega arith, is, so)

pub shapes_besides : (c : ℕ) (es : List Event) → Any (ShapesBesides c) es ⊎ NoShapesBesides c es
shapes_besides c [] = inr tt
shapes_besides c (e ∷ es) = elim (beside_or_not c e) [
  | inl now ↦ inl (0, e, omega arith, refl, now)
  | inr never ↦ elim (shapes_besides c es) [
    | inl later ↦ inl (any_later c e es later)
    | inr none ↦ inr (never, none)
  ]
]

-- an event that is no Shape leaves each live node live, with its edges
pub edges_step : (h : List Event) (e : Event) → IsNoShape e → AreInTurn h → IsInTurn h e → KeepsEdges (graph_after h) (graph_after (e ∷ h))
edges_step h (Take c j) none are may = record { at = λ n r is. (r, is, refl) }
edges_step h (Give c j) none are may = record {
  at = λ n r is. dite (ℕ_discrete n j)
      (λ same. (r, ap live_record (cond_here n j (given (graph_after h j)) (graph_after h n) same) ∙ given_kept (graph_after h j) ∙ ap (record_at (graph_after h)) (sym same) ∙ is, refl))
      (λ apart. (r, ap live_record (cond_else n j (given (graph_after h j)) (graph_after h n) apart) ∙ is, refl));
}
edges_step h (Claim c j) none are may = record {
  at = λ n r is. dite (ℕ_discrete n j)
      (λ same. let x : None ≡ Some r = sym (free_not_live h j are may) ∙ ap (record_at (graph_after h)) (sym same) ∙ is in absurd (cc))
      (λ apart. (r, ap live_record (cond_else n j (Claimed c) (graph_after h n) apart) ∙ is, refl));
}
edges_step h (Shape c changes) none are may = absurd none
edges_step h (Call c j op reply) none are may = written_forth (written op reply) j (graph_after h)
edges_step h (Twin c j k op reply) none are may =
    let between : ℕ → NodeState = written_at (taken_out (written op reply)) j (graph_after h) in
    edges_both (graph_after h) between (graph_after (Twin c j k op reply ∷ h)) (written_forth (taken_out (written op reply)) j (graph_after h)) (written_forth (put_in (written op reply)) k between)

-- so does any number of such events
pub edges_stay : (rest h : List Event) → NoShapes rest → AreInTurn (rest ++ h) → KeepsEdges (graph_after h) (graph_after (rest ++ h))
edges_stay [] h none are = record { at = λ n r is. (r, is, refl) }
edges_stay (e ∷ es) h none are = edges_both (graph_after h) (graph_after (es ++ h)) (graph_after (e ∷ (es ++ h))) (edges_stay es h none.1 are.0) (edges_step (es ++ h) e none.0 are.0 are.1)
