-- Sound traces: each event of one meets its condition, and each shape that of the discipline.
use Rattle.std.specs.Prelude.{ℕ, ◌≡◌, ◌<◌, Bool, List, [], ◌∷◌, All, AllPairs}
use Rattle.ks_keysets.specs.declared.Frame.{Frame}
use Rattle.ks_keysets.specs.declared.NodeState.{NodeState}
use Rattle.ks_keysets.specs.declared.Change.{Change}
use Rattle.ks_node.specs.Body.{frame_of, blank_body}
use Rattle.ks_keysets.specs.Layout.{Layout}
use Rattle.ks_history.specs.declared.Event.{Event}
use Rattle.ks_history.specs.declared.Event.TheVariants.{Take, Give, Claim, Shape, Call, Twin}
use Rattle.ks_history.specs.Trace.{held, graph_after, turn_after}
use Rattle.ks_history.specs.Frames.{frame_after}
use Rattle.ks_history.specs.Lawful.{Meets}
use Rattle.ks_history.specs.Due.{IsDue}

-- what the rule reads of a node type: the line of the table of layouts, and whether its bodies have a range
pub record Sort : Type 0 where
  pub layout : Layout
  pub ranged : Bool

abbrev pub sort_of : Layout → Bool → Sort
sort_of layout ranged = record { layout = layout; ranged = ranged }

-- the frame of a blank body
abbrev pub blank_of : Sort → Frame
blank_of sort = frame_of (blank_body sort.ranged)

module _ (sort : Sort) (begins : Frame → Type 0) (asks : (ℕ → NodeState) → (ℕ → Frame) → List Change → Type 0) (nodes : ℕ) where
  -- the condition of an event in the state after the trace h: a claim names one of the nodes; a shape names nodes that
  -- its caller holds, each once, as the discipline requires; the reply Full is due
  abbrev pub StepsSoundly : List Event → Event → Type 0
  StepsSoundly h (Take c i) = Meets h (Take c i)
  StepsSoundly h (Give c i) = Meets h (Give c i)
  StepsSoundly h (Claim c i) = Meets h (Claim c i) × (i < nodes)
  StepsSoundly h (Shape c changes) =
      All (λ x. turn_after h x.node ≡ held c) changes
      × AllPairs (λ x y. x.node ≡ y.node → ⊥) changes
      × asks (graph_after h) (frame_after (blank_of sort) h) changes
  StepsSoundly h (Call c i op reply) = Meets h (Call c i op reply) × IsDue sort.layout nodes h (Call c i op reply)
  StepsSoundly h (Twin c i j op reply) = Meets h (Twin c i j op reply) × IsDue sort.layout nodes h (Twin c i j op reply)

  -- the discipline fits the node type, and each event meets its condition
  abbrev pub Sound : List Event → Type 0
  Sound [] = begins (blank_of sort)
  Sound (e ∷ h) = Sound h × StepsSoundly h e
