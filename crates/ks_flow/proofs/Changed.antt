-- A list of changes leaves what it does not name, and makes of each node that it names what it says.
use Rattle.std.proofs.Common.{ℕ, zero, suc, ◌≡◌, ◌==◌, true, false, List, [], ◌∷◌, get_or, refl, sym, ap, arith, eq-eqb}
use Rattle.std.specs.Prelude.{All, None}
use Rattle.std.proofs.lemmas.Bool.{ne_eqb}
use Rattle.ks_keysets.specs.declared.Kind.TheVariants.{NoBranch}
use Rattle.ks_keysets.specs.declared.NodeState.TheVariants.{Free}
use Rattle.ks_flow.proofs.Edges.{out_either}
use Rattle.ks_keysets.specs.declared.Frame.{Frame}
use Rattle.ks_keysets.specs.declared.NodeState.{NodeState}
use Rattle.ks_keysets.specs.declared.Change.{Change}
use Rattle.ks_keysets.specs.Change.{shaped}
use Rattle.ks_keysets.specs.Reframed.{reframed}
use Rattle.ks_keysets.specs.Keyset.{live_record}
use Rattle.ks_flow.specs.Changes.{nodes_of, graph_with, frames_with, NamedOnce, HasBecome}
use Rattle.ks_flow.specs.Ways.{names, DiffersIn}
use Rattle.ks_flow.specs.Tree.{FramesKept}

unnamed : (xs : List Change) (i : ℕ) (s : NodeState) (f : Frame) → names (nodes_of xs) i ≡ false → (shaped xs i s ≡ s) × (reframed xs i f ≡ f)
unnamed [] i s f out = (refl, refl)
unnamed (x ∷ xs) i s f out =
    let y = out_either x.node (nodes_of xs) i out in
    let t : (i == x.node) ≡ false = ne_eqb i x.node y.0 in
    rw t (unnamed xs i s f y.1)

pub changes_differ : (g : ℕ → NodeState) (xs : List Change) → DiffersIn g (nodes_of xs) (graph_with xs g)
changes_differ g xs = record { same = λ n out. ap live_record (unnamed xs n (g n) no_frame out).0 }
  where
    no_frame : Frame
    no_frame = record { low = 0; kind = NoBranch; range = None; level = 0; link = None }

pub changes_frames : (f : ℕ → Frame) (xs : List Change) → FramesKept f (nodes_of xs) (frames_with xs f)
changes_frames f xs = record { same = λ n out. (unnamed xs n Free (f n) out).1 }

pub changes_become : (g : ℕ → NodeState) (f : ℕ → Frame) (xs : List Change) → NamedOnce xs → All (HasBecome f (graph_with xs g) (frames_with xs f)) xs
changes_become g f [] once k d lt = absurd (omega arith)
changes_become g f (x ∷ xs) once zero d lt = let t : (x.node == x.node) ≡ true = eq-eqb x.node x.node refl in record { has = rw t refl; frame = rw t refl }
changes_become g f (x ∷ xs) once (suc k) d lt =
    let y = changes_become g f xs (λ i j d lt lt'. once (suc i) (suc j) d (omega arith) (omega arith)) k d (omega arith) in
    let ne = once 0 (suc k) d (omega arith) lt in
    let t : ((get_or xs k d).node == x.node) ≡ false = ne_eqb (get_or xs k d).node x.node (λ e. ne (sym e)) in
    record { has = rw t y.has; frame = rw t y.frame }
