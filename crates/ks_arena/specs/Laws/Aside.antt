-- Laws for calls that do not wait: in a sound trace each Shape leaves the keysets, and under trees the insets, of the nodes
-- that it does not name, and live nodes are nodes of the arena.
use Rattle.std.proofs.Common.{◌≡◌, ◌≢◌, ℕ, ◌<◌, ◌≤◌, ◌||◌, ◌⊎◌, inl, inr, Bool, false, List, [], ◌∷◌, None, Some, sym, refl, ap, ◌∙◌, ne_eqb, arith}
use Rattle.std.specs.Prelude.{All}
use Rattle.std.proofs.lemmas.List.Elements.{All-head, All-tail}
use Rattle.ks_keysets.specs.declared.Frame.{Frame}
use Rattle.ks_keysets.specs.declared.NodeState.{NodeState}
use Rattle.ks_keysets.specs.declared.Change.{Change}
use Rattle.ks_keysets.specs.Keyset.{opening, live_record, IsLive, InInset, InKeyset, Good}
use Rattle.ks_history.specs.declared.Event.{Event}
use Rattle.ks_history.specs.declared.Event.TheVariants.{Take, Give, Claim, Shape, Call, Twin}
use Rattle.ks_history.specs.Trace.{graph_after}
use Rattle.ks_history.specs.Frames.{frame_after}
use Rattle.ks_history.specs.Laws.Begins.{good_now}
use Rattle.ks_history.specs.Beside.{AreBeside}
use Rattle.ks_flow.specs.Changes.{nodes_of}
use Rattle.ks_flow.specs.Ways.{names}
use Rattle.ks_flow.specs.Discipline.{IsDiscipline, SameInset}
use Rattle.ks_arena.specs.Sound.{Sort, blank_of, Sound}
use Rattle.ks_arena.specs.Laws.FromSound.{fine}
use Rattle.ks_arena.specs.Laws.Beyond.{free_beyond}

-- a node that no change names is not in the region
unnamed : (changes : List Change) (i : ℕ) → All (λ x. x.node ≢ i) changes → names (nodes_of changes) i ≡ false
unnamed [] i apart = refl
unnamed (x ∷ xs) i apart = ap (λ (b : Bool). b || names (nodes_of xs) i) (ne_eqb x.node i (All-head (λ (y : Change). y.node ≢ i) x xs apart)) ∙ unnamed xs i (All-tail (λ (y : Change). y.node ≢ i) x xs apart)

module _ (sort : Sort) {begins : Frame → Type 0} {facts : (ℕ → NodeState) → (ℕ → Frame) → Type 0} {asks : (ℕ → NodeState) → (ℕ → Frame) → List Change → Type 0} {lasts : (ℕ → NodeState) → (ℕ → Frame) → (ℕ → NodeState) → (ℕ → Frame) → Type 0} {beside : ℕ → (ℕ → NodeState) → (ℕ → NodeState) → Type 0}
    (laws : IsDiscipline begins facts asks lasts beside) (good_opening : Good opening) (nodes : ℕ) where
  pub keysets_beside : (h : List Event) → Sound sort begins asks nodes h → AreBeside InKeyset h
  keysets_beside [] so = tt
  keysets_beside (Take c j ∷ h) so = (keysets_beside h so.0, tt)
  keysets_beside (Give c j ∷ h) so = (keysets_beside h so.0, tt)
  keysets_beside (Claim c j ∷ h) so = (keysets_beside h so.0, tt)
  keysets_beside (Shape c changes ∷ h) so = (
    keysets_beside h so.0,
    λ i p apart inside. (laws.keyset_after (graph_after h) (frame_after (blank_of sort) h) changes i (good_now (fine sort laws good_opening nodes h so.0).good) so.1.2 (unnamed changes i apart)).forth p inside,
  )
  keysets_beside (Call c j op reply ∷ h) so = (keysets_beside h so.0, tt)
  keysets_beside (Twin c j k op reply ∷ h) so = (keysets_beside h so.0, tt)

module _ (sort : Sort) {begins : Frame → Type 0} {facts : (ℕ → NodeState) → (ℕ → Frame) → Type 0} {asks : (ℕ → NodeState) → (ℕ → Frame) → List Change → Type 0} {lasts : (ℕ → NodeState) → (ℕ → Frame) → (ℕ → NodeState) → (ℕ → Frame) → Type 0}
    (laws : IsDiscipline begins facts asks lasts SameInset) (good_opening : Good opening) (nodes : ℕ) where
  pub insets_beside : (h : List Event) → Sound sort begins asks nodes h → AreBeside InInset h
  insets_beside [] so = tt
  insets_beside (Take c j ∷ h) so = (insets_beside h so.0, tt)
  insets_beside (Give c j ∷ h) so = (insets_beside h so.0, tt)
  insets_beside (Claim c j ∷ h) so = (insets_beside h so.0, tt)
  insets_beside (Shape c changes ∷ h) so = (
    insets_beside h so.0,
    λ i p apart inside. (laws.beside_after (graph_after h) (frame_after (blank_of sort) h) changes i (good_now (fine sort laws good_opening nodes h so.0).good) so.1.2 (unnamed changes i apart)).forth p inside,
  )
  insets_beside (Call c j op reply ∷ h) so = (insets_beside h so.0, tt)
  insets_beside (Twin c j k op reply ∷ h) so = (insets_beside h so.0, tt)

module _ (sort : Sort) (begins : Frame → Type 0) (asks : (ℕ → NodeState) → (ℕ → Frame) → List Change → Type 0) (nodes : ℕ) (some : 0 < nodes) where
  pub live_below : (h : List Event) → Sound sort begins asks nodes h → (i : ℕ) → IsLive (graph_after h) i → i < nodes
  live_below h so i live = go (split i nodes)
    where
      split : (a b : ℕ) → (a < b) ⊎ (b ≤ a)
      split a b = grind arith

      go : (i < nodes) ⊎ (nodes ≤ i) → i < nodes
      go (inl less) = less
      go (inr far) = let x : None ≡ Some live.0 = sym (ap live_record (free_beyond sort begins asks nodes some h so i far)) ∙ live.1 in absurd (let q : ⊥ = cc in q)
