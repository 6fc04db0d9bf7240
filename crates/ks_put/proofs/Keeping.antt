-- What still holds of a search after it released one of the nodes that it held.
use Rattle.std.proofs.Common.{◌≡◌, ◌≢◌, ℕ, ◌⊎◌, Bool, true, false, List, [], ◌∷◌, sym, refl, ap, ◌∙◌, subst, inl, inr}
use Rattle.std.specs.Prelude.{Option, Some, None, IsTrue}
use mathlib.Core.Logic.{dite}
use native.Mathlib.Decide.{ℕ_discrete}
use Rattle.ks_keysets.specs.Record.{LeadsTo}
use Rattle.ks_keysets.specs.Keyset.{IsLive}
use Rattle.ks_history.specs.declared.Event.{Event}
use Rattle.ks_history.specs.declared.Event.TheVariants.{Give}
use Rattle.ks_history.specs.Own.{hand}
use Rattle.ks_history.specs.Trace.{held, graph_after, turn_after}
use Rattle.ks_history.specs.Passes.{Has, GrowsWith}
use Rattle.ks_history.specs.Hand.{AreOnce}
use Rattle.ks_history.specs.Laws.Hand.{is_hand}
use Rattle.ks_flow.specs.Discipline.{BeginsTree, TreeStep, SameInset}
use Rattle.ks_history.specs.Due.{HoldsLive}
use Rattle.ks_history.specs.Laws.Dues.{holds_one, holds_others}
use Rattle.ks_node.specs.Body.{Body}
use Rattle.ks_node.specs.Edges.{record_of}
use Rattle.ks_node.specs.Room.{is_full, in_place}
use Rattle.ks_shape.specs.Laws.Single.{record_is}
use Rattle.ks_shape.specs.Beside.{KeepsBeside}
use Rattle.ks_arena.specs.declared.held.Held.{Held as Hand}
use Rattle.ks_arena.specs.Sound.{Sort, Sound}
use Rattle.ks_arena.specs.Clauses.{Matches, StillMatch, StillMatchBut, Kept}
use Rattle.ks_shape.specs.declared.path.Path.{Path}
use Rattle.ks_shape.specs.OnPath.{IsUnder, IsOnPath, numbers}
use Rattle.ks_shape.specs.Does.{HoldsToSplit, MustSplit}
use Rattle.ks_shape.specs.Laws.Does.{holds_to_split}
use Rattle.ks_put.specs.Parts.{IsPart}
use Rattle.ks_shape.specs.Laws.Keeping.{inside}
use Rattle.ks_shape.specs.Laws.Search.{Laws}

module _ {N : Type 0} (sort : Sort) (shows : N → Body) (n c : ℕ) (laws : Laws sort n) (h k : List Event) (i : ℕ) (sound : Sound sort BeginsTree TreeStep n h) (sound' : Sound sort BeginsTree TreeStep n k)
    (gave : GrowsWith c (Give c i) h k) (still : StillMatchBut sort shows i (hand c h) h k) where
  -- x and the node z that leads to it are kept
  pub half_kept : (p : ℕ) (x z : Hand N) → hand c k ≡ x.node ∷ z.node ∷ [] → Has (hand c h) x.node → Has (hand c h) z.node → x.node ≢ i → z.node ≢ i
      → (x.live ≡ true) × Matches sort shows h x → (z.live ≡ true) × Matches sort shows h z → IsPart sort shows p h z x → IsOnPath sort shows c p k (record { parent = Some z; node = x })
  half_kept p x z hands has has_z ne ne_z is is_z part = record {
    hands = hands;
    live = is.0;
    matches = still x ne has is.1;
    inside = inside sort shows n c laws h k i sound sound' gave still x.node p has (subst (λ (l : List ℕ). Has l x.node) (sym hands) (inl refl)) part.1;
    under = record { live = is_z.0; matches = still z ne_z has_z is_z.1; leads = part.0 };
  }

module _ {N : Type 0} (sort : Sort) (shows : N → Body) (n c : ℕ) (laws : Laws sort n) where
  -- c holds a node of its path
  pub path_turn : (p : ℕ) (h : List Event) (x : Path N) → Sound sort BeginsTree TreeStep n h → IsOnPath sort shows c p h x → turn_after h x.node.node ≡ held c
  path_turn p h x sound path = (is_hand h c (laws.turns h sound)).held x.node.node (subst (λ (l : List ℕ). Has l x.node.node) (sym path.hands) (inl refl))

  -- so it holds one that is to be split, if that node is
  pub path_splits : (p : ℕ) (h : List Event) (x : Path N) → Sound sort BeginsTree TreeStep n h → IsOnPath sort shows c p h x → MustSplit sort.layout p (shows x.node.body) → HoldsToSplit sort p h c
  path_splits p h x sound path must = holds_to_split sort shows p c h x.node (path_turn p h x sound path) path.live path.matches must

  under_with : (p : ℕ) (x : Hand N) (h k : List Event) (o : Option (Hand N)) → ((y : Hand N) → o ≡ Some y → Matches sort shows h y → Matches sort shows k y) → IsUnder sort shows p x h o → IsUnder sort shows p x k o
  under_with p x h k None keep so = so
  under_with p x h k (Some y) keep so = record { live = so.live; matches = keep y refl so.matches; leads = so.leads }

  pub parent_has : (j : ℕ) (o : Option (Hand N)) (hs : List ℕ) → hs ≡ j ∷ numbers o → (y : Hand N) → o ≡ Some y → Has hs y.node
  parent_has j None hs is y e = absurd (let q : ⊥ = cc in q)
  parent_has j (Some z) hs is y e = let same : z ≡ y = cc in subst (λ (l : List ℕ). Has l y.node) (sym is) (inr (inl (ap (λ (w : Hand N). w.node) same)))

  pub parent_apart : (j : ℕ) (o : Option (Hand N)) → AreOnce (j ∷ numbers o) → (y : Hand N) → o ≡ Some y → y.node ≢ j
  parent_apart j None once y e = absurd (let q : ⊥ = cc in q)
  parent_apart j (Some z) once y e = λ same. let q : z ≡ y = cc in once.0 (inl (ap (λ (w : Hand N). w.node) q ∙ same))

  -- a path stays if its nodes and their insets do
  pub path_stays : (p : ℕ) (h k : List Event) (x : Path N) → Sound sort BeginsTree TreeStep n h → hand c k ≡ hand c h → Kept c h k → KeepsBeside SameInset c h k → StillMatch sort shows (hand c h) h k → IsOnPath sort shows c p h x → IsOnPath sort shows c p k x
  path_stays p h k x sound same kept insets still path = record {
    hands = same ∙ path.hands;
    live = path.live;
    matches = still x.node (subst (λ (l : List ℕ). Has l x.node.node) (sym path.hands) (inl refl)) path.matches;
    inside = let mine = path_turn p h x sound path in (insets x.node.node mine (kept x.node.node mine).turn).forth p path.inside;
    under = under_with p x.node h k x.parent (λ y e m. still y (parent_has x.node.node x.parent (hand c h) path.hands y e) m) path.under;
  }

  -- what is held on a path is live
  pub path_live : (p : ℕ) (h : List Event) (x : Path N) → IsOnPath sort shows c p h x → HoldsLive h c
  path_live p h x path = go x.parent path.hands path.under
    where
      shown_live : (y : Hand N) → y.live ≡ true → Matches sort shows h y → IsLive (graph_after h) y.node
      shown_live y live matches = (record_of (shows y.body), record_is sort shows h y live matches)

      go : (o : Option (Hand N)) → hand c h ≡ x.node.node ∷ numbers o → IsUnder sort shows p x.node h o → HoldsLive h c
      go None hands under = holds_one c x.node.node h hands (shown_live x.node path.live path.matches)
      go (Some y) hands under = λ j mine. dite (ℕ_discrete j x.node.node)
          (λ same. subst (IsLive (graph_after h)) (sym same) (shown_live x.node path.live path.matches))
          (λ other. holds_others c y.node x.node.node h hands (shown_live y under.live under.matches) j other mine)

  -- the parent of a path is still above its node, which was full, after a claim and a shape that does not name it
  pub under_later : (p : ℕ) (x x' : Hand N) (h k l : List Event) (o : Option (Hand N)) → x'.node ≡ x.node → IsTrue (is_full sort.layout (shows x.body)) → StillMatch sort shows (hand c h) h k → ((y : Hand N) → o ≡ Some y → Has (hand c h) y.node) → ((y : Hand N) → o ≡ Some y → Matches sort shows k y → Matches sort shows l y) → IsUnder sort shows p x h o → IsUnder sort shows p x' l o
  under_later p x x' h k l None same full still has keep (inl root) = inl (same ∙ root)
  under_later p x x' h k l None same full still has keep (inr (inl room)) = absurd (let q : true ≡ false = sym full ∙ room in let z : ⊥ = cc in z)
  under_later p x x' h k l None same full still has keep (inr (inr stays)) = inr (inr stays)
  under_later p x x' h k l (Some y) same full still has keep so = record { live = so.live; matches = keep y refl (still y (has y refl) so.matches); leads = subst (λ (z : ℕ). LeadsTo (record_of (shows y.body)) p z) (sym same) so.leads }

-- a full node with no parent is the root, or its type grows in place
pub full_whole : {N : Type 0} (sort : Sort) (shows : N → Body) (x : Hand N) → IsTrue (is_full sort.layout (shows x.body)) → (x.node ≡ 0) ⊎ (is_full sort.layout (shows x.body) ≡ false) ⊎ IsTrue (in_place sort.layout) → (x.node ≡ 0) ⊎ IsTrue (in_place sort.layout)
full_whole sort shows x full (inl root) = inl root
full_whole sort shows x full (inr (inl room)) = absurd (let q : true ≡ false = sym full ∙ room in let z : ⊥ = cc in z)
full_whole sort shows x full (inr (inr stays)) = inr stays

pub whole_root : (t : Bool) (i : ℕ) → (i ≡ 0) ⊎ IsTrue t → t ≡ false → i ≡ 0
whole_root t i (inl root) no_place = root
whole_root t i (inr stays) no_place = absurd (let q : true ≡ false = sym stays ∙ no_place in let z : ⊥ = cc in z)
