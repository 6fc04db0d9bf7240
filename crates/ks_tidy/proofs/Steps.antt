-- What one try to merge implies of another.
use Rattle.std.proofs.Common.{◌≡◌, ℕ, Bool, true, List, sym, refl, ap, ◌∙◌, subst, inl}
use Rattle.std.specs.Prelude.{Option, All}
use Rattle.ks_keysets.specs.declared.Edge.{Edge}
use Rattle.ks_keysets.specs.declared.NodeState.{NodeState}
use Rattle.ks_keysets.specs.Record.{LeadsTo}
use Rattle.ks_history.specs.declared.Event.{Event}
use Rattle.ks_node.specs.Body.{Body}
use Rattle.ks_node.specs.Edges.{record_of, edges_of}
use Rattle.ks_arena.specs.declared.held.Held.{Held as Hand}
use Rattle.ks_arena.specs.Sound.{Sort}
use Rattle.ks_shape.specs.declared.path.Path.{Path}
use Rattle.ks_shape.specs.Places.{HasPlacesOf}
use Rattle.ks_tidy.specs.declared.step.Step.{Step}
use Rattle.ks_tidy.specs.declared.step.Step.TheVariants.{Freed, Rests}
use Rattle.ks_tidy.specs.Pair.{DidStep, IsPair}

pub places_here : (g : ℕ → NodeState) (n : ℕ) → HasPlacesOf g g n n
places_here g n = record { inset = λ p i. i; keyset = λ p i. i }

-- an edge that leads somewhere leads to the one node to which all edges lead
pub sole_is : (u : Body) (p n m : ℕ) → All (λ (e : Edge). e.node ≡ m) (edges_of u) → LeadsTo (record_of u) p n → m ≡ n
sole_is u p n m all to = sym (all to.0 to.1 to.2) ∙ ap (λ (e : Edge). e.node) to.3 ∙ to.4.1

module _ {N : Type 0} (sort : Sort) (shows : N → Body) (c : ℕ) where
  -- what thorough work ensures, work of either kind does
  pub did_as : (h k : List Event) (thorough : Bool) (path : Path N) (r : Step N) → DidStep sort shows c h k true path r → DidStep sort shows c h k thorough path r
  did_as h k thorough path (Freed x) so = so
  did_as h k thorough path (Rests x) so = record { same = so.same; frees = so.frees; no_sole = so.no_sole; tested = λ whole which. so.tested whole (inl refl) }

  -- of a path whose parent is stated in another way
  pub pair_as : (p : ℕ) (h : List Event) (x : Path N) (o : Option (Hand N)) → x.parent ≡ o → IsPair sort shows c p h x → IsPair sort shows c p h (record { parent = o; node = x.node })
  pair_as p h x o is so = subst (λ (z : Option (Hand N)). IsPair sort shows c p h (record { parent = z; node = x.node })) is so

  pub did_with : (h k : List Event) (thorough : Bool) (x : Path N) (o : Option (Hand N)) (r : Step N) → x.parent ≡ o → DidStep sort shows c h k thorough (record { parent = o; node = x.node }) r → DidStep sort shows c h k thorough x r
  did_with h k thorough x o r is so = subst (λ (z : Option (Hand N)). DidStep sort shows c h k thorough (record { parent = z; node = x.node }) r) (sym is) so
