-- How many steps below the root a search is after its caller claimed, split and released nodes.
use Rattle.std.proofs.Common.{◌≡◌, ℕ, zero, suc, ◌≤◌, Bool, true, false, cond, length, List, [], ◌∷◌, ◌++◌, sym, refl, ap, subst, inl, arith}
use Rattle.std.specs.Prelude.{All, Option, Some, None}
use Rattle.ks_keysets.specs.declared.Change.{Change}
use Rattle.ks_keysets.specs.declared.Kind.{Kind}
use Rattle.ks_keysets.specs.Keyset.{record_at}
use Rattle.ks_history.specs.declared.Event.{Event}
use Rattle.ks_history.specs.declared.Event.TheVariants.{Give, Shape}
use Rattle.ks_history.specs.Refusals.{takes_by}
use Rattle.ks_history.specs.Callers.{NoneBy}
use Rattle.ks_history.specs.Passes.{GrowsWith}
use Rattle.ks_history.specs.Trace.{graph_after}
use Rattle.ks_history.specs.Frames.{frame_after}
use Rattle.ks_history.specs.Laws.Stays.{AreInTurn}
use Rattle.ks_history.specs.Laws.Descent.{HeldUnder, deep_less, deep_while, deep_shaping, took_while}
use Rattle.ks_flow.specs.Discipline.{BeginsTree, TreeStep}
use Rattle.ks_node.specs.Body.{Body, is_branch}
use Rattle.ks_node.specs.Room.{is_full, is_full_at}
use Rattle.ks_keysets.specs.Layout.{Layout}
use Rattle.ks_keysets.specs.Tight.{capacity}
use Rattle.ks_node.specs.Edges.{record_of}
use Rattle.ks_node.specs.Effect.{split_left}
use Rattle.ks_bodies.specs.Shapes.{split_on, split_own, split_under, grow}
use Rattle.ks_arena.specs.declared.held.Held.{Held as Hand}
use Rattle.ks_arena.specs.Sound.{Sort, Sound, blank_of}
use Rattle.ks_arena.specs.Clauses.{Matches, MatchesIf}
use Rattle.ks_shape.specs.Laws.Single.{record_is}
use Rattle.ks_shape.specs.Quiet.{IsQuiet}
use Rattle.ks_shape.specs.Laws.Quiet.{own_quiet, quiet_give}
use Rattle.ks_shape.specs.Down.{IsDown}
use Rattle.ks_shape.specs.Laws.Down.{down_edge, gave_no_take}
use Rattle.ks_put.specs.Deeper.{StandsDown}
use Rattle.ks_shape.specs.OnPath.{GaveIf, IsUnder}
use Rattle.ks_shape.specs.Laws.Search.{Laws}

-- while the caller takes none and makes no Shape
pub down_quiet : (n c : ℕ) (s0 h k : List Event) (taken roots steps i : ℕ) → IsQuiet c h k → AreInTurn k → IsDown n c s0 h taken roots steps i → IsDown n c s0 k taken roots steps i
down_quiet n c s0 h k taken roots steps i q are so = record {
  took = took_while c s0 h k taken roots q.grows q.takes so.took;
  deep = deep_while n c [] s0 h k steps i q.grows (own_quiet c q.grows.rest q.shapes) are so.deep;
}

pub down_fewer : (n c : ℕ) (s0 h : List Event) (taken roots fewer steps i : ℕ) → fewer ≤ steps → IsDown n c s0 h taken roots steps i → IsDown n c s0 h taken roots fewer i
down_fewer n c s0 h taken roots fewer steps i less so = record { took = so.took; deep = deep_less n c [] s0 h fewer steps i less so.deep }

no_take : (c : ℕ) (es : List Event) → NoneBy c es → takes_by c es ≡ []
no_take c es none = gave_no_take c 0 [] (Give c 0 ∷ (es ++ [])) (record { rest = es; is = refl; others = none })

-- a held node that its caller has as not live is not live in the graph
pub free_none : {N : Type 0} (sort : Sort) (shows : N → Body) (h : List Event) (x : Hand N) → x.live ≡ false → Matches sort shows h x → record_at (graph_after h) x.node ≡ None
free_none sort shows h x free matches = (subst (λ t. MatchesIf sort shows t (graph_after h x.node) (frame_after (blank_of sort) h x.node) x.body) free matches.is).0

-- the nodes of each Shape

pub own_held : (P : ℕ → Type 0) (node right cut : ℕ) (b : Body) → P node → P right → All (λ (x : Change). P x.node) (split_own node right cut b)
own_held P node right cut b p q zero d lt = p
own_held P node right cut b p q (suc zero) d lt = q
own_held P node right cut b p q (suc (suc k)) d lt = absurd (omega arith)

pub under_held : (P : ℕ → Type 0) (parent node right cut : ℕ) (u b : Body) → P parent → P node → P right → All (λ (x : Change). P x.node) (split_under parent node right cut u b)
under_held P parent node right cut u b p q r zero d lt = p
under_held P parent node right cut u b p q r (suc zero) d lt = q
under_held P parent node right cut u b p q r (suc (suc zero)) d lt = r
under_held P parent node right cut u b p q r (suc (suc (suc k))) d lt = absurd (omega arith)

pub grow_held : (P : ℕ → Type 0) (kind : Kind) (node left right cut : ℕ) (b : Body) → P node → P left → P right → All (λ (x : Change). P x.node) (grow kind node left right cut b)
grow_held P kind node left right cut b p q r zero d lt = p
grow_held P kind node left right cut b p q r (suc zero) d lt = q
grow_held P kind node left right cut b p q r (suc (suc zero)) d lt = r
grow_held P kind node left right cut b p q r (suc (suc (suc k))) d lt = absurd (omega arith)

-- what is left of a node that is no branch is as full as its left half
same_else : (t : Bool) (x y p : ℕ) → t ≡ false → cond {A = ℕ} t x p ≡ cond {A = ℕ} t y p
same_else true x y p e = absurd (let q : ⊥ = cc in q)
same_else false x y p e = refl

pub own_full : (layout : Layout) (cut right : ℕ) (b : Body) → is_branch b ≡ false → is_full layout (split_on cut right b) ≡ is_full layout (split_left cut b)
own_full layout cut right b leaf = ap (is_full_at (capacity layout b.kind)) (same_else (is_branch b) (length (split_on cut right b).starts) (length (split_left cut b).starts) (length (split_left cut b).pairs) leaf)

module _ {N : Type 0} (sort : Sort) (shows : N → Body) (slots c : ℕ) (laws : Laws sort slots) where
  -- by a Shape that names nothing but nodes under it
  pub down_shaped : (n : ℕ) (changes : List Change) (s0 h k : List Event) (taken roots steps i : ℕ) → Sound sort BeginsTree TreeStep slots k → GrowsWith c (Shape c changes) h k → All (λ (x : Change). HeldUnder h c i x.node) changes → IsDown n c s0 h taken roots steps i → IsDown n c s0 k taken roots steps i
  down_shaped n changes s0 h k taken roots steps i sound so under down = record {
    took = took_while c s0 h k taken roots (record { rest = Shape c changes ∷ so.rest; is = so.is }) (no_take c so.rest so.others) down.took;
    deep = deep_shaping n c changes [] s0 h k steps i so (laws.turns k sound) (laws.parents (so.rest ++ h) (subst (Sound sort BeginsTree TreeStep slots) so.is sound).0) under (inl refl) down.deep;
  }

  -- the node of a path is as many steps down as its path
  pub path_down : (n place : ℕ) (s0 h : List Event) (taken roots steps : ℕ) (x : Hand N) (o : Option (Hand N)) → IsUnder sort shows place x h o → StandsDown n c s0 h taken roots steps x o → IsDown n c s0 h taken roots steps x.node
  path_down n place s0 h taken roots steps x None under down = down
  path_down n place s0 h taken roots steps x (Some y) under down =
      let to = under.leads in
      down_fewer n c s0 h taken roots steps (suc down.0) x.node down.1
      (down_edge n c s0 h taken roots down.0 y.node x.node (record_of (shows y.body)) (record_is sort shows h y under.live under.matches) (to.0, to.1, to.2, to.3, to.4.1) down.2)

  -- a path while the caller takes none and makes no Shape
  pub stands_quiet : (n : ℕ) (s0 h k : List Event) (taken roots steps : ℕ) (x : Hand N) (o : Option (Hand N)) → Sound sort BeginsTree TreeStep slots k → IsQuiet c h k → StandsDown n c s0 h taken roots steps x o → StandsDown n c s0 k taken roots steps x o
  stands_quiet n s0 h k taken roots steps x None sound q down = down_quiet n c s0 h k taken roots steps x.node q (laws.turns k sound) down
  stands_quiet n s0 h k taken roots steps x (Some y) sound q down = (down.0, down.1, down_quiet n c s0 h k taken roots down.0 y.node q (laws.turns k sound) down.2)

-- a caller that does nothing, or releases a node if there is one
pub quiet_here : (c : ℕ) (h : List Event) → IsQuiet c h h
quiet_here c h = record { grows = record { rest = []; is = refl }; takes = refl; shapes = tt }

pub quiet_gave : {N : Type 0} (c : ℕ) (o : Option (Hand N)) (h k : List Event) → GaveIf c o h k → IsQuiet c h k
quiet_gave c None h k same = subst (λ (z : List Event). IsQuiet c h z) (sym same) (quiet_here c h)
quiet_gave c (Some y) h k gave = quiet_give c y.node h k gave
