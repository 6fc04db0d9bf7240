-- What waits for an edge, and which nodes grow.
use Rattle.std.proofs.Common.{◌≡◌, ℕ, inl, inr, Bool, false, List, [], ◌∷◌, ◌++◌, length, sym, refl, ap, ◌∙◌, subst, arith}
use Rattle.std.specs.Prelude.{◌||◌, IsTrue, nat_eq, is_some, Option, Some, None, All, slice_index_or}
use Rattle.std.specs.Option.{ForSome}
use Rattle.std.proofs.lemmas.List.Elements.{All-append, All-cons, All-nil}
use Rattle.ks_history.specs.declared.Event.{Event}
use Rattle.ks_history.specs.Trace.{graph_after}
use Rattle.ks_history.specs.Frames.{frame_after}
use Rattle.ks_flow.specs.Link.{LastsUnderLink}
use Rattle.ks_arena.specs.Sound.{Sort, blank_of}
use Rattle.ks_link.specs.declared.parts.Waiting.{Waiting}
use Rattle.ks_link.specs.Leads.{waits_if}
use Rattle.ks_link.specs.Parts.{IsSplitOff}
use Rattle.ks_link.specs.Puts.{WaitsFor}
use Rattle.ks_link.proofs.Parting.{split_off_later}

-- a leaf with no edge of its own grows
pub bare_grows : (branch : Bool) (n : ℕ) → branch ≡ false → n ≡ 0 → IsTrue (branch || nat_eq n 0)
bare_grows branch n off none = rw (off, none) refl

-- those that wait were split off, and stay so
pub all_later : (sort : Sort) (h k : List Event) (ws : List Waiting) → LastsUnderLink (graph_after h) (frame_after (blank_of sort) h) (graph_after k) (frame_after (blank_of sort) k) → All (λ w. IsSplitOff sort h w) ws → All (λ w. IsSplitOff sort k w) ws
all_later sort h k ws lasts all i d lt = split_off_later sort h k (slice_index_or ws i d) lasts (all i d lt)

pub all_wait : (sort : Sort) (h : List Event) (ws vs : List Waiting) (new : Option Waiting) → All (λ w. IsSplitOff sort h w) ws → ForSome new (λ w. IsSplitOff sort h w) → WaitsFor ws vs new → All (λ w. IsSplitOff sort h w) vs
all_wait sort h ws vs None all one waits = subst (λ (z : List Waiting). All (λ w. IsSplitOff sort h w) z) (sym waits) all
all_wait sort h ws vs (Some w) all one waits = elim waits [
  | inl more ↦ subst (λ (z : List Waiting). All (λ w. IsSplitOff sort h w) z) (sym more)
      (All-append (λ w. IsSplitOff sort h w) ws (w ∷ []) all (All-cons (λ w. IsSplitOff sort h w) w [] (one w refl) (All-nil (λ w. IsSplitOff sort h w))))
  | inr full ↦ subst (λ (z : List Waiting). All (λ w. IsSplitOff sort h w) z) (sym full.1) all
]

-- what waits after nothing did
pub waits_are : (ws vs : List Waiting) (new : Option Waiting) → ws ≡ [] → WaitsFor ws vs new → vs ≡ waits_if new
waits_are ws vs None empty so = so ∙ empty
waits_are ws vs (Some w) empty so = elim so [ inl more ↦ more ∙ ap (λ (z : List Waiting). z ++ w ∷ []) empty | inr full ↦ absurd (omega (arith, full.0, ap length empty)) ]

pub none_of : {A : Type 0} (o : Option A) → is_some o ≡ false → o ≡ None
none_of None e = refl
none_of (Some x) e = absurd (let q : ⊥ = cc in q)
