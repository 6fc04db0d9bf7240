-- Laws of what the calls of the arena ensure: how it adds up over several calls.
use Rattle.std.proofs.Common.{◌≡◌, ℕ, List, ◌∷◌, sym, refl, ap, ◌∙◌, subst}
use Rattle.ks_history.specs.declared.Event.{Event}
use Rattle.ks_history.specs.declared.Event.TheVariants.{Take, Claim}
use Rattle.ks_history.specs.Trace.{◌⊑◌, graph_after}
use Rattle.ks_history.specs.Passes.{Has}
use Rattle.ks_history.specs.Laws.Begins.{begins_both, by_others_begins, by_others_none, by_others_both, by_others_with, with_begins}
use Rattle.ks_node.specs.Body.{Body}
use Rattle.ks_arena.specs.declared.held.Held.{Held as Hand}
use Rattle.ks_arena.specs.Sound.{Sort}
use Rattle.ks_arena.specs.Clauses.{Kept, HasLooked, WasTaken, Matches, HasTaken, HasClaimed}

pub looked_none : (c : ℕ) (h : List Event) → HasLooked c h h
looked_none c h = record { grows = by_others_none c h; hand = refl; mine = refl }

pub looked_both : (c : ℕ) (g h k : List Event) → HasLooked c g h → HasLooked c h k → HasLooked c g k
looked_both c g h k a b = record { grows = by_others_both c g h k a.grows b.grows; hand = b.hand ∙ a.hand; mine = b.mine ∙ a.mine }

pub kept_both : (c : ℕ) (g h k : List Event) → Kept c g h → Kept c h k → Kept c g k
kept_both c g h k a b j x = let p = a j x in let q = b j p.turn in record { turn = q.turn; state = q.state ∙ p.state; frame = λ blank. q.frame blank ∙ p.frame blank }

-- a node that was taken between two moments was taken between an earlier and a later one
pub taken_within : (f g h k : List Event) (j : ℕ) → f ⊑ g → h ⊑ k → WasTaken g h j → WasTaken f k j
taken_within f g h k j a b so = record { moment = so.moment; since = begins_both f g so.moment a so.since; until = begins_both so.moment h k so.until b; so = so.so }

pub kept_none : (c : ℕ) (h : List Event) → Kept c h h
kept_none c h j x = record { turn = x; state = refl; frame = λ blank. refl }

-- what was taken or claimed after a look, and a look after that
module _ {N : Type 0} (sort : Sort) (shows : N → Body) where
  pub taken_later : (c i : ℕ) (h k l : List Event) (x : Hand N) → HasLooked c h k → HasTaken sort shows c i k l x → HasTaken sort shows c i h l x
  taken_later c i h k l x a so = record { node = so.node; live = so.live; matches = so.matches; grows = by_others_with c (Take c i) h k l a.grows so.grows; fresh = λ has. so.fresh (subst (λ (z : List ℕ). Has z i) (sym a.hand) has); hand = so.hand ∙ ap (λ (z : List ℕ). i ∷ z) a.hand; mine = so.mine ∙ ap (λ (z : List Event). Take c i ∷ z) a.mine }

  pub claimed_later : (c : ℕ) (h k l : List Event) (x : Hand N) → HasLooked c h k → HasClaimed sort shows c k l x → HasClaimed sort shows c h l x
  claimed_later c h k l x a so = record { live = so.live; blank = so.blank; matches = so.matches; state = so.state; moment = so.moment; grows = by_others_with c (Claim c x.node) h k so.moment a.grows so.grows; since = so.since; fresh = λ has. so.fresh (subst (λ (z : List ℕ). Has z x.node) (sym a.hand) has); hand = so.hand ∙ ap (λ (z : List ℕ). x.node ∷ z) a.hand; mine = so.mine ∙ ap (λ (z : List Event). Claim c x.node ∷ z) a.mine }

  -- what was claimed is still there after a look
  pub claimed_then : (c : ℕ) (h k l : List Event) (x : Hand N) → HasClaimed sort shows c h k x → HasLooked c k l → Matches sort shows l x → graph_after l x.node ≡ graph_after k x.node → HasClaimed sort shows c h l x
  claimed_then c h k l x so looked matches same = record { live = so.live; blank = so.blank; matches = matches; state = same ∙ so.state; moment = so.moment; grows = so.grows; since = by_others_both c so.moment k l so.since looked.grows; fresh = so.fresh; hand = looked.hand ∙ so.hand; mine = looked.mine ∙ so.mine }

  pub claimed_begins : (c : ℕ) (h k : List Event) (x : Hand N) → HasClaimed sort shows c h k x → h ⊑ k
  claimed_begins c h k x so = begins_both h so.moment k (with_begins c (Claim c x.node) h so.moment so.grows) (by_others_begins c so.moment k so.since)
