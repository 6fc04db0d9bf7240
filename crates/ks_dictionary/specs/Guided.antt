-- Calls with a guide.
use Rattle.std.specs.Prelude.{ℕ, ◌≡◌, Some}
use Rattle.ks_guide.specs.declared.guide.Guide.{Guide}
use Rattle.ks_guide.specs.Guides.{guessed}
use Rattle.ks_history.specs.Done.{Template}
use Rattle.ks_history.specs.declared.Op.{Op}
use Rattle.ks_arena.specs.declared.held.Pass.{Pass}
use Rattle.ks_keysets.specs.Layout.{Layout}
use Rattle.ks_shape.specs.declared.answers.Numbered.{Numbered}
use Rattle.ks_shape.specs.declared.answers.NumberedAt.{NumberedAt}
use Rattle.ks_shape.specs.Hinted.{BeginsAtHint, IsDoneWhere}
use Rattle.ks_shape.specs.Idle.{Site}

module _ {N D : Type 0} where
  -- a call of the place between two passes begins at the node that the guide guesses for it, if it guesses one
  abbrev pub BeginsNear : Site → Guide → ℕ → Pass N D → Pass N D → Type 0
  BeginsNear a guide place p q = BeginsAtHint a.nodes (guessed guide place) p q

  -- the guide guesses for the place the node at which this call was decided
  abbrev pub HasNoted : Layout → Template → Site → Op → Pass N D → Pass N D → Numbered → Guide → ℕ → Type 0
  HasNoted layout technique a op p q answer guide place = (at : NumberedAt) × (at.number ≡ answer.number) × IsDoneWhere layout technique a op p q at × (guessed guide place ≡ Some at.node)
