-- A body with a range, a level and a link, in place of a body that has neither level nor link.
use Rattle.std.specs.Prelude.{ℕ, Bool, ◌&&◌, Option, Some}
use Rattle.ks_keysets.specs.declared.Span.{Span}
use Rattle.ks_node.specs.Body.{Body, Content, is_branch_kind}
use Rattle.ks_node.specs.Wrapped.{adopts_ranged}

-- the body with a range, a level and a link
abbrev pub linked : Span → ℕ → Option ℕ → Body → Body
linked r level link b = record b { range = Some r; level = level; link = link }

-- only a branch adopts, and as one with a range does
abbrev pub adopts_linked : (Content → ℕ → Bool) → Content → ℕ → Bool
adopts_linked can c cut = is_branch_kind c.kind && adopts_ranged can c cut
