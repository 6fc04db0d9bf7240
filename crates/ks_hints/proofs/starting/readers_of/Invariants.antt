use Rattle.std.proofs.Common.{◌≡◌, [], length}
use Rattle.std.specs.Prelude.{vec_capacity}
use Rattle.std.specs.List.{All}
use Rattle.ks_hints.specs.Posts.{read_by}
use Rattle.ks_hints.specs.Rule.{IsSeatedAt}
use Rattle.ks_hints.proofs.starting.readers_of.Given as goal

abbrev pub invariant-loop-blank : goal.invariant-loop-blank
invariant-loop-blank l = (length l.into.items ≡ length l.yielded) × (vec_capacity l.into ≡ vec_capacity l.fn.into) × All (λ h. read_by h ≡ []) l.into.items × All (λ h. IsSeatedAt l.fn.writer.desk.place.table_id h.reader) l.into.items
