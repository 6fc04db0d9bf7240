use Rattle.std.proofs.Common.{ℕ, ◌≡◌, ◌<◌, slice_index_or, None}
use Rattle.ks_judge.proofs.table.are_none.Given as goal

abbrev pub invariant-values : goal.invariant-values
invariant-values l = (k : ℕ) → k < l.at → slice_index_or l.values k None ≡ None
