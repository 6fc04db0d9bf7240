use Rattle.std.proofs.Common.{◌∙◌, ap, subst, sym}
use Rattle.ks_arena.specs.Clauses.{IsNote}
use Rattle.ks_c.proofs.kin.meet.Goals as goal

pub learn-requires-clause-note : goal.learn-requires-clause-note
learn-requires-clause-note g c κs within = subst (λ t. IsNote t c.note-note.result)
    (ap (λ a. a.table.shared.table_id) c.deref.ensures ∙ c.requires.kin ∙ sym (ap (λ a. a.table.shared.table_id) c.deref-2.ensures)) c.note-note.ensures.note
