use Rattle.std.proofs.Common.{refl, subst, sym, ◌∙◌}
use Rattle.ks_history.specs.declared.Op.TheVariants.{Move}
use Rattle.ks_lines.specs.Lines.{IsReplyTo}
use Rattle.ks_arena.specs.Sound.{sort_of}
use Rattle.ks_serving.proofs.Calling.{one_call, same_idle}
use Rattle.ks_serving.proofs.Replies.{move_replies, one_key_replies, replies_at_places}
use Rattle.ks_serving.proofs.service.Service.call.Goals as goal

pub returns-in-Move-clause-calls : goal.returns-in-Move-clause-calls
returns-in-Move-clause-calls g c = one_call _ _ _ _ _ _ _ _ _ _ _ _ c.move_value.ensures.done (sym c.placed.ensures.is ∙ c.in-Move.is) c.moved_reply.ensures.reply c.moved_reply.ensures.number

pub returns-in-Move-clause-reply : goal.returns-in-Move-clause-reply
returns-in-Move-clause-reply g c =
    replies_at_places g.N.Places.Placing.place_of c.args.op c.moved_reply.result.1
    (subst (λ op. IsReplyTo op c.moved_reply.result.1) (sym c.in-Move.is ∙ c.placed.ensures.is)
    (subst (IsReplyTo (Move c.in-Move.from c.in-Move.to)) (sym c.moved_reply.ensures.reply) (move_replies c.in-Move.from c.in-Move.to c.move_value.result)))

pub returns-in_default-clause-pass : goal.returns-in_default-clause-pass
returns-in_default-clause-pass g c =
    same_idle (sort_of g.N.Node.layout g.N.Node.ranged) g.T.Rule.Discipline.begins g.T.Rule.Discipline.step _ _ c.arena-arena.ensures _ c.call_aided.ensures.pass

pub returns-in_default-clause-caller : goal.returns-in_default-clause-caller
returns-in_default-clause-caller g c = c.call_aided.ensures.caller

pub returns-in_default-clause-reply : goal.returns-in_default-clause-reply
returns-in_default-clause-reply g c =
    replies_at_places g.N.Places.Placing.place_of c.args.op c.call_aided.result.1
    (subst (λ op. IsReplyTo op c.call_aided.result.1) c.placed.ensures.is
    (one_key_replies c.placed.result c.call_aided.result.1 c.call_aided.ensures.reply))

pub returns-in_default-clause-calls : goal.returns-in_default-clause-calls
returns-in_default-clause-calls g c = one_call _ _ _ _ _ _ _ _ _ _ _ _ c.call_aided.ensures.done (sym c.placed.ensures.is) refl refl
