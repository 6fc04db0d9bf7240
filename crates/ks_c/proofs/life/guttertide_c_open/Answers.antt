use Rattle.std.proofs.Common.{◌∙◌, map}
use Rattle.ks_c.proofs.Crew.{handles_of, opened}
use Rattle.ks_c.proofs.life.guttertide_c_open.Goals as goal

pub returns-in-Ok-clause-handles : goal.returns-in-Ok-clause-handles
returns-in-Ok-clause-handles c =
    handles_of c.args.structure c.args.nodes c.hand_out.new.handles
    (opened c.args.structure c.args.nodes _ (map (λ b. b.value) c.in-Ok.boxes.items) c.hand_out.new.handles c.in-Ok.ensures (c.hand_out.ensures.count ∙ c.is_any_open.ensures.count) c.hand_out.ensures.given)

pub returns-in-Ok-clause-opened : goal.returns-in-Ok-clause-opened
returns-in-Ok-clause-opened c told =
    opened c.args.structure c.args.nodes _ (map (λ b. b.value) c.in-Ok.boxes.items) c.hand_out.new.handles c.in-Ok.ensures (c.hand_out.ensures.count ∙ c.is_any_open.ensures.count) c.hand_out.ensures.given
