use Rattle.std.proofs.Common.{ℕ, ◌<◌, ◌^◌, ◌∙◌, ap, sym, arith}
use Rattle.ks_dictionary.proofs.dictionary.Dictionary.move_value.Goals as goal

pub move_value-requires-clause-apart : goal.move_value-requires-clause-apart
move_value-requires-clause-apart g c = λ same. let key : ℕ → ℕ = g.N.Places.Placing.key_at in let back = g.met.N.Places.Placing.key_of_place in
    let from : c.args.from < 2 ^ 64 = omega (arith, c.ranges.from) in let to : c.args.to < 2 ^ 64 = omega (arith, c.ranges.to) in
    c.requires.apart (sym (back c.args.from from) ∙ ap key (sym c.place-source.ensures ∙ same ∙ c.place-target.ensures) ∙ back c.args.to to)

pub returns-clause-reuse : goal.returns-clause-reuse
returns-clause-reuse g c = c.reuse_law.ensures _ _ _ _ c.move_value.ensures.pass.0.sound
