use Rattle.ks_script.proofs.Common.{arith, refl, ◌+◌, drop, text_of, said_lines, Nothing}
use Rattle.std.specs.List.{flat_map}
use Rattle.ks_lines.specs.declared.Said.TheVariants.{Call}
use Rattle.ks_script.specs.PackedReplies.{said_at}
use Rattle.ks_script.proofs.Texts.{text_append}
use Rattle.ks_script.proofs.Putting.{puts_none, owes_all, owes_as, owes_more, owes_next, owes_last}
use Rattle.ks_script.proofs.printed.put_caller.Goals as goal

pub loop-at-init : goal.loop-at-init
loop-at-init g c = owes_more c.put_one.ensures (owes_more c.put.ensures owes_all)

pub loop-at-preserved : goal.loop-at-preserved
loop-at-preserved g c =
    let all = c.args.said.now in
    let x = said_at all c.loop-at.at in
    owes_more c.put_said.ensures (owes_as (owes_next (λ xs. text_of (flat_map said_lines xs)) all c.loop-at.at (Call 0 Nothing) x (omega (arith, c.len-at-end.ensures)) refl c.loop-at.invariant) (text_append (said_lines x) (flat_map said_lines (drop (c.loop-at.at + 1) all))))

pub returns : goal.returns
returns g c = owes_last (λ xs. text_of (flat_map said_lines xs)) c.args.said.now c.loop-at.at (omega (arith, c.len-at-end.ensures)) c.loop-at.invariant puts_none
