use Rattle.std.proofs.lemmas.List.Elements.{All-rest}
use Rattle.ks_script.proofs.Common.{sym, ap, ◌∙◌, ◌++◌, ◌∷◌, [], append_assoc}
use Rattle.ks_script.specs.Plain.{IsPrintable}
use Rattle.ks_script.proofs.packed_replies.Replies.from_said.Goals as goal

pub loop-entry-preserved : goal.loop-entry-preserved
loop-entry-preserved c =
    let before = c.loop-entry in
    let entry = c.in-Some.entry in
    let rest = c.next.new.self.rest.items in
    let taken = c.in-Some.ensures.steps.0 in
    record {
      packed = ap (λ l. l ++ rest) c.in_ok-push.ensures.ok ∙ (append_assoc before.packed (entry ∷ []) rest ∙ (ap (λ l. before.packed ++ l) (sym taken) ∙ before.invariant.packed));
      plain = All-rest IsPrintable entry rest before.entry-iterator.rest.items taken before.invariant.plain;
    }
