use Rattle.std.proofs.Common.{ℕ, ◌≡◌, ◌<◌, ◌+◌, ◌++◌, List, [], length, get_or}
use Rattle.ks_history.specs.declared.Reply.{Reply}
use Rattle.ks_lines.specs.declared.Scanned.{Scanned}
use Rattle.ks_lines.specs.declared.Said.TheVariants.{Scan}
use Rattle.ks_judge.specs.Judgment.{Lines}
use Rattle.ks_judge.specs.Flat.{replies_of}
use Rattle.ks_judge.specs.Slots.{Notes, carriers_to}
use Rattle.ks_judge.proofs.slots.note_parts.Given as goal

abbrev pub invariant-parts : goal.invariant-parts
invariant-parts l = (lines : Lines) (front back : List (ℕ × Reply)) (stop : Scanned) → l.caller < length lines → get_or lines l.caller [] ≡ front ++ (replies_of (Scan l.parts stop) ++ back) →
    Notes lines l.fn.slots (carriers_to lines l.caller (length front)) → Notes lines l.slots (carriers_to lines l.caller (length front + l.at))
