-- Which reason is said, by how the program ends.
use Rattle.std.proofs.Common.{ℕ, ◌≡◌, List, Option, None, sym, subst, arith}
use Rattle.ks_script.specs.declared.reasons.Reason.{Reason}
use Rattle.ks_lines.specs.declared.setting.Setting.{Setting}
use Rattle.ks_words.specs.declared.pairing.Pairing.{Pairing}
use Rattle.ks_words.specs.declared.words.Asked.TheVariants.{Run, Check}
use Rattle.ks_words.specs.declared.words.Text.{Text}
use Rattle.ks_words.specs.declared.words.Text.TheVariants.{Script, Checked}
use Rattle.ks_words.specs.Words.{Spells}
use Rattle.ks_words.specs.Laws.Askings.{run_not_check}
use Rattle.ks_ends.specs.declared.input.Stop.{Stop}
use Rattle.ks_ends.specs.declared.input.Stop.TheVariants.{Refused, Source, Memory}
use Rattle.ks_ends.specs.declared.request.Halt.{Halt}
use Rattle.ks_ends.specs.declared.request.Halt.TheVariants.{Unread, Unfit}
use Rattle.ks_ends.specs.Serve.{SaysWhy}
use Rattle.ks_ends.specs.Stop.{IsCause, IsHaltCause, IsHalted, IsUnread, halt_reason, reason_of}
use Rattle.ks_ends.specs.Parts.{ReasonWith}

-- a text that is not read
pub stop_why : (text : Text) (left : Option (List ℕ)) (failed : Type 0) (status line : ℕ) (said : Option Reason) (stop : Stop) → IsUnread stop status line → said ≡ reason_of stop → IsCause stop text left failed → status ≡ 2 → SaysWhy text left line said
stop_why text left failed status line said (Refused n why) is same cause e = subst (λ (r : Option Reason). SaysWhy text left line r) (sym same) (subst (λ (m : ℕ). SaysWhy text left m why) (sym is.1) cause.1)
stop_why text left failed status line said Source is same cause e = let three = is.0 in absurd (omega (arith, three, e))
stop_why text left failed status line said Memory is same cause e = let five = is.0 in absurd (omega (arith, five, e))

pub stop_silent : (status line : ℕ) (said : Option Reason) (stop : Stop) → IsUnread stop status line → said ≡ reason_of stop → (status ≡ 2 → ⊥) → said ≡ None
stop_silent status line said (Refused n why) is same not = absurd (not is.0)
stop_silent status line said Source is same not = same
stop_silent status line said Memory is same not = same

-- a script that is not served
halted_why : (pairing : Pairing) (left : Option (List ℕ)) (failed : Type 0) (status line : ℕ) (said : Option Reason) (halt : Halt) → IsHalted halt status line → said ≡ halt_reason halt → IsHaltCause pairing halt left failed → status ≡ 2 → SaysWhy Script left line said
halted_why pairing left failed status line said (Unread stop) is same cause e = stop_why Script left failed status line said stop is same cause e
halted_why pairing left failed status line said (Unfit n) is same cause e = let seven = is.0 in absurd (omega (arith, seven, e))

pub halt_why : (words : List (List ℕ)) (pairing : Pairing) (setting : Setting) (left : Option (List ℕ)) (failed : Type 0) (status line : ℕ) (said : Option Reason) (halt : Halt) → Spells words (Run pairing setting) → IsHalted halt status line → said ≡ halt_reason halt → IsHaltCause pairing halt left failed → ReasonWith words status line said left
halt_why words pairing setting left failed status line said halt spells is same cause Script asks e = halted_why pairing left failed status line said halt is same cause e
halt_why words pairing setting left failed status line said halt spells is same cause Checked check e = absurd (run_not_check words pairing setting spells check)

pub halt_silent : (status line : ℕ) (said : Option Reason) (halt : Halt) → IsHalted halt status line → said ≡ halt_reason halt → (status ≡ 2 → ⊥) → said ≡ None
halt_silent status line said (Unread stop) is same not = stop_silent status line said stop is same not
halt_silent status line said (Unfit n) is same not = same

-- a run that is not judged
pub check_why : (words : List (List ℕ)) (left : Option (List ℕ)) (status line : ℕ) (said : Option Reason) → Spells words Check → (status ≡ 2 → SaysWhy Checked left line said) → ReasonWith words status line said left
check_why words left status line said spells told Script (pairing, nodes, (setting, is, asks)) e = absurd (run_not_check words pairing setting asks spells)
check_why words left status line said spells told Checked asks e = told e
