use Rattle.ks_script.proofs.Common.{ℕ, ◌≡◌, ◌++◌, codes, sym, ap, append_assoc, decimal, Reply, ended, reply_word, reply_line}
use Rattle.ks_script.proofs.Putting.{puts_as}
use Rattle.ks_script.proofs.printed.put_reply.Goals as goal

-- a line from its number and its word
line : (n : ℕ) {r s : Reply} → r ≡ s → decimal n ++ (codes " " ++ (reply_word s ++ codes "\n")) ≡ ended (reply_line (n, r))
line n e = rw e (simp append_assoc)

pub returns-in-Value : goal.returns-in-Value
returns-in-Value g c = puts_as c.put_two.ensures (ap (λ (r : Reply). ended (reply_line (c.args.line.now.0, r))) (sym c.in-Value.is))

pub returns-in-Nothing : goal.returns-in-Nothing
returns-in-Nothing g c = puts_as c.put_one.ensures (line c.args.line.now.0 c.in-Nothing.is)

pub returns-in-Full : goal.returns-in-Full
returns-in-Full g c = puts_as c.put_one-in-Full.ensures (line c.args.line.now.0 c.in-Full.is)

pub returns-in-Kept : goal.returns-in-Kept
returns-in-Kept g c = puts_as c.put_one-in-Kept.ensures (line c.args.line.now.0 c.in-Kept.is)
