-- Replies: how their words differ.
use Rattle.ks_script.proofs.Common.{ℕ, ◌≡◌, ◌<◌, List, [], ◌++◌, length, codes, refl, sym, ap, subst, ◌∙◌, arith, length-append, append_cancel_left, decimal, Reply, Nothing, Value, Full, Listed, Kept, drop, append_assoc, reply_word, reply_line, IsReply, IsAnswered, NoDigit, EndsLine, NotLined}
use Rattle.ks_script.proofs.Numerals.{wide}
use Rattle.ks_script.proofs.Exact.{no_number}
use Rattle.ks_script.proofs.Lined.{number_told, end_free}
use Rattle.ks_script.proofs.CallLines.{first}

pub some_spaced : (a b : List ℕ) → 0 < length (a ++ codes " " ++ b)
some_spaced a b = omega (arith, length-append (a ++ codes " ") b, length-append a (codes " "))

-- what follows the word of a reply: behind a value no digit comes
abbrev pub Follows : Reply → List ℕ → Type 0
Follows (Value v) rest = NoDigit rest
Follows other rest = Unit {0}

pub follows : (r : Reply) (rest : List ℕ) → NoDigit rest → Follows r rest
follows (Value v) rest free = free
follows other rest free = tt

-- bytes begin as one reply
pub one_word : (a b : Reply) (x y : List ℕ) → IsReply a → IsReply b → Follows a x → Follows b y → reply_word a ++ x ≡ reply_word b ++ y → a ≡ b
one_word Nothing Nothing x y h k free other e = refl
one_word (Value v) (Value w) x y h k free other e = ap Value (number_told v w x y h k free other e).0
one_word Full Full x y h k free other e = refl
one_word Kept Kept x y h k free other e = refl
one_word (Listed pairs) b x y h k free other e = absurd h
one_word a (Listed pairs) x y h k free other e = absurd k
one_word (Value v) b x y h k free other e = absurd (no_number v (reply_word b ++ y) x h refl (sym e))
one_word a (Value w) x y h k free other e = absurd (no_number w (reply_word a ++ x) y k refl e)
one_word a b x y h k free other e = absurd (omega (arith, ap first e))

-- bytes that begin as a reply, behind which no line ends
pub not_told : (said : Reply) (bytes rest : List ℕ) → IsReply said → Follows said rest → bytes ≡ reply_word said ++ rest → (EndsLine rest → ⊥) → (r : Reply) → IsReply r → NotLined (reply_word r) bytes
not_told said bytes rest good free e bad r is tail ends f =
    let same : r ≡ said = one_word r said tail rest is good (follows r tail (end_free tail ends)) free (sym f ∙ e) in
    bad (subst EndsLine (append_cancel_left (reply_word said) tail rest (ap (λ (s : Reply). reply_word s ++ tail) (sym same) ∙ (sym f ∙ e))) ends)

-- a line spells one reply
pub one_reply : (x y : ℕ × Reply) → IsAnswered x → IsAnswered y → reply_line x ≡ reply_line y → x ≡ y
one_reply x y h k e =
    let g = number_told x.0 y.0 (codes " " ++ reply_word x.1) (codes " " ++ reply_word y.1) (wide x.0 h.0) (wide y.0 k.0) refl refl (sym (append_assoc (decimal x.0) (codes " ") (reply_word x.1)) ∙ (e ∙ append_assoc (decimal y.0) (codes " ") (reply_word y.1))) in
    ap (λ (n : ℕ). (n, x.1)) g.0 ∙ ap (λ (r : Reply). (y.0, r)) (one_word x.1 y.1 [] [] h.1 k.1 (follows x.1 [] tt) (follows y.1 [] tt) (ap (λ (word : List ℕ). drop 1 word ++ []) g.1))
