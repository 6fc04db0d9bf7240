-- Words of a line, and lines that do not go on with a script.
use Rattle.ks_script.proofs.Common.{ℕ, zero, suc, ◌≡◌, ◌^◌, ◌<◌, ◌≤◌, ◌⊎◌, ◌≢◌, cond, Bool, true, false, List, [], ◌∷◌, ◌++◌, length, drop, get_or, codes, refl, sym, ap, subst, ◌∙◌, append_assoc, append-nil, arith, length-append, inl, inr, nil_from_length, cases_lt, eqb_tells, false≢true, and_parts, is_ascii_digit, decimal, all_ascii_digits, digits_value, onto_first, Lacks, Lines, NoDigit, Line, Call, Scan, Get, Put, Del, Add, Swap, Move, Version, IsLineOf, IsLineWithin, HasLine, line_text, lines_of, callers_limit}
use Rattle.ks_history.specs.declared.Op.{Op}
use Rattle.ks_script.specs.Reasons.{AreDue, Disorder, HasKind, IsDue, IsNumeral, IsWithin, MayCome, Misfit, MisfitOf, Misplaced, Misread, NotDue, due_of, kind_word, words_of}
use Rattle.ks_script.specs.Misfits.{Behind, InOrder, words_behind}
use Rattle.ks_script.specs.declared.reasons.Due.{Due}
use Rattle.ks_script.specs.declared.reasons.Due.TheVariants as due
use Rattle.ks_script.specs.declared.reasons.Kind.{Kind}
use Rattle.ks_script.specs.declared.reasons.Kind.TheVariants as kind
use Rattle.ks_script.specs.declared.reasons.Reason.{Reason}
use Rattle.ks_script.specs.declared.reasons.Reason.TheVariants.{ExtraWord, MissingWord, NoCaller, SameKey, TooManyCalls, TooManyParts}
use Rattle.ks_script.proofs.Numerals.{wide, digits_of_number, value_of_digits, digits_spelled}
use Rattle.ks_script.proofs.Cuts.{lines_first, lines_last}
use Rattle.ks_script.proofs.Exact.{goes_on}
use Rattle.ks_script.proofs.CallLines.{value_small, is_wide, one_line}

pub lacks_push : (c : ℕ) (bytes : List ℕ) (b : ℕ) → Lacks c bytes → (b ≡ c → ⊥) → Lacks c (bytes ++ b ∷ [])
lacks_push c [] b lacks apart = (apart, tt)
lacks_push c (x ∷ bytes) b lacks apart = (lacks.0, lacks_push c bytes b lacks.1 apart)

-- bytes from a place on
pub behind_cut : (end : ℕ) (bytes : List ℕ) (at : ℕ) → get_or bytes at 0 ≡ end → Behind end (drop at bytes)
behind_cut end [] zero e = tt
behind_cut end [] (suc at) e = tt
behind_cut end (b ∷ bytes) zero e = e
behind_cut end (b ∷ bytes) (suc at) e = behind_cut end bytes at e

pub behind_none : (end : ℕ) (bytes : List ℕ) (at : ℕ) → length bytes ≤ at → Behind end (drop at bytes)
behind_none end [] zero le = tt
behind_none end [] (suc at) le = tt
behind_none end (b ∷ bytes) zero le = absurd (omega arith)
behind_none end (b ∷ bytes) (suc at) le = behind_none end bytes at (omega arith)

-- digits, each of them and all together
pub digit_at : (word : List ℕ) (at : ℕ) → all_ascii_digits word ≡ true → at < length word → is_ascii_digit (get_or word at 0) ≡ true
digit_at [] at all lt = absurd (omega arith)
digit_at (b ∷ word) zero all lt = (and_parts (is_ascii_digit b) (all_ascii_digits word) all).0
digit_at (b ∷ word) (suc at) all lt = digit_at word at (and_parts (is_ascii_digit b) (all_ascii_digits word) all).1 (omega arith)

pub numeral_told : (word : List ℕ) (at : ℕ) (r : Bool) → at ≡ length word → all_ascii_digits word ≡ true → (r ≡ true → 0 < at) → (r ≡ true → get_or word 0 0 ≡ 48 → at ≡ 1) → (r ≡ false → (at ≡ 0) ⊎ ((get_or word 0 0 ≡ 48) × (1 < at))) → (r ≡ true → IsNumeral word) × (IsNumeral word → r ≡ true)
numeral_told word at true all digits some lone none = ((λ t. record { some = omega (arith, some refl); digits = digits; lone = λ z. sym all ∙ lone refl z }), λ num. refl)
numeral_told word at false all digits some lone none =
    (λ t. absurd (false≢true t), λ num. absurd (elim (none refl) [ inl nil ↦ omega (arith, num.some) | inr lead ↦ omega (arith, num.lone lead.0, lead.1) ]))

-- the words of a line, by its first byte
words_onto : (b : ℕ) (bytes : List ℕ) → (b ≡ 32 → ⊥) → words_of (b ∷ bytes) ≡ onto_first b (words_of bytes)
words_onto b bytes apart =
    elim (eqb_tells b 32) [
      | inl same ↦ absurd (apart same.1)
      | inr other ↦ ap (λ t. cond t ([] ∷ words_of bytes) (onto_first b (words_of bytes))) other.0
    ]

-- the first word, up to a space
pub cut_words : (word rest : List ℕ) → Lacks 32 word → Behind 32 rest → words_of (word ++ rest) ≡ word ∷ words_behind rest
cut_words [] [] lacks behind = refl
cut_words [] (b ∷ rest) lacks behind = subst (λ (c : ℕ). words_of (c ∷ rest) ≡ [] ∷ words_of rest) (sym behind) refl
cut_words (c ∷ word) rest lacks behind = words_onto c (word ++ rest) lacks.0 ∙ ap (onto_first c) (cut_words word rest lacks.1 behind)

pub next_words : (rest word more : List ℕ) → 0 < length rest → drop 1 rest ≡ word ++ more → Lacks 32 word → Behind 32 more → words_behind rest ≡ word ∷ words_behind more
next_words [] word more some e lacks behind = absurd (omega arith)
next_words (b ∷ rest) word more some e lacks behind = ap words_of e ∙ cut_words word more lacks behind

some_words : (bytes : List ℕ) → (word : List ℕ) × (more : Lines) × (words_of bytes ≡ word ∷ more)
some_words [] = ([], [], refl)
some_words (b ∷ bytes) =
    elim (eqb_tells b 32) [
      | inl same ↦ ([], words_of bytes, ap (λ t. cond t ([] ∷ words_of bytes) (onto_first b (words_of bytes))) same.0)
      | inr other ↦ (let h = some_words bytes in (b ∷ h.0, h.1, ap (λ t. cond t ([] ∷ words_of bytes) (onto_first b (words_of bytes))) other.0 ∙ ap (onto_first b) h.2))
    ]

pub extra_word : (v : Version) (rest : List ℕ) → 0 < length rest → Misread v [] (words_behind rest) ExtraWord
extra_word v [] some = absurd (omega arith)
extra_word v (b ∷ rest) some = let w = some_words rest in subst (λ (ws : Lines). Misread v [] ws ExtraWord) (sym w.2) refl

-- the first of the words, where one is due
module _ (v : Version) (all : List Due) (i : ℕ) (d : Due) (more : List Due) (first : drop i all ≡ d ∷ more) (rest word tail : List ℕ) (some : 0 < length rest) (split : drop 1 rest ≡ word ++ tail) (lacks : Lacks 32 word) (behind : Behind 32 tail) where
  misread_first : (why : Reason) → Misread v (d ∷ more) (word ∷ words_behind tail) why → Misread v (drop i all) (words_behind rest) why
  misread_first why h = subst (λ (ds : List Due). Misread v ds (words_behind rest) why) (sym first) (subst (λ (ws : Lines). Misread v (d ∷ more) ws why) (sym (next_words rest word tail some split lacks behind)) h)

  pub not_first_due : (why : Reason) → NotDue v d word why → Misread v (drop i all) (words_behind rest) why
  not_first_due why h = misread_first why (inl h)

  pub misread_later : IsDue v d word → (why : Reason) → Misread v more (words_behind tail) why → Misread v (drop i all) (words_behind rest) why
  misread_later is why h = misread_first why (inr (is, h))

  pub due_later : IsDue v d word → AreDue v more (words_behind tail) → AreDue v (drop i all) (words_behind rest)
  due_later is h = subst (λ (ds : List Due). AreDue v ds (words_behind rest)) (sym first) (subst (λ (ws : Lines). AreDue v (d ∷ more) ws) (sym (next_words rest word tail some split lacks behind)) (is, h))

pub missing_word : (v : Version) (all : List Due) (i : ℕ) (d : Due) (more : List Due) → drop i all ≡ d ∷ more → (rest : List ℕ) → rest ≡ [] → Misread v (drop i all) (words_behind rest) MissingWord
missing_word v all i d more first rest none = subst (λ (ds : List Due). Misread v ds (words_behind rest) MissingWord) (sym first) (subst (λ (bytes : List ℕ). Misread v (d ∷ more) (words_behind bytes) MissingWord) (sym none) refl)

-- words, each behind a space
abbrev pub joined : Lines → List ℕ
joined [] = []
joined (w ∷ ws) = 32 ∷ (w ++ joined ws)

joined_words : (bytes : List ℕ) → 32 ∷ bytes ≡ joined (words_of bytes)
joined_words [] = refl
joined_words (b ∷ bytes) =
    elim (eqb_tells b 32) [
      | inl same ↦ ap (λ (c : ℕ). 32 ∷ c ∷ bytes) same.1 ∙ (ap (λ (x : List ℕ). 32 ∷ x) (joined_words bytes) ∙ ap joined (sym (ap (λ t. cond t ([] ∷ words_of bytes) (onto_first b (words_of bytes))) same.0)))
      | inr other ↦
          (let h = some_words bytes in
          let on : bytes ≡ h.0 ++ joined h.1 = ap (λ (x : List ℕ). drop 1 x) (joined_words bytes ∙ ap joined h.2) in
          ap (λ (x : List ℕ). 32 ∷ b ∷ x) on ∙ sym (ap joined (ap (λ t. cond t ([] ∷ words_of bytes) (onto_first b (words_of bytes))) other.0 ∙ ap (onto_first b) h.2)))
    ]

pub joined_behind : (rest : List ℕ) → Behind 32 rest → rest ≡ joined (words_behind rest)
joined_behind [] behind = refl
joined_behind (b ∷ rest) behind = ap (λ (c : ℕ). c ∷ rest) behind ∙ joined_words rest

-- the first line, up to a byte 10
pub cut_line : (bytes line rest : List ℕ) → 0 < length bytes → bytes ≡ line ++ rest → Lacks 10 line → Behind 10 rest → (more : Lines) × (lines_of bytes ≡ line ∷ more)
cut_line bytes line [] some e lacks behind =
    let is : bytes ≡ line = e ∙ append-nil line in
    ([], ap lines_of is ∙ lines_last line (omega (arith, ap (λ (x : List ℕ). length x) is)) lacks)
cut_line bytes line (b ∷ rest) some e lacks behind =
    (lines_of rest, ap lines_of (e ∙ ap (λ (c : ℕ). line ++ c ∷ rest) behind) ∙ lines_first line rest lacks)

-- a number that is due has 128 bits
pub within_small : (v : Version) (d : Due) (n : ℕ) → IsWithin v d n → n < 2 ^ 128
within_small v due.Key n h = wide n h
within_small v due.Value n h = value_small v n h
within_small v due.Parts n h = omega (arith, h.1)

-- a word of digits that begins with a number is that number
pub read_value : (word rest : List ℕ) (n : ℕ) → all_ascii_digits word ≡ true → n < 2 ^ 128 → word ≡ decimal n ++ rest → NoDigit rest → digits_value 10 word ≡ n
read_value word rest n digits small e free =
    let g = goes_on word [] (decimal n) rest digits (digits_of_number n small) free (append-nil word ∙ e) in
    let none : rest ≡ [] = nil_from_length rest (omega (arith, ap (λ (x : List ℕ). length x) g.rest, length-append g.more rest)) in
    ap (digits_value 10) (e ∙ (ap (λ (x : List ℕ). decimal n ++ x) none ∙ append-nil (decimal n))) ∙ value_of_digits n small

due_decimal : (v : Version) (d : Due) (word : List ℕ) → IsDue v d word → word ≡ decimal (digits_value 10 word)
due_decimal v d word h = sym (digits_spelled word h.0.digits h.0.some h.0.lone (within_small v d (digits_value 10 word) h.1))

-- one that begins with no number is none that is due
pub too_great : (v : Version) (d : Due) (word : List ℕ) → ((n : ℕ) (rest : List ℕ) → n < 2 ^ 128 → NoDigit rest → word ≢ decimal n ++ rest) → IsDue v d word → ⊥
too_great v d word none h = none (digits_value 10 word) [] (within_small v d (digits_value 10 word) h.1) tt (due_decimal v d word h ∙ sym (append-nil (decimal (digits_value 10 word))))

-- as many numbers as are due
one_due : (v : Version) (a : Due) (ws : Lines) → AreDue v (a ∷ []) ws → (n : ℕ) × (ws ≡ decimal n ∷ []) × IsWithin v a n
one_due v a [] h = absurd h
one_due v a (w ∷ []) h = (digits_value 10 w, ap (λ (x : List ℕ). x ∷ []) (due_decimal v a w h.0), h.0.1)
one_due v a (w ∷ x ∷ ws) h = absurd h.1

two_due : (v : Version) (a b : Due) (ws : Lines) → AreDue v (a ∷ b ∷ []) ws → (m n : ℕ) × (ws ≡ decimal m ∷ decimal n ∷ []) × IsWithin v a m × IsWithin v b n
two_due v a b [] h = absurd h
two_due v a b (w ∷ ws) h =
    let on = one_due v b ws h.1 in
    (digits_value 10 w, on.0, (λ i. due_decimal v a w h.0 i ∷ on.1 i), h.0.1, on.2)

three_due : (v : Version) (a b c : Due) (ws : Lines) → AreDue v (a ∷ b ∷ c ∷ []) ws → (k m n : ℕ) × (ws ≡ decimal k ∷ decimal m ∷ decimal n ∷ []) × IsWithin v a k × IsWithin v b m × IsWithin v c n
three_due v a b c [] h = absurd h
three_due v a b c (w ∷ ws) h =
    let on = two_due v b c ws h.1 in
    (digits_value 10 w, on.0, on.1, (λ i. due_decimal v a w h.0 i ∷ on.2 i), h.0.1, on.3, on.4)

-- a line with these words
pub record Made (v : Version) (text : List ℕ) : Type 0 where
  pub line : Line
  pub text_is : text ≡ line_text line
  pub has : HasLine line
  pub fits : InOrder line → IsLineOf v line

pub made : (v : Version) (k : Kind) (ws : Lines) → HasKind v k → (k ≡ kind.Caller → ⊥) → AreDue v (due_of k) ws → Made v (kind_word k ++ joined ws)
made v kind.Caller ws has call h = absurd (call refl)
made v kind.Get ws has call h =
    let x = one_due v due.Key ws h in
    record { line = Call (Get x.0); text_is = ap (λ (ws : Lines). codes "get" ++ joined ws) x.1 ∙ simp append-nil; has = x.2; fits = λ _. x.2 }
made v kind.Del ws has call h =
    let x = one_due v due.Key ws h in
    record { line = Call (Del x.0); text_is = ap (λ (ws : Lines). codes "del" ++ joined ws) x.1 ∙ simp append-nil; has = x.2; fits = λ _. x.2 }
made v kind.Put ws has call h =
    let x = two_due v due.Key due.Value ws h in
    record { line = Call (Put x.0 x.1); text_is = ap (λ (ws : Lines). codes "put" ++ joined ws) x.2 ∙ simp (append_assoc, append-nil); has = (x.3, value_small v x.1 x.4); fits = λ _. (x.3, x.4) }
made v kind.Add ws has call h =
    let x = two_due v due.Key due.Value ws h in
    record { line = Call (Add x.0 x.1); text_is = ap (λ (ws : Lines). codes "add" ++ joined ws) x.2 ∙ simp (append_assoc, append-nil); has = (x.3, value_small v x.1 x.4); fits = λ _. (has, x.3, x.4) }
made v kind.Move ws has call h =
    let x = two_due v due.Key due.Key ws h in
    record { line = Call (Move x.0 x.1); text_is = ap (λ (ws : Lines). codes "move" ++ joined ws) x.2 ∙ simp (append_assoc, append-nil); has = (x.3, x.4); fits = λ apart. (has, x.3, x.4, apart) }
made v kind.Swap ws has call h =
    let x = three_due v due.Key due.Value due.Value ws h in
    record { line = Call (Swap x.0 x.1 x.2); text_is = ap (λ (ws : Lines). codes "swap" ++ joined ws) x.3 ∙ simp (append_assoc, append-nil); has = (x.4, value_small v x.1 x.5, value_small v x.2 x.6); fits = λ _. (has, x.4, x.5, x.6) }
made v kind.Scan ws has call h =
    let x = three_due v due.Key due.Key due.Parts ws h in
    record { line = Scan x.0 x.1 x.2; text_is = ap (λ (ws : Lines). codes "scan" ++ joined ws) x.3 ∙ simp (append_assoc, append-nil); has = (x.4, x.5, omega (arith, x.6.1)); fits = λ up. (has, up, x.5, x.6.0, x.6.1) }

pub may_call : (v : Version) (callers calls : ℕ) (k : Kind) → (k ≡ kind.Caller → ⊥) → MayCome v callers calls k → (0 < callers) × (calls < 1048576)
may_call v callers calls kind.Caller call h = absurd (call refl)
may_call v callers calls other call h = h

-- a caller's line has no other word
pub alone : (v : Version) (rest : List ℕ) → Behind 32 rest → AreDue v [] (words_behind rest) → rest ≡ []
alone v [] behind h = refl
alone v (b ∷ rest) behind h = let w = some_words rest in absurd (subst (AreDue v []) w.2 h)

-- where a line of a kind may come
pub place_told : (v : Version) (callers calls : ℕ) (k : Kind) (why : Reason) → (k ≡ kind.Caller → ⊥) → ((callers ≡ 0) × (why ≡ NoCaller)) ⊎ ((0 < callers) × (1048576 ≤ calls) × (why ≡ TooManyCalls)) → Misplaced v callers calls k why
place_told v callers calls kind.Caller why call h = absurd (call refl)
place_told v callers calls other why call h = h

pub call_told : (v : Version) (callers calls : ℕ) (k : Kind) → (k ≡ kind.Caller → ⊥) → (0 < callers) × (calls < 1048576) → MayCome v callers calls k
call_told v callers calls kind.Caller call h = absurd (call refl)
call_told v callers calls other call h = h

-- a line that is refused though its numbers are due
pub scan_told : (v : Version) (parts low last most : ℕ) → low ≤ last → (low ≤ last → IsLineOf v (Scan low last most)) → (IsLineWithin v parts (Scan low last most) → ⊥) → Disorder parts (Scan low last most) TooManyParts
scan_told v parts low last most up fits refused =
    elim (cases_lt parts most) [
      | inl past ↦ inr (up, past, refl)
      | inr few ↦ absurd (refused (fits up, few))
    ]

pub move_told : (v : Version) (parts : ℕ) (op : Op) → (InOrder (Call op) → IsLineOf v (Call op)) → (IsLineWithin v parts (Call op) → ⊥) → Disorder parts (Call op) SameKey
move_told v parts (Move from to) fits refused =
    elim (eqb_tells from to) [
      | inl same ↦ (same.1, refl)
      | inr other ↦ absurd (refused (fits other.1, omega arith))
    ]
move_told v parts other fits refused = absurd (refused (fits tt, omega arith))

-- a line of such words is read
module _ (v : Version) (callers calls parts : ℕ) (text word rest : List ℕ) (split : text ≡ word ++ rest) (lacks : Lacks 32 word) (behind : Behind 32 rest) where
  -- the words of the line are these
  pub misfit : (why : Reason) → Misfit v callers calls parts text (word ∷ words_behind rest) why → Misfit v callers calls parts text (words_of text) why
  misfit why h = subst (λ (ws : Lines). Misfit v callers calls parts text ws why) (sym (ap words_of split ∙ cut_words word rest lacks behind)) h

  pub of_kind : (k : Kind) (why : Reason) → word ≡ kind_word k → MisfitOf v callers calls parts text k (words_behind rest) why → Misfit v callers calls parts text (words_of text) why
  of_kind k why is h = misfit why (inr (inr (k, is, h)))

  module _ (k : Kind) (is : word ≡ kind_word k) (has : HasKind v k) (may : MayCome v callers calls k) (due : AreDue v (due_of k) (words_behind rest)) (no_caller : callers < callers_limit v → text ≢ codes "caller") where
    pub is_call : k ≡ kind.Caller → ⊥
    is_call same =
        let none : rest ≡ [] = alone v rest behind (subst (λ (j : Kind). AreDue v (due_of j) (words_behind rest)) same due) in
        no_caller (subst (MayCome v callers calls) same may) (split ∙ (λ i. (is ∙ ap kind_word same) i ++ none i))

    pub line_made : Made v text
    line_made = subst (Made v) (sym (split ∙ (λ i. is i ++ joined_behind rest behind i))) (made v k (words_behind rest) has is_call due)

    -- that line is the one that is read, and it is refused
    pub unread : ((line : Line) (tail : List ℕ) → HasLine line → NoDigit tail → text ≢ line_text line ++ tail) → ⊥
    unread none = none line_made.line [] line_made.has tt (line_made.text_is ∙ sym (append-nil (line_text line_made.line)))

    module _ (line : Line) (tail : List ℕ) (wide : HasLine line) (text_is : text ≡ line_text line ++ tail) (free : NoDigit tail) where
      pub same_line : (line_made.line ≡ line) × ([] ≡ tail)
      same_line = one_line line_made.line line [] tail (is_wide line_made.line line_made.has) (is_wide line wide) tt free (append-nil (line_text line_made.line) ∙ (sym line_made.text_is ∙ text_is))

      pub read_fits : InOrder line → IsLineOf v line
      read_fits = subst (λ (l : Line). InOrder l → IsLineOf v l) same_line.0 line_made.fits

      pub read_text : text ≡ line_text line
      read_text = line_made.text_is ∙ ap line_text same_line.0

      pub disordered : (0 < callers → calls < 1048576 → (l : Line) → IsLineWithin v parts l → text ≢ line_text l) → (why : Reason) → ((IsLineWithin v parts line → ⊥) → Disorder parts line why) → Misfit v callers calls parts text (words_of text) why
      disordered refused why told =
          let places = may_call v callers calls k is_call may in
          of_kind k why is (inr (has, inr (may, inr (due, (line, read_text, told (λ h. refused places.0 places.1 line h read_text))))))
