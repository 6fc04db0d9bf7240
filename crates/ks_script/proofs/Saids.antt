-- What may be said of a line of a script, as lines: how it is read back, and where nothing goes on.
use Rattle.ks_script.proofs.Common.{ℕ, suc, ◌≡◌, ◌+◌, ◌^◌, ◌<◌, ◌≤◌, List, [], ◌∷◌, ◌++◌, length, map, take, drop, get_or, codes, refl, sym, ap, subst, ◌∙◌, append_assoc, append-nil, arith, length-append, map-append, Some, decimal, AllByRecursion, Reply, Nothing, Version, IsLineOf, IsScript, Begins, Line, Call, Scan, Said, Scanned, Whole, Until, Pair, reply_line, pair_line, pair_words, part_line, stop_line, said_lines, IsPair, IsPart, IsStop, NoDigit, EndsLine, NotLined, Lines, NotFirst, NoneFirst, CanBeSaidOf, IsSaidOf, IsReplyOf, next_end, IsPartFrom, BeginsSaid, FirstBad, Reads, lines_of}
use Rattle.ks_history.specs.declared.Op.{Op}
use Rattle.ks_lines.specs.declared.parts.Part.{Part}
use Rattle.ks_lines.specs.declared.Said.TheVariants as said
use Rattle.ks_lines.specs.Scan.{PartsAscend, end_of, StopsAt, IsScanOf}
use Rattle.ks_script.proofs.Numerals.{wide}
use Rattle.ks_script.proofs.Lined.{number_told, end_free}
use Rattle.ks_script.proofs.CallLines.{first}
use Rattle.ks_script.proofs.Exact.{no_number}
use Rattle.ks_script.proofs.Rows.{one_reply}
use Rattle.ks_script.proofs.Leading.{reads_line, first_same, not_first_same, refused_at, told_apart}
use Rattle.ks_script.proofs.Steps.{all_right, all_append}

-- pairs of a part
space_apart : (tail x : List ℕ) → EndsLine tail → tail ≡ codes " " ++ x → ⊥
space_apart [] x ends e = omega (arith, ap (λ (y : List ℕ). length y) e)
space_apart (b ∷ tail) x ends e = let is : b ≡ 10 = ends in omega (arith, ap first e)

pub free_words : (ps : List Pair) (tail : List ℕ) → NoDigit tail → NoDigit (pair_words ps ++ tail)
free_words [] tail free = free
free_words (p ∷ ps) tail free = refl

pair_first : (p : Pair) (ps : List Pair) (tail : List ℕ) → pair_words (p ∷ ps) ++ tail ≡ codes " " ++ (decimal p.place ++ (codes " " ++ (decimal p.value ++ (pair_words ps ++ tail))))
pair_first p ps tail = simp append_assoc

same_pair : (x y : Pair) → x.place ≡ y.place → x.value ≡ y.value → x ≡ y
same_pair x y e f = λ i. record { place = e i; value = f i }

-- bytes that begin as these pairs, and are some pairs up to the end of a line
pub words_told : (ps qs : List Pair) (rest tail : List ℕ) → AllByRecursion IsPair ps → AllByRecursion IsPair qs → NoDigit rest → EndsLine tail → pair_words ps ++ rest ≡ pair_words qs ++ tail → (more : List Pair) × (qs ≡ ps ++ more) × (rest ≡ pair_words more ++ tail)
words_told [] qs rest tail h k free ends e = (qs, refl, e)
words_told (p ∷ ps) [] rest tail h k free ends e = absurd (space_apart tail (decimal p.place ++ (codes " " ++ (decimal p.value ++ (pair_words ps ++ rest)))) ends (sym e ∙ pair_first p ps rest))
words_told (p ∷ ps) (q ∷ qs) rest tail h k free ends e =
    let f = number_told p.place q.place (codes " " ++ (decimal p.value ++ (pair_words ps ++ rest))) (codes " " ++ (decimal q.value ++ (pair_words qs ++ tail))) (wide p.place h.0.0) (wide q.place k.0.0) refl refl (ap (λ (x : List ℕ). drop 1 x) (sym (pair_first p ps rest) ∙ (e ∙ pair_first q qs tail))) in
    let g = number_told p.value q.value (pair_words ps ++ rest) (pair_words qs ++ tail) h.0.1 k.0.1 (free_words ps rest free) (free_words qs tail (end_free tail ends)) (ap (λ (x : List ℕ). drop 1 x) f.1) in
    let on = words_told ps qs rest tail h.1 k.1 free ends g.1 in
    (on.0, ap (λ (x : Pair). x ∷ qs) (sym (same_pair p q f.0 g.0)) ∙ ap (λ (xs : List Pair). p ∷ xs) on.1, on.2)

-- so they are none, if the line does not end behind them, nor another pair is there
pub no_words : (ps : List Pair) (rest bytes : List ℕ) → bytes ≡ pair_words ps ++ rest → AllByRecursion IsPair ps → NoDigit rest → (EndsLine rest → ⊥) → (length ps < 16 → (p : Pair) (tail : List ℕ) → IsPair p → NoDigit tail → rest ≡ codes " " ++ (pair_line (p.place, p.value) ++ tail) → ⊥) →
    (qs : List Pair) → length qs ≤ 16 → AllByRecursion IsPair qs → NotLined (pair_words qs) bytes
no_words ps rest bytes read each free odd none qs few good tail ends e =
    let on = words_told ps qs rest tail each good free ends (sym read ∙ e) in
    by_more on.0 on.1 on.2
  where
    by_more : (more : List Pair) → qs ≡ ps ++ more → rest ≡ pair_words more ++ tail → ⊥
    by_more [] f g = odd (subst EndsLine (sym g) ends)
    by_more (m ∷ more) f g =
        none (omega (arith, ap (λ (xs : List Pair). length xs) f, length-append ps (m ∷ more))) m (pair_words more ++ tail) (all_right IsPair ps (m ∷ more) (subst (AllByRecursion IsPair) f good)).0 (free_words more tail (end_free tail ends))
        (g ∙ ap (λ (x : List ℕ). codes " " ++ x) (append_assoc (pair_line (m.place, m.value)) (pair_words more) tail))

one_pairs : (ps qs : List Pair) → AllByRecursion IsPair ps → AllByRecursion IsPair qs → pair_words ps ≡ pair_words qs → ps ≡ qs
one_pairs ps qs h k e =
    let on = words_told ps qs [] [] h k tt tt (append-nil (pair_words ps) ∙ (e ∙ sym (append-nil (pair_words qs)))) in
    sym (on.1 ∙ (ap (λ (xs : List Pair). ps ++ xs) (none on.0 on.2) ∙ append-nil ps))
  where
    none : (more : List Pair) → [] ≡ pair_words more ++ [] → more ≡ []
    none [] e = refl
    none (m ∷ more) e = absurd (omega (arith, ap (λ (y : List ℕ). length y) (e ∙ pair_first m more [])))

-- a part
pub part_first : (part : Part) (tail : List ℕ) → part_line part ++ tail ≡ decimal part.number ++ (codes " " ++ (decimal part.last ++ (pair_words part.pairs ++ tail)))
part_first part tail = simp append_assoc

pub some_part : (part : Part) → 0 < length (part_line part)
some_part part = omega (arith, length-append (pair_line (part.number, part.last)) (pair_words part.pairs), length-append (decimal part.number ++ codes " ") (decimal part.last), length-append (decimal part.number) (codes " "))

pub one_part : (p q : Part) → IsPart p → IsPart q → part_line p ≡ part_line q → p ≡ q
one_part p q h k e =
    let f = number_told p.number q.number (codes " " ++ (decimal p.last ++ (pair_words p.pairs ++ []))) (codes " " ++ (decimal q.last ++ (pair_words q.pairs ++ []))) (wide p.number h.0) (wide q.number k.0) refl refl (sym (part_first p []) ∙ (ap (λ (x : List ℕ). x ++ []) e ∙ part_first q [])) in
    let g = number_told p.last q.last (pair_words p.pairs ++ []) (pair_words q.pairs ++ []) (wide p.last h.1) (wide q.last k.1) (free_words p.pairs [] tt) (free_words q.pairs [] tt) (ap (λ (x : List ℕ). drop 1 x) f.1) in
    let pairs = one_pairs p.pairs q.pairs h.3 k.3 (sym (append-nil (pair_words p.pairs)) ∙ (g.1 ∙ append-nil (pair_words q.pairs))) in
    λ i. record { number = f.0 i; last = g.0 i; pairs = pairs i }

-- a part is no line that begins with another byte than a digit
pub part_apart : (part : Part) (line : List ℕ) → part.number < 2 ^ 64 → NoDigit line → part_line part ≡ line → ⊥
part_apart part line h free e = no_number part.number line (codes " " ++ (decimal part.last ++ (pair_words part.pairs ++ []))) (wide part.number h) free (sym e ∙ (sym (append-nil (part_line part)) ∙ part_first part []))

pub stop_free : (stop : Scanned) → NoDigit (stop_line stop)
stop_free Whole = refl
stop_free (Until next) = refl

abbrev pub head : Lines → List ℕ
head ls = get_or ls 0 []

rest_of : {l m : List ℕ} {ls ms : Lines} → l ∷ ls ≡ m ∷ ms → ls ≡ ms
rest_of e = ap (λ (ls : Lines). drop 1 ls) e

-- lines that begin as these parts, and are some parts, where a scan stopped, and more
pub parts_told : (ps qs : List Part) (stop : Scanned) (ls behind : Lines) → AllByRecursion IsPart ps → AllByRecursion IsPart qs → map part_line ps ++ ls ≡ map part_line qs ++ stop_line stop ∷ behind → (more : List Part) × (qs ≡ ps ++ more) × (ls ≡ map part_line more ++ stop_line stop ∷ behind)
parts_told ps qs stop ls behind h k e = told_apart IsPart part_line one_part ps qs ls (stop_line stop ∷ behind) h k (λ p is f. part_apart p (stop_line stop) is.0 (stop_free stop) (sym f)) e

-- parts that ascend
pub ascend_right : (low last : ℕ) (ps qs : List Part) → PartsAscend low last (ps ++ qs) → PartsAscend (next_end low ps) last qs
ascend_right low last [] qs h = h
ascend_right low last (p ∷ ps) qs h = ascend_right (suc p.last) last ps qs h.2

pub ascend_append : (low last : ℕ) (ps qs : List Part) → PartsAscend low last ps → PartsAscend (next_end low ps) last qs → PartsAscend low last (ps ++ qs)
ascend_append low last [] qs h k = k
ascend_append low last (p ∷ ps) qs h k = (h.0, h.1, ascend_append (suc p.last) last ps qs h.2 k)

pub next_push : (low : ℕ) (ps : List Part) (p : Part) → next_end low (ps ++ p ∷ []) ≡ suc p.last
next_push low [] p = refl
next_push low (q ∷ ps) p = next_push (suc q.last) ps p

pub end_push : (ps : List Part) (p : Part) → end_of (ps ++ p ∷ []) ≡ Some p.last
end_push [] p = refl
end_push (q ∷ []) p = refl
end_push (q ∷ r ∷ ps) p = end_push (r ∷ ps) p

end_is : (low : ℕ) (ps : List Part) (e : ℕ) → end_of ps ≡ Some e → next_end low ps ≡ suc e
end_is low [] e h = absurd (let no_way : ⊥ = cc in no_way)
end_is low (p ∷ []) e h = let same : p.last ≡ e = cc in ap suc same
end_is low (p ∷ q ∷ ps) e h = end_is (suc p.last) (q ∷ ps) e h

-- the end of some parts
pub some_end : (low : ℕ) (ps : List Part) → 0 < length ps → (e : ℕ) × (end_of ps ≡ Some e) × (next_end low ps ≡ suc e)
some_end low [] some = absurd (omega arith)
some_end low (p ∷ []) some = (p.last, refl, refl)
some_end low (p ∷ q ∷ ps) some = some_end (suc p.last) (q ∷ ps) (omega arith)

-- a scan stops at one place
one_end : (last most : ℕ) (ps : List Part) (s t : Scanned) → StopsAt last most ps s → StopsAt last most ps t → s ≡ t
one_end last most ps Whole Whole h k = refl
one_end last most ps Whole (Until n) h k = let below = k.3 in absurd (omega (arith, end_is 0 ps last h, end_is 0 ps k.1 k.2))
one_end last most ps (Until m) Whole h k = let below = h.3 in absurd (omega (arith, end_is 0 ps last k, end_is 0 ps h.1 h.2))
one_end last most ps (Until m) (Until n) h k = ap Until (h.4 ∙ (sym (end_is 0 ps h.1 h.2) ∙ (end_is 0 ps k.1 k.2 ∙ sym k.4)))

scans_told : (low last most : ℕ) (ps qs : List Part) (s t : Scanned) (x y : Lines) → IsSaidOf (Scan low last most) (said.Scan ps s) → IsSaidOf (Scan low last most) (said.Scan qs t) → (map part_line ps ++ stop_line s ∷ []) ++ x ≡ (map part_line qs ++ stop_line t ∷ []) ++ y → (said.Scan ps s ≡ said.Scan qs t) × (x ≡ y)
scans_told low last most ps qs s t x y h k e =
    let on = parts_told ps qs t (stop_line s ∷ x) y h.1.0 k.1.0 (sym (append_assoc (map part_line ps) (stop_line s ∷ []) x) ∙ (e ∙ append_assoc (map part_line qs) (stop_line t ∷ []) y)) in
    none on.0 on.1 on.2
  where
    none : (more : List Part) → qs ≡ ps ++ more → stop_line s ∷ x ≡ map part_line more ++ stop_line t ∷ y → (said.Scan ps s ≡ said.Scan qs t) × (x ≡ y)
    none [] f g = let same = f ∙ append-nil ps in (ap (λ (z : Scanned). said.Scan ps z) (one_end last most ps s t h.0.stops (subst (λ (zs : List Part). StopsAt last most zs t) same k.0.stops)) ∙ ap (λ (zs : List Part). said.Scan zs t) (sym same), rest_of g)
    none (m ∷ more) f g = absurd (part_apart m (stop_line s) (all_right IsPart ps (m ∷ more) (subst (AllByRecursion IsPart) f k.1.0)).0.0 (stop_free s) (sym (ap head g)))

-- lines begin with one thing that may be said of a line
pub one_said : (line : Line) (a b : Said) (x y : Lines) → IsSaidOf line a → IsSaidOf line b → said_lines a ++ x ≡ said_lines b ++ y → (a ≡ b) × (x ≡ y)
one_said (Call op) (said.Call m r) (said.Call n s) x y h k e = (ap (λ (z : ℕ × Reply). said.Call z.0 z.1) (one_reply (m, r) (n, s) h.1 k.1 (ap head e)), rest_of e)
one_said (Call op) (said.Call m r) (said.Scan qs t) x y h k e = absurd k.0
one_said (Call op) (said.Scan ps s) b x y h k e = absurd h.0
one_said (Scan low last most) (said.Call m r) b x y h k e = absurd h.0
one_said (Scan low last most) (said.Scan ps s) (said.Call n r) x y h k e = absurd k.0
one_said (Scan low last most) (said.Scan ps s) (said.Scan qs t) x y h k e = scans_told low last most ps qs s t x y h k e

-- not where a part may follow
no_stop : (low last most : ℕ) (ps : List Part) (stop : Scanned) → length ps < most → next_end low ps ≤ last → StopsAt last most ps stop → ⊥
no_stop low last most ps Whole few next h = omega (arith, end_is low ps last h)
no_stop low last most ps (Until n) few next h = let all = h.0 in omega arith

none_of : {X : Type 0} (Is : X → Type 0) (line : X → List ℕ) (ls : Lines) → ((x : X) → Is x → ⊥) → NoneFirst Is line ls
none_of Is line [] none = tt
none_of Is line (l ∷ ls) none = λ x is e. none x is

-- parts of a scan that were read, behind which one may end with the key `next` first
pub record PartsRead (low last most : ℕ) (ps : List Part) (next : ℕ) (bytes rest : List ℕ) : Type 0 where
  pub each : AllByRecursion IsPart ps
  pub ascend : PartsAscend low last ps
  pub few : length ps ≤ most
  pub from : next ≡ next_end low ps
  pub read : Reads (map part_line ps) bytes rest (length ps)

module _ (low last most : ℕ) (ps : List Part) (next : ℕ) (bytes rest : List ℕ) (parts : PartsRead low last most ps next bytes rest) where
  -- one part more
  pub part_read : (qs : List Part) (p : Part) (more : List ℕ) → qs ≡ ps ++ p ∷ [] → length ps < most → IsPartFrom next last p → lines_of rest ≡ part_line p ∷ lines_of more → PartsRead low last most qs (p.last + 1) bytes more
  part_read qs p more e few is line = subst (λ (xs : List Part). PartsRead low last most xs (p.last + 1) bytes more) (sym e) (record {
    each = all_append IsPart ps (p ∷ []) parts.each (is.2, tt);
    ascend = ascend_append low last ps (p ∷ []) parts.ascend (omega (arith, parts.from, is.0), is.1, tt);
    few = omega (arith, length-append ps (p ∷ []));
    from = omega (arith, next_push low ps p);
    read = subst (λ (ls : Lines). Reads ls bytes more (length (ps ++ p ∷ []))) (sym (map-append part_line ps (p ∷ []))) (reads_line (map part_line ps) (part_line p) bytes rest more (length ps) (length (ps ++ p ∷ [])) parts.read line (length-append ps (p ∷ [])));
  })

  -- the last one
  pub last_read : (qs : List Part) (p : Part) (more : List ℕ) → qs ≡ ps ++ p ∷ [] → length ps < most → IsPartFrom next last p → lines_of rest ≡ part_line p ∷ lines_of more → p.last ≡ last → PartsRead low last most qs (p.last + 1) bytes more × StopsAt last most qs Whole
  last_read qs p more e few is line end = (part_read qs p more e few is line, ap end_of e ∙ (end_push ps p ∙ ap Some end))

  -- where the scan stops
  pub stops_there : (stop : Scanned) → StopsAt last most ps stop → IsStop stop → IsSaidOf (Scan low last most) (said.Scan ps stop)
  stops_there stop stops small = (record { ascend = parts.ascend; few = parts.few; stops = stops }, (parts.each, small))

  pub until : most ≤ length ps → 1 ≤ most → next ≤ last → StopsAt last most ps (Until next)
  until full some within = let e = some_end low ps (omega arith) in (omega (arith, parts.few), e.0, e.1, omega (arith, parts.from, e.2), parts.from ∙ e.2)

  -- nothing goes on
  scan_unsaid : Begins (BeginsSaid (Scan low last most)) (map part_line ps) → (length ps < most → NoneFirst (IsPartFrom next last) part_line (lines_of rest)) → ((stop : Scanned) → StopsAt last most ps stop → NotFirst (stop_line stop) (lines_of rest)) → FirstBad (BeginsSaid (Scan low last most)) (lines_of bytes) (length ps + 1)
  scan_unsaid goes no_part no_end = refused_at (BeginsSaid (Scan low last most)) (lines_of bytes) (map part_line ps) (lines_of rest) (length ps) parts.read.lines_are parts.read.counted goes (λ ls same h. odd ls same h.0 h.1 h.2 h.3)
    where
      by_more : (more : List Part) (stop : Scanned) (ls behind : Lines) → IsScanOf low last most (ps ++ more) stop → AllByRecursion IsPart more → take 1 ls ≡ take 1 (lines_of rest) → ls ≡ map part_line more ++ stop_line stop ∷ behind → ⊥
      by_more [] stop ls behind scan good same e = subst (NotFirst (stop_line stop)) e (not_first_same (stop_line stop) ls (lines_of rest) same (no_end stop (subst (λ (xs : List Part). StopsAt last most xs stop) (append-nil ps) scan.stops))) refl
      by_more (p ∷ more) stop ls behind scan good same e =
          let limit = scan.few in
          let fits = ascend_right low last ps (p ∷ more) scan.ascend in
          subst (NoneFirst (IsPartFrom next last) part_line) e (first_same (NoneFirst (IsPartFrom next last) part_line) (λ l ls more h. h) ls (lines_of rest) same (no_part (omega (arith, length-append ps (p ∷ more))))) p (omega (arith, fits.0, parts.from), fits.1, good.0) refl

      odd : (ls : Lines) → take 1 ls ≡ take 1 (lines_of rest) → (x : Said) (behind : Lines) → IsSaidOf (Scan low last most) x → map part_line ps ++ ls ≡ said_lines x ++ behind → ⊥
      odd ls same (said.Call n r) behind is e = is.0
      odd ls same (said.Scan qs stop) behind is e =
          let on = parts_told ps qs stop ls behind parts.each is.1.0 (e ∙ append_assoc (map part_line qs) (stop_line stop ∷ []) behind) in
          by_more on.0 stop ls behind (subst (λ (xs : List Part). IsScanOf low last most xs stop) on.1 is.0) (all_right IsPart ps on.0 (subst (AllByRecursion IsPart) on.1 is.1.0)) same on.2

  -- where a part must follow: one that ends with the last key goes on
  pub part_unsaid : last < 2 ^ 64 → length ps < most → next ≤ last → NoneFirst (IsPartFrom next last) part_line (lines_of rest) → FirstBad (BeginsSaid (Scan low last most)) (lines_of bytes) (length ps + 1)
  part_unsaid small few within none =
      let part : Part = record { number = 0; last = last; pairs = [] } in
      let is : IsPart part = (omega arith, small, omega arith, tt) in
      let scan : IsScanOf low last most (ps ++ part ∷ []) Whole = record {
        ascend = ascend_append low last ps (part ∷ []) parts.ascend (omega (arith, parts.from), omega arith, tt);
        few = omega (arith, length-append ps (part ∷ []));
        stops = end_push ps part;
      } in
      scan_unsaid (part_line part ∷ codes "whole" ∷ [], (said.Scan (ps ++ part ∷ []) Whole, [], (scan, (all_append IsPart ps (part ∷ []) parts.each (is, tt), tt)), simp (map-append, append_assoc, append-nil))) (λ _. none) (λ stop stops. absurd (no_stop low last most ps stop few (omega (arith, parts.from)) stops))

  -- and where the scan must stop
  pub stop_unsaid : (stop : Scanned) → StopsAt last most ps stop → IsStop stop → NotFirst (stop_line stop) (lines_of rest) → FirstBad (BeginsSaid (Scan low last most)) (lines_of bytes) (length ps + 1)
  stop_unsaid stop stops small odd =
      scan_unsaid (stop_line stop ∷ [], (said.Scan ps stop, [], stops_there stop stops small, sym (append-nil (map part_line ps ++ stop_line stop ∷ []))))
      (λ less. none_of (IsPartFrom next last) part_line (lines_of rest) (λ p is. let from = is.0 in let upto = is.1 in no_stop low last most ps stop less (omega (arith, parts.from)) stops))
      (λ other is. subst (λ (s : Scanned). NotFirst (stop_line s) (lines_of rest)) (one_end last most ps stop other stops is) odd)

-- no reply
pub call_unsaid : (op : Op) (lines : Lines) → NoneFirst (IsReplyOf op) reply_line lines → FirstBad (BeginsSaid (Call op)) lines 1
call_unsaid op lines none =
    refused_at (BeginsSaid (Call op)) lines [] lines 0 refl refl (reply_line (0, Nothing) ∷ [], (said.Call 0 Nothing, [], (tt, (omega arith, tt)), refl))
    (λ ls same h. odd ls (first_same (NoneFirst (IsReplyOf op) reply_line) (λ l ls more h. h) ls lines same none) h.0 h.1 h.2 h.3)
  where
    odd : (ls : Lines) → NoneFirst (IsReplyOf op) reply_line ls → (x : Said) (behind : Lines) → IsSaidOf (Call op) x → ls ≡ said_lines x ++ behind → ⊥
    odd ls none (said.Call n r) behind is e = subst (NoneFirst (IsReplyOf op) reply_line) e none (n, r) (is.1, is.0) refl
    odd ls none (said.Scan ps stop) behind is e = is.0

-- something may be said of each line of a script
pub can_be_said : (version : Version) (line : Line) → IsLineOf version line → CanBeSaidOf line
can_be_said version (Call op) is = tt
can_be_said version (Scan low last most) is = (is.1, is.2, is.3)

all_weaker : {X : Type 0} (P Q : X → Type 0) → ((x : X) → P x → Q x) → (xs : List X) → AllByRecursion P xs → AllByRecursion Q xs
all_weaker P Q weaker [] h = tt
all_weaker P Q weaker (x ∷ xs) h = (weaker x h.0, all_weaker P Q weaker xs h.1)

pub open_script : (version : Version) (script : List (List Line)) → IsScript version script → AllByRecursion (AllByRecursion CanBeSaidOf) script
open_script version script is = all_weaker (AllByRecursion (IsLineOf version)) (AllByRecursion CanBeSaidOf) (all_weaker (IsLineOf version) CanBeSaidOf (can_be_said version)) script is.each
