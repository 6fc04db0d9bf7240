-- Runs as lines: how they are read back, and where a text stops to be one.
use Rattle.ks_script.proofs.Common.{ℕ, ◌≡◌, ◌+◌, ◌-◌, ◌<◌, List, [], ◌∷◌, ◌++◌, length, map, take, drop, codes, refl, sym, ap, subst, ◌∙◌, append_assoc, append-nil, arith, length-append, false≢true, Ok, Err, Result, decimal, AllByRecursion, Line, Call, Scan, Said, Whole, Nothing, RunFault, lines_of, FirstBad, Run, run_lines, pair_line, said_lines, callers_from, map_lines, IsSaid, AscendFrom, IsRunOf, Lines, NotFirst, NoneFirst, Reads, CanBeSaidOf, IsSaidOf, BeginsSaid, Replies, BeginsReplies, BeginsWith, Begins, ◌⊎◌, inl, inr, take-append-drop, get_or, get_or_default, length-take-le, next_key, IsPairFrom, SpellsRun, AreRun, flat_map, flat_map-append, MayAnswer, AllBoth}
use Rattle.std.specs.Result.{IsErr, IsErrAnd}
use Rattle.ks_script.specs.declared.fault.RunFault.TheVariants as run
use Rattle.ks_lines.specs.declared.Said.TheVariants as said
use Rattle.ks_script.proofs.Numerals.{wide}
use Rattle.ks_script.proofs.CallLines.{one_pair}
use Rattle.ks_script.proofs.Exact.{no_number}
use Rattle.ks_script.proofs.Lined.{no_more}
use Rattle.ks_script.proofs.Leading.{reads_on, reads_line, reads_all, first_same, not_first_same, bad_behind, bad_no_text, refused_at, told_apart}
use Rattle.ks_script.proofs.Both.{both_length, both_step, both_append, both_map, both_join, both_split, told_all, told_next}
use Rattle.ks_script.proofs.Texts.{cut_at, one_caller, callers_append, callers_push}
use Rattle.ks_script.proofs.Steps.{all_right}
use Rattle.ks_script.proofs.Spelled.{each_pair}
use Rattle.ks_script.proofs.Saids.{one_said}

abbrev pub head_line : ℕ → List ℕ
head_line n = codes "caller " ++ decimal n

-- pairs that ascend
ascend_right : (n : ℕ) (ps more : List (ℕ × ℕ)) → AscendFrom n (ps ++ more) → AscendFrom (next_key n ps) more
ascend_right n [] more h = h
ascend_right n (p ∷ ps) more h = ascend_right (p.0 + 1) ps more h.3

pub ascend_push : (n : ℕ) (ps : List (ℕ × ℕ)) (x : ℕ × ℕ) → AscendFrom n ps → IsPairFrom (next_key n ps) x → AscendFrom n (ps ++ x ∷ [])
ascend_push n [] x a is = (is.0, is.1, is.2, tt)
ascend_push n (p ∷ ps) x a is = (a.0, a.1, a.2, ascend_push (p.0 + 1) ps x a.3 is)

pub next_key_push : (n : ℕ) (ps : List (ℕ × ℕ)) (x : ℕ × ℕ) → next_key n (ps ++ x ∷ []) ≡ x.0 + 1
next_key_push n [] x = refl
next_key_push n (p ∷ ps) x = next_key_push (p.0 + 1) ps x

-- a pair is not `end`
no_end_pair : NoneFirst (IsPairFrom 0) pair_line (codes "end" ∷ [])
no_end_pair = λ x is e. no_number x.0 (codes "end") (codes " " ++ decimal x.1) (wide x.0 is.1) refl (e ∙ append_assoc (decimal x.0) (codes " ") (decimal x.1))

-- lines as far as those of some things, where such a thing comes in texts of G: their first bad line is that of the text
cut_two : (a b c d : Lines) → a ++ b ≡ c ++ d → ((w : Lines) × (c ≡ a ++ w)) ⊎ ((w : Lines) × (a ≡ c ++ w))
cut_two [] b c d e = inl (c, refl)
cut_two (l ∷ a) b [] d e = inr (l ∷ a, refl)
cut_two (l ∷ a) b (m ∷ c) d e =
    let same : l ≡ m = cc in
    let rest : a ++ b ≡ c ++ d = cc in
    elim (cut_two a b c d rest) [ inl on ↦ inl (on.0, (λ i. sym same i ∷ on.1 i)) | inr on ↦ inr (on.0, (λ i. same i ∷ on.1 i)) ]

bad_within : {X : Type 0} (Is : X → Type 0) (of : X → Lines) (G : Lines → Type 0) (lines front back : Lines) (n k : ℕ) → lines ≡ front ++ back → n ≡ length front + k → ((x : X) → Is x → Begins G (front ++ of x)) → ((ls : Lines) → G (front ++ ls) → BeginsWith Is of ls) → FirstBad (BeginsWith Is of) back k → FirstBad G lines n
bad_within Is of G lines front back n k e sum goes only bad = bad_behind G (BeginsWith Is of) lines front back n k e sum bad.place begun only bad.refused
  where
    begun : Begins G (front ++ take (k - 1) back)
    begun =
        let b = bad.before in
        elim (cut_two (take (k - 1) back) b.0 (of b.1.0) b.1.1 b.1.3) [
          | inl on ↦ (let g = goes b.1.0 b.1.2 in (on.0 ++ g.0, subst G (ap (λ (ls : Lines). (front ++ ls) ++ g.0) on.1 ∙ simp append_assoc) g.1))
          | inr on ↦ absurd (bad_no_text (BeginsWith Is of) back k bad (b.1.0, on.0 ++ drop (k - 1) back, b.1.2, sym (take-append-drop (k - 1) back) ∙ (ap (λ (ls : Lines). ls ++ drop (k - 1) back) on.1 ∙ append_assoc (of b.1.0) on.0 (drop (k - 1) back))))
        ]

-- something that may be said of a line
abbrev pub AreOpen : List (List Line) → Type 0
AreOpen script = AllByRecursion (AllByRecursion CanBeSaidOf) script

abbrev blank : Line → Said
blank (Call op) = said.Call 0 Nothing
blank (Scan low last most) = said.Scan (record { number = 0; last = last; pairs = [] } ∷ []) Whole

fit_blank : (line : Line) → CanBeSaidOf line → IsSaidOf line (blank line)
fit_blank (Call op) can = (tt, (omega arith, tt))
fit_blank (Scan low last most) can = (record { ascend = (can.0, omega arith, tt); few = can.2; stops = refl }, (((omega arith, can.1, omega arith, tt), tt), tt))

fit_lines : (lines : List Line) → AllByRecursion CanBeSaidOf lines → AllBoth IsSaidOf lines (map blank lines)
fit_lines lines can = both_map CanBeSaidOf IsSaidOf blank fit_blank lines can

-- and of those of callers
abbrev pub blanks : List (List Line) → List Replies
blanks script = map (map blank) script

fit_blanks : (script : List (List Line)) → AreOpen script → AllBoth (AllBoth IsSaidOf) script (blanks script)
fit_blanks script can = both_map (AllByRecursion CanBeSaidOf) (AllBoth IsSaidOf) (map blank) fit_lines script can

-- what is said to callers, as part of a run
is_run : (script : List (List Line)) (callers : List Replies) (ps : List (ℕ × ℕ)) → AllBoth (AllBoth IsSaidOf) script callers → AscendFrom 0 ps → IsRunOf script (record { callers = callers; pairs = ps })
is_run script callers ps fit ascend =
    let is = both_split (AllBoth IsSaidOf) (AllBoth MayAnswer) (AllByRecursion IsSaid) (both_split IsSaidOf MayAnswer IsSaid (λ x y h. h)) script callers fit in
    record { answered = is.0; each = is.1; ascend = ascend }

said_of : (script : List (List Line)) (run : Run) → IsRunOf script run → AllBoth (AllBoth IsSaidOf) script run.callers
said_of script run is = both_join (AllBoth MayAnswer) (AllBoth IsSaidOf) (AllByRecursion IsSaid) (both_join MayAnswer IsSaidOf IsSaid (λ x y h k. (h, k))) script run.callers is.answered is.each

pub whole_run : (script : List (List Line)) → AreOpen script → IsRunOf script (record { callers = blanks script; pairs = [] })
whole_run script can = is_run script (blanks script) [] (fit_blanks script can) tt

-- the lines of what is said to a caller determine what it is
one_told : (n : ℕ) (lines : List Line) (c d : Replies) (u t : Lines) → AllBoth IsSaidOf lines c → AllBoth IsSaidOf lines d → one_caller n c ++ u ≡ one_caller n d ++ t → (c ≡ d) × (u ≡ t)
one_told n lines c d u t h k e = told_all IsSaidOf (λ _. said_lines) (λ _. flat_map said_lines) (λ _. refl) (λ _ y ys. refl) (λ _. one_said) 0 lines c d u t h k (ap (λ (ls : Lines). drop 1 ls) e)

-- the next line of a caller
module _ (lines : List Line) (can : AllByRecursion CanBeSaidOf lines) (i : ℕ) (line other : Line) (there : i < length lines) (at : line ≡ get_or lines i other) (rs : Replies) (fit : AllBoth IsSaidOf (take i lines) rs) (bytes rest : List ℕ) (count : ℕ) (read : Reads (flat_map said_lines rs) bytes rest count) where
  here : line ≡ get_or lines i line
  here = at ∙ get_or_default lines i other line there

  line_cut : lines ≡ take i lines ++ line ∷ drop (i + 1) lines
  line_cut = cut_at lines i line there here

  -- nothing goes on that may be said of it
  pub no_said : (k : ℕ) → FirstBad (BeginsSaid line) (lines_of rest) k → FirstBad (BeginsReplies lines) (lines_of bytes) (count + k)
  no_said k bad =
      bad_within (IsSaidOf line) said_lines (BeginsReplies lines) (lines_of bytes) (flat_map said_lines rs) (lines_of rest) (count + k) k read.lines_are (omega (arith, read.counted)) goes
      (λ ls h. told_next IsSaidOf (λ _. said_lines) (λ _. flat_map said_lines) (λ _. refl) (λ _ y ys. refl) (λ _. one_said) 0 (take i lines) line (drop (i + 1) lines) rs h.0 ls h.1 fit (subst (λ (xs : List Line). AllBoth IsSaidOf xs h.0) line_cut h.2) h.3) bad
    where
      goes : (x : Said) → IsSaidOf line x → Begins (BeginsReplies lines) (flat_map said_lines rs ++ said_lines x)
      goes x is =
          let after = drop (i + 1) lines in
          let left = map blank after in
          let opened = all_right CanBeSaidOf (take i lines) (line ∷ after) (subst (AllByRecursion CanBeSaidOf) line_cut can) in
          (flat_map said_lines left, (rs ++ x ∷ left, [], subst (λ (xs : List Line). AllBoth IsSaidOf xs (rs ++ x ∷ left)) (sym line_cut) (both_append IsSaidOf (take i lines) (line ∷ after) rs (x ∷ left) fit (is, fit_lines after opened.1)), simp (flat_map-append, append_assoc, append-nil)))

  -- what is said of it was read
  pub said_read : (all : Replies) (x : Said) (left : List ℕ) (r : ℕ) → all ≡ rs ++ x ∷ [] → IsSaidOf line x → Reads (said_lines x) rest left r → AllBoth IsSaidOf (take (i + 1) lines) all × Reads (flat_map said_lines all) bytes left (count + r)
  said_read all x left r e is more = (
    both_step IsSaidOf lines i line rs x all there here fit is e,
    subst (λ (front : Lines). Reads front bytes left (count + r)) (sym (ap (flat_map said_lines) e ∙ simp (flat_map-append, append-nil))) (reads_on (flat_map said_lines rs) (said_lines x) bytes rest left count r (count + r) read more refl),
  )

-- the next caller of a script
module _ (script : List (List Line)) (can : AreOpen script) (n : ℕ) (lines : List Line) (there : n < length script) (at : lines ≡ get_or script n lines) (callers : List Replies) (fit : AllBoth (AllBoth IsSaidOf) (take n script) callers) (bytes rest : List ℕ) (k : ℕ) (read : Reads (callers_from 0 callers) bytes rest k) where
  abbrev after : List (List Line)
  after = drop (n + 1) script

  cut : script ≡ take n script ++ lines ∷ after
  cut = cut_at script n lines there at

  opened : AreOpen (lines ∷ after)
  opened = all_right (AllByRecursion CanBeSaidOf) (take n script) (lines ∷ after) (subst AreOpen cut can)

  number : n ≡ 0 + length callers
  number = omega (arith, both_length (AllBoth IsSaidOf) (take n script) callers fit, length-take-le n script (omega arith))

  -- what comes next in a run
  next : (ls : Lines) → AreRun script (callers_from 0 callers ++ ls) → (c : Replies) × (behind : Lines) × AllBoth IsSaidOf lines c × (ls ≡ one_caller n c ++ behind)
  next ls h =
      let all = subst (λ (s : List (List Line)). AllBoth (AllBoth IsSaidOf) s h.0.callers) cut (said_of script h.0 h.1.is) in
      let on = told_next (AllBoth IsSaidOf) one_caller callers_from (λ _. refl) (λ _ c cs. refl) one_told 0 (take n script) lines after callers h.0.callers ls (map_lines h.0.pairs) fit all h.1.lines_are in
      (on.0, on.1, on.2, on.3 ∙ ap (λ (m : ℕ). one_caller m on.0 ++ on.1) (sym number))

  goes : (c : Replies) → AllBoth IsSaidOf lines c → Begins (AreRun script) (callers_from 0 callers ++ one_caller n c)
  goes c is =
      let all = callers ++ c ∷ blanks after in
      let fits = both_append (AllBoth IsSaidOf) (take n script) (lines ∷ after) callers (c ∷ blanks after) fit (is, fit_blanks after opened.1) in
      let behind = callers_from (0 + length callers + 1) (blanks after) ++ map_lines [] in
      let run : Run = record { callers = all; pairs = [] } in (
        behind,
        (
          run,
          record {
            is = is_run script all [] (subst (λ (s : List (List Line)). AllBoth (AllBoth IsSaidOf) s all) (sym cut) fits) tt;
            lines_are = ap (λ (m : ℕ). (callers_from 0 callers ++ one_caller m c) ++ behind) number ∙ simp (callers_append, append_assoc);
          },
        ),
      )

  -- no line of the next caller
  pub no_caller : NotFirst (head_line n) (lines_of rest) → FirstBad (AreRun script) (lines_of bytes) (k + 1)
  no_caller odd =
      let some = goes (map blank lines) (fit_lines lines opened.0) in
      refused_at (AreRun script) (lines_of bytes) (callers_from 0 callers) (lines_of rest) k read.lines_are read.counted
      (one_caller n (map blank lines) ++ some.0, subst (AreRun script) (append_assoc (callers_from 0 callers) (one_caller n (map blank lines)) some.0) some.1)
      (λ ls same h. subst (NotFirst (head_line n)) (next ls h).3 (not_first_same (head_line n) ls (lines_of rest) same odd) refl)

  -- no replies to it
  pub no_reply : (text : List ℕ) (j : ℕ) → lines_of rest ≡ head_line n ∷ lines_of text → FirstBad (BeginsReplies lines) (lines_of text) j → FirstBad (AreRun script) (lines_of bytes) (k + 1 + j)
  no_reply text j line bad =
      let front = callers_from 0 callers ++ head_line n ∷ [] in
      bad_within (AllBoth IsSaidOf lines) (flat_map said_lines) (AreRun script) (lines_of bytes) front (lines_of text) (k + 1 + j) j
      (read.lines_are ∙ (ap (λ (ls : Lines). callers_from 0 callers ++ ls) line ∙ sym (append_assoc (callers_from 0 callers) (head_line n ∷ []) (lines_of text)))) (omega (arith, read.counted, length-append (callers_from 0 callers) (head_line n ∷ [])))
      (λ c is. subst (Begins (AreRun script)) (sym (append_assoc (callers_from 0 callers) (head_line n ∷ []) (flat_map said_lines c))) (goes c is))
      (λ ls h. let on = next (head_line n ∷ ls) (subst (AreRun script) (append_assoc (callers_from 0 callers) (head_line n ∷ []) ls) h) in (on.0, on.1, on.2, ap (λ (ls : Lines). drop 1 ls) on.3)) bad

  -- what is said to it was read
  pub caller_read : (all : List Replies) (rs : Replies) (text left : List ℕ) (r : ℕ) → all ≡ callers ++ rs ∷ [] → AllBoth IsSaidOf lines rs → lines_of rest ≡ head_line n ∷ lines_of text → Reads (flat_map said_lines rs) text left r → AllBoth (AllBoth IsSaidOf) (take (n + 1) script) all × Reads (callers_from 0 all) bytes left (k + 1 + r)
  caller_read all rs text left r e is line more = (
    both_step (AllBoth IsSaidOf) script n lines callers rs all there at fit is e,
    subst (λ (front : Lines). Reads front bytes left (k + 1 + r)) (ap (λ (m : ℕ). callers_from 0 callers ++ one_caller m rs) number ∙ sym (ap (callers_from 0) e ∙ callers_push callers rs))
        (reads_on (callers_from 0 callers) (one_caller n rs) bytes rest left k (1 + r) (k + 1 + r) read
        (reads_on (head_line n ∷ []) (flat_map said_lines rs) rest text left 1 r (1 + r) (record { lines_are = line; counted = refl }) more refl) (omega arith)),
  )

module _ (script : List (List Line)) (callers : List Replies) (fit : AllBoth (AllBoth IsSaidOf) script callers) where
  abbrev pub with_pairs : List (ℕ × ℕ) → Run
  with_pairs ps = record { callers = callers; pairs = ps }

  -- runs that begin with all callers, and some pairs
  mapped : (run : Run) (ls : Lines) → SpellsRun script run (callers_from 0 callers ++ ls) → (callers ≡ run.callers) × (ls ≡ map_lines run.pairs)
  mapped run ls h = told_all (AllBoth IsSaidOf) one_caller callers_from (λ _. refl) (λ _ c cs. refl) one_told 0 script callers run.callers ls (map_lines run.pairs) fit (said_of script run h.is) h.lines_are

  abbrev pub to_pairs : List (ℕ × ℕ) → Lines
  to_pairs ps = callers_from 0 callers ++ codes "map" ∷ map pair_line ps

  paired : (ps : List (ℕ × ℕ)) (run : Run) (ls : Lines) → AscendFrom 0 ps → SpellsRun script run (to_pairs ps ++ ls) → (callers ≡ run.callers) × (left : List (ℕ × ℕ)) × (run.pairs ≡ ps ++ left) × AscendFrom (next_key 0 ps) left × (ls ≡ map pair_line left ++ codes "end" ∷ [])
  paired ps run ls ascend h =
      let on = mapped run (codes "map" ∷ (map pair_line ps ++ ls)) (subst (SpellsRun script run) (append_assoc (callers_from 0 callers) (codes "map" ∷ map pair_line ps) ls) h) in
      let pairs = told_apart (IsPairFrom 0) pair_line (λ a b h k e. one_pair a b h.1 h.2 k.1 k.2 e) ps run.pairs ls (codes "end" ∷ []) (each_pair 0 ps ascend) (each_pair 0 run.pairs h.is.ascend) no_end_pair (ap (λ (ls : Lines). drop 1 ls) on.1) in
      (on.0, pairs.0, pairs.1, ascend_right 0 ps pairs.0 (subst (AscendFrom 0) pairs.1 h.is.ascend), pairs.2)

  whole : (ps : List (ℕ × ℕ)) → to_pairs ps ++ codes "end" ∷ [] ≡ run_lines (with_pairs ps)
  whole ps = append_assoc (callers_from 0 callers) (codes "map" ∷ map pair_line ps) (codes "end" ∷ [])

  -- a run that begins with all lines of one is that one
  one_run : (ps : List (ℕ × ℕ)) (run : Run) (ls : Lines) → AscendFrom 0 ps → SpellsRun script run (run_lines (with_pairs ps) ++ ls) → (run ≡ with_pairs ps) × (ls ≡ [])
  one_run ps run ls ascend h =
      let on = paired ps run (codes "end" ∷ ls) ascend (subst (SpellsRun script run) (ap (λ (x : Lines). x ++ ls) (sym (whole ps)) ∙ append_assoc (to_pairs ps) (codes "end" ∷ []) ls) h) in
      by_left on.0 on.1 on.2 on.3 on.4
    where
      by_left : callers ≡ run.callers → (left : List (ℕ × ℕ)) → run.pairs ≡ ps ++ left → AscendFrom (next_key 0 ps) left → codes "end" ∷ ls ≡ map pair_line left ++ codes "end" ∷ [] → (run ≡ with_pairs ps) × (ls ≡ [])
      by_left c [] p h e = ((λ i. record { callers = sym c i; pairs = (p ∙ append-nil ps) i }), ap (λ (ls : Lines). drop 1 ls) e)
      by_left c (x ∷ left) p h e = absurd (subst (NoneFirst (IsPairFrom 0) pair_line) e no_end_pair x (omega arith, h.1, h.2) refl)

  module _ (bytes rest : List ℕ) (k : ℕ) (read : Reads (callers_from 0 callers) bytes rest k) where
    -- no `map`
    pub no_map : NotFirst (codes "map") (lines_of rest) → FirstBad (AreRun script) (lines_of bytes) (k + 1)
    no_map odd =
        refused_at (AreRun script) (lines_of bytes) (callers_from 0 callers) (lines_of rest) k read.lines_are read.counted (map_lines [], (with_pairs [], record { is = is_run script callers [] fit tt; lines_are = refl }))
        (λ ls same h. subst (NotFirst (codes "map")) (mapped h.0 ls h.1).1 (not_first_same (codes "map") ls (lines_of rest) same odd) refl)

    module _ (text left : List ℕ) (line : lines_of rest ≡ codes "map" ∷ lines_of text) (ps : List (ℕ × ℕ)) (ascend : AscendFrom 0 ps) (pairs : Reads (map pair_line ps) text left (length ps)) where
      upto : Reads (to_pairs ps) bytes left (k + 1 + length ps)
      upto =
          reads_on (callers_from 0 callers) (codes "map" ∷ map pair_line ps) bytes rest left k (1 + length ps) (k + 1 + length ps) read
          (reads_on (codes "map" ∷ []) (map pair_line ps) rest text left 1 (length ps) (1 + length ps) (record { lines_are = line; counted = refl }) pairs refl) (omega arith)

      -- no `end`
      pub no_end : NoneFirst (IsPairFrom (next_key 0 ps)) pair_line (lines_of left) → NotFirst (codes "end") (lines_of left) → FirstBad (AreRun script) (lines_of bytes) (k + 1 + length ps + 1)
      no_end none odd =
          refused_at (AreRun script) (lines_of bytes) (to_pairs ps) (lines_of left) (k + 1 + length ps) upto.lines_are upto.counted (codes "end" ∷ [], (with_pairs ps, record { is = is_run script callers ps fit ascend; lines_are = whole ps }))
          (λ ls same h.
          let on = paired ps h.0 ls ascend h.1 in
          stuck ls on.1 (first_same (NoneFirst (IsPairFrom (next_key 0 ps)) pair_line) (λ l ls more h. h) ls (lines_of left) same none) (not_first_same (codes "end") ls (lines_of left) same odd) on.3 on.4)
        where
          stuck : (ls : Lines) (more : List (ℕ × ℕ)) → NoneFirst (IsPairFrom (next_key 0 ps)) pair_line ls → NotFirst (codes "end") ls → AscendFrom (next_key 0 ps) more → ls ≡ map pair_line more ++ codes "end" ∷ [] → ⊥
          stuck ls [] none odd h e = subst (NotFirst (codes "end")) e odd refl
          stuck ls (x ∷ more) none odd h e = subst (NoneFirst (IsPairFrom (next_key 0 ps)) pair_line) e none x (h.0, h.1, h.2) refl

      module _ (behind : List ℕ) (end : lines_of left ≡ codes "end" ∷ lines_of behind) where
        all_read : Reads (run_lines (with_pairs ps)) bytes behind (k + 1 + length ps + 1)
        all_read = subst (λ (front : Lines). Reads front bytes behind (k + 1 + length ps + 1)) (whole ps) (reads_line (to_pairs ps) (codes "end") bytes left behind (k + 1 + length ps) (k + 1 + length ps + 1) upto end refl)

        -- more lines behind `end`
        pub past_end : 0 < length behind → FirstBad (AreRun script) (lines_of bytes) (k + 1 + length ps + 1 + 1)
        past_end some =
            refused_at (AreRun script) (lines_of bytes) (run_lines (with_pairs ps)) (lines_of behind) (k + 1 + length ps + 1) all_read.lines_are all_read.counted ([], (with_pairs ps, record { is = is_run script callers ps fit ascend; lines_are = append-nil (run_lines (with_pairs ps)) }))
            (λ ls same h. no_more behind some ls (one_run ps h.0 ls ascend h.1).1 same)

        -- all was read
        pub run_read : behind ≡ [] → SpellsRun script (with_pairs ps) (lines_of bytes)
        run_read none = record { is = is_run script callers ps fit ascend; lines_are = reads_all (run_lines (with_pairs ps)) bytes behind (k + 1 + length ps + 1) all_read none }

-- lines are those of one run of the script
pub one_run_of : (script : List (List Line)) (run other : Run) (ls : Lines) → SpellsRun script run ls → SpellsRun script other ls → other ≡ run
one_run_of script run other ls h k = (one_run script run.callers (said_of script run h.is) run.pairs other [] h.is.ascend (subst (SpellsRun script other) (h.lines_are ∙ sym (append-nil (run_lines run))) k)).0

-- the fault of a part, which is that of the whole
pub same_fault : {X : Type 0} (r : Result X RunFault) (f : RunFault) (n : ℕ) → IsErr r × IsErrAnd r (λ e. e ≡ f) → r ≡ Err (run.Refused n) → f ≡ run.Refused n
same_fault (Ok x) f n h e = absurd (false≢true h.0)
same_fault (Err g) f n h e = let is : g ≡ run.Refused n = cc in sym h.1 ∙ is
