-- Scripts as lines: how they are read back, and where a text stops to be one.
use Rattle.ks_script.proofs.Common.{ℕ, ◌≡◌, ◌+◌, ◌-◌, ◌<◌, ◌≤◌, List, [], ◌∷◌, ◌++◌, length, map, take, drop, get_or, codes, refl, sym, ap, subst, ◌∙◌, append_assoc, append-nil, arith, length-append, sum_by, AllByRecursion, Line, Version, First, Second, Third, Fourth, lines_of, FirstBad, version_line, parts_of, parts_in, IsLineOf, IsLineWithin, IsScript, SpellsScript, AreScript, line_text, script_lines, calls_in, Lines, NotFirst, NoneFirst, NoVersion, HasBegun, Reads, Stops, flat_map-append, caller_lines}
use Rattle.std.proofs.lemmas.List.Sums.{sum_by-append, sum_by-cons}
use Rattle.ks_script.proofs.Leading.{reads_on, reads_all, first_same, refused_at, told_apart}
use Rattle.ks_script.proofs.CallLines.{first, wide_line, spelled, one_line}
use Rattle.ks_script.proofs.Lined.{no_more}
use Rattle.ks_script.proofs.Steps.{all_right}
use Rattle.ks_script.specs.Reasons.{Amiss, IsReason}
use Rattle.ks_script.specs.declared.reasons.Reason.{Reason}

abbrev pub EachOf : Version → List (List Line) → Type 0
EachOf v script = AllByRecursion (AllByRecursion (IsLineOf v)) script

-- one caller more was read
pub next_read : (v : Version) (bytes rest more left : List ℕ) (all : List (List Line)) (ops : List Line) (n k : ℕ) → Reads (version_line v ++ script_lines all) bytes rest n → lines_of rest ≡ codes "caller" ∷ lines_of more → Reads (map line_text ops) more left (length ops) → k ≡ n + 1 + length ops → Reads (version_line v ++ script_lines (all ++ ops ∷ [])) bytes left k
next_read v bytes rest more left all ops n k read line calls sum =
    subst (λ (front : Lines). Reads front bytes left k)
    (append_assoc (version_line v) (script_lines all) (caller_lines ops) ∙ ap (λ (ls : Lines). version_line v ++ ls) (sym (flat_map-append caller_lines all (ops ∷ []) ∙ ap (λ (ls : Lines). script_lines all ++ ls) (append-nil (caller_lines ops)))))
    (reads_on (version_line v ++ script_lines all) (caller_lines ops) bytes rest left n (1 + length ops) k read (reads_on (codes "caller" ∷ []) (map line_text ops) rest more left 1 (length ops) (1 + length ops) (record { lines_are = line; counted = refl }) calls refl) (omega arith))

-- lines that go on with nothing of a script
pub record Apart (version : Version) (behind : Lines) : Type 0 where
  pub no_version : NoVersion behind
  pub no_caller : NotFirst (codes "caller") behind
  pub no_line : NoneFirst (IsLineOf version) line_text behind

pub alone : (version : Version) → Apart version []
alone version = record { no_version = (tt, tt, tt); no_caller = tt; no_line = tt }

-- how a script goes on behind callers of it, the last of which may have more lines: with what is behind it, with a caller,
-- or with a line
pub data Next (v : Version) (all s : List (List Line)) (behind ls : Lines) : Type 0 where
  at_end : s ≡ all → ls ≡ behind → Next v all s behind ls
  at_caller : length all < length s → (more : Lines) → ls ≡ codes "caller" ∷ more → Next v all s behind ls
  at_line : 0 < length all → calls_in all < calls_in s → (l : Line) → IsLineOf v l → parts_in all + parts_of l ≤ parts_in s → (more : Lines) → ls ≡ line_text l ∷ more → Next v all s behind ls

module _ (v : Version) (behind : Lines) (apart : Apart v behind) where
  no_line : (s : List (List Line)) → NoneFirst (IsLineOf v) line_text (script_lines s ++ behind)
  no_line [] = apart.no_line
  no_line (o ∷ s) = λ l is e. (spelled v l is).apart.0 (sym (ap first e))

  one_more : (ops : List Line) (all s : List (List Line)) (ls : Lines) → Next v all s behind ls → Next v (ops ∷ all) (ops ∷ s) behind ls
  one_more ops all s ls (at_end e f) = at_end (ap (λ (xs : List (List Line)). ops ∷ xs) e) f
  one_more ops all s ls (at_caller fewer more e) = at_caller (omega arith) more e
  one_more ops all s ls (at_line some fewer l is within more e) = at_line (omega arith) (omega arith) l is (omega arith) more e

  next : (all s : List (List Line)) (ls : Lines) → EachOf v all → EachOf v s → script_lines all ++ ls ≡ script_lines s ++ behind → Next v all s behind ls
  next [] [] ls h k e = at_end refl e
  next [] (o ∷ s) ls h k e = at_caller (omega arith) (map line_text o ++ (script_lines s ++ behind)) (e ∙ append_assoc (caller_lines o) (script_lines s) behind)
  next (ops ∷ all) [] ls h k e = absurd (subst (NotFirst (codes "caller")) (sym e) apart.no_caller refl)
  next (ops ∷ all) (o ∷ s) ls h k e =
      let on = told_apart (IsLineOf v) line_text (λ a b h k e. (one_line a b [] [] (wide_line v a h) (wide_line v b k) tt tt (ap (λ (text : List ℕ). text ++ []) e)).0) ops o (script_lines all ++ ls) (script_lines s ++ behind) h.0 k.0 (no_line s) (ap (λ (ls : Lines). drop 1 ls) (sym (append_assoc (caller_lines ops) (script_lines all) ls) ∙ (e ∙ append_assoc (caller_lines o) (script_lines s) behind))) in
      by_more on.0 on.1 on.2 (λ f. next all s ls h.1 k.1 f)
    where
      by_line : (rest : List (List Line)) (l : Line) (more : List Line) → o ≡ ops ++ l ∷ more → IsLineOf v l → script_lines rest ++ ls ≡ line_text l ∷ (map line_text more ++ (script_lines s ++ behind)) → Next v (ops ∷ rest) (o ∷ s) behind ls
      by_line [] l more f is g = at_line (omega arith) (omega (arith, ap (λ (xs : List Line). length xs) f, length-append ops (l ∷ more))) l is (omega (arith, ap (λ (xs : List Line). sum_by parts_of xs) f, sum_by-append parts_of ops (l ∷ more), sum_by-cons parts_of l more)) (map line_text more ++ (script_lines s ++ behind)) g
      by_line (x ∷ rest) l more f is g = absurd ((spelled v l is).apart.0 (sym (ap (λ (ls : Lines). first (get_or ls 0 [])) g)))

      by_more : (more : List Line) → o ≡ ops ++ more → script_lines all ++ ls ≡ map line_text more ++ (script_lines s ++ behind) → (script_lines all ++ ls ≡ script_lines s ++ behind → Next v all s behind ls) → Next v (ops ∷ all) (o ∷ s) behind ls
      by_more [] f g on = subst (λ (x : List Line). Next v (ops ∷ all) (x ∷ s) behind ls) (sym (f ∙ append-nil ops)) (one_more ops all s ls (on g))
      by_more (l ∷ more) f g on = by_line all l more f (all_right (IsLineOf v) ops (l ∷ more) (subst (AllByRecursion (IsLineOf v)) f k.0)).0 g

-- a line says each version but the first
opened : (s : List (List Line)) (ls : Lines) → (length s ≡ 0 → NoVersion ls) → NoVersion (script_lines s ++ ls)
opened [] ls h = h refl
opened (o ∷ s) ls h = (λ e. omega (arith, ap first e), λ e. omega (arith, ap first e), λ e. omega (arith, ap first e))

begun : (v : Version) (all : List (List Line)) (ls : Lines) → (length all ≡ 0 → HasBegun v ls) → HasBegun v (script_lines all ++ ls)
begun First all ls h = opened all ls h
begun other all ls h = tt

pub none_said : (v : Version) (ls : Lines) → NoVersion ls → HasBegun v ls
none_said First ls h = h
none_said other ls h = tt

begun_same : (v : Version) (l : List ℕ) (ls more : Lines) → HasBegun v (l ∷ ls) → HasBegun v (l ∷ more)
begun_same First l ls more h = h
begun_same other l ls more h = tt

one_version : (v w : Version) (a b : Lines) → HasBegun v a → NoVersion b → version_line v ++ a ≡ version_line w ++ b → (w ≡ v) × (a ≡ b)
one_version First First a b h k e = (refl, e)
one_version Second Second a b h k e = (refl, ap (λ (ls : Lines). drop 1 ls) e)
one_version Third Third a b h k e = (refl, ap (λ (ls : Lines). drop 1 ls) e)
one_version Fourth Fourth a b h k e = (refl, ap (λ (ls : Lines). drop 1 ls) e)
one_version First Second a b h k e = absurd (subst (NotFirst (codes "script 2")) e h.0 refl)
one_version First Third a b h k e = absurd (subst (NotFirst (codes "script 3")) e h.1 refl)
one_version First Fourth a b h k e = absurd (subst (NotFirst (codes "script 4")) e h.2 refl)
one_version Second First a b h k e = absurd (subst (NotFirst (codes "script 2")) (sym e) k.0 refl)
one_version Third First a b h k e = absurd (subst (NotFirst (codes "script 3")) (sym e) k.1 refl)
one_version Fourth First a b h k e = absurd (subst (NotFirst (codes "script 4")) (sym e) k.2 refl)
one_version v w a b h k e = absurd (omega (arith, ap (λ (ls : Lines). get_or (get_or ls 0 []) 7 0) e))

-- a text of a script that begins with the lines of these callers
pub script_next : (v : Version) (all : List (List Line)) (w : Version) (s : List (List Line)) (behind ls : Lines) → IsScript v all → IsScript w s → ((u : Version) → Apart u behind) → (length all ≡ 0 → HasBegun v ls) → (version_line v ++ script_lines all) ++ ls ≡ version_line w ++ (script_lines s ++ behind) → (w ≡ v) × Next v all s behind ls
script_next v all w s behind ls is good apart fresh e =
    let one = one_version v w (script_lines all ++ ls) (script_lines s ++ behind) (begun v all ls fresh) (opened s behind (λ _. (apart v).no_version)) (sym (append_assoc (version_line v) (script_lines all) ls) ∙ e) in
    (one.0, next v behind (apart v) all s ls is.each (subst (λ (u : Version). IsScript u s) one.0 good).each one.1)

-- if they stop, it goes on with what is behind the script
pub stuck : (v : Version) (all : List (List Line)) (w : Version) (s : List (List Line)) (behind ls : Lines) → IsScript v all → IsScript w s → ((u : Version) → Apart u behind) → Stops v all ls → (version_line v ++ script_lines all) ++ ls ≡ version_line w ++ (script_lines s ++ behind) → (s ≡ all) × (ls ≡ behind)
stuck v all w s behind ls is good apart stops e =
    let on = script_next v all w s behind ls is good apart stops.begun e in
    by_next (subst (λ (u : Version). IsScript u s) on.0 good) on.1
  where
    by_next : IsScript v s → Next v all s behind ls → (s ≡ all) × (ls ≡ behind)
    by_next good (at_end e f) = (e, f)
    by_next good (at_caller fewer more e) = absurd (subst (NotFirst (codes "caller")) e (stops.caller (let most = good.callers in omega arith)) refl)
    by_next good (at_line some fewer l line within more e) =
        absurd (subst (NoneFirst (IsLineWithin v (65536 - parts_in all)) line_text) e (stops.line some (let most = good.calls in omega arith)) l (line, (let most = good.parts in omega arith)) refl)

pub stops_none : (v : Version) (all : List (List Line)) → Stops v all []
stops_none v all = record { begun = λ _. none_said v [] (tt, tt, tt); caller = λ _. tt; line = λ _ _. tt }

pub stops_same : (v : Version) (all : List (List Line)) (a b : Lines) → take 1 a ≡ take 1 b → Stops v all b → Stops v all a
stops_same v all a b e h = first_same (Stops v all) (λ l ls more s. record { begun = λ none. begun_same v l ls more (s.begun none); caller = s.caller; line = s.line }) a b e h

-- all lines were read, or where nothing may follow, the first line of the rest is the first bad one
module _ (v : Version) (all : List (List Line)) (bytes rest : List ℕ) (n : ℕ) (read : Reads (version_line v ++ script_lines all) bytes rest n) (is : IsScript v all) where
  nothing_more : (w : Version) (s : List (List Line)) (ls : Lines) → Stops v all ls → SpellsScript w s ((version_line v ++ script_lines all) ++ ls) → (s ≡ all) × (ls ≡ [])
  nothing_more w s ls stops h = stuck v all w s [] ls is h.is alone stops (h.lines_are ∙ ap (λ (ls : Lines). version_line w ++ ls) (sym (append-nil (script_lines s))))

  pub reason : (why : Reason) → Amiss v (length all) (calls_in all) (65536 - parts_in all) (lines_of rest) why → IsReason (lines_of bytes) (n + 1) why
  reason why amiss = record { version = v; script = all; more = lines_of rest; is = is; lines_are = read.lines_are; place = omega (arith, read.counted); amiss = amiss }

  pub whole_script : rest ≡ [] → SpellsScript v all (lines_of bytes)
  whole_script end = record { is = is; lines_are = reads_all (version_line v ++ script_lines all) bytes rest n read end }

  pub one_read : rest ≡ [] → (w : Version) (s : List (List Line)) → SpellsScript w s (lines_of bytes) → s ≡ all
  one_read end w s h = (nothing_more w s [] (stops_none v all) (subst (SpellsScript w s) (reads_all (version_line v ++ script_lines all) bytes rest n read end ∙ sym (append-nil (version_line v ++ script_lines all))) h)).0

  pub stopped : Stops v all (lines_of rest) → 0 < length rest → FirstBad AreScript (lines_of bytes) (n + 1)
  stopped stops some =
      refused_at AreScript (lines_of bytes) (version_line v ++ script_lines all) (lines_of rest) n read.lines_are read.counted ([], (v, all, record { is = is; lines_are = append-nil (version_line v ++ script_lines all) }))
      (λ ls same h.
      no_more rest some ls (nothing_more h.0 h.1 ls (stops_same v all ls (lines_of rest) same stops) h.2).1 same)
