-- Lines that a pairing does not serve, and the first of them in a text.
use Rattle.ks_script.proofs.Common.{ℕ, ◌≡◌, ◌+◌, ◌<◌, ◌≤◌, Bool, List, [], ◌∷◌, ◌++◌, length, map, take, drop, get_or, codes, refl, sym, ap, subst, ◌∙◌, append_assoc, arith, length-append, length-map, map-append, take-append-drop, get_or_append_left, AllByRecursion, Line, Call, Scan, Move, Version, First, lines_of, version_line, IsLineOf, IsScript, SpellsScript, line_text, script_lines, calls_in, Lines, All, flat_map-append, All-append, All-cons, All-head, All-map, All-nil, All-tail, All-weaker, IsServedLine, caller_lines, ScriptOf, IsUnfit, IsUnfitAt}
use Rattle.std.proofs.Math.Seq.{get_or-append_seam}
use Rattle.ks_lines.specs.Asked.{IsLine, AreServedLines}
use Rattle.ks_script.specs.Unserved.{FirstUnserved}
use Rattle.ks_script.proofs.Spelled.{few_callers}
use Rattle.ks_script.proofs.Steps.{all_right}
use Rattle.ks_script.proofs.Texts.{cut_at, taken_with}

all_at : {X : Type 0} (P : X → Type 0) (a : List X) (x : X) (b : List X) → All P (a ++ x ∷ b) → P x
all_at P [] x b h = All-head P x b h
all_at P (y ∷ a) x b h = all_at P a x b (All-tail P y (a ++ x ∷ b) h)

-- how many lines a script has, and its first callers
all_lines : (s : List (List Line)) → length (script_lines s) ≡ length s + calls_in s
all_lines [] = refl
all_lines (ls ∷ s) = omega (arith, all_lines s, length-append (caller_lines ls) (script_lines s), length-map ls line_text)

pub more_lines : (s : List (List Line)) (i : ℕ) (ls : List Line) → i < length s → ls ≡ get_or s i ls → length (script_lines (take (i + 1) s)) ≡ length (script_lines (take i s)) + (1 + length ls)
more_lines s i ls lt e = simp (taken_with s i ls lt e, flat_map-append, length-append, length-map) (omega arith)

pub few_lines : (v : Version) (s : List (List Line)) (i : ℕ) (ls : List Line) → IsScript v s → i < length s → ls ≡ get_or s i ls → length (script_lines (take i s)) + (1 + length ls) ≤ 1049600
few_lines v s i ls is lt e =
    let few = few_callers v (length s) is.callers in
    omega (arith, is.calls, all_lines s, more_lines s i ls lt e, simp (flat_map-append, length-append) at (ap (λ (x : List (List Line)). length (script_lines x)) (take-append-drop (i + 1) s)))

module _ (scans moves : Bool) where
  abbrev Served : Line → Type 0
  Served l = IsServedLine scans moves l

  abbrev Fit : List ℕ → Type 0
  Fit text = IsUnfit scans moves text → ⊥

  -- the fourth byte of a text shows a scan and a move
  told : (l m : Line) → Served l → (Served m → ⊥) → line_text l ≡ line_text m → ⊥
  told (Call (Move from to)) (Call (Move other place)) h un e = un h
  told (Scan low last most) (Scan from to few) h un e = un h
  told l (Call (Move from to)) h un e = omega (arith, ap (λ (text : List ℕ). get_or text 3 0) e)
  told l (Scan low last most) h un e = omega (arith, ap (λ (text : List ℕ). get_or text 3 0) e)
  told l other h un e = un tt

  fit_word : (text : List ℕ) → 101 < get_or text 3 0 → get_or text 3 0 < 110 → Fit text
  fit_word text above below unfit = by_line unfit.0 unfit.1 unfit.2
    where
      by_line : (l : Line) → text ≡ line_text l → (Served l → ⊥) → ⊥
      by_line (Call (Move from to)) e un = omega (arith, ap (λ (x : List ℕ). get_or x 3 0) e)
      by_line (Scan low last most) e un = omega (arith, ap (λ (x : List ℕ). get_or x 3 0) e)
      by_line other e un = un tt

  fit_version : (v : Version) → All Fit (version_line v)
  fit_version First = All-nil Fit
  fit_version other = All-cons Fit (get_or (version_line other) 0 []) [] (fit_word (get_or (version_line other) 0 []) (omega arith) (omega arith)) (All-nil Fit)

  fit_caller : (ls : List Line) → All Served ls → All Fit (caller_lines ls)
  fit_caller ls h = All-cons Fit (codes "caller") (map line_text ls) (fit_word (codes "caller") (omega arith) (omega arith)) (All-map Fit line_text ls (All-weaker Served (λ l. Fit (line_text l)) (λ l h u. told l u.0 h u.2 u.1) ls h))

  fit_script : (s : List (List Line)) → All (All Served) s → All Fit (script_lines s)
  fit_script [] h = All-nil Fit
  fit_script (ls ∷ s) h = All-append Fit (caller_lines ls) (script_lines s) (fit_caller ls (All-head (All Served) ls s h)) (fit_script s (All-tail (All Served) ls s h))

  -- the line of a script that is not served says its version
  unserved_says : (v : Version) (l : Line) → IsLineOf v l → (Served l → ⊥) → length (version_line v) ≡ 1
  unserved_says First (Call (Move from to)) is un = absurd is.0
  unserved_says First (Scan low last most) is un = absurd is.0
  unserved_says First other is un = absurd (un tt)
  unserved_says other l is un = refl

  -- where the line of a caller is the first, so is its text
  pub unfit_here : (v : Version) (s : List (List Line)) (bytes : List ℕ) (i : ℕ) (ls : List Line) (caller n : ℕ) → SpellsScript v s (lines_of bytes) → i < length s → ls ≡ get_or s i ls → FirstUnserved scans moves ls caller n → All (All Served) (take i s) → caller ≡ 2 + length (script_lines (take i s)) → IsUnfitAt scans moves bytes n
  unfit_here v s bytes i ls caller n h lt e u served number =
      let before : List (List Line) = take i s in
      let others : List (List Line) = drop (i + 1) s in
      let whole : s ≡ before ++ (u.earlier ++ u.line ∷ u.later) ∷ others = cut_at s i ls lt e ∙ ap (λ (x : List Line). before ++ x ∷ others) u.lines_are in
      let says = unserved_says v u.line (all_right (IsLineOf v) u.earlier (u.line ∷ u.later) (all_right (AllByRecursion (IsLineOf v)) before ((u.earlier ++ u.line ∷ u.later) ∷ others) (subst (AllByRecursion (AllByRecursion (IsLineOf v))) whole h.is.each)).0).0 u.unserved in
      let own : Lines = caller_lines u.earlier in
      let earlier : Lines = version_line v ++ (script_lines before ++ own) in
      record {
        earlier = earlier;
        text = line_text u.line;
        later = map line_text u.later ++ script_lines others;
        lines_are = h.lines_are ∙ (ap (λ (x : List (List Line)). version_line v ++ script_lines x) whole ∙ simp (flat_map-append, map-append, append_assoc));
        place = omega (arith, number, says, u.place, length-append (version_line v) (script_lines before ++ own), length-append (script_lines before) own, length-map u.earlier line_text);
        unfit = (u.line, refl, u.unserved);
        first = All-append Fit (version_line v) (script_lines before ++ own) (fit_version v) (All-append Fit (script_lines before) own (fit_script before served) (fit_caller u.earlier u.served));
      }

  -- and then not all are served
  pub not_served : (s : List (List Line)) (i : ℕ) (ls : List Line) (caller n : ℕ) → i < length s → ls ≡ get_or s i ls → FirstUnserved scans moves ls caller n → AreServedLines scans moves s → ⊥
  not_served s i ls caller n lt e u h =
      u.unserved (all_at (λ l. IsLine l × Served l) u.earlier u.line u.later (subst (All (λ l. IsLine l × Served l)) (sym e ∙ u.lines_are) (h i ls lt))).1

  -- a text has one such first line
  none_before : (bytes : List ℕ) (m n : ℕ) → IsUnfitAt scans moves bytes m → IsUnfitAt scans moves bytes n → m < n → ⊥
  none_before bytes m n a b lt =
      let k = length a.earlier in
      let there : get_or b.earlier k [] ≡ a.text = sym (get_or_append_left b.earlier (b.text ∷ b.later) [] k (omega (arith, a.place, b.place))) ∙ (ap (λ (ls : Lines). get_or ls k []) (sym b.lines_are ∙ a.lines_are) ∙ get_or-append_seam a.earlier a.text a.later []) in
      b.first k [] (omega (arith, a.place, b.place)) (subst (IsUnfit scans moves) (sym there) a.unfit)

  pub one_unfit : (bytes : List ℕ) (m n : ℕ) → IsUnfitAt scans moves bytes m → IsUnfitAt scans moves bytes n → m ≡ n
  one_unfit bytes m n a b = omega (arith, none_before bytes m n a b, none_before bytes n m b a)

  -- where all are served, it has none
  pub none_unfit : (s : List (List Line)) (bytes : List ℕ) (n : ℕ) → ScriptOf bytes s → All (All Served) s → IsUnfitAt scans moves bytes n → ⊥
  none_unfit s bytes n h served u =
      all_at Fit u.earlier u.text u.later (subst (All Fit) (sym h.1.lines_are ∙ u.lines_are) (All-append Fit (version_line h.0) (script_lines s) (fit_version h.0) (fit_script s served))) u.unfit
