-- A script and a run of it that were read line by line.
use Rattle.ks_script.proofs.Common.{ℕ, ◌≡◌, ◌+◌, ◌-◌, List, [], ◌∷◌, ◌++◌, take, drop, get_or, codes, refl, sym, ap, subst, ◌∙◌, append_assoc, arith, length-append, Ok, Err, Result, Line, TextFault, Refused, Memory, Version, lines_of, IsScript, version_line, script_lines, Run, run_lines, IsRunOf, SpellsChecked, AreChecked, CheckedOf, FirstBadOfChecked, Answers, Gives, Refuses, Says, Lines, NotFirst, RefusedBehind, Reads, Stops, SpellsRun, AreRun}
use Rattle.ks_script.proofs.Leading.{bad_behind, bad_no_text, one_bad, not_first_same, refused_at}
use Rattle.ks_script.proofs.CallLines.{first, spelled}
use Rattle.ks_script.proofs.ScriptRead.{Apart, Next, at_end, at_caller, at_line, none_said, script_next, stuck, stops_same}
use Rattle.ks_script.proofs.RunRead.{blanks, whole_run, one_run_of}
use Rattle.ks_script.proofs.Saids.{open_script}
use Rattle.ks_script.specs.Reasons.{IsCheckedReason, IsInRun}

-- `run` and lines behind it begin with nothing of a script
run_apart : (ls : Lines) (v : Version) → Apart v (codes "run" ∷ ls)
run_apart ls v = record { no_version = (λ e. omega (arith, ap first e), λ e. omega (arith, ap first e), λ e. omega (arith, ap first e)); no_caller = λ e. omega (arith, ap first e); no_line = λ op is e. (spelled v op is).apart.1 (sym (ap first e)) }

module _ (v : Version) (all : List (List Line)) (is : IsScript v all) where
  abbrev front : Lines
  front = version_line v ++ script_lines all

  -- a script and a run behind it, and no others
  made : (run : Run) (ls : Lines) → SpellsRun all run ls → SpellsChecked v all run (front ++ codes "run" ∷ ls)
  made run ls h = record { is_script = is; is_run = h.is; lines_are = append_assoc (version_line v) (script_lines all) (codes "run" ∷ ls) ∙ ap (λ (ls : Lines). version_line v ++ (script_lines all ++ codes "run" ∷ ls)) h.lines_are }

  only : (w : Version) (s : List (List Line)) (run : Run) (ls : Lines) → SpellsChecked w s run (front ++ codes "run" ∷ ls) → (s ≡ all) × SpellsRun all run ls
  only w s run ls h = by_next (script_next v all w s (codes "run" ∷ run_lines run) (codes "run" ∷ ls) is h.is_script (run_apart (run_lines run)) (λ _. none_said v (codes "run" ∷ ls) (run_apart ls v).no_version) h.lines_are).1
    where
      by_next : Next v all s (codes "run" ∷ run_lines run) (codes "run" ∷ ls) → (s ≡ all) × SpellsRun all run ls
      by_next (at_end e f) = (e, record { is = subst (λ (t : List (List Line)). IsRunOf t run) e h.is_run; lines_are = ap (λ (ls : Lines). drop 1 ls) f })
      by_next (at_caller fewer more e) = absurd (omega (arith, ap (λ (ls : Lines). first (get_or ls 0 [])) e))
      by_next (at_line some fewer l line within more e) = absurd ((spelled v l line).apart.1 (sym (ap (λ (ls : Lines). first (get_or ls 0 [])) e)))

  module _ (bytes rest : List ℕ) (n : ℕ) (read : Reads front bytes rest n) where
    -- `run` is missing
    pub no_run : Stops v all (lines_of rest) → NotFirst (codes "run") (lines_of rest) → FirstBadOfChecked bytes (n + 1)
    no_run stops odd =
        let some : Run = record { callers = blanks all; pairs = [] } in
        refused_at AreChecked (lines_of bytes) front (lines_of rest) n read.lines_are read.counted
        (codes "run" ∷ run_lines some, (v, all, some, made some (run_lines some) (record { is = whole_run all (open_script v all is); lines_are = refl })))
        (λ ls same h.
        let end = (stuck v all h.0 h.1 (codes "run" ∷ run_lines h.2) ls is h.3.is_script (run_apart (run_lines h.2)) (stops_same v all ls (lines_of rest) same stops) h.3.lines_are).1 in
        subst (NotFirst (codes "run")) end (not_first_same (codes "run") ls (lines_of rest) same odd) refl)

    module _ (text : List ℕ) (line : lines_of rest ≡ codes "run" ∷ lines_of text) where
      -- a bad line of the run
      pub bad_run : (k : ℕ) → RefusedBehind (n + 1) (AreRun all) (lines_of text) k → FirstBadOfChecked bytes k
      bad_run k bad =
          let b = bad.2 in
          bad_behind AreChecked (AreRun all) (lines_of bytes) (front ++ codes "run" ∷ []) (lines_of text) k bad.0 (read.lines_are ∙ (ap (λ (ls : Lines). front ++ ls) line ∙ sym (append_assoc front (codes "run" ∷ []) (lines_of text))))
          (omega (arith, bad.1, read.counted, length-append front (codes "run" ∷ []))) b.place
          (b.before.0, (v, all, b.before.1.0, subst (SpellsChecked v all b.before.1.0) (front_run (take (bad.0 - 1) (lines_of text)) b.before.0) (made b.before.1.0 (take (bad.0 - 1) (lines_of text) ++ b.before.0) b.before.1.1)))
          (λ ls h. (h.2, (only h.0 h.1 h.2 ls (subst (SpellsChecked h.0 h.1 h.2) (append_assoc front (codes "run" ∷ []) ls) h.3)).1)) b.refused
        where
          front_run : (a b : Lines) → front ++ codes "run" ∷ (a ++ b) ≡ ((front ++ codes "run" ∷ []) ++ a) ++ b
          front_run a b = simp append_assoc

      pub in_run : (k : ℕ) → RefusedBehind (n + 1) (AreRun all) (lines_of text) k → IsInRun (lines_of bytes) k
      in_run k bad = record { before = front; behind = lines_of text; lines_are = read.lines_are ∙ ap (λ (ls : Lines). front ++ ls) line; place = omega (arith, bad.1, bad.2.place, read.counted) }

      -- a run of the script
      pub whole_checked : (run : Run) → SpellsRun all run (lines_of text) → CheckedOf bytes all run
      whole_checked run h = (v, subst (SpellsChecked v all run) (sym (read.lines_are ∙ ap (λ (ls : Lines). front ++ ls) line)) (made run (lines_of text) h))

-- a text is that of one script and run
one_checked : (bytes : List ℕ) (script other : List (List Line)) (run ran : Run) → CheckedOf bytes script run → CheckedOf bytes other ran → (other ≡ script) × (ran ≡ run)
one_checked bytes script other run ran h k =
    let on = only h.0 script h.1.is_script k.0 other ran (run_lines run) (subst (SpellsChecked k.0 other ran) (h.1.lines_are ∙ sym (append_assoc (version_line h.0) (script_lines script) (codes "run" ∷ run_lines run))) k.1) in
    (on.0, one_run_of script run ran (run_lines run) (record { is = h.1.is_run; lines_are = refl }) on.1)

-- what is returned for a text is what is due
abbrev Returned : Type 0
Returned = Result (List (List Line) × Run) TextFault

abbrev IsRight : List ℕ → Returned → Type 0
IsRight bytes r = Answers r (λ x. CheckedOf bytes x.0 x.1) (FirstBadOfChecked bytes)

pub due : (bytes : List ℕ) (r : Returned) → IsRight bytes r → Says r (IsCheckedReason (lines_of bytes)) → record { answer : IsRight bytes r; checked : (script : List (List Line)) (run : Run) → CheckedOf bytes script run → Gives r (Ok (script, run)); refused : (n : ℕ) → FirstBadOfChecked bytes n → Refuses r n; why : Says r (IsCheckedReason (lines_of bytes)) }
due bytes r right why = record { answer = right; checked = λ script run h. checked r script run right h; refused = λ n h. refused r n right h; why = why }
  where
    checked : (r : Returned) (script : List (List Line)) (run : Run) → IsRight bytes r → CheckedOf bytes script run → Gives r (Ok (script, run))
    checked (Ok x) script run h k = let same = one_checked bytes script x.0 run x.1 k h in λ i. Ok (same.0 i, same.1 i)
    checked (Err (Refused n why)) script run h k = absurd (bad_no_text AreChecked (lines_of bytes) n h (k.0, script, run, k.1))
    checked (Err Memory) script run h k = tt

    refused : (r : Returned) (n : ℕ) → IsRight bytes r → FirstBadOfChecked bytes n → Refuses r n
    refused (Ok x) n h k = absurd (bad_no_text AreChecked (lines_of bytes) n k (h.0, x.0, x.1, h.1))
    refused (Err (Refused m why)) n h k = one_bad AreChecked (lines_of bytes) m n h k
    refused (Err Memory) n h k = tt
