-- Texts and their lines, there and back.
use Rattle.ks_script.proofs.Common.{ℕ, ◌≡◌, ◌⊎◌, ◌+◌, ◌^◌, ◌<◌, ◌≤◌, false, eqb, List, [], ◌∷◌, ◌++◌, length, map, refl, sym, ap, subst, ◌∙◌, append_assoc, arith, codes, inl, inr, length-append, false≢true, eq-eqb, or_parts, decimal, AllByRecursion, onto_first, Line, Reply, Value, Listed, Version, First, lines_of, text_of, Lacks, version_line, callers_limit, IsLineOf, IsScript, line_text, script_lines, Run, Said, Scanned, Pair, reply_word, reply_line, pair_line, pair_words, part_line, stop_line, said_lines, callers_from, map_lines, run_lines, IsReply, IsAnswered, IsPair, IsPart, IsStop, IsSaid, AscendFrom, IsRunOf, CheckedIn, IsPairFrom, get_or}
use Rattle.std.specs.List.{flat_map}
use Rattle.ks_script.specs.Script.{caller_lines}
use Rattle.ks_lines.specs.Lines.{AllBoth, MayAnswer}
use Rattle.ks_lines.specs.declared.parts.Part.{Part}
use Rattle.ks_lines.specs.declared.Said.TheVariants as said
use Rattle.ks_lines.specs.declared.Scanned.TheVariants as stopped
use Rattle.ks_script.proofs.Numerals.{wide}
use Rattle.ks_script.proofs.Cuts.{lines_cases, lines_first, decimal_lacks}
use Rattle.ks_script.proofs.CallLines.{stands, AreSmall, numbers, kind, spelled}
use Rattle.ks_script.proofs.Steps.{all_append}
use Rattle.ks_script.proofs.Both.{both_length}

pub lacks_by : (c : ℕ) (bytes : List ℕ) → stands c bytes ≡ false → Lacks c bytes
lacks_by c [] h = tt
lacks_by c (b ∷ bytes) h = let parts = or_parts (eqb b c) (stands c bytes) h in ((λ e. false≢true (sym parts.0 ∙ eq-eqb b c e)), lacks_by c bytes parts.1)

lacks_append : (c : ℕ) (a b : List ℕ) → Lacks c a → Lacks c b → Lacks c (a ++ b)
lacks_append c [] b h k = k
lacks_append c (x ∷ a) b h k = (h.0, lacks_append c a b h.1 k)

abbrev pub Plain : List (List ℕ) → Type 0
Plain ls = AllByRecursion (Lacks 10) ls

-- the lines of some things
plain_each : {X : Type 0} (Is : X → Type 0) (line : X → List ℕ) → ((x : X) → Is x → Lacks 10 (line x)) → (xs : List X) → AllByRecursion Is xs → Plain (map line xs)
plain_each Is line plain [] h = tt
plain_each Is line plain (x ∷ xs) h = (plain x h.0, plain_each Is line plain xs h.1)

plain_flat : {X : Type 0} (Is : X → Type 0) (lines : X → List (List ℕ)) → ((x : X) → Is x → Plain (lines x)) → (xs : List X) → AllByRecursion Is xs → Plain (flat_map lines xs)
plain_flat Is lines plain [] h = tt
plain_flat Is lines plain (x ∷ xs) h = all_append (Lacks 10) (lines x) (flat_map lines xs) (plain x h.0) (plain_flat Is lines plain xs h.1)

value : (n : ℕ) → n < 2 ^ 128 → Lacks 10 (decimal n)
value n h = decimal_lacks 10 refl n h

number : (n : ℕ) → n < 2 ^ 64 → Lacks 10 (decimal n)
number n h = value n (wide n h)

spaced : (a b : List ℕ) → Lacks 10 a → Lacks 10 b → Lacks 10 (a ++ codes " " ++ b)
spaced a b h k = lacks_append 10 (a ++ codes " ") b (lacks_append 10 a (codes " ") h (lacks_by 10 (codes " ") refl)) k

pub plain_numbered : (front : List ℕ) (n : ℕ) → Lacks 10 front → n < 2 ^ 64 → Lacks 10 (front ++ decimal n)
plain_numbered front n h k = lacks_append 10 front (decimal n) h (number n k)

plain_numbers : (ns : List ℕ) → AreSmall ns → Lacks 10 (numbers ns)
plain_numbers [] h = tt
plain_numbers (n ∷ ns) h = ((λ e. omega (arith, e)), lacks_append 10 (decimal n) (numbers ns) (value n h.0) (plain_numbers ns h.1))

pub plain_line : (version : Version) (l : Line) → IsLineOf version l → Lacks 10 (line_text l)
plain_line version l h =
    let s = spelled version l h in
    subst (Lacks 10) (sym s.line) (lacks_append 10 (kind (line_text l)).0 (numbers s.ns) (lacks_by 10 (kind (line_text l)).0 s.plain) (plain_numbers s.ns s.small))

plain_caller : (version : Version) (ls : List Line) → AllByRecursion (IsLineOf version) ls → Plain (caller_lines ls)
plain_caller version ls h = (lacks_by 10 (codes "caller") refl, plain_each (IsLineOf version) line_text (plain_line version) ls h)

plain_version : (version : Version) → Plain (version_line version)
plain_version First = tt
plain_version other = (lacks_by 10 (get_or (version_line other) 0 []) refl, tt)

plain_word : (r : Reply) → IsReply r → Lacks 10 (reply_word r)
plain_word (Value v) h = value v h
plain_word (Listed pairs) h = absurd h
plain_word other h = lacks_by 10 (reply_word other) refl

pub plain_reply : (x : ℕ × Reply) → IsAnswered x → Lacks 10 (reply_line x)
plain_reply x h = spaced (decimal x.0) (reply_word x.1) (number x.0 h.0) (plain_word x.1 h.1)

pub plain_pair : (x : ℕ × ℕ) → x.0 < 2 ^ 64 → x.1 < 2 ^ 128 → Lacks 10 (pair_line x)
plain_pair x k v = spaced (decimal x.0) (decimal x.1) (number x.0 k) (value x.1 v)

plain_words : (ps : List Pair) → AllByRecursion IsPair ps → Lacks 10 (pair_words ps)
plain_words [] h = tt
plain_words (p ∷ ps) h = ((λ e. omega (arith, e)), lacks_append 10 (pair_line (p.place, p.value)) (pair_words ps) (plain_pair (p.place, p.value) h.0.0 h.0.1) (plain_words ps h.1))

pub plain_part : (part : Part) → IsPart part → Lacks 10 (part_line part)
plain_part part h = lacks_append 10 (pair_line (part.number, part.last)) (pair_words part.pairs) (plain_pair (part.number, part.last) h.0 (wide part.last h.1)) (plain_words part.pairs h.3)

plain_stop : (stop : Scanned) → IsStop stop → Lacks 10 (stop_line stop)
plain_stop stopped.Whole h = lacks_by 10 (codes "whole") refl
plain_stop (stopped.Until next) h = plain_numbered (codes "until ") next (lacks_by 10 (codes "until ") refl) h

plain_said : (x : Said) → IsSaid x → Plain (said_lines x)
plain_said (said.Call n reply) h = (plain_reply (n, reply) h, tt)
plain_said (said.Scan parts stop) h = all_append (Lacks 10) (map part_line parts) (stop_line stop ∷ []) (plain_each IsPart part_line plain_part parts h.0) (plain_stop stop h.1, tt)

pub each_pair : (n : ℕ) (ps : List (ℕ × ℕ)) → AscendFrom n ps → AllByRecursion (IsPairFrom 0) ps
each_pair n [] h = tt
each_pair n (p ∷ ps) h = ((omega arith, h.1, h.2), each_pair (p.0 + 1) ps h.3)

pub plain_callers : (n : ℕ) (cs : List (List Said)) → n + length cs ≤ 1024 → AllByRecursion (AllByRecursion IsSaid) cs → Plain (callers_from n cs)
plain_callers n [] few h = tt
plain_callers n (c ∷ cs) few h = (
  plain_numbered (codes "caller ") n (lacks_by 10 (codes "caller ") refl) (omega arith),
  all_append (Lacks 10) (flat_map said_lines c) (callers_from (n + 1) cs) (plain_flat IsSaid said_lines plain_said c h.0) (plain_callers (n + 1) cs (omega arith) h.1),
)

pub plain_map : (ps : List (ℕ × ℕ)) → AscendFrom 0 ps → Plain (map_lines ps)
plain_map ps h = (lacks_by 10 (codes "map") refl, all_append (Lacks 10) (map pair_line ps) (codes "end" ∷ []) (plain_each (IsPairFrom 0) pair_line (λ x is. plain_pair x is.1 is.2) ps (each_pair 0 ps h)) (lacks_by 10 (codes "end") refl, tt))

-- the lines of a text of lines
pub lines_again : (ls : List (List ℕ)) → Plain ls → lines_of (text_of ls) ≡ ls
lines_again [] h = refl
lines_again (l ∷ ls) h = ap lines_of (append_assoc l (10 ∷ []) (text_of ls)) ∙ (lines_first l (text_of ls) h.0 ∙ ap (λ ms. l ∷ ms) (lines_again ls h.1))

pub few_callers : (version : Version) (n : ℕ) → n ≤ callers_limit version → n ≤ 1024
few_callers First n h = omega arith
few_callers other n h = h

pub written_read : (version : Version) (s : List (List Line)) (run : Run) → IsScript version s → IsRunOf s run → CheckedIn version (text_of (version_line version ++ (script_lines s ++ codes "run" ∷ run_lines run))) s run
written_read version s run is of = record {
  is_script = is;
  is_run = of;
  lines_are =
      let many : length s ≡ length run.callers = both_length (AllBoth MayAnswer) s run.callers of.answered in
      let few : 0 + length run.callers ≤ 1024 = (let m = few_callers version (length s) is.callers in omega arith) in
      lines_again (version_line version ++ (script_lines s ++ codes "run" ∷ run_lines run))
      (all_append (Lacks 10) (version_line version) (script_lines s ++ codes "run" ∷ run_lines run) (plain_version version)
      (all_append (Lacks 10) (script_lines s) (codes "run" ∷ run_lines run) (plain_flat (AllByRecursion (IsLineOf version)) caller_lines (plain_caller version) s is.each)
      (lacks_by 10 (codes "run") refl, all_append (Lacks 10) (callers_from 0 run.callers) (map_lines run.pairs) (plain_callers 0 run.callers few of.each) (plain_map run.pairs of.ascend))));
}

-- the text of the lines of a text is that text, with a byte 10 at its end
abbrev Whole : List ℕ → List ℕ → Type 0
Whole text bytes = (text ≡ bytes) ⊎ (text ≡ bytes ++ 10 ∷ [])

one_byte_more : (b : ℕ) (text bytes : List ℕ) → Whole text bytes → Whole (b ∷ text) (b ∷ bytes)
one_byte_more b text bytes (inl e) = inl (ap (λ (x : List ℕ). b ∷ x) e)
one_byte_more b text bytes (inr e) = inr (ap (λ (x : List ℕ). b ∷ x) e)

onto : (b : ℕ) (ls : List (List ℕ)) (bytes : List ℕ) → Whole (text_of ls) bytes → Whole (text_of (onto_first b ls)) (b ∷ bytes)
onto b [] bytes (inl e) = inr (ap (λ (x : List ℕ). b ∷ x ++ 10 ∷ []) e)
onto b [] bytes (inr e) = absurd (omega (arith, ap length e, length-append bytes (10 ∷ [])))
onto b (l ∷ ls) bytes h = one_byte_more b (text_of (l ∷ ls)) bytes h

pub ends_whole : (bytes : List ℕ) → Whole (text_of (lines_of bytes)) bytes
ends_whole [] = inl refl
ends_whole (b ∷ bytes) =
    elim (lines_cases b bytes) [
      | inl same ↦ subst (λ ls. Whole (text_of ls) (b ∷ bytes)) (sym same.1) (subst (λ (k : ℕ). Whole (k ∷ text_of (lines_of bytes)) (b ∷ bytes)) same.0 (one_byte_more b (text_of (lines_of bytes)) bytes (ends_whole bytes)))
      | inr other ↦ subst (λ ls. Whole (text_of ls) (b ∷ bytes)) (sym other) (onto b (lines_of bytes) bytes (ends_whole bytes))
    ]
