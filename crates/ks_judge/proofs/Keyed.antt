-- The operations of the calls of lines have keys, where the lines have.
use Rattle.std.proofs.Common.{ℕ, suc, ◌≡◌, List, [], ◌∷◌, ◌++◌, map, sym, subst, arith}
use Rattle.std.specs.List.{AllByRecursion}
use Rattle.std.proofs.lemmas.List.{map-append}
use Rattle.ks_keysets.specs.Record.{IsPlace}
use Rattle.ks_history.specs.declared.Op.{Op}
use Rattle.ks_history.specs.declared.Op.TheVariants.{Get, Put, Del, Add, Swap, Move, Part as lists}
use Rattle.ks_lines.specs.declared.parts.Part.{Part}
use Rattle.ks_lines.specs.declared.Line.{Line}
use Rattle.ks_lines.specs.declared.Line.TheVariants.{Call, Scan}
use Rattle.ks_lines.specs.declared.Said.{Said}
use Rattle.ks_lines.specs.declared.Said.TheVariants as said
use Rattle.ks_lines.specs.Scan.{PartsAscend}
use Rattle.ks_lines.specs.Lines.{MayAnswer, AllBoth, AreAnswered, part_calls, calls_of_line, calls_of_lines, ops_in}
use Rattle.ks_lines.specs.Asked.{IsOwnLine}
use Rattle.ks_judge.specs.Keys.{HasKeys, AreKeys, KeepsSpan, KeepsSpans}
use Rattle.ks_judge.proofs.Flat.{op_in}
use Rattle.ks_judge.proofs.Placed.{HasKey, KeepsPart}

all_both : {X : Type 0} (P : X → Type 0) (xs ys : List X) → AllByRecursion P xs → AllByRecursion P ys → AllByRecursion P (xs ++ ys)
all_both P [] ys first second = second
all_both P (x ∷ xs) ys first second = (first.0, all_both P xs ys first.1 second)

module _ (f : ℕ → ℕ) where
  keeps_own : (op : Op) → IsOwnLine op → KeepsPart f op
  keeps_own (Get k) own = tt
  keeps_own (Put k v) own = tt
  keeps_own (Del k) own = tt
  keeps_own (Add k v) own = tt
  keeps_own (Swap k old new) own = tt
  keeps_own (lists low last) own = absurd own
  keeps_own (Move from to) own = tt

  parts_keyed : (low last : ℕ) (parts : List Part) → IsPlace last → ((k : ℕ) → IsPlace k → f k ≡ k) → PartsAscend low last parts → AllByRecursion (HasKey f) (map op_in (part_calls low parts))
  parts_keyed low last [] place same ascend = tt
  parts_keyed low last (p ∷ parts) place same ascend =
      ((λ k between. let above = ascend.1 in omega (arith, between.1, above, place), (ascend.0, same)), parts_keyed (suc p.last) last parts place same ascend.2)

  line_keyed : (l : Line) (s : Said) → MayAnswer l s → HasKeys l → KeepsSpan f l → AllByRecursion (HasKey f) (map op_in (calls_of_line l s))
  line_keyed (Call op) (said.Call n reply) may keys keeps = ((keys.1, keeps_own op keys.0), tt)
  line_keyed (Call op) (said.Scan parts stop) may keys keeps = absurd may
  line_keyed (Scan low last most) (said.Call n reply) may keys keeps = absurd may
  line_keyed (Scan low last most) (said.Scan parts stop) may keys keeps = parts_keyed low last parts keys keeps may.ascend

  caller_keyed : (ls : List Line) (ss : List Said) → AllBoth MayAnswer ls ss → AllByRecursion HasKeys ls → AllByRecursion (KeepsSpan f) ls → AllByRecursion (HasKey f) (map op_in (calls_of_lines ls ss))
  caller_keyed [] ss both keys keeps = tt
  caller_keyed (l ∷ ls) [] both keys keeps = tt
  caller_keyed (l ∷ ls) (s ∷ ss) both keys keeps =
      subst (AllByRecursion (HasKey f)) (sym (map-append op_in (calls_of_line l s) (calls_of_lines ls ss)))
      (all_both (HasKey f) (map op_in (calls_of_line l s)) (map op_in (calls_of_lines ls ss)) (line_keyed l s both.0 keys.0 keeps.0) (caller_keyed ls ss both.1 keys.1 keeps.1))

  pub script_keyed : (script : List (List Line)) (ss : List (List Said)) → AreAnswered script ss → AreKeys script → KeepsSpans f script → AllByRecursion (AllByRecursion (HasKey f)) (ops_in script ss)
  script_keyed [] ss both keys keeps = tt
  script_keyed (ls ∷ script) [] both keys keeps = tt
  script_keyed (ls ∷ script) (s ∷ ss) both keys keeps = (caller_keyed ls s both.0 keys.0 keeps.0, script_keyed script ss both.1 keys.1 keeps.1)
