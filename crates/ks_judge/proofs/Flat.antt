-- The calls of lines as flat lists, and what is said of lines as the list of all replies.
use Rattle.std.proofs.Common.{ℕ, zero, suc, ◌≡◌, ◌<◌, List, [], ◌∷◌, ◌++◌, length, get_or, map, refl, sym, ◌∙◌, ap, arith}
use Rattle.std.proofs.lemmas.List.{length-map, map-append}
use Rattle.ks_history.specs.declared.Op.{Op}
use Rattle.ks_history.specs.declared.Reply.{Reply}
use Rattle.ks_history.specs.declared.Reply.TheVariants.{Listed}
use Rattle.ks_history.specs.Trace.{NumberedCall}
use Rattle.ks_lines.specs.declared.parts.Part.{Part}
use Rattle.ks_lines.specs.declared.Line.{Line}
use Rattle.ks_lines.specs.declared.Line.TheVariants.{Call, Scan}
use Rattle.ks_lines.specs.declared.Said.{Said}
use Rattle.ks_lines.specs.declared.Said.TheVariants as said
use Rattle.ks_lines.specs.Lines.{MayAnswer, AllBoth, AreAnswered, part_calls, calls_of_line, calls_of_lines, calls_of_script, ops_in, replies_in}
use Rattle.ks_script.specs.Script.{calls_in}
use Rattle.ks_judge.specs.Judgment.{Lines}
use Rattle.ks_judge.specs.Flat.{replies_of, replies_all, lines_said}

-- the number and the reply of a call, and its operation
abbrev pub reply_in : NumberedCall → ℕ × Reply
reply_in x = (x.number, x.call.reply)

abbrev pub op_in : NumberedCall → Op
op_in x = x.call.op

-- the replies of calls are those that are said

part_replies : (low : ℕ) (parts : List Part) → map reply_in (part_calls low parts) ≡ map (λ p. (p.number, Listed p.pairs)) parts
part_replies low [] = refl
part_replies low (p ∷ parts) = ap (λ (l : List (ℕ × Reply)). (p.number, Listed p.pairs) ∷ l) (part_replies (suc p.last) parts)

line_replies : (l : Line) (s : Said) → MayAnswer l s → map reply_in (calls_of_line l s) ≡ replies_of s
line_replies (Call op) (said.Call n reply) may = refl
line_replies (Call op) (said.Scan parts stop) may = absurd may
line_replies (Scan low last most) (said.Call n reply) may = absurd may
line_replies (Scan low last most) (said.Scan parts stop) may = part_replies low parts

pub caller_replies : (ls : List Line) (ss : List Said) → AllBoth MayAnswer ls ss → map reply_in (calls_of_lines ls ss) ≡ replies_all ss
caller_replies [] [] both = refl
caller_replies [] (s ∷ ss) both = absurd both
caller_replies (l ∷ ls) [] both = absurd both
caller_replies (l ∷ ls) (s ∷ ss) both =
    map-append reply_in (calls_of_line l s) (calls_of_lines ls ss)
    ∙ ap (λ (xs : List (ℕ × Reply)). xs ++ map reply_in (calls_of_lines ls ss)) (line_replies l s both.0)
    ∙ ap (λ (xs : List (ℕ × Reply)). replies_of s ++ xs) (caller_replies ls ss both.1)

pub script_replies : (script : List (List Line)) (ss : List (List Said)) → AreAnswered script ss → replies_in script ss ≡ lines_said ss
script_replies [] [] both = refl
script_replies [] (s ∷ ss) both = absurd both
script_replies (l ∷ script) [] both = absurd both
script_replies (l ∷ script) (s ∷ ss) both =
    ap (λ (xs : List (ℕ × Reply)). xs ∷ replies_in script ss) (caller_replies l s both.0)
    ∙ ap (λ (xs : Lines). replies_all s ∷ xs) (script_replies script ss both.1)

-- there are as many

module _ {X Y : Type 0} (f : NumberedCall → X) (g : NumberedCall → Y) where
  calls_map : (cs : List (List NumberedCall)) → calls_in (map (map f) cs) ≡ calls_in (map (map g) cs)
  calls_map [] = refl
  calls_map (c ∷ cs) = let e = calls_map cs in let a = length-map c f in let b = length-map c g in omega (arith, e, a, b)

pub as_many : (script : List (List Line)) (ss : List (List Said)) → AreAnswered script ss → calls_in (lines_said ss) ≡ calls_in (ops_in script ss)
as_many script ss both = ap calls_in (sym (script_replies script ss both)) ∙ calls_map reply_in op_in (calls_of_script script ss)

-- the lists of one caller

module _ {X : Type 0} (f : NumberedCall → X) where
  pub at_caller : (script : List (List Line)) (ss : List (List Said)) (c : ℕ) → AreAnswered script ss → get_or (map (map f) (calls_of_script script ss)) c [] ≡ map f (calls_of_lines (get_or script c []) (get_or ss c []))
  at_caller [] [] c both = refl
  at_caller [] (s ∷ ss) c both = absurd both
  at_caller (l ∷ script) [] c both = absurd both
  at_caller (l ∷ script) (s ∷ ss) zero both = refl
  at_caller (l ∷ script) (s ∷ ss) (suc c) both = at_caller script ss c both.1

pub both_at : (script : List (List Line)) (ss : List (List Said)) (c : ℕ) → AreAnswered script ss → AllBoth MayAnswer (get_or script c []) (get_or ss c [])
both_at [] [] c both = tt
both_at [] (s ∷ ss) c both = absurd both
both_at (l ∷ script) [] c both = absurd both
both_at (l ∷ script) (s ∷ ss) zero both = both.0
both_at (l ∷ script) (s ∷ ss) (suc c) both = both_at script ss c both.1

pub callers_long : (script : List (List Line)) (ss : List (List Said)) → AreAnswered script ss → (length ss ≡ length script) × (length (calls_of_script script ss) ≡ length script)
callers_long [] [] both = (refl, refl)
callers_long [] (s ∷ ss) both = absurd both
callers_long (l ∷ script) [] both = absurd both
callers_long (l ∷ script) (s ∷ ss) both = let e = callers_long script ss both.1 in (omega (arith, e.0), omega (arith, e.1))

pub both_long : (ls : List Line) (ss : List Said) → AllBoth MayAnswer ls ss → length ss ≡ length ls
both_long [] [] both = refl
both_long [] (s ∷ ss) both = absurd both
both_long (l ∷ ls) [] both = absurd both
both_long (l ∷ ls) (s ∷ ss) both = let e = both_long ls ss both.1 in omega (arith, e)

pub may_at : (ls : List Line) (ss : List Said) (i : ℕ) (d : Line) (e : Said) → AllBoth MayAnswer ls ss → i < length ls → MayAnswer (get_or ls i d) (get_or ss i e)
may_at [] ss i d e both lt = absurd (omega arith)
may_at (l ∷ ls) [] i d e both lt = absurd both
may_at (l ∷ ls) (s ∷ ss) zero d e both lt = both.0
may_at (l ∷ ls) (s ∷ ss) (suc i) d e both lt = may_at ls ss i d e both.1 (omega arith)
