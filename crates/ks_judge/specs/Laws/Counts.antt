-- How many calls the lines of a script make: one for each call, and one for each part of a scan.
use Rattle.std.specs.Prelude.{ℕ, ◌≡◌, ◌≤◌, ◌+◌, suc, List, [], ◌∷◌, length}
use Rattle.std.specs.List.{sum_by}
use Rattle.std.proofs.Common.{arith}
use Rattle.std.proofs.lemmas.List.{length-append, length-map}
use Rattle.std.proofs.lemmas.List.Sums.{sum_by-cons}
use Rattle.ks_lines.specs.declared.parts.Part.{Part}
use Rattle.ks_lines.specs.declared.Line.{Line}
use Rattle.ks_lines.specs.declared.Line.TheVariants.{Call, Scan}
use Rattle.ks_lines.specs.declared.Said.{Said}
use Rattle.ks_lines.specs.declared.Said.TheVariants as said
use Rattle.ks_lines.specs.Lines.{MayAnswer, AllBoth, AreAnswered, part_calls, calls_of_line, calls_of_lines, ops_in}
use Rattle.ks_script.specs.declared.version.Version.{Version}
use Rattle.ks_script.specs.Script.{IsScript, calls_in, parts_of, parts_in}

-- a part is a call
pub length-part_calls : (low : ℕ) (parts : List Part) → length (part_calls low parts) ≡ length parts
length-part_calls low [] = omega arith
length-part_calls low (p ∷ parts) = let e = length-part_calls (suc p.last) parts in omega (arith, e)

line_few : (l : Line) (s : Said) → MayAnswer l s → length (calls_of_line l s) ≤ 1 + parts_of l
line_few (Call op) (said.Call n reply) may = omega arith
line_few (Call op) (said.Scan parts stop) may = absurd may
line_few (Scan low last most) (said.Call n reply) may = absurd may
line_few (Scan low last most) (said.Scan parts stop) may = let e = length-part_calls low parts in let few = may.few in omega (arith, e, few)

caller_few : (ls : List Line) (ss : List Said) → AllBoth MayAnswer ls ss → length (calls_of_lines ls ss) ≤ length ls + sum_by parts_of ls
caller_few [] ss both = omega arith
caller_few (l ∷ ls) [] both = absurd both
caller_few (l ∷ ls) (s ∷ ss) both =
    let a = line_few l s both.0 in
    let b = caller_few ls ss both.1 in
    let c = length-append (calls_of_line l s) (calls_of_lines ls ss) in
    omega (arith, a, b, c, sum_by-cons parts_of l ls)

-- there are no more than lines, and parts that scans may have
pub calls_few : (script : List (List Line)) (ss : List (List Said)) → AreAnswered script ss → calls_in (ops_in script ss) ≤ calls_in script + parts_in script
calls_few [] ss both = omega arith
calls_few (ls ∷ script) [] both = absurd both
calls_few (ls ∷ script) (s ∷ ss) both =
    let a = caller_few ls s both.0 in
    let b = calls_few script ss both.1 in
    let c = length-map (calls_of_lines ls s) (λ x. x.call.op) in
    omega (arith, a, b, c, sum_by-cons (λ (k : List Line). sum_by parts_of k) ls script)

-- so a script that is read makes no more than can be judged
pub script_few : (version : Version) (script : List (List Line)) (ss : List (List Said)) → IsScript version script → AreAnswered script ss → calls_in (ops_in script ss) ≤ 1114112
script_few version script ss is both = let few = calls_few script ss both in omega (arith, few, is.calls, is.parts)
