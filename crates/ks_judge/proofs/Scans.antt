-- The calls of a scan, part by part.
use Rattle.std.proofs.Common.{ℕ, zero, suc, ◌≡◌, ◌<◌, ◌≤◌, ◌-◌, Option, Some, None, List, [], ◌∷◌, length, get_or, refl, sym, ◌∙◌, ap, subst, arith}
use Rattle.std.specs.Prelude.{IfSome}
use Rattle.std.proofs.lemmas.List.{get_or_read}
use Rattle.ks_keysets.specs.declared.Pair.{Pair}
use Rattle.ks_history.specs.declared.Op.TheVariants.{Get, Part as lists}
use Rattle.ks_history.specs.declared.Reply.TheVariants.{Nothing, Listed}
use Rattle.ks_history.specs.Trace.{NumberedCall}
use Rattle.ks_history.specs.Calls.{numbered}
use Rattle.ks_history.specs.Write.{Map, map_with, written}
use Rattle.ks_history.specs.Map.{IsAnswer, ListsSpan}
use Rattle.ks_lines.specs.declared.parts.Part.{Part}
use Rattle.ks_lines.specs.declared.Scanned.{Scanned}
use Rattle.ks_lines.specs.declared.Line.{Line}
use Rattle.ks_lines.specs.declared.Line.TheVariants.{Call, Scan}
use Rattle.ks_lines.specs.declared.Said.{Said}
use Rattle.ks_lines.specs.declared.Said.TheVariants as said
use Rattle.ks_lines.specs.Scan.{PartsAscend, IsScanOf}
use Rattle.ks_lines.specs.Lines.{MayAnswer, AllBoth, part_calls, calls_of_line}
use Rattle.ks_script.specs.PackedReplies.{said_at}
use Rattle.ks_judge.specs.declared.replay.Place.{Place}
use Rattle.ks_judge.specs.Places.{line_in, calls_on, no_call, call_in, IsPlaceIn, begin_at, IsAnswered, HasMade}
use Rattle.ks_judge.specs.Laws.Counts.{length-part_calls}
use Rattle.ks_judge.proofs.Flat.{may_at}

abbrev pub no_part : Part
no_part = record { number = 0; last = 0; pairs = [] }

-- the call of a part
pub part_at : (first : ℕ) (parts : List Part) (at : ℕ) → at < length parts → get_or (part_calls first parts) at no_call ≡ numbered (get_or parts at no_part).number (lists (begin_at first parts at) (get_or parts at no_part).last) (Listed (get_or parts at no_part).pairs)
part_at first [] at lt = absurd (omega arith)
part_at first (p ∷ parts) zero lt = refl
part_at first (p ∷ parts) (suc zero) lt = part_at (suc p.last) parts zero (omega arith)
part_at first (p ∷ parts) (suc (suc at)) lt = part_at (suc p.last) parts (suc at) (omega arith)

-- a part after another begins past it, and no later than it ends
pub begins_low : (first last : ℕ) (parts : List Part) (at : ℕ) → PartsAscend first last parts → suc at < length parts → suc (get_or parts at no_part).last ≤ (get_or parts (suc at) no_part).last
begins_low first last [] at ascend lt = absurd (omega arith)
begins_low first last (p ∷ []) at ascend lt = absurd (omega arith)
begins_low first last (p ∷ q ∷ parts) zero ascend lt = ascend.2.0
begins_low first last (p ∷ q ∷ parts) (suc at) ascend lt = begins_low (suc p.last) last (q ∷ parts) at ascend.2 (omega arith)

-- its call is right if it has the number, and lists what the map has

listed : (m : Map) (low last : ℕ) (pairs : List Pair) → IsAnswer m (lists low last) (Listed pairs) → ListsSpan m low last pairs
listed m low last pairs (others, is, span) = let same : others ≡ pairs = cc in subst (λ (xs : List Pair). ListsSpan m low last xs) same span

module _ (m : Map) (first : ℕ) (parts : List Part) (at n low : ℕ) (p : Part) (lt : at < length parts) (is_p : p ≡ get_or parts at no_part) (is_low : low ≡ begin_at first parts at) where
  its_call : get_or (part_calls first parts) at no_call ≡ numbered p.number (lists low p.last) (Listed p.pairs)
  its_call = part_at first parts at lt ∙ ap (λ (q : Part). numbered q.number (lists (begin_at first parts at) q.last) (Listed q.pairs)) (sym is_p) ∙ ap (λ (k : ℕ). numbered p.number (lists k p.last) (Listed p.pairs)) (sym is_low)

  pub part_right : p.number ≡ n → ListsSpan m low p.last p.pairs → IsAnswered m n (get_or (part_calls first parts) at no_call)
  part_right is span = subst (IsAnswered m n) (sym its_call) (is, (p.pairs, refl, span))

  pub part_wrong : (p.number ≡ n → ListsSpan m low p.last p.pairs → ⊥) → IsAnswered m n (get_or (part_calls first parts) at no_call) → ⊥
  part_wrong wrong is = let it : IsAnswered m n (numbered p.number (lists low p.last) (Listed p.pairs)) = subst (IsAnswered m n) its_call is in wrong it.0 (listed m low p.last p.pairs it.1)

-- the same, as the program reads the two parts
pub begins_before : (first last : ℕ) (parts : List Part) (at : ℕ) (p q : Part) → PartsAscend first last parts → at < length parts → (at ≡ 0 → ⊥) → p ≡ get_or parts at p → q ≡ get_or parts (at - 1) q → suc q.last ≤ p.last
begins_before first last parts zero p q ascend lt some is_p is_q = absurd (some refl)
begins_before first last parts (suc at) p q ascend lt some is_p is_q =
    let low = begins_low first last parts at ascend lt in
    let a : p ≡ get_or parts (suc at) no_part = get_or_read parts (suc at) p lt is_p no_part in
    let one : suc at - 1 ≡ at = omega arith in
    let b : q ≡ get_or parts at no_part = get_or_read parts at q (omega arith) (is_q ∙ ap (λ (k : ℕ). get_or parts k q) one) no_part in
    subst (λ (x : Part). suc x.last ≤ p.last) (sym b) (subst (λ (x : Part). suc (get_or parts at no_part).last ≤ x.last) (sym a) low)

-- a line of which a scan is said

scan_is : (l : Line) (s : Said) (first last most : ℕ) (parts : List Part) (stop : Scanned) → MayAnswer l s → l ≡ Scan first last most → s ≡ said.Scan parts stop → IsScanOf first last most parts stop × (calls_of_line l s ≡ part_calls first parts)
scan_is l s first last most parts stop may is_l is_s =
    let both : MayAnswer (Scan first last most) (said.Scan parts stop) = subst (λ (k : Line). MayAnswer k (said.Scan parts stop)) is_l (subst (λ (t : Said). MayAnswer l t) is_s may) in
    (both, ap (λ (k : Line). calls_of_line k s) is_l ∙ ap (λ (t : Said). calls_of_line (Scan first last most) t) is_s)

module _ (ls : List Line) (ss : List Said) (both : AllBoth MayAnswer ls ss) (x : Place) (place : IsPlaceIn ls ss x) (first last most : ℕ) (parts : List Part) (stop : Scanned) (is_l : line_in ls x.line ≡ Scan first last most) (is_s : said_at ss x.line ≡ said.Scan parts stop) where
  scan_on : IsScanOf first last most parts stop × (calls_on ls ss x.line ≡ part_calls first parts)
  scan_on = scan_is (line_in ls x.line) (said_at ss x.line) first last most parts stop (may_at ls ss x.line (Call (Get 0)) (said.Call 0 Nothing) both place.0) is_l is_s

  pub scan_ascends : PartsAscend first last parts
  scan_ascends = scan_on.0.ascend

  pub scan_long : length (calls_on ls ss x.line) ≡ length parts
  scan_long = ap length scan_on.1 ∙ length-part_calls first parts

  pub scan_within : x.part < length parts
  scan_within = subst (λ (k : ℕ). x.part < k) scan_long place.2

  -- its part writes nothing
  pub scan_keeps : (m : Map) → HasMade m (call_in ls ss x).call m
  scan_keeps m p = sym (ap (λ (a : NumberedCall). map_with m (written a.call.op a.call.reply) p) (ap (λ (cs : List NumberedCall). get_or cs x.part no_call) scan_on.1 ∙ part_at first parts x.part scan_within))

pub always : {A : Type 0} (r : Option A) (P : Type 0) → P → IfSome r (λ x. P)
always None P p = tt
always (Some x) P p = p
