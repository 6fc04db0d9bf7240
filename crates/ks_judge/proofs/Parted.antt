-- The replies of scans among the lines of a caller.
use Rattle.std.proofs.Common.{ℕ, zero, suc, ◌≡◌, ◌<◌, ◌≤◌, ◌+◌, ◌⊎◌, inl, inr, List, [], ◌∷◌, ◌++◌, length, take, drop, get_or, refl, sym, ◌∙◌, ap, subst, arith, append_assoc}
use Rattle.std.proofs.lemmas.Grind.{flat_map-append}
use Rattle.std.proofs.lemmas.List.{append-nil, length-append, length-map, map-append, get_or_append_left, get_or-append-add, get_or-map, get_or_read, get_or_past, take_more}
use Rattle.ks_history.specs.declared.Reply.{Reply}
use Rattle.ks_history.specs.declared.Reply.TheVariants.{Nothing, Listed}
use Rattle.ks_lines.specs.declared.parts.Part.{Part}
use Rattle.ks_lines.specs.declared.Scanned.{Scanned}
use Rattle.ks_lines.specs.declared.Said.{Said}
use Rattle.ks_lines.specs.declared.Said.TheVariants.{Call, Scan}
use Rattle.ks_script.specs.PackedReplies.{said_at}
use Rattle.ks_script.specs.Plain.{IsOfCall, number_of}
use Rattle.ks_judge.specs.declared.slots.PackedSlot.{PackedSlot}
use Rattle.ks_judge.specs.Judgment.{Lines}
use Rattle.ks_script.specs.Script.{calls_in}
use Rattle.ks_judge.specs.Flat.{replies_of, replies_all, lines_said}
use Rattle.ks_judge.specs.Slots.{Carries, Notes, carriers_to, if_carries}
use Rattle.ks_judge.proofs.Notes.{line_noted}
use Rattle.ks_judge.proofs.Scans.{no_part}

abbrev its_reply : Part → ℕ × Reply
its_reply p = (p.number, Listed p.pairs)

-- a part of the scan is noted

part_reply : (parts : List Part) (stop : Scanned) (back : List (ℕ × Reply)) (at : ℕ) (p : Part) → at < length parts → p ≡ get_or parts at p → get_or (replies_of (Scan parts stop) ++ back) at (0, Nothing) ≡ (p.number, Listed p.pairs)
part_reply parts stop back at p lt is =
    get_or_append_left (replies_of (Scan parts stop)) back (0, Nothing) at (omega (arith, lt, length-map parts its_reply))
    ∙ get_or-map its_reply parts at no_part (0, Nothing) lt
    ∙ ap its_reply (sym (get_or_read parts at p lt is no_part))

pub part_noted : (lines : Lines) (c at number : ℕ) (front back : List (ℕ × Reply)) (parts : List Part) (stop : Scanned) (p : Part) (slots slots' : List PackedSlot) → c < length lines → get_or lines c [] ≡ front ++ (replies_of (Scan parts stop) ++ back) →
    at < length parts → p ≡ get_or parts at p → number ≡ p.number →
    ((ls : Lines) (i : ℕ) (P : ℕ → List (ℕ × ℕ)) → Carries ls c i number → Notes ls slots P → Notes ls slots' (λ n. P n ++ if_carries number n (c, i))) →
    Notes lines slots (carriers_to lines c (length front + at)) → Notes lines slots' (carriers_to lines c (length front + (at + 1)))
part_noted lines c at number front back parts stop p slots slots' there is lt is_p is_number noted notes =
    let xs : List (ℕ × Reply) = front ++ (replies_of (Scan parts stop) ++ back) in
    let here : get_or xs (length front + at) (0, Nothing) ≡ (p.number, Listed p.pairs) = get_or-append-add front (replies_of (Scan parts stop) ++ back) at (0, Nothing) ∙ part_reply parts stop back at p lt is_p in
    let long : length front + at < length xs = omega (arith, lt, length-map parts its_reply, length-append front (replies_of (Scan parts stop) ++ back), length-append (replies_of (Scan parts stop)) back) in
    let one : (length front + at) + 1 ≡ length front + (at + 1) = omega arith in
    subst (λ (k : ℕ). Notes lines slots' (carriers_to lines c k)) one
    (line_noted lines c (length front + at) number xs slots slots' is there long (is_number ∙ ap (λ (r : ℕ × Reply). r.0) (sym here)) noted notes)

-- the replies of lines, split at one of them

pub split_at : (ss : List Said) (at : ℕ) → at < length ss → replies_all ss ≡ replies_all (take at ss) ++ (replies_of (said_at ss at) ++ replies_all (drop (suc at) ss))
split_at [] at lt = absurd (omega arith)
split_at (s ∷ ss) zero lt = refl
split_at (s ∷ ss) (suc at) lt =
    ap (λ (xs : List (ℕ × Reply)). replies_of s ++ xs) (split_at ss at (omega arith))
    ∙ sym (append_assoc (replies_of s) (replies_all (take at ss)) (replies_of (said_at ss at) ++ replies_all (drop (suc at) ss)))

pub front_more : (ss : List Said) (at : ℕ) → at < length ss → length (replies_all (take (at + 1) ss)) ≡ length (replies_all (take at ss)) + length (replies_of (said_at ss at))
front_more ss at lt =
    let s : Said = said_at ss at in
    let a : replies_all (take (at + 1) ss) ≡ replies_all (take at ss) ++ replies_all (s ∷ []) = ap replies_all (take_more ss at (Call 0 Nothing) lt) ∙ flat_map-append replies_of (take at ss) (s ∷ []) in
    let b : length (replies_all (s ∷ [])) ≡ length (replies_of s) = ap length (append-nil (replies_of s)) in
    ap length a ∙ length-append (replies_all (take at ss)) (replies_all (s ∷ [])) ∙ ap (λ (k : ℕ). length (replies_all (take at ss)) + k) b

-- the line of a caller that comes next is noted: xs are all its lines

module _ (lines : Lines) (c : ℕ) (ss : List Said) (at : ℕ) (there : c < length lines) (row : get_or lines c [] ≡ replies_all ss) (lt : at < length ss) (slots slots' : List PackedSlot) (notes : Notes lines slots (carriers_to lines c (length (replies_all (take at ss))))) where
  step : (n : ℕ) → length (replies_of (said_at ss at)) ≡ n → Notes lines slots' (carriers_to lines c (length (replies_all (take at ss)) + n)) → Notes lines slots' (carriers_to lines c (length (replies_all (take (at + 1) ss))))
  step n is more = subst (λ (k : ℕ). Notes lines slots' (carriers_to lines c k)) (sym (front_more ss at lt ∙ ap (λ (k : ℕ). length (replies_all (take at ss)) + k) is)) more

  split : (s : Said) → said_at ss at ≡ s → get_or lines c [] ≡ replies_all (take at ss) ++ (replies_of s ++ replies_all (drop (suc at) ss))
  split s is = row ∙ split_at ss at lt ∙ ap (λ (t : Said). replies_all (take at ss) ++ (replies_of t ++ replies_all (drop (suc at) ss))) is

  pub scan_noted : (parts : List Part) (stop : Scanned) → said_at ss at ≡ Scan parts stop →
      ((ls : Lines) (before back : List (ℕ × Reply)) (end : Scanned) → c < length ls → get_or ls c [] ≡ before ++ (replies_of (Scan parts end) ++ back) → Notes ls slots (carriers_to ls c (length before)) → Notes ls slots' (carriers_to ls c (length before + length parts))) →
      Notes lines slots' (carriers_to lines c (length (replies_all (take (at + 1) ss))))
  scan_noted parts stop is noted =
      step (length parts) (ap (λ (t : Said). length (replies_of t)) is ∙ length-map parts its_reply)
      (noted lines (replies_all (take at ss)) (replies_all (drop (suc at) ss)) stop there (split (Scan parts stop) is) notes)

  call_said_noted : (n : ℕ) (reply : Reply) (number : ℕ) → said_at ss at ≡ Call n reply → number ≡ n →
      ((ls : Lines) (i : ℕ) (P : ℕ → List (ℕ × ℕ)) → Carries ls c i number → Notes ls slots P → Notes ls slots' (λ k. P k ++ if_carries number k (c, i))) →
      Notes lines slots' (carriers_to lines c (length (replies_all (take (at + 1) ss))))
  call_said_noted n reply number is is_number noted =
      let len : ℕ = length (replies_all (take at ss)) in
      let whole : get_or lines c [] ≡ replies_all (take at ss) ++ ((n, reply) ∷ replies_all (drop (suc at) ss)) = split (Call n reply) is in
      let zero' : len + 0 ≡ len = omega arith in
      let here : get_or (replies_all (take at ss) ++ ((n, reply) ∷ replies_all (drop (suc at) ss))) len (0, Nothing) ≡ (n, reply) =
      ap (λ (k : ℕ). get_or (replies_all (take at ss) ++ ((n, reply) ∷ replies_all (drop (suc at) ss))) k (0, Nothing)) (sym zero') ∙ get_or-append-add (replies_all (take at ss)) ((n, reply) ∷ replies_all (drop (suc at) ss)) 0 (0, Nothing) in
      let long : len < length (replies_all (take at ss) ++ ((n, reply) ∷ replies_all (drop (suc at) ss))) = omega (arith, length-append (replies_all (take at ss)) ((n, reply) ∷ replies_all (drop (suc at) ss))) in
      step 1 (ap (λ (t : Said). length (replies_of t)) is)
      (line_noted lines c len number (replies_all (take at ss) ++ ((n, reply) ∷ replies_all (drop (suc at) ss))) slots slots' whole there long (is_number ∙ ap (λ (r : ℕ × Reply). r.0) (sym here)) noted notes)

  pub call_noted : (number : ℕ) → IsOfCall (said_at ss at) → number ≡ number_of (said_at ss at) →
      ((ls : Lines) (i : ℕ) (P : ℕ → List (ℕ × ℕ)) → Carries ls c i number → Notes ls slots P → Notes ls slots' (λ k. P k ++ if_carries number k (c, i))) →
      Notes lines slots' (carriers_to lines c (length (replies_all (take (at + 1) ss))))
  call_noted number of_call is_number noted = by_said (said_at ss at) refl of_call
    where
      by_said : (s : Said) → said_at ss at ≡ s → IsOfCall s → Notes lines slots' (carriers_to lines c (length (replies_all (take (at + 1) ss))))
      by_said (Call n reply) is may = call_said_noted n reply number is (is_number ∙ ap number_of is) noted
      by_said (Scan parts stop) is may = absurd may

-- how many replies some first lines have

pub front_few : (ss : List Said) (n : ℕ) → length (replies_all (take n ss)) ≤ length (replies_all ss)
front_few ss zero = omega arith
front_few [] (suc n) = omega arith
front_few (s ∷ ss) (suc n) = let e = front_few ss n in omega (arith, e, length-append (replies_of s) (replies_all (take n ss)), length-append (replies_of s) (replies_all ss))

-- the first lines are of calls

pub one_more_of_call : (ss : List Said) (n : ℕ) → ((k : ℕ) → k < n → IsOfCall (said_at ss k)) → IsOfCall (said_at ss n) → (k : ℕ) → k < n + 1 → IsOfCall (said_at ss k)
one_more_of_call ss n before is k lt = by_side (side k n lt)
  where
    side : (k n : ℕ) → k < n + 1 → (k < n) ⊎ (n ≡ k)
    side k n lt = grind arith

    by_side : (k < n) ⊎ (n ≡ k) → IsOfCall (said_at ss k)
    by_side (inl below) = before k below
    by_side (inr e) = subst (λ (m : ℕ). IsOfCall (said_at ss m)) e is

pub all_of_calls : (ss : List Said) (n : ℕ) → length ss ≤ n → ((k : ℕ) → k < n → IsOfCall (said_at ss k)) → (k : ℕ) → IsOfCall (said_at ss k)
all_of_calls ss n le before k = by_side (side k n)
  where
    side : (k n : ℕ) → (k < n) ⊎ (n ≤ k)
    side k n = grind arith

    by_side : (k < n) ⊎ (n ≤ k) → IsOfCall (said_at ss k)
    by_side (inl below) = before k below
    by_side (inr past) = subst (λ (s : Said). IsOfCall s) (sym (get_or_past ss k (Call 0 Nothing) (omega arith))) tt

-- the replies of some first callers

calls-append : (xs ys : Lines) → calls_in (xs ++ ys) ≡ calls_in xs + calls_in ys
calls-append [] ys = omega arith
calls-append (x ∷ xs) ys = let e = calls-append xs ys in omega (arith, e)

pub callers_more : (said : List (List Said)) (i : ℕ) (ss : List Said) → i < length said → ss ≡ get_or said i ss → calls_in (lines_said (take (i + 1) said)) ≡ calls_in (lines_said (take i said)) + length (replies_all ss)
callers_more said i ss lt is =
    let here : get_or said i [] ≡ ss = sym (get_or_read said i ss lt is []) in
    let more : take (i + 1) said ≡ take i said ++ ss ∷ [] = take_more said i [] lt ∙ ap (λ (x : List Said). take i said ++ x ∷ []) here in
    let a : lines_said (take (i + 1) said) ≡ lines_said (take i said) ++ replies_all ss ∷ [] = ap lines_said more ∙ map-append replies_all (take i said) (ss ∷ []) in
    let b : calls_in (replies_all ss ∷ []) ≡ length (replies_all ss) = omega arith in
    ap calls_in a ∙ calls-append (lines_said (take i said)) (replies_all ss ∷ []) ∙ ap (λ (k : ℕ). calls_in (lines_said (take i said)) + k) b

pub callers_few : (said : List (List Said)) (n : ℕ) → calls_in (lines_said (take n said)) ≤ calls_in (lines_said said)
callers_few said zero = omega arith
callers_few [] (suc n) = omega arith
callers_few (ss ∷ said) (suc n) = let e = callers_few said n in omega (arith, e)

-- the lines of some first callers are of calls

abbrev OfCalls : List (List Said) → ℕ → Type 0
OfCalls said c = (k : ℕ) → IsOfCall (said_at (get_or said c []) k)

pub callers_of_calls : (said : List (List Said)) (n : ℕ) (ss : List Said) → n < length said → ss ≡ get_or said n ss → ((c : ℕ) → c < n → (k : ℕ) → IsOfCall (said_at (get_or said c []) k)) → ((k : ℕ) → IsOfCall (said_at ss k)) → (c : ℕ) → c < n + 1 → (k : ℕ) → IsOfCall (said_at (get_or said c []) k)
callers_of_calls said n ss lt is before here c less = by_side (side c n less)
  where
    side : (k n : ℕ) → k < n + 1 → (k < n) ⊎ (n ≡ k)
    side k n lt = grind arith

    last : OfCalls said n
    last = subst (λ (xs : List Said). (k : ℕ) → IsOfCall (said_at xs k)) (get_or_read said n ss lt is []) here

    by_side : (c < n) ⊎ (n ≡ c) → OfCalls said c
    by_side (inl below) = before c below
    by_side (inr e) = subst (OfCalls said) e last

pub no_scans : (said : List (List Said)) (n : ℕ) → length said ≤ n → ((c : ℕ) → c < n → (k : ℕ) → IsOfCall (said_at (get_or said c []) k)) → (c k : ℕ) → IsOfCall (said_at (get_or said c []) k)
no_scans said n le before c k = by_side (side c n)
  where
    side : (k n : ℕ) → (k < n) ⊎ (n ≤ k)
    side k n = grind arith

    by_side : (c < n) ⊎ (n ≤ c) → IsOfCall (said_at (get_or said c []) k)
    by_side (inl below) = before c below k
    by_side (inr past) = subst (λ (xs : List Said). IsOfCall (said_at xs k)) (sym (get_or_past said c [] (omega arith))) tt
