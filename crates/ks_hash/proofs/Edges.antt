-- The edge that carries a place.
use Rattle.std.specs.Prelude.{◌≡◌, ℕ, zero, suc, ◌+◌, ◌-◌, ◌*◌, ◌/◌, ◌^◌, ◌<◌, ◌≤◌, Bool, true, false, nat_eq, IsTrue, List, [], ◌∷◌, ◌++◌, length, get_or, take, drop, slice_get, None, Some, All, Any, refl}
use Rattle.std.specs.Option.{option_map}
use Rattle.std.proofs.Common.{arith, add-one, drop-cons, ap, ◌∙◌, sym, subst, inl, inr}
use Rattle.std.proofs.lemmas.List.{length-append, length-drop, length-take-le, get_or-take, get_or_default}
use Rattle.std.proofs.Math.Seq.{get_or-append_seam, take-append_seam, drop-append_seam}
use Rattle.std.proofs.Math.Nat.{mul_comm}
use Rattle.std.specs.List.{prefix_len}
use Rattle.std.proofs.lemmas.List.Elements.{All-head, All-nil, All-weaker}
use Rattle.std.proofs.lemmas.List.Sums.{prefix_len-le-length}
use Rattle.ks_node.specs.Keyed.{Ascends}
use Rattle.std.proofs.lemmas.Option.{slice_get-get_or}
use Rattle.std.proofs.lemmas.Bool.Decides.{eqb_tells}
use Rattle.ks_keysets.specs.declared.Edge.{Edge}
use Rattle.ks_keysets.specs.declared.Span.{Span}
use Rattle.ks_keysets.specs.Record.{Carries, top}
use Rattle.ks_node.specs.declared.start.Start.{Start}
use Rattle.ks_node.specs.Laws.Ascend.{all_below, all_from, asc_head}
use Rattle.ks_node.specs.Body.{starts_below, starts_from}
use Rattle.ks_node.specs.Asks.{IsSpanOf}
use Rattle.ks_node.specs.Spans.{plain_edges, AreWithin}
use Rattle.ks_node.specs.Laws.Spans.{edges_plain, length_plain, edge_last, edge_inner}
use Rattle.ks_hash.specs.Slices.{is_size, width_of, slice_starts, starts_of, IsRunBegin}
use Rattle.ks_hash.specs.Hash.{last_before, run_span}
use Rattle.ks_hash.specs.Laws.Joined.{joined_after, runs_front, runs_back, slice_lies, runs_split, runs_upto, runs_past, front_run, width_whole, width_pos, starts_ascend, starts_places}

none : Start
none = record { low = 0; node = 0 }

drop_past : {X : Type 0} (i : ℕ) (xs : List X) → length xs ≤ i → drop i xs ≡ []
drop_past zero [] h = refl
drop_past (suc i) [] h = refl
drop_past zero (x ∷ xs) h = absurd (omega arith)
drop_past (suc i) (x ∷ xs) h = drop_past i xs (omega arith)

module _ (ss : List Start) (n p : ℕ) (lower : starts_below (suc p) ss ≡ take (suc n) ss) (higher : starts_from (suc p) ss ≡ drop (suc n) ss) (h : n < length ss) where
  -- the edge from the last start at or below the place
  edge_is : (e : Edge) → get_or (plain_edges 0 top ss) n e ≡ record { span = record { low = (get_or ss n none).low; last = last_before (drop (suc n) ss) }; node = (get_or ss n none).node }
  edge_is e =
      let make : ℕ → Edge = λ last. record { span = record { low = (get_or ss n none).low; last = last }; node = (get_or ss n none).node } in
      elim (eqb_tells (n + 1) (length ss)) [
        | inl q ↦ (let end : last_before (drop (suc n) ss) ≡ top = ap last_before (drop_past (suc n) ss (omega (arith, q.1))) in
            edge_last top ss n none e q.1 ∙ ap make (sym end))
        | inr q ↦ (let more : suc n < length ss = omega (arith, q.1) in
            let end : last_before (drop (suc n) ss) ≡ (get_or ss (suc n) none).low - 1 = ap last_before (drop-cons ss (suc n) none more) in
            edge_inner top ss n none e (omega arith) ∙ ap make (ap (λ k. (get_or ss k none).low - 1) (add-one n) ∙ sym end))
      ]

  run_here : (e : Edge) → run_span ss p ≡ Some (get_or (plain_edges 0 top ss) n e).span
  run_here e =
      let long : length (take (suc n) ss) ≡ suc n = length-take-le (suc n) ss (omega arith) in
      let last : length (take (suc n) ss) - 1 ≡ n = omega arith in
      let make : Start → Span = λ s. record { low = s.low; last = last_before (starts_from (suc p) ss) } in
      ap (λ l. option_map make (slice_get l (length l - 1))) lower
      ∙ ap (λ k. option_map make (slice_get (take (suc n) ss) k)) last
      ∙ ap (option_map make) (slice_get-get_or (take (suc n) ss) n none (omega arith))
      ∙ ap (λ s. Some (make s)) (get_or-take (suc n) ss n none (omega arith))
      ∙ ap (λ l. Some (record { low = (get_or ss n none).low; last = last_before l })) higher
      ∙ ap (λ x. Some x.span) (sym (edge_is e))

  carries_here : (e : Edge) → p ≤ top → Carries (get_or (plain_edges 0 top ss) n e) p
  carries_here e l = subst (λ x. Carries x p) (sym (edge_is e)) (low, last (drop (suc n) ss) (subst (All (λ s. suc p ≤ s.low)) higher (all_from (λ s. s.low) (suc p) ss)))
    where
      low : (get_or ss n none).low ≤ p
      low =
          let long : length (take (suc n) ss) ≡ suc n = length-take-le (suc n) ss (omega arith) in
          let upto : All (λ s. s.low < suc p) (take (suc n) ss) = subst (All (λ s. s.low < suc p)) lower (all_below (λ s. s.low) (suc p) ss) in
          let here : (get_or (take (suc n) ss) n none).low < suc p = upto n none (omega arith) in
          let same : (get_or (take (suc n) ss) n none).low ≡ (get_or ss n none).low = ap (λ s. s.low) (get_or-take (suc n) ss n none (omega arith)) in
          omega arith

      last : (ts : List Start) → All (λ s. suc p ≤ s.low) ts → p ≤ last_before ts
      last [] a = l
      last (t ∷ ts) a = let above : suc p ≤ t.low = All-head (λ s. suc p ≤ s.low) t ts a in omega arith

pub run_at : (ss : List Start) (m p : ℕ) (e : Edge) → 0 < m → m ≤ length ss → starts_below (suc p) ss ≡ take m ss → starts_from (suc p) ss ≡ drop m ss →
    Some (get_or (plain_edges 0 top ss) (m - 1) e).span ≡ run_span ss p
run_at ss zero p e pos h lower higher = absurd (omega arith)
run_at ss (suc n) p e pos h lower higher =
    let back : suc n - 1 ≡ n = omega arith in
    ap (λ k. Some (get_or (plain_edges 0 top ss) k e).span) back ∙ sym (run_here ss n p lower higher (omega arith) e)

pub span_at : (ss : List Start) (m p : ℕ) (e : Edge) → AreWithin 0 top ss → p ≤ top → 0 < m → m ≤ length ss → starts_below (suc p) ss ≡ take m ss → starts_from (suc p) ss ≡ drop m ss →
    IsSpanOf ss p (get_or (plain_edges 0 top ss) (m - 1) e).span
span_at ss zero p e w l pos h lower higher = absurd (omega arith)
span_at ss (suc n) p e w l pos h lower higher =
    let back : suc n - 1 ≡ n = omega arith in
    let edge : Edge = get_or (plain_edges 0 top ss) n e in
    subst (λ k. IsSpanOf ss p (get_or (plain_edges 0 top ss) k e).span) (sym back)
    (subst (λ es. Any (λ x. Carries x p × (x.span ≡ edge.span)) es) (sym (edges_plain 0 top ss w))
    (n, edge, omega (arith, length_plain 0 top ss), get_or_default (plain_edges 0 top ss) n edge e (omega (arith, length_plain 0 top ss)), (carries_here ss n p lower higher (omega arith) e l, refl)))

-- the run of a place among the slices

one_more : (low width n : ℕ) → low + width + n * width ≡ low + suc n * width
one_more low width n = omega arith

last_of_run : (c width low : ℕ) (ds : List ℕ) → low + length ds * width ≡ 2 ^ 64 →
    last_before (joined_after (Some c) (slice_starts width low ds)) ≡ low + prefix_len (λ d. nat_eq d c) ds * width - 1
last_of_run c width low [] e = omega arith
last_of_run c width low (d ∷ ds) e = by_head (nat_eq d c) refl (last_of_run c width (low + width) ds (one_more low width (length ds) ∙ e))
  where
    more : (n : ℕ) → low + width + n * width - 1 ≡ low + (1 + n) * width - 1
    more n = ap (λ m. m - 1) (one_more low width n ∙ ap (λ m. low + m * width) (first n))
      where
        first : (n : ℕ) → suc n ≡ 1 + n
        first n = omega arith

    by_head : (b : Bool) → nat_eq d c ≡ b →
        last_before (joined_after (Some c) (slice_starts width (low + width) ds)) ≡ low + width + prefix_len (λ d. nat_eq d c) ds * width - 1 →
        last_before (joined_after (Some c) (slice_starts width low (d ∷ ds))) ≡ low + prefix_len (λ d. nat_eq d c) (d ∷ ds) * width - 1
    by_head true h later = rw h (later ∙ more (prefix_len (λ d. nat_eq d c) ds))
    by_head false h later = rw h (omega arith)

module _ (cs : List ℕ) (p : ℕ) (size : IsTrue (is_size (length cs))) (h : p < 2 ^ 64) where
  places_past : suc (p / width_of cs) * width_of cs + length (drop (suc (p / width_of cs)) cs) * width_of cs ≡ 2 ^ 64
  places_past =
      let i : ℕ = p / width_of cs in
      let lies : i < length cs = slice_lies cs p size h in
      let rest : length (drop (suc i) cs) ≡ length cs - suc i = length-drop (suc i) cs in
      let all : suc i + length (drop (suc i) cs) ≡ length cs = omega arith in
      together (suc i) (length (drop (suc i) cs)) (width_of cs) ∙ ap (λ n. n * width_of cs) all ∙ mul_comm (length cs) (width_of cs) ∙ width_whole (length cs) size
    where
      together : (a b w : ℕ) → a * w + b * w ≡ (a + b) * w
      together a b w = omega arith

  pub run_is : (b : ℕ) → IsRunBegin cs (p / width_of cs) b →
      run_span (starts_of cs) p ≡ Some (record { low = b * width_of cs; last = suc (p / width_of cs) * width_of cs + prefix_len (λ d. nat_eq d (get_or cs (p / width_of cs) 0)) (drop (suc (p / width_of cs)) cs) * width_of cs - 1 })
  run_is b r =
      let w : ℕ = width_of cs in
      let i : ℕ = p / w in
      let front : List Start = joined_after None (slice_starts w 0 (take b (take (suc i) cs))) in
      let one : Start = record { low = b * w; node = get_or cs i 0 } in
      let below : starts_below (suc p) (starts_of cs) ≡ front ++ one ∷ [] = runs_upto cs p size h ∙ front_run w cs i b (slice_lies cs p size h) r in
      let long : length (front ++ one ∷ []) ≡ length front + 1 = length-append front (one ∷ []) in
      let at : length (front ++ one ∷ []) - 1 ≡ length front = omega arith in
      let got : slice_get (front ++ one ∷ []) (length front) ≡ Some one =
      slice_get-get_or (front ++ one ∷ []) (length front) one (omega arith) ∙ ap (λ s. Some s) (get_or-append_seam front one [] one) in
      let past : last_before (starts_from (suc p) (starts_of cs)) ≡ suc i * w + prefix_len (λ d. nat_eq d (get_or cs i 0)) (drop (suc i) cs) * w - 1 =
      ap last_before (runs_past cs p size h) ∙ last_of_run (get_or cs i 0) w (suc i * w) (drop (suc i) cs) places_past in
      let make : Start → Span = λ s. record { low = s.low; last = last_before (starts_from (suc p) (starts_of cs)) } in
      ap (λ l. option_map make (slice_get l (length l - 1))) below
      ∙ ap (λ n. option_map make (slice_get (front ++ one ∷ []) n)) at
      ∙ ap (option_map make) got
      ∙ ap (λ n. Some (record { low = b * w; last = n })) past

  pub run_carries : AreWithin 0 top (starts_of cs) → (x : Span) → run_span (starts_of cs) p ≡ Some x → IsSpanOf (starts_of cs) p x
  run_carries w x is = by_count (length (runs_front cs p size h)) refl
    where
      ss : List Start
      ss = starts_of cs

      lower : starts_below (suc p) ss ≡ take (length (runs_front cs p size h)) ss
      lower = runs_upto cs p size h ∙ sym (ap (take (length (runs_front cs p size h))) (runs_split cs p size h) ∙ take-append_seam (runs_front cs p size h) (runs_back cs p size h))

      higher : starts_from (suc p) ss ≡ drop (length (runs_front cs p size h)) ss
      higher = runs_past cs p size h ∙ sym (ap (drop (length (runs_front cs p size h))) (runs_split cs p size h) ∙ drop-append_seam (runs_front cs p size h) (runs_back cs p size h))

      within : length (runs_front cs p size h) ≤ length ss
      within = let n = length-append (runs_front cs p size h) (runs_back cs p size h) in let m = ap length (runs_split cs p size h) in omega arith

      some : 0 < length (runs_front cs p size h)
      some = let n = ap length (sym (runs_upto cs p size h)) in has_one (starts_below (suc p) ss) is n
        where
          has_one : (ls : List Start) → option_map (λ s. record { low = s.low; last = last_before (starts_from (suc p) ss) }) (slice_get ls (length ls - 1)) ≡ Some x → length (runs_front cs p size h) ≡ length ls → 0 < length (runs_front cs p size h)
          has_one [] e n = absurd (no e)
            where
              no : None ≡ Some x → ⊥
              no e = cc
          has_one (l ∷ ls) e n = omega arith

      by_count : (m : ℕ) → m ≡ length (runs_front cs p size h) → IsSpanOf ss p x
      by_count m e =
          let edge : Edge = record { span = x; node = 0 } in
          let same : Some (get_or (plain_edges 0 top ss) (m - 1) edge).span ≡ Some x =
          run_at ss m p edge (omega (arith, some)) (omega (arith, within)) (lower ∙ ap (λ n. take n ss) (sym e)) (higher ∙ ap (λ n. drop n ss) (sym e)) ∙ is in
          let here : (get_or (plain_edges 0 top ss) (m - 1) edge).span ≡ x = cc in
          subst (IsSpanOf ss p) here
          (span_at ss m p edge w (omega arith) (omega (arith, some)) (omega (arith, within)) (lower ∙ ap (λ n. take n ss) (sym e)) (higher ∙ ap (λ n. drop n ss) (sym e)))

  pub run_found : (b at n w : ℕ) → at ≡ p / width_of cs → w ≡ width_of cs → IsRunBegin cs at b → n ≡ prefix_len (λ d. nat_eq d (get_or cs at 0)) (drop (at + 1) cs) →
      run_span (starts_of cs) p ≡ Some (record { low = b * w; last = (at + n) * w + (w - 1) })
  run_found b at n w at_is w_is r n_is =
      let i : ℕ = p / width_of cs in
      let v : ℕ = width_of cs in
      let k : ℕ = prefix_len (λ d. nat_eq d (get_or cs i 0)) (drop (suc i) cs) in
      let n_there : n ≡ k = n_is ∙ ap (λ j. prefix_len (λ d. nat_eq d (get_or cs j 0)) (drop (j + 1) cs)) at_is ∙ ap (λ m. prefix_len (λ d. nat_eq d (get_or cs i 0)) (drop m cs)) (add-one i) in
      run_is b (subst (λ j. IsRunBegin cs j b) at_is r)
      ∙ ap (λ m. Some (record { low = b * v; last = m })) (last_place i k v (width_pos (length cs) size))
      ∙ ap (λ j. Some (record { low = b * v; last = (j + k) * v + (v - 1) })) (sym at_is)
      ∙ ap (λ m. Some (record { low = b * v; last = (at + m) * v + (v - 1) })) (sym n_there)
      ∙ ap (λ u. Some (record { low = b * u; last = (at + n) * u + (u - 1) })) (sym w_is)
    where
      last_place : (i k v : ℕ) → 0 < v → suc i * v + k * v - 1 ≡ (i + k) * v + (v - 1)
      last_place i k v pos = omega arith

-- a run ends at the last slice or before
pub run_lies : (cs : List ℕ) (c at n : ℕ) → at < length cs → n ≡ prefix_len (λ d. nat_eq d c) (drop (at + 1) cs) → at + n < length cs
run_lies cs c at n h is =
    let few : prefix_len (λ d. nat_eq d c) (drop (at + 1) cs) ≤ length (drop (at + 1) cs) = prefix_len-le-length (λ d. nat_eq d c) (drop (at + 1) cs) in
    let long : length (drop (at + 1) cs) ≡ length cs - (at + 1) = length-drop (at + 1) cs in
    omega arith

pub starts_within : (cs : List ℕ) → IsTrue (is_size (length cs)) → AreWithin 0 top (starts_of cs)
starts_within cs size = record { ordered = omega arith; ascend = starts_ascend cs size; upto = starts_places cs size; above = tail_positive (starts_of cs) (starts_ascend cs size) }
  where
    tail_positive : (ss : List Start) → Ascends (λ s. s.low) ss → All (λ s. 0 < s.low) (drop 1 ss)
    tail_positive [] a = All-nil (λ s. 0 < s.low)
    tail_positive (s ∷ ss) a = All-weaker (λ t. s.low < t.low) (λ t. 0 < t.low) (λ t l. omega arith) ss (asc_head (λ s. s.low) s ss a)
