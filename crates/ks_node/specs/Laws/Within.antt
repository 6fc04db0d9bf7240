-- Each call leaves a body's range and edges in step.
use Rattle.std.specs.Prelude.{◌≡◌, ℕ, ◌-◌, ◌<◌, ◌≤◌, Bool, true, false, cond, IsTrue, List, [], ◌∷◌, ◌++◌, All, drop, refl, Some, max}
use Rattle.std.proofs.Common.{arith, subst}
use Rattle.std.proofs.lemmas.List.Elements.{All-filter, All-weaker, All-cons, All-append, All-nil, All-drop}
use Rattle.ks_keysets.specs.declared.Kind.{Kind}
use Rattle.ks_keysets.specs.declared.Span.{Span}
use Rattle.ks_keysets.specs.Record.{top}
use Rattle.ks_node.specs.declared.start.Start.{Start}
use Rattle.ks_node.specs.Keyed.{Ascends}
use Rattle.ks_node.specs.Laws.Ascend.{asc_filter, all_below, all_from}
use Rattle.ks_node.specs.Body.{Body, is_branch, starts_below, starts_from}
use Rattle.ks_node.specs.Effect.{first_from, without, split_left, split_right, grown, adopted, absorbed, forgot, reached, with_range}
use Rattle.ks_node.specs.Sound.{Framed, starts_at_zero}
use Rattle.ks_node.specs.Laws.Starts.{differ, tail_filter, tail_append, tail_first, all_first, all_without, tail_without, all_settled, tail_settled, tail_insert, all_insert, tail_above}

either : (P : List Start → Type 0) (b : Bool) (xs ys : List Start) → (b ≡ true → P xs) → (b ≡ false → P ys) → P (cond b xs ys)
either P true xs ys a c = a refl
either P false xs ys a c = c refl

module _ {r : Span} {b : Body} (f : Framed r b) where
  pub framed_left : (cut : ℕ) → r.low < cut → cut ≤ r.last → Framed (record { low = r.low; last = cut - 1 }) (split_left cut b)
  framed_left cut h l =
      let end : r.last ≤ top = f.ends in
      record {
        low_is = f.low_is;
        ordered = omega arith;
        ends = omega arith;
        upto = All-weaker (λ s. s.low < cut) (λ s. s.low ≤ cut - 1) (λ s k. omega arith) _ (all_below (λ s. s.low) cut b.starts);
        above = tail_filter (λ s. r.low < s.low) _ b.starts f.above;
      }

  pub framed_right : (cut : ℕ) → Ascends (λ s. s.low) b.starts → r.low < cut → cut ≤ r.last → Framed (record { low = cut; last = r.last }) (split_right cut b)
  framed_right cut asc h l =
      let up : Ascends (λ s. s.low) (starts_from cut b.starts) = asc_filter (λ s. s.low) _ b.starts asc in
      let high : All (λ s. cut < s.low) (drop 1 (starts_from cut b.starts)) = tail_above cut (starts_from cut b.starts) up (all_from (λ s. s.low) cut b.starts) in
      let within : All (λ s. s.low ≤ r.last) (starts_from cut b.starts) = All-filter _ (λ s. s.low ≤ r.last) b.starts f.upto in
      record {
        low_is = refl;
        ordered = l;
        ends = f.ends;
        upto = either (All (λ s. s.low ≤ r.last)) (is_branch b) _ _ (λ e. all_first (λ s. s.low ≤ r.last) 0 (starts_from cut b.starts) (λ s q. omega arith) (All-drop (λ s. s.low ≤ r.last) 1 _ within)) (λ e. within);
        above = either (λ ss. All (λ s. cut < s.low) (drop 1 ss)) (is_branch b) _ _ (λ e. tail_first (λ s. cut < s.low) 0 (starts_from cut b.starts) high) (λ e. high);
      }

  pub framed_grown : (kind : Kind) (cut left right : ℕ) → r.low < cut → cut ≤ r.last → Framed r (grown kind cut left right b)
  framed_grown kind cut left right h l =
      let one : Start = record { low = 0; node = left } in
      let two : Start = record { low = cut; node = right } in
      record {
        low_is = f.low_is;
        ordered = f.ordered;
        ends = f.ends;
        upto = all_settled (λ s. s.low ≤ r.last) kind (one ∷ two ∷ []) (All-cons (λ s. s.low ≤ r.last) one (two ∷ []) (omega arith) (All-cons (λ s. s.low ≤ r.last) two [] l (All-nil (λ s. s.low ≤ r.last))));
        above = tail_settled (λ s. r.low < s.low) kind (one ∷ two ∷ []) (All-cons (λ s. r.low < s.low) two [] h (All-nil (λ s. r.low < s.low)));
      }

  pub framed_adopted : (cut id : ℕ) → (is_branch b ≡ true → IsTrue (starts_at_zero b.starts)) → r.low < cut → cut ≤ r.last → Framed r (adopted cut id b)
  framed_adopted cut id z h l =
      let new : Start = record { low = cut; node = id } in
      let more : List Start = starts_below cut b.starts ++ new ∷ starts_from cut b.starts in
      record {
        low_is = f.low_is;
        ordered = f.ordered;
        ends = f.ends;
        upto = either (All (λ s. s.low ≤ r.last)) (is_branch b) _ _
            (λ e. all_settled (λ s. s.low ≤ r.last) b.kind more (all_insert (λ s. s.low ≤ r.last) cut id b.starts l f.upto))
            (λ e. All-cons (λ s. s.low ≤ r.last) new [] l (All-nil (λ s. s.low ≤ r.last)));
        above = either (λ ss. All (λ s. r.low < s.low) (drop 1 ss)) (is_branch b) _ _
            (λ e. tail_settled (λ s. r.low < s.low) b.kind more (tail_insert (λ s. r.low < s.low) cut id b.starts (omega arith) (z e) h f.above))
            (λ e. All-nil (λ s. r.low < s.low));
      }

  pub framed_reached : (right : Body) (last : ℕ) → r.last ≤ last → last ≤ top → Framed (record { low = r.low; last = last }) (reached b right)
  framed_reached right last h l =
      let ordered : r.low ≤ r.last = f.ordered in
      record {
        low_is = f.low_is;
        ordered = omega arith;
        ends = l;
        upto = All-weaker (λ s. s.low ≤ r.last) (λ s. s.low ≤ last) (λ s k. omega arith) b.starts f.upto;
        above = f.above;
      }

  pub framed_forgot : (id : ℕ) → Framed r (forgot id b)
  framed_forgot id = record {
    low_is = f.low_is;
    ordered = f.ordered;
    ends = f.ends;
    upto = all_settled (λ s. s.low ≤ r.last) b.kind (without id b.starts) (all_without (λ s. s.low ≤ r.last) id b.starts f.upto);
    above = tail_settled (λ s. r.low < s.low) b.kind (without id b.starts) (tail_without (λ s. r.low < s.low) id b.starts f.above);
  }

  -- a branch has an edge, so the low of what it absorbs is above its own
  low_below : (m : ℕ) (ss : List Start) → IsTrue (starts_at_zero ss) → All (λ s. max r.low s.low < m) ss → r.low < m
  low_below m [] z a = absurd (differ refl z)
  low_below m (s ∷ ss) z a = let first : max r.low s.low < m = a 0 s (omega arith) in omega arith

  pub framed_absorbed : {q : Span} {c : Body} → Framed q c → b.kind ≡ c.kind → (is_branch b ≡ true → IsTrue (starts_at_zero b.starts)) →
      b.low ≤ c.low → (IsTrue (is_branch b) → All (λ s. max r.low s.low < c.low) b.starts) → r.last ≤ q.last →
      Framed (record { low = r.low; last = q.last }) (absorbed b c)
  framed_absorbed {q} {c} g kind z lows seam ends =
      let low_b : b.low ≡ r.low = f.low_is in
      let low_c : c.low ≡ q.low = g.low_is in
      let ordered : q.low ≤ q.last = g.ordered in
      let high : All (λ s. r.low < s.low) (drop 1 c.starts) = All-weaker (λ s. q.low < s.low) (λ s. r.low < s.low) (λ s k. omega arith) (drop 1 c.starts) g.above in
      record {
        low_is = f.low_is;
        ordered = omega arith;
        ends = g.ends;
        upto = either (All (λ s. s.low ≤ q.last)) (is_branch b) _ _
            (λ e. All-append (λ s. s.low ≤ q.last) b.starts _ (All-weaker (λ s. s.low ≤ r.last) (λ s. s.low ≤ q.last) (λ s k. omega arith) b.starts f.upto)
            (all_first (λ s. s.low ≤ q.last) c.low c.starts (λ s k. omega arith) (All-drop (λ s. s.low ≤ q.last) 1 c.starts g.upto)))
            (λ e. g.upto);
        above = either (λ ss. All (λ s. r.low < s.low) (drop 1 ss)) (is_branch b) _ _
            (λ e. let over : r.low < c.low = low_below c.low b.starts (z e) (seam e) in
            tail_append (λ s. r.low < s.low) b.starts (first_from c.low c.starts) f.above
            (all_first (λ s. r.low < s.low) c.low c.starts (λ s k. omega arith) high))
            (λ e. high);
      }

-- if the body inside is in step with a range, so is the body with that range
pub framed_with : {q r : Span} {b : Body} → Framed q b → Some q ≡ Some r → Framed r (with_range q b)
framed_with {q} {r} {b} f e =
    let same : q ≡ r = cc in
    let g : Framed q (with_range q b) = record { low_is = f.low_is; ordered = f.ordered; ends = f.ends; upto = f.upto; above = f.above } in
    subst (λ s. Framed s (with_range q b)) same g
