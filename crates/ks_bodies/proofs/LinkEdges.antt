-- The edges of a part of a body are edges of the body, or the first parts of some.
use Rattle.std.proofs.Common.{ℕ, zero, suc, ◌≡◌, ◌<◌, ◌≤◌, ◌-◌, ◌⊎◌, inl, inr, cond, Bool, true, false, List, [], ◌∷◌, ◌++◌, refl, sym, ◌∙◌, ap, subst, arith}
use Rattle.std.specs.Prelude.{All, Any, nat_lt, nat_le, min, max, drop, IsTrue}
use Rattle.std.proofs.lemmas.Bool.{lt-ltb, le-ltb, le-leb, lt-leb}
use Rattle.std.proofs.lemmas.List.Elements.{All-cons, All-nil}
use Rattle.ks_keysets.specs.declared.Edge.{Edge}
use Rattle.ks_keysets.specs.declared.Kind.{Kind}
use Rattle.ks_keysets.specs.declared.Kind.TheVariants.{NoBranch, Inner, Directory}
use Rattle.ks_node.specs.declared.start.Start.{Start}
use Rattle.ks_node.specs.Body.{starts_below, starts_from, begins, is_branch_kind}
use Rattle.ks_node.specs.Edges.{add_edge, edges_from}
use Rattle.ks_node.specs.Effect.{first_from}
use Rattle.ks_bodies.proofs.Led.{low_or_high, AllAbove, Ascend, parts_above, begins_from}

-- some element of a list

pub any_head : (Q : Edge → Type 0) (e : Edge) (es : List Edge) → Q e → Any Q (e ∷ es)
any_head Q e es h = (0, e, omega arith, refl, h)

pub any_tail : (Q : Edge → Type 0) (e : Edge) (es : List Edge) → Any Q es → Any Q (e ∷ es)
any_tail Q e es y = (suc y.0, y.1, omega (arith, y.2), y.3, y.4)

pub any_first : (Q : Edge → Type 0) (xs ys : List Edge) → Any Q xs → Any Q (xs ++ ys)
any_first Q [] ys (k, e, lt, is, h) = absurd (omega arith)
any_first Q (x ∷ xs) ys (zero, e, lt, is, h) = (0, e, omega arith, is, h)
any_first Q (x ∷ xs) ys (suc k, e, lt, is, h) = any_tail Q x (xs ++ ys) (any_first Q xs ys (k, e, omega arith, is, h))

pub any_second : (Q : Edge → Type 0) (xs ys : List Edge) → Any Q ys → Any Q (xs ++ ys)
any_second Q [] ys y = y
any_second Q (x ∷ xs) ys y = any_tail Q x (xs ++ ys) (any_second Q xs ys y)

pub all_any : (Q : Edge → Edge → Type 0) (es : List Edge) → ((e : Edge) → Q e e) → All (λ e. Any (λ d. Q d e) es) es
all_any Q [] same = All-nil (λ e. Any (λ d. Q d e) [])
all_any Q (x ∷ xs) same = All-cons (λ e. Any (λ d. Q d e) (x ∷ xs)) x xs (any_head (λ d. Q d x) x xs (same x)) (λ k d lt. any_tail (λ y. Q y _) x xs (all_any Q xs same k d lt))

-- one more edge, if it is not empty

any_here : (Q : Edge → Type 0) (low last n : ℕ) (es : List Edge) → low ≤ last → Q (record { span = record { low = low; last = last }; node = n }) → Any Q (add_edge low last n es)
any_here Q low last n es le h = let t : nat_le low last ≡ true = le-leb _ _ le in rw t (any_head Q (record { span = record { low = low; last = last }; node = n }) es h)

any_there : (Q : Edge → Type 0) (low last n : ℕ) (es : List Edge) → Any Q es → Any Q (add_edge low last n es)
any_there Q low last n es y = go (nat_le low last)
  where
    go : (b : Bool) → Any Q (cond b (record { span = record { low = low; last = last }; node = n } ∷ es) es)
    go true = any_tail Q (record { span = record { low = low; last = last }; node = n }) es y
    go false = y

pub all_if : (P : Edge → Type 0) (low last n : ℕ) (es : List Edge) → (low ≤ last → P (record { span = record { low = low; last = last }; node = n })) → All P es → All P (add_edge low last n es)
all_if P low last n es h all = elim (low_or_high last low) [
  | inl lt ↦ (let t : nat_le low last ≡ false = lt-leb _ _ lt in rw t all)
  | inr le ↦ (let t : nat_le low last ≡ true = le-leb _ _ le in rw t (All-cons P (record { span = record { low = low; last = last }; node = n }) es (h le) all))
]

-- where the edge of a start ends, by the starts after it
abbrev end_by : ℕ → List Start → ℕ
end_by last [] = last
end_by last (t ∷ ts) = min last (t.low - 1)

edges_step : (first last : ℕ) (s : Start) (ss : List Start) → edges_from first last (s ∷ ss) ≡ add_edge (max first s.low) (end_by last ss) s.node (edges_from first last ss)
edges_step first last s [] = refl
edges_step first last s (t ∷ ts) = refl

-- the edge is one of these, or the first part of one
abbrev pub PartIn : List Edge → Edge → Type 0
PartIn es e = Any (λ d. (d.node ≡ e.node) × (d.span.low ≡ e.span.low) × (e.span.last ≤ d.span.last)) es

part_more : (first last : ℕ) (s : Start) (ss : List Start) (e : Edge) → PartIn (edges_from first last ss) e → PartIn (edges_from first last (s ∷ ss)) e
part_more first last s ss e y = subst (λ (es : List Edge). PartIn es e) (sym (edges_step first last s ss)) (any_there (λ d. (d.node ≡ e.node) × (d.span.low ≡ e.span.low) × (e.span.last ≤ d.span.last)) (max first s.low) (end_by last ss) s.node (edges_from first last ss) y)

part_here : (first last end : ℕ) (s : Start) (ss : List Start) → max first s.low ≤ end → end ≤ end_by last ss → PartIn (edges_from first last (s ∷ ss)) (record { span = record { low = max first s.low; last = end }; node = s.node })
part_here first last end s ss le le' = subst (λ (es : List Edge). PartIn es (record { span = record { low = max first s.low; last = end }; node = s.node })) (sym (edges_step first last s ss))
    (any_here (λ d. (d.node ≡ s.node) × (d.span.low ≡ max first s.low) × (end ≤ d.span.last)) (max first s.low) (end_by last ss) s.node (edges_from first last ss) (omega arith) (refl, refl, le'))

-- the edges below the cut

below_end : (last cut : ℕ) (s : Start) (ss : List Start) → Ascend (s ∷ ss) → s.low < cut → cut ≤ last → (end_by (cut - 1) (starts_below cut ss) ≤ end_by last ss) × (end_by (cut - 1) (starts_below cut ss) < cut)
below_end last cut s [] up lt le = (omega arith, omega arith)
below_end last cut s (t ∷ ts) up lt le = elim (low_or_high t.low cut) [
  | inl h ↦ (let a : nat_lt t.low cut ≡ true = lt-ltb _ _ h in rw a (omega arith, omega arith))
  | inr h ↦ (
      let a : nat_lt t.low cut ≡ false = le-ltb _ _ h in
      let y = (parts_above cut ts t.low up.1.0 h).0 in
      rw (a, y) (omega arith, omega arith))
]

pub edges_below : (first last cut : ℕ) (ss : List Start) → Ascend ss → cut ≤ last → All (λ e. PartIn (edges_from first last ss) e × (e.span.low < cut) × (e.span.last < cut)) (edges_from first (cut - 1) (starts_below cut ss))
edges_below first last cut [] up le = λ k d lt. absurd (omega arith)
edges_below first last cut (s ∷ ss) up le = elim (low_or_high s.low cut) [
  | inl lt ↦ (
      let a : nat_lt s.low cut ≡ true = lt-ltb _ _ lt in
      let end = below_end last cut s ss up lt le in
      let rest : All (λ e. PartIn (edges_from first last (s ∷ ss)) e × (e.span.low < cut) × (e.span.last < cut)) (edges_from first (cut - 1) (starts_below cut ss)) =
      λ k d l. let y = edges_below first last cut ss up.1 le k d l in (part_more first last s ss _ y.0, y.1, y.2) in
      rw a (subst (λ (es : List Edge). All (λ e. PartIn (edges_from first last (s ∷ ss)) e × (e.span.low < cut) × (e.span.last < cut)) es) (sym (edges_step first (cut - 1) s (starts_below cut ss)))
      (all_if (λ e. PartIn (edges_from first last (s ∷ ss)) e × (e.span.low < cut) × (e.span.last < cut)) (max first s.low) (end_by (cut - 1) (starts_below cut ss)) s.node (edges_from first (cut - 1) (starts_below cut ss))
      (λ l. (part_here first last (end_by (cut - 1) (starts_below cut ss)) s ss l end.0, omega (arith, l, end.1), end.1)) rest)))
  | inr ge ↦ (
      let y = (parts_above cut ss s.low up.0 ge).0 in
      let a : nat_lt s.low cut ≡ false = le-ltb _ _ ge in
      rw (a, y) (λ k d l. absurd (omega arith)))
]

-- the edges from the cut on

abbrev FromAll : ℕ → List Start → Type 0
FromAll cut [] = Unit {0}
FromAll cut (s ∷ ss) = (cut ≤ s.low) × FromAll cut ss

edges_same : (a b last : ℕ) (ss : List Start) → All (λ s. (a ≤ s.low) × (b ≤ s.low)) ss → edges_from a last ss ≡ edges_from b last ss
edges_same a b last [] above = refl
edges_same a b last (s ∷ ss) above =
    let low : max a s.low ≡ max b s.low = omega (arith, above 0 s (omega arith)) in
    edges_step a last s ss ∙ ap (λ (n : ℕ). add_edge n (end_by last ss) s.node (edges_from a last ss)) low
    ∙ ap (λ (es : List Edge). add_edge (max b s.low) (end_by last ss) s.node es) (edges_same a b last ss (λ k d lt. above (suc k) d (omega arith)))
    ∙ sym (edges_step b last s ss)

all_from_above : (cut : ℕ) (ss : List Start) → AllAbove cut ss → All (λ s. cut ≤ s.low) ss
all_from_above cut [] above = All-nil (λ s. cut ≤ s.low)
all_from_above cut (s ∷ ss) above = All-cons (λ s. cut ≤ s.low) s ss (omega (arith, above.0)) (all_from_above cut ss above.1)

-- those of a node with its own edge
right_own : (cut : ℕ) (ss : List Start) → All (λ s. cut ≤ s.low) ss → starts_from cut ss ≡ ss
right_own cut [] above = refl
right_own cut (s ∷ ss) above =
    let t : nat_le cut s.low ≡ true = le-leb _ _ (above 0 s (omega arith)) in
    rw t (ap (λ (xs : List Start). s ∷ xs) (right_own cut ss (λ k d lt. above (suc k) d (omega arith))))

-- those of an inner node, whose first start reaches down
right_inner : (first last cut x : ℕ) (rest : List Start) → first ≤ cut → AllAbove cut rest →
    edges_from cut last (first_from 0 (record { low = cut; node = x } ∷ rest)) ≡ edges_from first last (record { low = cut; node = x } ∷ rest)
right_inner first last cut x rest le above =
    let low : max cut 0 ≡ max first cut = omega arith in
    edges_step cut last (record { low = 0; node = x }) rest
    ∙ ap (λ (n : ℕ). add_edge n (end_by last rest) x (edges_from cut last rest)) low
    ∙ ap (λ (es : List Edge). add_edge (max first cut) (end_by last rest) x es) (edges_same cut first last rest (λ k d lt. (all_from_above cut rest above k d lt, omega (arith, all_from_above cut rest above k d lt))))
    ∙ sym (edges_step first last (record { low = cut; node = x }) rest)

pub right_edges : (kind : Kind) (first last cut : ℕ) (ss : List Start) → Ascend ss → (kind ≡ Inner → IsTrue (begins cut ss)) → (kind ≡ NoBranch → All (λ s. cut ≤ s.low) ss) → (kind ≡ Directory → ⊥) → first ≤ cut →
    edges_from cut last (cond (is_branch_kind kind) (first_from 0 (starts_from cut ss)) (starts_from cut ss)) ≡ edges_from first last (starts_from cut ss)
right_edges NoBranch first last cut ss up inner own dir le =
    let y = right_own cut ss (own refl) in
    ap (λ (xs : List Start). edges_from cut last xs) y ∙ edges_same cut first last ss (λ k d lt. (own refl k d lt, omega (arith, own refl k d lt))) ∙ sym (ap (λ (xs : List Start). edges_from first last xs) y)
right_edges Inner first last cut ss up inner own dir le =
    let y = begins_from cut ss up (inner refl) in
    ap (λ (xs : List Start). edges_from cut last (first_from 0 xs)) y.2 ∙ right_inner first last cut y.0 y.1 le y.3 ∙ sym (ap (λ (xs : List Start). edges_from first last xs) y.2)
right_edges Directory first last cut ss up inner own dir le = absurd (dir refl)

pub edges_part_from : (first last cut : ℕ) (ss : List Start) → Ascend ss → All (λ e. PartIn (edges_from first last ss) e × (cut ≤ e.span.low)) (edges_from first last (starts_from cut ss))
edges_part_from first last cut [] up = λ k d lt. absurd (omega arith)
edges_part_from first last cut (s ∷ ss) up = elim (low_or_high s.low cut) [
  | inl lt ↦ (
      let a : nat_le cut s.low ≡ false = lt-leb _ _ lt in
      rw a (λ k d l. let y = edges_part_from first last cut ss up.1 k d l in (part_more first last s ss _ y.0, y.1)))
  | inr ge ↦ (
      let a : nat_le cut s.low ≡ true = le-leb _ _ ge in
      let y = (parts_above cut ss s.low up.0 ge).1 in
      rw (a, y) (λ k d l. (all_any (λ d e. (d.node ≡ e.node) × (d.span.low ≡ e.span.low) × (e.span.last ≤ d.span.last)) (edges_from first last (s ∷ ss)) (λ e. (refl, refl, omega arith)) k d l, edges_low first last cut (s ∷ ss) (ge, above_all_less ss s.low cut up.0 ge) k d l)))
]
  where
    above_all_less : (ss : List Start) (l cut : ℕ) → AllAbove l ss → cut ≤ l → FromAll cut ss
    above_all_less [] l cut above le = tt
    above_all_less (s ∷ ss) l cut above le = (omega (arith, above.0), above_all_less ss l cut above.1 le)

    edges_low : (first last cut : ℕ) (ss : List Start) → FromAll cut ss → All (λ e. cut ≤ e.span.low) (edges_from first last ss)
    edges_low first last cut [] above = All-nil (λ e. cut ≤ e.span.low)
    edges_low first last cut (s ∷ ss) above = subst (λ (es : List Edge). All (λ e. cut ≤ e.span.low) es) (sym (edges_step first last s ss))
        (all_if (λ e. cut ≤ e.span.low) (max first s.low) (end_by last ss) s.node (edges_from first last ss) (λ l. omega (arith, above.0)) (edges_low first last cut ss above.1))

-- a new start at the cut ends the edge before it, and begins one of its own

insert_end : (last cut id : ℕ) (s : Start) (ss : List Start) → Ascend (s ∷ ss) → s.low < cut → end_by last (starts_below cut ss ++ record { low = cut; node = id } ∷ starts_from cut ss) ≤ end_by last ss
insert_end last cut id s [] up lt = omega arith
insert_end last cut id s (t ∷ ts) up lt = elim (low_or_high t.low cut) [
  | inl h ↦ (let a : nat_lt t.low cut ≡ true = lt-ltb _ _ h in rw a (omega arith))
  | inr h ↦ (
      let a : nat_lt t.low cut ≡ false = le-ltb _ _ h in
      let y = (parts_above cut ts t.low up.1.0 h).0 in
      rw (a, y) (omega arith))
]

pub edges_insert : (first last cut id : ℕ) (ss : List Start) → Ascend ss → first < cut → All (λ e. PartIn (edges_from first last ss) e ⊎ ((e.node ≡ id) × (e.span.low ≡ cut) × (e.span.last ≤ last))) (edges_from first last (starts_below cut ss ++ record { low = cut; node = id } ∷ starts_from cut ss))
edges_insert first last cut id [] up above = all_if (λ e. PartIn [] e ⊎ ((e.node ≡ id) × (e.span.low ≡ cut) × (e.span.last ≤ last))) (max first cut) last id [] (λ l. inr (refl, omega arith, omega arith)) (λ k d l. absurd (omega arith))
edges_insert first last cut id (s ∷ ss) up above = elim (low_or_high s.low cut) [
  | inl lt ↦ (
      let a : nat_lt s.low cut ≡ true = lt-ltb _ _ lt in
      let c : nat_le cut s.low ≡ false = lt-leb _ _ lt in
      rw (a, c) (subst (λ (es : List Edge). All IsInserted es) (sym (edges_step first last s (starts_below cut ss ++ record { low = cut; node = id } ∷ starts_from cut ss)))
      (all_if IsInserted (max first s.low) (end_by last (starts_below cut ss ++ record { low = cut; node = id } ∷ starts_from cut ss)) s.node (edges_from first last (starts_below cut ss ++ record { low = cut; node = id } ∷ starts_from cut ss))
      (λ l. inl (part_here first last (end_by last (starts_below cut ss ++ record { low = cut; node = id } ∷ starts_from cut ss)) s ss l (insert_end last cut id s ss up lt)))
      (λ k d l. more _ (edges_insert first last cut id ss up.1 above k d l)))))
  | inr ge ↦ (
      let a : nat_lt s.low cut ≡ false = le-ltb _ _ ge in
      let c : nat_le cut s.low ≡ true = le-leb _ _ ge in
      let y = parts_above cut ss s.low up.0 ge in
      rw (a, c, y.0, y.1) (all_if IsInserted (max first cut) (end_by last (s ∷ ss)) id (edges_from first last (s ∷ ss)) (λ l. inr (refl, omega arith, omega arith))
      (λ k d l. inl (all_any (λ d e. (d.node ≡ e.node) × (d.span.low ≡ e.span.low) × (e.span.last ≤ d.span.last)) (edges_from first last (s ∷ ss)) (λ e. (refl, refl, omega arith)) k d l))))
]
  where
    IsInserted : Edge → Type 0
    IsInserted e = PartIn (edges_from first last (s ∷ ss)) e ⊎ ((e.node ≡ id) × (e.span.low ≡ cut) × (e.span.last ≤ last))

    more : (e : Edge) → PartIn (edges_from first last ss) e ⊎ ((e.node ≡ id) × (e.span.low ≡ cut) × (e.span.last ≤ last)) → IsInserted e
    more e (inl y) = inl (part_more first last s ss e y)
    more e (inr y) = inr y

-- no start is lost if each is at or below the last place, and each except the first is above the first place
pub edges_full : (P : Start → Type 0) (first last : ℕ) (ss : List Start) → first ≤ last → Ascend ss → All (λ s. s.low ≤ last) ss → All (λ s. first < s.low) (drop 1 ss) →
    All (λ e. P (record { low = e.span.low; node = e.node })) (edges_from first last ss) → All (λ s. P (record { low = max first s.low; node = s.node })) ss
edges_full P first last [] le up upto above all = All-nil (λ s. P (record { low = max first s.low; node = s.node }))
edges_full P first last (s ∷ ss) le up upto above all =
    let t : nat_le (max first s.low) (end_by last ss) ≡ true = le-leb _ _ (ends ss up upto above) in
    let is : edges_from first last (s ∷ ss) ≡ record { span = record { low = max first s.low; last = end_by last ss }; node = s.node } ∷ edges_from first last ss = edges_step first last s ss ∙ rw t refl in
    let all' : All (λ e. P (record { low = e.span.low; node = e.node })) (record { span = record { low = max first s.low; last = end_by last ss }; node = s.node } ∷ edges_from first last ss) = subst (λ (es : List Edge). All (λ e. P (record { low = e.span.low; node = e.node })) es) is all in
    All-cons (λ s. P (record { low = max first s.low; node = s.node })) s ss (all' 0 (record { span = record { low = max first s.low; last = end_by last ss }; node = s.node }) (omega arith))
    (edges_full P first last ss le up.1 (λ k d lt. upto (suc k) d (omega arith)) (λ k d lt. later ss above k d lt) (λ k d lt. all' (suc k) d (omega arith)))
  where
    ends : (ss : List Start) → Ascend (s ∷ ss) → All (λ s. s.low ≤ last) (s ∷ ss) → All (λ s. first < s.low) ss → max first s.low ≤ end_by last ss
    ends [] up upto above = omega (arith, le, upto 0 s (omega arith))
    ends (t ∷ ts) up upto above = omega (arith, le, upto 0 s (omega arith), upto 1 s (omega arith), above 0 s (omega arith), up.0.0)

    later : (ss : List Start) → All (λ s. first < s.low) ss → All (λ s. first < s.low) (drop 1 ss)
    later [] above k d lt = absurd (omega arith)
    later (t ∷ ts) above k d lt = above (suc k) d (omega arith)
