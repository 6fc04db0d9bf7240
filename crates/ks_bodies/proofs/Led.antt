-- Where starts lead: at each place, where the last start at or below it does.
use Rattle.std.proofs.Common.{ℕ, suc, ◌≡◌, ◌<◌, ◌≤◌, ◌+◌, ◌==◌, ◌⊎◌, inl, inr, cond, Bool, true, false, List, [], ◌∷◌, ◌++◌, Option, Some, None, refl, sym, ◌∙◌, ap, subst, arith, eq-eqb}
use Rattle.std.specs.Prelude.{All, nat_lt, nat_le, nat_eq, IsTrue}
use Rattle.std.proofs.lemmas.Bool.{eqb-true, lt-ltb, le-ltb, le-leb, lt-leb, ne_eqb}
use Rattle.std.proofs.lemmas.Bool.Decides.{leb_tells}
use Rattle.ks_keysets.specs.declared.Kind.{Kind}
use Rattle.ks_keysets.specs.declared.Kind.TheVariants.{NoBranch, Inner, Directory}
use Rattle.ks_node.specs.declared.start.Start.{Start}
use Rattle.ks_node.specs.Keyed.{Ascends}
use Rattle.ks_node.specs.Laws.Ascend.{asc_head, asc_tail}
use Rattle.ks_node.specs.Body.{starts_below, starts_from, begins, is_branch_kind}
use Rattle.ks_node.specs.Effect.{first_from, runs_after, runs, settled}

pub low_or_high : (a b : ℕ) → (a < b) ⊎ (b ≤ a)
low_or_high a b = elim (leb_tells b a) [ inl le ↦ inr le.1 | inr gt ↦ inl (omega (arith, gt.1)) ]

abbrev pub or_else : Option ℕ → Option ℕ → Option ℕ
or_else None o = o
or_else (Some m) o = Some m

-- the target of the last start at or below the place
abbrev pub led : List Start → ℕ → Option ℕ
led [] p = None
led (s ∷ ss) p = or_else (led ss p) (cond (nat_le s.low p) (Some s.node) None)

abbrev pub AllAbove : ℕ → List Start → Type 0
AllAbove l [] = Unit {0}
AllAbove l (s ∷ ss) = (l < s.low) × AllAbove l ss

abbrev pub Ascend : List Start → Type 0
Ascend [] = Unit {0}
Ascend (s ∷ ss) = AllAbove s.low ss × Ascend ss

pub all_above : (l : ℕ) (ss : List Start) → All (λ s. l < s.low) ss → AllAbove l ss
all_above l [] a = tt
all_above l (s ∷ ss) a = (a 0 s (omega arith), all_above l ss (λ k d lt. a (suc k) d (omega arith)))

pub ascend : (ss : List Start) → Ascends (λ s. s.low) ss → Ascend ss
ascend [] a = tt
ascend (s ∷ ss) a = (all_above s.low ss (asc_head (λ s. s.low) s ss a), ascend ss (asc_tail (λ s. s.low) s ss a))

pub above_less : (ss : List Start) (l m : ℕ) → AllAbove l ss → m ≤ l → AllAbove m ss
above_less [] l m above le = tt
above_less (s ∷ ss) l m above le = (omega (arith, above.0), above_less ss l m above.1 le)

pub or_none : (o : Option ℕ) → or_else o None ≡ o
or_none None = refl
or_none (Some m) = refl

pub or_assoc : (a b c : Option ℕ) → or_else (or_else a b) c ≡ or_else a (or_else b c)
or_assoc None b c = refl
or_assoc (Some m) b c = refl

pub or_some : (o q : Option ℕ) (m : ℕ) → or_else o q ≡ Some m → (o ≡ Some m) ⊎ ((o ≡ None) × (q ≡ Some m))
or_some None q m e = inr (refl, e)
or_some (Some n) q m e = inl e

pub some_last : (o : Option ℕ) (n : ℕ) → or_else o (Some n) ≡ None → ⊥
some_last None n e = cc
some_last (Some k) n e = cc

pub cond_some : (b : Bool) (n m : ℕ) → cond b (Some n) None ≡ Some m → (b ≡ true) × (n ≡ m)
cond_some true n m e = (refl, cc)
cond_some false n m e = cc

pub leb_low : (a b : ℕ) → nat_le a b ≡ true → a ≤ b
leb_low a b t = elim (low_or_high b a) [ inl lt ↦ (let f : nat_le a b ≡ false = lt-leb _ _ (omega arith) in absurd (cc)) | inr ge ↦ ge ]

pub led_none : (ss : List Start) (l p : ℕ) → AllAbove l ss → p ≤ l → led ss p ≡ None
led_none [] l p above le = refl
led_none (s ∷ ss) l p above le =
    let a : nat_le s.low p ≡ false = lt-leb _ _ (omega (arith, above.0)) in
    rw (led_none ss l p above.1 le, a) refl

pub led_append : (xs ys : List Start) (p : ℕ) → led (xs ++ ys) p ≡ or_else (led ys p) (led xs p)
led_append [] ys p = sym (or_none (led ys p))
led_append (x ∷ xs) ys p = rw (led_append xs ys p) (or_assoc (led ys p) (led xs p) (cond (nat_le x.low p) (Some x.node) None))

-- the parts below a cut and from it on

pub led_below : (cut : ℕ) (ss : List Start) (p : ℕ) → p < cut → led (starts_below cut ss) p ≡ led ss p
led_below cut [] p lt = refl
led_below cut (s ∷ ss) p lt = elim (low_or_high s.low cut) [
  | inl h ↦ (let a : nat_lt s.low cut ≡ true = lt-ltb _ _ h in rw (a, led_below cut ss p lt) refl)
  | inr h ↦ (
      let a : nat_lt s.low cut ≡ false = le-ltb _ _ h in
      let b : nat_le s.low p ≡ false = lt-leb _ _ (omega arith) in
      rw (a, b, led_below cut ss p lt) (sym (or_none (led ss p))))
]

pub led_above : (cut : ℕ) (ss : List Start) (p : ℕ) → p < cut → led (starts_from cut ss) p ≡ None
led_above cut [] p lt = refl
led_above cut (s ∷ ss) p lt = elim (low_or_high s.low cut) [
  | inl h ↦ (let t : nat_le cut s.low ≡ false = lt-leb _ _ h in rw t (led_above cut ss p lt))
  | inr h ↦ (
      let t : nat_le cut s.low ≡ true = le-leb _ _ h in
      let a : nat_le s.low p ≡ false = lt-leb _ _ (omega arith) in
      rw (t, led_above cut ss p lt, a) refl)
]

-- past the cut the part below leads as at the cut
pub led_past : (cut : ℕ) (ss : List Start) (p q : ℕ) → cut ≤ p → cut ≤ q → led (starts_below cut ss) p ≡ led (starts_below cut ss) q
led_past cut [] p q le le' = refl
led_past cut (s ∷ ss) p q le le' = elim (low_or_high s.low cut) [
  | inl lt ↦ (
      let a : nat_lt s.low cut ≡ true = lt-ltb _ _ lt in
      let b : nat_le s.low p ≡ true = le-leb _ _ (omega arith) in
      let c : nat_le s.low q ≡ true = le-leb _ _ (omega arith) in
      rw (a, b, c) (ap (λ (o : Option ℕ). or_else o (Some s.node)) (led_past cut ss p q le le')))
  | inr ge ↦ (let a : nat_lt s.low cut ≡ false = le-ltb _ _ ge in rw a (led_past cut ss p q le le'))
]

-- ascending starts are their parts in order
pub parts_above : (cut : ℕ) (ss : List Start) (l : ℕ) → AllAbove l ss → cut ≤ l → (starts_below cut ss ≡ []) × (starts_from cut ss ≡ ss)
parts_above cut [] l above le = (refl, refl)
parts_above cut (s ∷ ss) l above le =
    let a : nat_lt s.low cut ≡ false = le-ltb _ _ (omega (arith, above.0)) in
    let b : nat_le cut s.low ≡ true = le-leb _ _ (omega (arith, above.0)) in
    let y = parts_above cut ss l above.1 le in
    (rw a y.0, rw b (ap (λ (xs : List Start). s ∷ xs) y.1))

pub parts_join : (cut : ℕ) (ss : List Start) → Ascend ss → starts_below cut ss ++ starts_from cut ss ≡ ss
parts_join cut [] up = refl
parts_join cut (s ∷ ss) up = elim (low_or_high s.low cut) [
  | inl lt ↦ (
      let a : nat_lt s.low cut ≡ true = lt-ltb _ _ lt in
      let b : nat_le cut s.low ≡ false = lt-leb _ _ lt in
      rw (a, b) (ap (λ (xs : List Start). s ∷ xs) (parts_join cut ss up.1)))
  | inr ge ↦ (
      let a : nat_lt s.low cut ≡ false = le-ltb _ _ ge in
      let b : nat_le cut s.low ≡ true = le-leb _ _ ge in
      let y = parts_above cut ss s.low up.0 ge in
      rw (a, b, y.0, y.1) refl)
]

pub led_parts : (cut : ℕ) (ss : List Start) (p : ℕ) → Ascend ss → led ss p ≡ or_else (led (starts_from cut ss) p) (led (starts_below cut ss) p)
led_parts cut ss p up = ap (λ (xs : List Start). led xs p) (sym (parts_join cut ss up)) ∙ led_append (starts_below cut ss) (starts_from cut ss) p

-- a start at the cut

starts_above : (cut : ℕ) (ss : List Start) → AllAbove cut ss → IsTrue (begins cut ss) → ⊥
starts_above cut [] above b = cc
starts_above cut (s ∷ ss) above b =
    let t : nat_eq s.low cut ≡ false = ne_eqb _ _ (λ e. omega (arith, above.0)) in
    starts_above cut ss above.1 (rw t at b)

-- the part from a cut at which a start is begins with that start
pub begins_from : (cut : ℕ) (ss : List Start) → Ascend ss → IsTrue (begins cut ss) → (x : ℕ) × (rest : List Start) × (starts_from cut ss ≡ record { low = cut; node = x } ∷ rest) × AllAbove cut rest
begins_from cut [] up b = absurd (cc)
begins_from cut (s ∷ ss) up b = elim (low_or_high s.low cut) [
  | inl lt ↦ (
      let t : nat_eq s.low cut ≡ false = ne_eqb _ _ (λ e. omega arith) in
      let f : nat_le cut s.low ≡ false = lt-leb _ _ lt in
      let y = begins_from cut ss up.1 (rw t at b) in
      (y.0, y.1, rw f y.2, y.3))
  | inr ge ↦ elim (low_or_high cut s.low) [
    | inl gt ↦ (
        let t : nat_eq s.low cut ≡ false = ne_eqb _ _ (λ e. omega arith) in
        absurd (starts_above cut ss (above_less ss s.low cut up.0 ge) (rw t at b)))
    | inr le ↦ (
        let f : nat_le cut s.low ≡ true = le-leb _ _ ge in
        let same : s.low ≡ cut = omega arith in
        let one : s ≡ record { low = cut; node = s.node } = ap (λ (n : ℕ). record { low = n; node = s.node }) same in
        let y = parts_above cut ss s.low up.0 ge in
        (s.node, ss, rw (f, y.1) (ap (λ (z : Start). z ∷ ss) one), subst (λ (n : ℕ). AllAbove n ss) same up.0))
  ]
]

-- if no start is at the cut, those from it on are above it
pub free_from : (cut : ℕ) (ss : List Start) → Ascend ss → begins cut ss ≡ false → AllAbove cut (starts_from cut ss)
free_from cut [] up b = tt
free_from cut (s ∷ ss) up b = elim (low_or_high s.low cut) [
  | inl lt ↦ (
      let t : nat_eq s.low cut ≡ false = ne_eqb _ _ (λ e. omega arith) in
      let f : nat_le cut s.low ≡ false = lt-leb _ _ lt in
      rw f (free_from cut ss up.1 (rw t at b)))
  | inr ge ↦ elim (low_or_high cut s.low) [
    | inl gt ↦ (
        let f : nat_le cut s.low ≡ true = le-leb _ _ ge in
        let y = parts_above cut ss s.low up.0 ge in
        rw (f, y.1) (gt, above_less ss s.low cut up.0 ge))
    | inr le ↦ (
        let t : nat_eq s.low cut ≡ true = eq-eqb _ _ (omega arith) in
        let e : true ≡ false = rw t at b in
        absurd (cc))
  ]
]

-- the first of the starts reaches down, and past the cut nothing changes
pub led_first : (cut low x : ℕ) (rest : List Start) (p : ℕ) → cut ≤ p → low ≤ p → led (first_from low (record { low = cut; node = x } ∷ rest)) p ≡ led (record { low = cut; node = x } ∷ rest) p
led_first cut low x rest p le le' =
    let a : nat_le cut p ≡ true = le-leb _ _ le in
    let b : nat_le low p ≡ true = le-leb _ _ le' in
    rw (a, b) refl

-- runs

none_early : (m : ℕ) (ss : List Start) (p : ℕ) → AllAbove p ss → led (runs_after m ss) p ≡ None
none_early m [] p a = refl
none_early m (t ∷ ts) p a = go (t.node == m) (none_early m ts p a.1) (none_early t.node ts p a.1)
  where
    go : (b : Bool) → led (runs_after m ts) p ≡ None → led (runs_after t.node ts) p ≡ None → led (cond b (runs_after m ts) (t ∷ runs_after t.node ts)) p ≡ None
    go true x y = x
    go false x y = let f : nat_le t.low p ≡ false = lt-leb _ _ (omega (arith, a.0)) in rw (y, f) refl

-- after one more start the run goes on, or a new one begins
run_step : (m l : ℕ) (s : Start) (ss : List Start) (p : ℕ) → nat_le s.low p ≡ true → nat_le l p ≡ true → (b : Bool) → (s.node == m) ≡ b →
    or_else (led (runs_after m ss) p) (cond (nat_le l p) (Some m) None) ≡ or_else (led ss p) (cond (nat_le l p) (Some m) None) →
    or_else (led (runs_after s.node ss) p) (cond (nat_le s.low p) (Some s.node) None) ≡ or_else (led ss p) (cond (nat_le s.low p) (Some s.node) None) →
    or_else (led (cond b (runs_after m ss) (s ∷ runs_after s.node ss)) p) (cond (nat_le l p) (Some m) None) ≡ or_else (led (s ∷ ss) p) (cond (nat_le l p) (Some m) None)
run_step m l s ss p a b true is one two =
    let same : s.node ≡ m = eqb-true _ _ is in
    let y : cond (nat_le l p) (Some m) None ≡ Some m = rw b refl in
    let z : or_else (cond (nat_le s.low p) (Some s.node) None) (cond (nat_le l p) (Some m) None) ≡ cond (nat_le l p) (Some m) None = rw a (ap (λ (n : ℕ). Some n) same ∙ sym y) in
    one ∙ sym (ap (λ (o : Option ℕ). or_else (led ss p) o) z) ∙ sym (or_assoc (led ss p) (cond (nat_le s.low p) (Some s.node) None) (cond (nat_le l p) (Some m) None))
run_step m l s ss p a b false is one two = ap (λ (o : Option ℕ). or_else o (cond (nat_le l p) (Some m) None)) two

runs_lead : (m l : ℕ) (ss : List Start) (p : ℕ) → AllAbove l ss → Ascend ss → or_else (led (runs_after m ss) p) (cond (nat_le l p) (Some m) None) ≡ or_else (led ss p) (cond (nat_le l p) (Some m) None)
runs_lead m l [] p above up = refl
runs_lead m l (s ∷ ss) p above up = elim (low_or_high p s.low) [
  | inl lt ↦ (
      let all : AllAbove p (s ∷ ss) = (lt, above_less ss s.low p up.0 (omega arith)) in
      ap (λ (o : Option ℕ). or_else o (cond (nat_le l p) (Some m) None)) (none_early m (s ∷ ss) p all ∙ sym (led_none (s ∷ ss) p p all (omega arith))))
  | inr ge ↦ (
      let a : nat_le s.low p ≡ true = le-leb _ _ ge in
      let b : nat_le l p ≡ true = le-leb _ _ (omega (arith, above.0)) in
      run_step m l s ss p a b (s.node == m) refl (runs_lead m l ss p above.1 up.1) (runs_lead s.node s.low ss p up.0 up.1))
]

-- runs lead as the starts do
pub led_runs : (ss : List Start) (p : ℕ) → Ascend ss → led (runs ss) p ≡ led ss p
led_runs [] p up = refl
led_runs (s ∷ ss) p up = runs_lead s.node s.low ss p up.0 up.1

pub led_settled : (kind : Kind) (ss : List Start) (p : ℕ) → Ascend ss → led (settled kind ss) p ≡ led ss p
led_settled NoBranch ss p up = refl
led_settled Inner ss p up = refl
led_settled Directory ss p up = led_runs ss p up

-- starts counted by their nodes

abbrev pub count : List Start → ℕ → ℕ
count [] m = 0
count (s ∷ ss) m = cond (s.node == m) 1 0 + count ss m

pub count_append : (xs ys : List Start) (m : ℕ) → count (xs ++ ys) m ≡ count xs m + count ys m
count_append [] ys m = omega arith
count_append (x ∷ xs) ys m = omega (arith, count_append xs ys m)

pub count_parts : (cut : ℕ) (ss : List Start) (m : ℕ) → count (starts_below cut ss) m + count (starts_from cut ss) m ≡ count ss m
count_parts cut [] m = refl
count_parts cut (s ∷ ss) m = elim (low_or_high s.low cut) [
  | inl lt ↦ (let a : nat_lt s.low cut ≡ true = lt-ltb _ _ lt in let b : nat_le cut s.low ≡ false = lt-leb _ _ lt in rw (a, b) (omega (arith, count_parts cut ss m)))
  | inr ge ↦ (let a : nat_lt s.low cut ≡ false = le-ltb _ _ ge in let b : nat_le cut s.low ≡ true = le-leb _ _ ge in rw (a, b) (omega (arith, count_parts cut ss m)))
]

pub count_first : (low : ℕ) (ss : List Start) (m : ℕ) → count (first_from low ss) m ≡ count ss m
count_first low [] m = refl
count_first low (s ∷ ss) m = refl

count_after : (n : ℕ) (ss : List Start) (m : ℕ) → count (runs_after n ss) m ≤ count ss m
count_after n [] m = omega arith
count_after n (s ∷ ss) m = go (s.node == n) (count_after n ss m) (count_after s.node ss m)
  where
    go : (b : Bool) → count (runs_after n ss) m ≤ count ss m → count (runs_after s.node ss) m ≤ count ss m → count (cond b (runs_after n ss) (s ∷ runs_after s.node ss)) m ≤ count (s ∷ ss) m
    go true x y = omega (arith, x)
    go false x y = omega (arith, y)

pub count_settled : (kind : Kind) (ss : List Start) (m : ℕ) → count (settled kind ss) m ≤ count ss m
count_settled NoBranch ss m = omega arith
count_settled Inner ss m = omega arith
count_settled Directory [] m = omega arith
count_settled Directory (s ∷ ss) m = omega (arith, count_after s.node ss m)

-- if a list leads a place to a node, a start of it leads to the node
pub led_count : (ss : List Start) (p m : ℕ) → led ss p ≡ Some m → 0 < count ss m
led_count [] p m e = absurd (cc)
led_count (s ∷ ss) p m e = elim (or_some (led ss p) (cond (nat_le s.low p) (Some s.node) None) m e) [
  | inl h ↦ omega (arith, led_count ss p m h)
  | inr h ↦ (let y = cond_some (nat_le s.low p) s.node m h.1 in let t : (s.node == m) ≡ true = eq-eqb s.node m y.1 in rw t (omega arith))
]

-- a new start at the cut keeps starts in order only if none was there

pub clash : (xs : List Start) (cut id x : ℕ) (rest : List Start) → Ascend (xs ++ record { low = cut; node = id } ∷ record { low = cut; node = x } ∷ rest) → ⊥
clash [] cut id x rest up = omega (arith, up.0.0)
clash (y ∷ ys) cut id x rest up = clash ys cut id x rest up.1

clash_after : (m cut id x : ℕ) (rest : List Start) → (x ≡ id → ⊥) → (id ≡ m → ⊥) → Ascend (runs_after m (record { low = cut; node = id } ∷ record { low = cut; node = x } ∷ rest)) → ⊥
clash_after m cut id x rest ne ne' up =
    let a : (id == m) ≡ false = ne_eqb id m ne' in
    let b : (x == id) ≡ false = ne_eqb x id ne in
    let up' : Ascend (record { low = cut; node = id } ∷ record { low = cut; node = x } ∷ runs_after x rest) = rw (a, b) at up in
    omega (arith, up'.0.0)

not_here : (y : Start) (ys : List Start) (id : ℕ) → count (y ∷ ys) id ≡ 0 → id ≡ y.node → ⊥
not_here y ys id none e = let t : (y.node == id) ≡ true = eq-eqb y.node id (sym e) in let c : 1 + count ys id ≡ 0 = rw t at none in omega (arith, c)

clash_runs : (m : ℕ) (xs : List Start) (cut id x : ℕ) (rest : List Start) → count xs id ≡ 0 → (x ≡ id → ⊥) → (id ≡ m → ⊥) → Ascend (runs_after m (xs ++ record { low = cut; node = id } ∷ record { low = cut; node = x } ∷ rest)) → ⊥
clash_runs m [] cut id x rest none ne ne' up = clash_after m cut id x rest ne ne' up
clash_runs m (y ∷ ys) cut id x rest none ne ne' up = go (y.node == m) up (clash_runs m ys cut id x rest (omega (arith, none)) ne ne') (clash_runs y.node ys cut id x rest (omega (arith, none)) ne (not_here y ys id none))
  where
    go : (b : Bool) → Ascend (cond b (runs_after m (ys ++ record { low = cut; node = id } ∷ record { low = cut; node = x } ∷ rest)) (y ∷ runs_after y.node (ys ++ record { low = cut; node = id } ∷ record { low = cut; node = x } ∷ rest)))
        → (Ascend (runs_after m (ys ++ record { low = cut; node = id } ∷ record { low = cut; node = x } ∷ rest)) → ⊥) → (Ascend (runs_after y.node (ys ++ record { low = cut; node = id } ∷ record { low = cut; node = x } ∷ rest)) → ⊥) → ⊥
    go true up one two = one up
    go false up one two = two up.1

pub clash_all : (xs : List Start) (cut id x : ℕ) (rest : List Start) → count xs id ≡ 0 → (x ≡ id → ⊥) → Ascend (runs (xs ++ record { low = cut; node = id } ∷ record { low = cut; node = x } ∷ rest)) → ⊥
clash_all [] cut id x rest none ne up =
    let b : (x == id) ≡ false = ne_eqb x id ne in
    let up' : Ascend (record { low = cut; node = id } ∷ record { low = cut; node = x } ∷ runs_after x rest) = rw b at up in
    omega (arith, up'.0.0)
clash_all (y ∷ ys) cut id x rest none ne up = clash_runs y.node ys cut id x rest (omega (arith, none)) ne (not_here y ys id none) up.1

pub free_or_not : (b : Bool) → (b ≡ true → ⊥) → b ≡ false
free_or_not true h = absurd (h refl)
free_or_not false h = refl

pub free_of : (kind : Kind) (cut id : ℕ) (ss : List Start) → Ascend ss → count ss id ≡ 0 → IsTrue (is_branch_kind kind) → Ascend (settled kind (starts_below cut ss ++ record { low = cut; node = id } ∷ starts_from cut ss)) → begins cut ss ≡ false
free_of NoBranch cut id ss up none branch after = absurd (cc)
free_of Inner cut id ss up none branch after = free_or_not (begins cut ss) (λ t. let y = begins_from cut ss up t in clash (starts_below cut ss) cut id y.0 y.1 (subst (λ (zs : List Start). Ascend (starts_below cut ss ++ record { low = cut; node = id } ∷ zs)) y.2 after))
free_of Directory cut id ss up none branch after = free_or_not (begins cut ss) (λ t.
    let y = begins_from cut ss up t in
    clash_all (starts_below cut ss) cut id y.0 y.1 (omega (arith, count_parts cut ss id))
    (λ e. let one : (y.0 == id) ≡ true = eq-eqb y.0 id e in let c : count (record { low = cut; node = y.0 } ∷ y.1) id ≡ 1 + count y.1 id = rw one refl in omega (arith, none, count_parts cut ss id, ap (λ (zs : List Start). count zs id) y.2, c))
    (subst (λ (zs : List Start). Ascend (runs (starts_below cut ss ++ record { low = cut; node = id } ∷ zs))) y.2 after))
