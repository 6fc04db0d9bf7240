-- Starts without the one that follows another: the one before it leads on in its place.
use Rattle.std.proofs.Common.{ℕ, suc, ◌≡◌, ◌<◌, ◌≤◌, ◌+◌, ◌==◌, ◌⊎◌, inl, inr, cond, true, false, List, [], ◌∷◌, ◌++◌, Option, Some, None, refl, sym, ◌∙◌, ap, arith, length, eq-eqb}
use Rattle.std.specs.Prelude.{nat_lt, nat_le, nat_eq, remove, position, not}
use Rattle.std.specs.List.{prefix_len}
use Rattle.std.proofs.lemmas.Bool.Decides.{eqb_tells}
use Rattle.std.proofs.lemmas.List.{length-append}
use Rattle.std.proofs.lemmas.Bool.{le-leb, lt-leb, lt-ltb, ne_eqb}
use Rattle.ks_node.specs.declared.start.Start.{Start}
use Rattle.ks_node.specs.Body.{first_node, starts_from}
use Rattle.ks_node.specs.Effect.{without, without_at}
use Rattle.ks_bodies.proofs.Led.{low_or_high, or_else, led, led_none, led_append, led_count, AllAbove, Ascend, above_less, or_some, some_last, cond_some, leb_low, count, count_append}

-- the starts, with the two that follow one another in their middle
pub record Beside (ss : List Start) (node right : ℕ) : Type 0 where
  pub ahead : List Start
  pub low : ℕ
  pub seam : ℕ
  pub rest : List Start
  pub are : ss ≡ ahead ++ record { low = low; node = node } ∷ record { low = seam; node = right } ∷ rest

start_is : (s : Start) (n : ℕ) → s.node ≡ n → s ≡ record { low = s.low; node = n }
start_is s n e = ap (λ (m : ℕ). record { low = s.low; node = m }) e

pub find_beside : (ss : List Start) (p node right : ℕ) → Ascend ss → led ss p ≡ Some node → first_node (starts_from (suc p) ss) ≡ Some right → Beside ss node right
find_beside [] p node right up e f = absurd (cc)
find_beside (s ∷ []) p node right up e f =
    let y = cond_some (nat_le s.low p) s.node node e in
    let t : nat_le (suc p) s.low ≡ false = lt-leb _ _ (omega (arith, leb_low s.low p y.0)) in
    let h : None ≡ Some right = rw t at f in
    absurd (cc)
find_beside (s ∷ t ∷ ts) p node right up e f = elim (low_or_high p t.low) [
  | inl lt ↦ (
      let none : led (t ∷ ts) p ≡ None = led_none (t ∷ ts) p p (lt, above_less ts t.low p up.1.0 (omega arith)) (omega arith) in
      let e' : cond (nat_le s.low p) (Some s.node) None ≡ Some node = rw none at e in
      let y = cond_some (nat_le s.low p) s.node node e' in
      let a : nat_le (suc p) s.low ≡ false = lt-leb _ _ (omega (arith, leb_low s.low p y.0)) in
      let b : nat_le (suc p) t.low ≡ true = le-leb _ _ (omega arith) in
      let h : Some t.node ≡ Some right = rw (a, b) at f in
      let same : t.node ≡ right = cc in
      record { ahead = []; low = s.low; seam = t.low; rest = ts; are = ap (λ (z : Start). z ∷ t ∷ ts) (start_is s node y.1) ∙ ap (λ (z : Start). record { low = s.low; node = node } ∷ z ∷ ts) (start_is t right same) })
  | inr ge ↦ (
      let a : nat_le (suc p) s.low ≡ false = lt-leb _ _ (omega (arith, up.0.0)) in
      let f' : first_node (starts_from (suc p) (t ∷ ts)) ≡ Some right = rw a at f in
      onward ge (or_some (led (t ∷ ts) p) (cond (nat_le s.low p) (Some s.node) None) node e) (λ h. find_beside (t ∷ ts) p node right up.1 h f'))
]
  where
    onward : t.low ≤ p → (led (t ∷ ts) p ≡ Some node) ⊎ ((led (t ∷ ts) p ≡ None) × (cond (nat_le s.low p) (Some s.node) None ≡ Some node)) → (led (t ∷ ts) p ≡ Some node → Beside (t ∷ ts) node right) → Beside (s ∷ t ∷ ts) node right
    onward ge (inl h) rest = let y = rest h in record { ahead = s ∷ y.ahead; low = y.low; seam = y.seam; rest = y.rest; are = ap (λ (zs : List Start). s ∷ zs) y.are }
    onward ge (inr h) rest =
        let c : nat_le t.low p ≡ true = le-leb _ _ ge in
        let d : or_else (led ts p) (Some t.node) ≡ None = rw c at h.0 in
        absurd (some_last (led ts p) t.node d)

-- the only start that leads to its node is removed

place_of : (xs ys : List Start) (b right : ℕ) → count xs right ≡ 0 → prefix_len (λ z. not (nat_eq z.node right)) (xs ++ record { low = b; node = right } ∷ ys) ≡ length xs
place_of [] ys b right none = let t : nat_eq right right ≡ true = eq-eqb right right refl in rw t refl
place_of (x ∷ xs) ys b right none = elim (eqb_tells x.node right) [
  | inl e ↦ (let t : (x.node == right) ≡ true = eq-eqb _ _ e.1 in let c : 1 + count xs right ≡ 0 = rw t at none in absurd (omega arith))
  | inr e ↦ (
      let t : nat_eq x.node right ≡ false = ne_eqb _ _ e.1 in
      rw t (omega (arith, place_of xs ys b right (omega (arith, none)))))
]

removed : (xs ys : List Start) (r : Start) → remove (xs ++ r ∷ ys) (length xs) ≡ xs ++ ys
removed [] ys r = refl
removed (x ∷ xs) ys r = ap (λ (zs : List Start). x ∷ zs) (removed xs ys r)

pub without_one : (xs ys : List Start) (b right : ℕ) → count xs right ≡ 0 → without right (xs ++ record { low = b; node = right } ∷ ys) ≡ xs ++ ys
without_one xs ys b right none =
    let at = place_of xs ys b right none in
    let t : nat_lt (length xs) (length (xs ++ record { low = b; node = right } ∷ ys)) ≡ true = lt-ltb _ _ (omega (arith, length-append xs (record { low = b; node = right } ∷ ys))) in
    let is : position (λ z. nat_eq z.node right) (xs ++ record { low = b; node = right } ∷ ys) ≡ Some (length xs) = rw (at, t) refl in
    ap (λ (o : Option ℕ). without_at o (xs ++ record { low = b; node = right } ∷ ys)) is ∙ removed xs ys (record { low = b; node = right })

above_after : (xs bs : List Start) (x y : Start) (l : ℕ) → AllAbove l (xs ++ x ∷ y ∷ bs) → AllAbove l (xs ++ x ∷ bs)
above_after [] bs x y l h = (h.0, h.1.1)
above_after (z ∷ xs) bs x y l h = (h.0, above_after xs bs x y l h.1)

ascend_without : (xs bs : List Start) (x y : Start) → Ascend (xs ++ x ∷ y ∷ bs) → Ascend (xs ++ x ∷ bs)
ascend_without [] bs x y h = (h.0.1, h.1.1)
ascend_without (z ∷ xs) bs x y h = (above_after xs bs x y z.low h.0, ascend_without xs bs x y h.1)

module _ (node right a b : ℕ) (ahead bs : List Start) (up : Ascend (ahead ++ record { low = a; node = node } ∷ record { low = b; node = right } ∷ bs))
    (one : (m : ℕ) → count (ahead ++ record { low = a; node = node } ∷ record { low = b; node = right } ∷ bs) m ≤ 1) where
  abbrev pub P : List Start
  P = ahead ++ record { low = a; node = node } ∷ record { low = b; node = right } ∷ bs

  abbrev pub Q : List Start
  Q = ahead ++ record { low = a; node = node } ∷ bs

  tail_sound : (xs ys : List Start) → Ascend (xs ++ ys) → Ascend ys
  tail_sound [] ys up = up
  tail_sound (z ∷ xs) ys up = tail_sound xs ys up.1

  order_ab : Ascend (record { low = a; node = node } ∷ record { low = b; node = right } ∷ bs)
  order_ab = tail_sound ahead (record { low = a; node = node } ∷ record { low = b; node = right } ∷ bs) up

  a_b : a < b
  a_b = order_ab.0.0

  led_P : (p : ℕ) → led P p ≡ or_else (or_else (or_else (led bs p) (cond (nat_le b p) (Some right) None)) (cond (nat_le a p) (Some node) None)) (led ahead p)
  led_P p = led_append ahead (record { low = a; node = node } ∷ record { low = b; node = right } ∷ bs) p

  led_Q : (p : ℕ) → led Q p ≡ or_else (or_else (led bs p) (cond (nat_le a p) (Some node) None)) (led ahead p)
  led_Q p = led_append ahead (record { low = a; node = node } ∷ bs) p

  -- where a place goes: past both, to right, to node, or before both
  abbrev Where : ℕ → Type 0
  Where p = ((m : ℕ) × (led bs p ≡ Some m) × (led P p ≡ Some m) × (led Q p ≡ Some m))
      ⊎ (((b ≤ p) × (led bs p ≡ None) × (led P p ≡ Some right) × (led Q p ≡ Some node))
      ⊎ (((a ≤ p) × (p < b) × (led P p ≡ Some node) × (led Q p ≡ Some node))
      ⊎ ((p < a) × (led P p ≡ led ahead p) × (led Q p ≡ led ahead p))))

  find_where : (p : ℕ) → Where p
  find_where p = look (led bs p) refl (low_or_high p b) (low_or_high p a)
    where
      look : (o : Option ℕ) → led bs p ≡ o → (p < b) ⊎ (b ≤ p) → (p < a) ⊎ (a ≤ p) → Where p
      look (Some m) is y z = inl (m, is, led_P p ∙ rw is refl, led_Q p ∙ rw is refl)
      look None is (inr ge) z =
          let s : nat_le b p ≡ true = le-leb _ _ ge in
          let t : nat_le a p ≡ true = le-leb _ _ (omega (arith, a_b)) in
          inr (inl (ge, is, led_P p ∙ rw (is, s) refl, led_Q p ∙ rw (is, t) refl))
      look None is (inl lt) (inr ge) =
          let s : nat_le b p ≡ false = lt-leb _ _ lt in
          let t : nat_le a p ≡ true = le-leb _ _ ge in
          inr (inr (inl (ge, lt, led_P p ∙ rw (is, s, t) refl, led_Q p ∙ rw (is, t) refl)))
      look None is (inl lt) (inl lt') =
          let s : nat_le b p ≡ false = lt-leb _ _ lt in
          let t : nat_le a p ≡ false = lt-leb _ _ lt' in
          inr (inr (inr (lt', led_P p ∙ rw (is, s, t) refl, led_Q p ∙ rw (is, t) refl)))

  one_start : (m : ℕ) → count ahead m + (cond (node == m) 1 0 + (cond (right == m) 1 0 + count bs m)) ≤ 1
  one_start m = omega (arith, one m, count_append ahead (record { low = a; node = node } ∷ record { low = b; node = right } ∷ bs) m)

  at_node : ◌≡◌ {A = ℕ} (cond (node == node) 1 0) 1
  at_node = let t : (node == node) ≡ true = eq-eqb node node refl in rw t refl

  at_right : ◌≡◌ {A = ℕ} (cond (right == right) 1 0) 1
  at_right = let t : (right == right) ≡ true = eq-eqb right right refl in rw t refl

  pub other : node ≡ right → ⊥
  other e =
      let t : (right == node) ≡ true = eq-eqb right node (sym e) in
      let c : ◌≡◌ {A = ℕ} (cond (right == node) 1 0) 1 = rw t refl in
      omega (arith, one_start node, at_node, c)

  pub none_ahead : count ahead right ≡ 0
  none_ahead = omega (arith, one_start right, at_right)

  pub count_node : 0 < count P node
  count_node = omega (arith, count_append ahead (record { low = a; node = node } ∷ record { low = b; node = right } ∷ bs) node, at_node)

  pub count_other : 0 < count P right
  count_other = omega (arith, count_append ahead (record { low = a; node = node } ∷ record { low = b; node = right } ∷ bs) right, at_right)

  pub count_after : (m : ℕ) → count Q m ≤ count P m
  count_after m = omega (arith, count_append ahead (record { low = a; node = node } ∷ bs) m, count_append ahead (record { low = a; node = node } ∷ record { low = b; node = right } ∷ bs) m)

  pub count_gone : count Q right ≡ 0
  count_gone = omega (arith, count_append ahead (record { low = a; node = node } ∷ bs) right, one_start right, at_right)

  pub ascend_after : Ascend Q
  ascend_after = ascend_without ahead bs (record { low = a; node = node }) (record { low = b; node = right }) up

  not_in : (xs : List Start) (p m : ℕ) → count xs m ≡ 0 → led xs p ≡ Some m → ⊥
  not_in xs p m none e = omega (arith, none, led_count xs p m e)

  pub to_node : (p : ℕ) → led P p ≡ Some node → (a ≤ p) × (p < b) × (led Q p ≡ Some node)
  to_node p is = go (find_where p)
    where
      go : Where p → (a ≤ p) × (p < b) × (led Q p ≡ Some node)
      go (inl y) = let e : Some y.0 ≡ Some node = sym y.2 ∙ is in absurd (not_in bs p node (omega (arith, one_start node, at_node)) (y.1 ∙ e))
      go (inr (inl y)) = let e : Some right ≡ Some node = sym y.2 ∙ is in let e' : node ≡ right = cc in absurd (other e')
      go (inr (inr (inl y))) = (y.0, y.1, y.3)
      go (inr (inr (inr y))) = absurd (not_in ahead p node (omega (arith, one_start node, at_node)) (sym y.1 ∙ is))

  pub to_right : (p : ℕ) → led P p ≡ Some right → (b ≤ p) × (led bs p ≡ None) × (led Q p ≡ Some node)
  to_right p is = go (find_where p)
    where
      go : Where p → (b ≤ p) × (led bs p ≡ None) × (led Q p ≡ Some node)
      go (inl y) = let e : Some y.0 ≡ Some right = sym y.2 ∙ is in absurd (not_in bs p right (omega (arith, one_start right, at_right)) (y.1 ∙ e))
      go (inr (inl y)) = (y.0, y.1, y.3)
      go (inr (inr (inl y))) = let e : Some node ≡ Some right = sym y.2 ∙ is in let e' : node ≡ right = cc in absurd (other e')
      go (inr (inr (inr y))) = absurd (not_in ahead p right (omega (arith, one_start right, at_right)) (sym y.1 ∙ is))

  pub elsewhere : (p : ℕ) → (led P p ≡ Some node → ⊥) → (led P p ≡ Some right → ⊥) → led Q p ≡ led P p
  elsewhere p not_l not_r = go (find_where p)
    where
      go : Where p → led Q p ≡ led P p
      go (inl y) = y.3 ∙ sym y.2
      go (inr (inl y)) = absurd (not_r y.2)
      go (inr (inr (inl y))) = absurd (not_l y.2)
      go (inr (inr (inr y))) = y.2 ∙ sym y.1

  -- no start of the rest is at or below a place that is led to right, nor below it
  rest_none : (xs : List Start) (m o : ℕ) → Ascend xs → led xs o ≡ None → m ≤ o → led xs m ≡ None
  rest_none [] m o up none le = refl
  rest_none (s ∷ ss) m o up none le = elim (low_or_high o s.low) [
    | inl lt ↦ led_none (s ∷ ss) m m (omega arith, above_less ss s.low m up.0 (omega arith)) (omega arith)
    | inr ge ↦ (let t : nat_le s.low o ≡ true = le-leb _ _ ge in let e : or_else (led ss o) (Some s.node) ≡ None = rw t at none in absurd (some_last (led ss o) s.node e))
  ]

  pub between : (p o m : ℕ) → led P p ≡ Some node → led P o ≡ Some right → p ≤ m → m ≤ o → (led P m ≡ Some node) ⊎ (led P m ≡ Some right)
  between p o m is is' le le' =
      let y = to_node p is in
      let z = to_right o is' in
      let none : led bs m ≡ None = rest_none bs m o order_ab.1.1 z.1 le' in
      go y.0 none (find_where m)
    where
      go : a ≤ p → led bs m ≡ None → Where m → (led P m ≡ Some node) ⊎ (led P m ≡ Some right)
      go ge none (inl w) = let e : None ≡ Some w.0 = sym none ∙ w.1 in absurd (cc)
      go ge none (inr (inl w)) = inr w.2
      go ge none (inr (inr (inl w))) = inl w.2
      go ge none (inr (inr (inr w))) = absurd (omega (arith, w.0))
