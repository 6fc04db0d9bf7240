-- What the tests of nodes say of the graph: which node is low, which two fit, which is the right neighbour, and whether all edges lead to one child.
use Rattle.std.proofs.Common.{ℕ, zero, suc, ◌≡◌, ◌<◌, ◌≤◌, ◌+◌, ◌*◌, ◌==◌, ◌⊎◌, inl, inr, cond, Bool, true, false, List, [], ◌∷◌, ◌++◌, length, get_or, Option, Some, None, refl, sym, ◌∙◌, ap, subst, arith, eq-eqb}
use Rattle.std.specs.Prelude.{All, Any, nat_le, nat_eq, IsTrue, ◌&&◌, ◌↔◌, ◌≢◌, slice_get}
use Rattle.std.specs.List.{list_all}
use Rattle.std.specs.Option.{option_or}
use Rattle.std.proofs.lemmas.Bool.{leb-true, le-leb, lt-leb}
use Rattle.std.proofs.lemmas.Bool.Decides.{eqb_tells}
use Rattle.std.proofs.lemmas.List.Elements.{All-nil}
use Rattle.ks_keysets.specs.declared.Frame.{Frame}
use Rattle.ks_keysets.specs.declared.Edge.{Edge}
use Rattle.ks_keysets.specs.declared.Kind.{Kind}
use Rattle.ks_keysets.specs.declared.Kind.TheVariants.{NoBranch, Inner, Directory}
use Rattle.ks_keysets.specs.declared.NodeState.{NodeState}
use Rattle.ks_keysets.specs.declared.Record.{Record}
use Rattle.ks_keysets.specs.Record.{LeadsTo}
use Rattle.ks_keysets.specs.Keyset.{record_at}
use Rattle.ks_keysets.specs.Layout.{Layout}
use Rattle.ks_keysets.specs.Tight.{chained, beside, capacity, filling, IsHalf, IsWithin, IsLow, Fit, IsNext, HasOwnEdge, IsRightNeighbour, FitsNoRight}
use Rattle.ks_node.specs.declared.start.Start.{Start}
use Rattle.ks_node.specs.Body.{Body, is_branch, is_branch_kind, first_of, last_of, first_node, chained_of, only_child_of, sole, right_child, starts_from}
use Rattle.ks_node.specs.Edges.{record_of, edges_of, edges_from}
use Rattle.ks_node.specs.Sound.{starts_at_zero}
use Rattle.ks_node.specs.Room.{load, is_low, is_low_at, is_room_for, fit_kinds, fit_together}
use Rattle.ks_node.specs.Spans.{plain_edges}
use Rattle.ks_node.specs.Laws.Spans.{length_edges, edges_are}
use Rattle.ks_flow.specs.Tree.{Tree, edges_to, edges_in, edges_between}
use Rattle.ks_bodies.specs.Stands.{IsPlain, Stands}
use Rattle.ks_bodies.specs.Neighbours.{neighbour_of}
use Rattle.ks_bodies.proofs.Led.{low_or_high, led, AllAbove, Ascend, count}
use Rattle.ks_bodies.proofs.Records.{body_ascend, body_led, body_count, edges_plain, all_add, leads_edge}
use Rattle.ks_bodies.proofs.Standing.{one_start}
use Rattle.ks_bodies.proofs.Absorb.{own_of, own_leads}
use Rattle.ks_bodies.proofs.Collapse.{all_sole, branch_child}
use Rattle.ks_bodies.proofs.Forget.{Beside, find_beside}
use Rattle.ks_bodies.proofs.Forget as forget

differ : {A : Type 0} {b : Bool} → b ≡ true → b ≡ false → A
differ e f = absurd (cc)

no : {A : Type 0} → false ≡ true → A
no e = absurd (cc)

-- kinds

branch_not : (k : Kind) → is_branch_kind k ≡ true → k ≢ NoBranch
branch_not NoBranch e f = no e
branch_not Inner e f = cc
branch_not Directory e f = cc

not_branch : (k : Kind) → k ≢ NoBranch → is_branch_kind k ≡ true
not_branch NoBranch h = absurd (h refl)
not_branch Inner h = refl
not_branch Directory h = refl

leaf_is : (k : Kind) → is_branch_kind k ≡ false → k ≡ NoBranch
leaf_is NoBranch e = refl
leaf_is Inner e = absurd (cc)
leaf_is Directory e = absurd (cc)

-- low and fit

half_is : (o : Option ℕ) (n : ℕ) → IsTrue (is_low_at o n) ↔ IsHalf o n
half_is None n = (λ e. no e, λ h. absurd h)
half_is (Some c) n = (λ e. let h : 2 * n ≤ c = leb-true _ _ e in omega arith, λ h. le-leb _ _ (omega arith))

room_is : (o : Option ℕ) (n : ℕ) → IsTrue (is_room_for o n) ↔ IsWithin o n
room_is None n = (λ e. no e, λ h. absurd h)
room_is (Some c) n = (λ e. leb-true _ _ e, λ h. le-leb _ _ h)

filling_is : (b : Body) → IsPlain b → (k : Kind) → cond (is_branch_kind k) (length b.starts) (length b.pairs) ≡ filling k (record_of b)
filling_is b plain NoBranch = refl
filling_is b plain Inner = sym (length_edges b plain.sound plain.framed plain.no_link)
filling_is b plain Directory = sym (length_edges b plain.sound plain.framed plain.no_link)

low_kind : (layout : Layout) (b : Body) → IsPlain b → IsTrue (is_low layout b) ↔ IsLow layout b.kind (record_of b)
low_kind layout b plain = subst (λ (n : ℕ). IsTrue (is_low layout b) ↔ IsHalf (capacity layout b.kind) n) (filling_is b plain b.kind) (half_is (capacity layout b.kind) (load b))

fit_kind : (layout : Layout) (b q : Body) → IsPlain b → IsPlain q → IsTrue (fit_together layout b q) ↔ Fit layout b.kind (record_of b) q.kind (record_of q)
fit_kind layout b q plain plain' = go b.kind q.kind (load b) (load q) (filling_is b plain b.kind) (filling_is q plain' q.kind)
  where
    sums : (o : Option ℕ) (m n x y : ℕ) → m ≡ x → n ≡ y → IsTrue (is_room_for o (m + n)) ↔ IsWithin o (x + y)
    sums o m n x y e f = subst (λ (z : ℕ). IsTrue (is_room_for o (m + n)) ↔ IsWithin o z) (omega arith) (room_is o (m + n))

    go : (k l : Kind) (m n : ℕ) → m ≡ filling k (record_of b) → n ≡ filling l (record_of q) → IsTrue (fit_kinds k l && is_room_for (capacity layout k) (m + n)) ↔ Fit layout k (record_of b) l (record_of q)
    go NoBranch NoBranch m n e f = sums (capacity layout NoBranch) m n _ _ e f
    go NoBranch Inner m n e f = (λ t. no t, λ h. absurd h)
    go NoBranch Directory m n e f = (λ t. no t, λ h. absurd h)
    go Inner NoBranch m n e f = (λ t. no t, λ h. absurd h)
    go Inner Inner m n e f = sums (capacity layout Inner) m n _ _ e f
    go Inner Directory m n e f = (λ t. no t, λ h. absurd h)
    go Directory l m n e f = (λ t. no t, λ h. absurd h)

-- edges and starts

some_any : (es : List Edge) (m : ℕ) → 0 < edges_to es m → Any (λ e. e.node ≡ m) es
some_any [] m lt = absurd (omega arith)
some_any (e ∷ es) m lt = elim (eqb_tells e.node m) [
  | inl t ↦ (0, e, omega arith, refl, t.1)
  | inr t ↦ (let h : 0 < 0 + edges_to es m = rw (t.0) at lt in let y = some_any es m (omega arith) in (suc y.0, y.1, omega (arith, y.2), y.3, y.4))
]

any_some : (es : List Edge) (m : ℕ) → Any (λ e. e.node ≡ m) es → 0 < edges_to es m
any_some [] m (k, x, lt, is, to) = absurd (omega arith)
any_some (e ∷ es) m (zero, x, lt, is, to) = let t : (e.node == m) ≡ true = eq-eqb e.node m (ap (λ (z : Edge). z.node) is ∙ to) in rw t (omega arith)
any_some (e ∷ es) m (suc k, x, lt, is, to) = omega (arith, any_some es m (k, x, omega arith, is, to))

start_some : (ss : List Start) (k : ℕ) (d : Start) → k < length ss → 0 < count ss (get_or ss k d).node
start_some [] k d lt = absurd (omega arith)
start_some (s ∷ ss) zero d lt = let t : (s.node == s.node) ≡ true = eq-eqb s.node s.node refl in rw t (omega arith)
start_some (s ∷ ss) (suc k) d lt = omega (arith, start_some ss k d (omega arith))

first_counted : (ss : List Start) (m : ℕ) → length ss ≤ 1 → 0 < count ss m → first_node ss ≡ Some m
first_counted [] m le lt = absurd (omega arith)
first_counted (s ∷ []) m le lt = elim (eqb_tells s.node m) [
  | inl t ↦ ap (λ (n : ℕ). Some n) t.1
  | inr t ↦ (let h : 0 < 0 + 0 = rw (t.0) at lt in absurd (omega arith))
]
first_counted (s ∷ t ∷ ts) m le lt = absurd (omega arith)

all_edges : (P : ℕ → Type 0) (first last : ℕ) (ss : List Start) → All (λ s. P s.node) ss → All (λ e. P e.node) (edges_from first last ss)
all_edges P first last [] all = All-nil (λ e. P e.node)
all_edges P first last (s ∷ []) all = all_add (λ e. P e.node) _ _ s.node [] (all 0 s (omega arith)) (All-nil (λ e. P e.node))
all_edges P first last (s ∷ t ∷ ts) all = all_add (λ e. P e.node) _ _ s.node (edges_from first last (t ∷ ts)) (all 0 s (omega arith)) (all_edges P first last (t ∷ ts) (λ k d lt. all (suc k) d (omega arith)))

list_alike : (ss : List Start) (m n : ℕ) → m ≡ n → All (λ s. s.node ≡ m) ss → list_all (λ t. nat_eq t.node n) ss ≡ true
list_alike [] m n e all = refl
list_alike (s ∷ ss) m n e all =
    let t : nat_eq s.node n ≡ true = eq-eqb _ _ (all 0 s (omega arith) ∙ e) in
    rw t (list_alike ss m n e (λ k d lt. all (suc k) d (omega arith)))

sole_is : (ss : List Start) (m : ℕ) → 0 < length ss → All (λ s. s.node ≡ m) ss → sole ss ≡ Some m
sole_is [] m lt all = absurd (omega arith)
sole_is (s ∷ ss) m lt all =
    let t : list_all (λ t. nat_eq t.node s.node) ss ≡ true = list_alike ss m s.node (sym (all 0 s (omega arith))) (λ k d l. all (suc k) d (omega arith)) in
    rw t (ap (λ (n : ℕ). Some n) (all 0 s (omega arith)))

-- edges that follow one another

next_step : (e : Edge) (es : List Edge) (n m : ℕ) → IsNext es n m → IsNext (e ∷ es) n m
next_step e es n m x = record { at = suc x.at; one = x.one; other = x.other; first = x.first; second = x.second; from = x.from; to = x.to }

next_plain : (first last : ℕ) (ahead rest : List Start) (x y : Start) → IsNext (plain_edges first last (ahead ++ x ∷ y ∷ rest)) x.node y.node
next_plain first last [] [] x y = record { at = 0; one = record { span = record { low = _; last = _ }; node = x.node }; other = record { span = record { low = _; last = _ }; node = y.node }; first = refl; second = refl; from = refl; to = refl }
next_plain first last [] (z ∷ rest) x y = record { at = 0; one = record { span = record { low = _; last = _ }; node = x.node }; other = record { span = record { low = _; last = _ }; node = y.node }; first = refl; second = refl; from = refl; to = refl }
next_plain first last (a ∷ []) rest x y = next_step _ (plain_edges first last (x ∷ y ∷ rest)) x.node y.node (next_plain first last [] rest x y)
next_plain first last (a ∷ b ∷ ahead) rest x y = next_step _ (plain_edges first last (b ∷ ahead ++ x ∷ y ∷ rest)) x.node y.node (next_plain first last (b ∷ ahead) rest x y)

start_as : (s : Start) (n : ℕ) → s.node ≡ n → s ≡ record { low = s.low; node = n }
start_as s n e = ap (λ (m : ℕ). record { low = s.low; node = m }) e

first_edge : (first last : ℕ) (t : Start) (ts : List Start) (e : Edge) → slice_get (plain_edges first last (t ∷ ts)) 0 ≡ Some e → t.node ≡ e.node
first_edge first last t [] e is = let x : Some (record { span = record { low = _; last = last }; node = t.node }) ≡ Some e = is in some_node _ e x
  where
    some_node : (a b : Edge) → Some a ≡ Some b → a.node ≡ b.node
    some_node a b e = let y : a ≡ b = cc in ap (λ (z : Edge). z.node) y
first_edge first last t (u ∷ us) e is = some_node _ e is
  where
    some_node : (a b : Edge) → Some a ≡ Some b → a.node ≡ b.node
    some_node a b e = let y : a ≡ b = cc in ap (λ (z : Edge). z.node) y

plain_next : (first last : ℕ) (ss : List Start) (n m at : ℕ) (one other : Edge) → slice_get (plain_edges first last ss) at ≡ Some one → slice_get (plain_edges first last ss) (suc at) ≡ Some other → one.node ≡ n → other.node ≡ m → Beside ss n m
plain_next first last [] n m at one other x y from to = absurd (cc)
plain_next first last (s ∷ []) n m zero one other x y from to = absurd (cc)
plain_next first last (s ∷ []) n m (suc at) one other x y from to = absurd (cc)
plain_next first last (s ∷ t ∷ ts) n m zero one other x y from to =
    let a : s.node ≡ n = first_edge first last s (t ∷ ts) one x ∙ from in
    let b : t.node ≡ m = first_edge first last t ts other y ∙ to in
    record { ahead = []; low = s.low; seam = t.low; rest = ts; are = ap (λ (z : Start). z ∷ t ∷ ts) (start_as s n a) ∙ ap (λ (z : Start). record { low = s.low; node = n } ∷ z ∷ ts) (start_as t m b) }
plain_next first last (s ∷ t ∷ ts) n m (suc at) one other x y from to =
    let z = plain_next first last (t ∷ ts) n m at one other x y from to in
    record { ahead = s ∷ z.ahead; low = z.low; seam = z.seam; rest = z.rest; are = ap (λ (zs : List Start). s ∷ zs) z.are }

next_some : (es : List Edge) (at : ℕ) (one : Edge) (n : ℕ) → slice_get es at ≡ Some one → one.node ≡ n → 0 < edges_to es n
next_some [] at one n is e = absurd (cc)
next_some (x ∷ es) zero one n is e = let same : x ≡ one = cc in let t : (x.node == n) ≡ true = eq-eqb x.node n (ap (λ (z : Edge). z.node) same ∙ e) in rw t (omega arith)
next_some (x ∷ es) (suc at) one n is e = omega (arith, next_some es at one n is e)

above_mid : (zs ys : List Start) (x : Start) (l : ℕ) → AllAbove l (zs ++ x ∷ ys) → l < x.low
above_mid [] ys x l h = h.0
above_mid (z ∷ zs) ys x l h = above_mid zs ys x l h.1

first_past : (ahead rest : List Start) (x y : Start) (p : ℕ) → Ascend (ahead ++ x ∷ y ∷ rest) → x.low ≤ p → p < y.low → first_node (starts_from (suc p) (ahead ++ x ∷ y ∷ rest)) ≡ Some y.node
first_past [] rest x y p up le lt =
    let a : nat_le (suc p) x.low ≡ false = lt-leb _ _ (omega arith) in
    let b : nat_le (suc p) y.low ≡ true = le-leb _ _ (omega arith) in
    rw (a, b) refl
first_past (z ∷ zs) rest x y p up le lt =
    let a : nat_le (suc p) z.low ≡ false = lt-leb _ _ (omega (arith, above_mid zs (y ∷ rest) x z.low up.0)) in
    rw a (first_past zs rest x y p up.1 le lt)

module _ (g : ℕ → NodeState) (f : ℕ → Frame) (n : ℕ) (b : Body) (stands : Stands g f n b) where
  kind_of : (f n).kind ≡ b.kind
  kind_of = ap (λ (z : Frame). z.kind) stands.frame

  record_is : (r : Record) → record_at g n ≡ Some r → r ≡ record_of b
  record_is r is = let e : Some r ≡ Some (record_of b) = sym is ∙ stands.has in cc

  edge_count : length (edges_of b) ≡ length b.starts
  edge_count = length_edges b stands.plain.sound stands.plain.framed stands.plain.no_link

  pub low_tells : (layout : Layout) → IsTrue (is_low layout b) ↔ IsLow layout (f n).kind (record_of b)
  low_tells layout = subst (λ (k : Kind). IsTrue (is_low layout b) ↔ IsLow layout k (record_of b)) (sym kind_of) (low_kind layout b stands.plain)

  -- the own edge

  pub chained_tells : (m : ℕ) → chained_of b ≡ Some m ↔ (HasOwnEdge (f n) (record_of b) × Any (λ e. e.node ≡ m) (edges_of b))
  chained_tells m = (there, back)
    where
      there : chained_of b ≡ Some m → HasOwnEdge (f n) (record_of b) × Any (λ e. e.node ≡ m) (edges_of b)
      there e =
          let y = own_of b m stands.plain e in
          ((kind_of ∙ leaf_is b.kind y.0, λ z. absurd (omega (arith, z, edge_count, ap (λ (ss : List Start). length ss) y.2))), some_any (edges_of b) m (own_leads b m stands.plain e))

      back : HasOwnEdge (f n) (record_of b) × Any (λ e. e.node ≡ m) (edges_of b) → chained_of b ≡ Some m
      back h =
          let k : is_branch b ≡ false = ap is_branch_kind (sym kind_of ∙ h.0.0) in
          let few = stands.plain.sound.own_alone k in
          rw k (first_counted b.starts m few (omega (arith, any_some (edges_of b) m h.1, body_count b stands.plain m)))

  pub unchained_tells : chained_of b ≡ None ↔ ¬ HasOwnEdge (f n) (record_of b)
  unchained_tells = (λ e h. there e h, λ h. back (is_branch b) refl b.starts refl h)
    where
      empty : (ss : List Start) → first_node ss ≡ None → length ss ≡ 0
      empty [] e = refl
      empty (s ∷ ss) e = absurd (cc)

      there : chained_of b ≡ None → HasOwnEdge (f n) (record_of b) → ⊥
      there e h =
          let k : is_branch b ≡ false = ap is_branch_kind (sym kind_of ∙ h.0) in
          let none : first_node b.starts ≡ None = rw k at e in
          h.1 (edge_count ∙ empty b.starts none)

      back : (k : Bool) → is_branch b ≡ k → (ss : List Start) → b.starts ≡ ss → ¬ HasOwnEdge (f n) (record_of b) → cond (is_branch b) None (first_node b.starts) ≡ None
      back true e ss are h = rw e refl
      back false e [] are h = rw e (ap first_node are)
      back false e (s ∷ ss) are h = absurd (h (kind_of ∙ leaf_is b.kind e, λ z. omega (arith, z, edge_count, ap (λ (xs : List Start). length xs) are)))

  -- all edges to one child

  pub only_tells : (m : ℕ) → only_child_of b ≡ Some m ↔ (((f n).kind ≢ NoBranch) × All (λ e. e.node ≡ m) (edges_of b))
  only_tells m = (there, back)
    where
      there : only_child_of b ≡ Some m → ((f n).kind ≢ NoBranch) × All (λ e. e.node ≡ m) (edges_of b)
      there e =
          let y = branch_child (is_branch b) (sole b.starts) m e in
          (λ k. branch_not b.kind y.0 (sym kind_of ∙ k), subst (λ (es : List Edge). All (λ e. e.node ≡ m) es) (sym (edges_plain b stands.plain.no_link)) (all_edges (λ x. x ≡ m) (first_of b.range) (last_of b.range) b.starts (all_sole b.starts m y.1)))

      counted : (es : List Edge) (c : ℕ) → All (λ e. e.node ≡ m) es → 0 < edges_to es c → c ≡ m
      counted es c all lt = let y = some_any es c lt in sym y.4 ∙ sym (ap (λ (z : Edge). z.node) y.3) ∙ all y.0 y.1 y.2

      filled : (ss : List Start) → is_branch b ≡ true → b.starts ≡ ss → 0 < length ss
      filled [] k e = let z = stands.plain.sound.branch_covers k in absurd (nothing b.starts e z)
        where
          nothing : (ss : List Start) → ss ≡ [] → IsTrue (starts_at_zero ss) → ⊥
          nothing [] e z = no z
          nothing (s ∷ ss) e z = cc
      filled (s ∷ ss) k e = omega arith

      back : ((f n).kind ≢ NoBranch) × All (λ e. e.node ≡ m) (edges_of b) → only_child_of b ≡ Some m
      back h =
          let k : is_branch b ≡ true = not_branch b.kind (λ e. h.0 (kind_of ∙ e)) in
          rw k (sole_is b.starts m (filled b.starts k refl) (λ i d lt. counted (edges_of b) _ h.1 (omega (arith, start_some b.starts i d lt, body_count b stands.plain (get_or b.starts i d).node))))

  -- the right neighbour of a node with an edge of its own

  pub own_right : (m : ℕ) → chained_of b ≡ Some m → (k : ℕ) → IsRightNeighbour g f n k ↔ (k ≡ m)
  own_right m e k = (there, λ same. let y = (chained_tells m).0 e in chained (record_of b) stands.has y.0 (subst (λ (j : ℕ). Any (λ e. e.node ≡ j) (edges_of b)) (sym same) y.1))
    where
      there : IsRightNeighbour g f n k → k ≡ m
      there (chained r is own leads) =
          let same = record_is r is in
          let z : chained_of b ≡ Some k = (chained_tells k).1 (subst (λ (t : Record). HasOwnEdge (f n) t) same own, subst (λ (t : Record). Any (λ e. e.node ≡ k) t.edges) same leads) in
          let y : Some k ≡ Some m = sym z ∙ e in cc
      there (beside r a s is own is' branch next) = absurd (own (subst (λ (t : Record). HasOwnEdge (f n) t) (sym (record_is r is)) ((chained_tells m).0 e).0))

  -- the right neighbour of a node without one is next to it in its parent
  pub beside_only : (m : ℕ) → chained_of b ≡ None → IsRightNeighbour g f n m → (a : ℕ) × (s : Record) × (record_at g a ≡ Some s) × ((f a).kind ≢ NoBranch) × IsNext s.edges n m
  beside_only m e (chained r is own leads) = absurd (unchained_tells.0 e (subst (λ (t : Record). HasOwnEdge (f n) t) (record_is r is) own))
  beside_only m e (beside r a s is own is' branch next) = (a, s, is', branch, next)

  -- the root has none next to it
  pub root_right : (m : ℕ) → Tree g f → n ≡ 0 → chained_of b ≡ None → IsRightNeighbour g f n m → ⊥
  root_right m tree e none right =
      let y = beside_only m none right in
      let lt = next_some y.1.edges y.4.at y.4.one n y.4.first y.4.from in
      omega (arith, tree.edges.none y.0, ap (λ (o : Option Record). edges_in o 0) y.2, subst (λ (j : ℕ). 0 < edges_to y.1.edges j) e lt)

  module _ (parent place : ℕ) (u : Body) (tree : Tree g f) (above : Stands g f parent u) (leads : LeadsTo (record_of u) place n) (none : chained_of b ≡ None) where
    -- next to it is the node that follows it in its parent
    in_parent : (m a : ℕ) (s : Record) → record_at g a ≡ Some s → IsNext s.edges n m → (a ≡ parent) × IsNext (edges_of u) n m
    in_parent m a s is next = go (eqb_tells a parent)
      where
        from_a : 0 < edges_between g a n
        from_a = subst (λ (o : Option Record). 0 < edges_in o n) (sym is) (next_some s.edges next.at next.one n next.first next.from)

        from_parent : 0 < edges_between g parent n
        from_parent = subst (λ (o : Option Record). 0 < edges_in o n) (sym above.has) (leads_edge u place n above.plain leads)

        go : (((a == parent) ≡ true) × (a ≡ parent)) ⊎ (((a == parent) ≡ false) × (a ≡ parent → ⊥)) → (a ≡ parent) × IsNext (edges_of u) n m
        go (inl e) =
            let is' : record_at g parent ≡ Some s = subst (λ (x : ℕ). record_at g x ≡ Some s) e.1 is in
            let x : Some s ≡ Some (record_of u) = sym is' ∙ above.has in
            let same : s ≡ record_of u = cc in
            (e.1, subst (λ (t : Record). IsNext t.edges n m) same next)
        go (inr e) = absurd (omega (arith, tree.edges.one n a parent e.1, from_a, from_parent))

    pub beside_right : (m : ℕ) → IsTrue (is_branch u) → IsRightNeighbour g f n m ↔ (right_child u place ≡ Some m)
    beside_right m branch = (there, back)
      where
        plain : edges_of u ≡ plain_edges (first_of u.range) (last_of u.range) u.starts
        plain = edges_are u above.plain.sound above.plain.framed above.plain.no_link

        led_here : led u.starts place ≡ Some n
        led_here = (body_led u above.plain place n leads).0

        past : (x : Beside u.starts n m) → first_node (starts_from (suc place) u.starts) ≡ Some m
        past x =
            let up = subst Ascend x.are (body_ascend u above.plain) in
            let one : (c : ℕ) → count (x.ahead ++ record { low = x.low; node = n } ∷ record { low = x.seam; node = m } ∷ x.rest) c ≤ 1 = λ c. subst (λ (ss : List Start). count ss c ≤ 1) x.are (one_start g f parent u tree above c) in
            let y = forget.to_node n m x.low x.seam x.ahead x.rest up one place (sym (ap (λ (ss : List Start). led ss place) x.are) ∙ led_here) in
            ap (λ (ss : List Start). first_node (starts_from (suc place) ss)) x.are ∙ first_past x.ahead x.rest (record { low = x.low; node = n }) (record { low = x.seam; node = m }) place up y.0 y.1

        there : IsRightNeighbour g f n m → right_child u place ≡ Some m
        there right =
            let y = beside_only m none right in
            let z = (in_parent m y.0 y.1 y.2 y.4).1 in
            let w = subst (λ (es : List Edge). IsNext es n m) plain z in
            rw branch (past (plain_next (first_of u.range) (last_of u.range) u.starts n m w.at w.one w.other w.first w.second w.from w.to))

        back : right_child u place ≡ Some m → IsRightNeighbour g f n m
        back e =
            let first : first_node (starts_from (suc place) u.starts) ≡ Some m = rw branch at e in
            let x = find_beside u.starts place n m (body_ascend u above.plain) led_here first in
            let next : IsNext (plain_edges (first_of u.range) (last_of u.range) (x.ahead ++ record { low = x.low; node = n } ∷ record { low = x.seam; node = m } ∷ x.rest)) n m = next_plain (first_of u.range) (last_of u.range) x.ahead x.rest (record { low = x.low; node = n }) (record { low = x.seam; node = m }) in
            let next' : IsNext (edges_of u) n m = subst (λ (es : List Edge). IsNext es n m) (sym (plain ∙ ap (λ (ss : List Start). plain_edges (first_of u.range) (last_of u.range) ss) x.are)) next in
            beside (record_of b) parent (record_of u) stands.has (unchained_tells.0 none) above.has (λ k. branch_not u.kind branch (sym (ap (λ (z : Frame). z.kind) above.frame) ∙ k)) next'

    -- below a node that is no branch it has none
    pub chain_right : (m : ℕ) → is_branch u ≡ false → IsRightNeighbour g f n m → ⊥
    chain_right m leaf right =
        let y = beside_only m none right in
        let same = (in_parent m y.0 y.1 y.2 y.4).0 in
        y.3 (subst (λ (x : ℕ). (f x).kind ≡ NoBranch) (sym same) (ap (λ (z : Frame). z.kind) above.frame ∙ leaf_is u.kind leaf))

-- two nodes that fit
pub fit_tells : (layout : Layout) (g : ℕ → NodeState) (f : ℕ → Frame) (n m : ℕ) (b q : Body) → Stands g f n b → Stands g f m q → IsTrue (fit_together layout b q) ↔ Fit layout (f n).kind (record_of b) (f m).kind (record_of q)
fit_tells layout g f n m b q x y =
    subst (λ (k : Kind). IsTrue (fit_together layout b q) ↔ Fit layout k (record_of b) (f m).kind (record_of q)) (sym (kind_of g f n b x))
    (subst (λ (l : Kind). IsTrue (fit_together layout b q) ↔ Fit layout b.kind (record_of b) l (record_of q)) (sym (kind_of g f m q y)) (fit_kind layout b q x.plain y.plain))

-- a node does not fit with its only right neighbour, if it has one
pub fits_none : (layout : Layout) (g : ℕ → NodeState) (f : ℕ → Frame) (n m : ℕ) (b q : Body) → Stands g f n b → Stands g f m q → ((k : ℕ) → IsRightNeighbour g f n k → k ≡ m) → fit_together layout b q ≡ false → FitsNoRight layout g f n
fits_none layout g f n m b q x y only off k r s right is is' fit =
    let same = only k right in
    let r_is = record_is g f n b x r is in
    let s_is = record_is g f m q y s (subst (λ (j : ℕ). record_at g j ≡ Some s) same is') in
    let fit' : Fit layout (f n).kind (record_of b) (f m).kind (record_of q) = subst (λ (t : Record). Fit layout (f n).kind (record_of b) (f m).kind t) s_is (subst (λ (t : Record). Fit layout (f n).kind t (f m).kind s) r_is (subst (λ (j : ℕ). Fit layout (f n).kind r (f j).kind s) same fit)) in
    differ ((fit_tells layout g f n m b q x y).1 fit') off

pub fits_own : (layout : Layout) (g : ℕ → NodeState) (f : ℕ → Frame) (n m : ℕ) (b q : Body) → Stands g f n b → Stands g f m q → chained_of b ≡ Some m → fit_together layout b q ≡ false → FitsNoRight layout g f n
fits_own layout g f n m b q x y e off = fits_none layout g f n m b q x y (λ k right. (own_right g f n b x m e k).0 right) off

pub fits_beside : (layout : Layout) (g : ℕ → NodeState) (f : ℕ → Frame) (parent n m place : ℕ) (u b q : Body) → Tree g f → Stands g f parent u → Stands g f n b → Stands g f m q →
    IsTrue (is_branch u) → LeadsTo (record_of u) place n → chained_of b ≡ None → right_child u place ≡ Some m → fit_together layout b q ≡ false → FitsNoRight layout g f n
fits_beside layout g f parent n m place u b q tree above x y branch leads none e off = fits_none layout g f n m b q x y only off
  where
    only : (k : ℕ) → IsRightNeighbour g f n k → k ≡ m
    only k right = let z : Some k ≡ Some m = sym ((beside_right g f n b x parent place u tree above leads none k branch).0 right) ∙ e in cc

-- a node that no other follows in its parent, a branch or none, fits with none
pub fits_last : (layout : Layout) (g : ℕ → NodeState) (f : ℕ → Frame) (parent n place : ℕ) (u b : Body) → Tree g f → Stands g f parent u → Stands g f n b → LeadsTo (record_of u) place n →
    chained_of b ≡ None → right_child u place ≡ None → FitsNoRight layout g f n
fits_last layout g f parent n place u b tree above x leads none e m r s right is is' fit = go (is_branch u) refl
  where
    go : (k : Bool) → is_branch u ≡ k → ⊥
    go true k = let z : Some m ≡ None = sym ((beside_right g f n b x parent place u tree above leads none m k).0 right) ∙ e in cc
    go false k = chain_right g f n b x parent place u tree above leads none m k right

-- a branch with no only child leads to no child by all edges
pub no_only : (g : ℕ → NodeState) (f : ℕ → Frame) (n : ℕ) (b : Body) → Stands g f n b → only_child_of b ≡ None → (r : Record) (m : ℕ) → record_at g n ≡ Some r → (f n).kind ≢ NoBranch → All (λ e. e.node ≡ m) r.edges → ⊥
no_only g f n b x none r m is branch all =
    let e : only_child_of b ≡ Some m = (only_tells g f n b x m).1 (branch, subst (λ (t : Record). All (λ e. e.node ≡ m) t.edges) (record_is g f n b x r is) all) in
    let z : None ≡ Some m = sym none ∙ e in cc

-- a child's right neighbour, by its body and its parent's

pub child_right : (g : ℕ → NodeState) (f : ℕ → Frame) (parent n place : ℕ) (u b : Body) → Tree g f → Stands g f parent u → Stands g f n b → LeadsTo (record_of u) place n → (m : ℕ) → IsRightNeighbour g f n m ↔ (neighbour_of u b place ≡ Some m)
child_right g f parent n place u b tree above stands leads m = look (chained_of b) refl (is_branch u) refl
  where
    look : (o : Option ℕ) → chained_of b ≡ o → (k : Bool) → is_branch u ≡ k → IsRightNeighbour g f n m ↔ (neighbour_of u b place ≡ Some m)
    look (Some j) e k is = (
      λ right. let same : m ≡ j = (own_right g f n b stands j e m).0 right in ap (λ (o : Option ℕ). option_or o (right_child u place)) e ∙ ap (λ (x : ℕ). Some x) (sym same),
      λ is'. let z : Some j ≡ Some m = sym (ap (λ (o : Option ℕ). option_or o (right_child u place)) e) ∙ is' in let same : j ≡ m = cc in (own_right g f n b stands j e m).1 (sym same),
    )
    look None e true is = let y = beside_right g f n b stands parent place u tree above leads e m is in (
      λ right. ap (λ (o : Option ℕ). option_or o (right_child u place)) e ∙ y.0 right,
      λ is'. y.1 (sym (ap (λ (o : Option ℕ). option_or o (right_child u place)) e) ∙ is'),
    )
    look None e false is = (
      λ right. absurd (chain_right g f n b stands parent place u tree above leads e m is right),
      λ is'. let z : right_child u place ≡ Some m = sym (ap (λ (o : Option ℕ). option_or o (right_child u place)) e) ∙ is' in
          let none : right_child u place ≡ None = rw is refl in
          let y : Some m ≡ None = sym z ∙ none in absurd (cc),
    )

pub fits_child : (layout : Layout) (g : ℕ → NodeState) (f : ℕ → Frame) (parent n m place : ℕ) (u b q : Body) → Tree g f → Stands g f parent u → Stands g f n b → Stands g f m q → LeadsTo (record_of u) place n → neighbour_of u b place ≡ Some m → fit_together layout b q ≡ false → FitsNoRight layout g f n
fits_child layout g f parent n m place u b q tree above x y leads e off = fits_none layout g f n m b q x y only off
  where
    only : (k : ℕ) → IsRightNeighbour g f n k → k ≡ m
    only k right = let z : Some k ≡ Some m = sym ((child_right g f parent n place u b tree above x leads k).0 right) ∙ e in cc

pub alone_child : (layout : Layout) (g : ℕ → NodeState) (f : ℕ → Frame) (parent n place : ℕ) (u b : Body) → Tree g f → Stands g f parent u → Stands g f n b → LeadsTo (record_of u) place n → neighbour_of u b place ≡ None → FitsNoRight layout g f n
alone_child layout g f parent n place u b tree above x leads e m r s right is is' fit =
    let z : Some m ≡ None = sym ((child_right g f parent n place u b tree above x leads m).0 right) ∙ e in absurd (cc)

-- whose edge leads to it

pub which_right : (u b : Body) (place m : ℕ) → neighbour_of u b place ≡ Some m → (chained_of b ≡ Some m) ⊎ ((chained_of b ≡ None) × IsTrue (is_branch u) × (right_child u place ≡ Some m))
which_right u b place m e = look (chained_of b) refl
  where
    branch : (k : Bool) (o : Option ℕ) → cond k o None ≡ Some m → k ≡ true
    branch true o e = refl
    branch false o e = absurd (cc)

    look : (o : Option ℕ) → chained_of b ≡ o → (chained_of b ≡ Some m) ⊎ ((chained_of b ≡ None) × IsTrue (is_branch u) × (right_child u place ≡ Some m))
    look (Some j) is = inl (is ∙ sym (ap (λ (o : Option ℕ). option_or o (right_child u place)) is) ∙ e)
    look None is = let z : right_child u place ≡ Some m = sym (ap (λ (o : Option ℕ). option_or o (right_child u place)) is) ∙ e in inr (is, branch (is_branch u) (first_node (starts_from (suc place) u.starts)) z, z)

first_from_some : (cut m : ℕ) (ss : List Start) → first_node (starts_from cut ss) ≡ Some m → 0 < count ss m
first_from_some cut m [] e = absurd (cc)
first_from_some cut m (s ∷ ss) e = elim (low_or_high s.low cut) [
  | inl lt ↦ (let t : nat_le cut s.low ≡ false = lt-leb _ _ lt in omega (arith, first_from_some cut m ss (rw t at e)))
  | inr ge ↦ (
      let t : nat_le cut s.low ≡ true = le-leb _ _ ge in
      let z : Some s.node ≡ Some m = rw t at e in
      let same : s.node ≡ m = cc in
      let h : (s.node == m) ≡ true = eq-eqb _ _ same in
      rw h (omega arith))
]

pub leads_right : (u b : Body) (place m : ℕ) → IsPlain u → IsPlain b → neighbour_of u b place ≡ Some m → Any (λ e. e.node ≡ m) (edges_of b) ⊎ Any (λ e. e.node ≡ m) (edges_of u)
leads_right u b place m plain plain' e = elim (which_right u b place m e) [
  | inl own ↦ inl (some_any (edges_of b) m (own_leads b m plain' own))
  | inr next ↦ (
      let first : first_node (starts_from (suc place) u.starts) ≡ Some m = rw (next.1) at (next.2) in
      inr (some_any (edges_of u) m (omega (arith, first_from_some (suc place) m u.starts first, body_count u plain m))))
]
