-- How a split narrows a search: the edge that leads on ends lower, or begins higher, or the node's own edge begins lower.
use Rattle.std.proofs.Common.{◌≡◌, ◌≢◌, ◌⊎◌, ℕ, zero, suc, ◌+◌, ◌-◌, ◌*◌, ◌<◌, ◌≤◌, ◌==◌, eq-eqb, Bool, true, false, cond, ◌&&◌, List, [], ◌∷◌, ◌++◌, length, get_or, sym, refl, ap, ◌∙◌, subst, inl, inr, arith}
use Rattle.std.specs.Prelude.{IsTrue, nat_le, nat_eq, min, is_some, All, AllPairs, Option, Some, None}
use Rattle.std.proofs.lemmas.Bool.{le-leb, leb-true, and_parts, cases_lt, cond-true, cond-false, false_from_ne_true}
use Rattle.std.proofs.lemmas.List.{get_or_default}
use Rattle.ks_keysets.specs.declared.Edge.{Edge}
use Rattle.ks_keysets.specs.declared.Frame.{Frame}
use Rattle.ks_keysets.specs.declared.Kind.{Kind}
use Rattle.ks_keysets.specs.declared.Kind.TheVariants.{NoBranch, Inner, Directory}
use Rattle.ks_keysets.specs.declared.NodeState.{NodeState}
use Rattle.ks_keysets.specs.declared.Record.{Record}
use Rattle.ks_keysets.specs.declared.Span.{Span}
use Rattle.ks_keysets.specs.Layout.{Layout}
use Rattle.ks_keysets.specs.Record.{top, Carries, Holds, LeadsTo}
use Rattle.ks_keysets.specs.Keyset.{record_at, Good, InInset, Reaches}
use Rattle.ks_keysets.specs.Laws.Next.{edge_one}
use Rattle.ks_flow.specs.Tree.{Tree, OneEdge, edges_between, edges_in, edges_to}
use Rattle.ks_history.specs.declared.Event.{Event}
use Rattle.ks_history.specs.Trace.{graph_after}
use Rattle.ks_node.specs.declared.start.Start.{Start}
use Rattle.ks_node.specs.Asks.{CanSplitAt}
use Rattle.ks_node.specs.Body.{Body, begins, is_branch, is_branch_kind, starts_below, starts_from}
use Rattle.ks_node.specs.Edges.{edges_of, record_of}
use Rattle.ks_node.specs.Keyed.{at as first_at}
use Rattle.ks_node.specs.Effect.{settled, split_left, split_right}
use Rattle.ks_node.specs.Room.{is_full}
use Rattle.ks_bodies.specs.Shapes.{split_on}
use Rattle.ks_arena.specs.declared.held.Held.{Held as Hand}
use Rattle.ks_arena.specs.Sound.{Sort}
use Rattle.ks_shape.specs.Laws.Single.{record_is}
use Rattle.ks_shape.specs.declared.path.Path.{Path}
use Rattle.ks_put.specs.declared.halves.Part.{Part}
use Rattle.ks_put.specs.declared.halves.Part.TheVariants.{Split, Refused, Shut}
use Rattle.ks_put.specs.Narrows.{end_at, end_under, own_at, own_start, cuts_of, cuts_left, IsNarrower}
use Rattle.ks_put.specs.Parts.{IsRoomy}
use Rattle.ks_shape.specs.OnPath.{IsUnder}
use Rattle.ks_shape.specs.Laws.Counted.{counted, positive}

-- edges that are disjoint
abbrev pub Apart : List Edge → Type 0
Apart es = AllPairs (λ e f. (p : ℕ) → Carries e p → Carries f p → ⊥) es

later_apart : (e : Edge) (es : List Edge) → Apart (e ∷ es) → Apart es
later_apart e es apart i j d lt lt' = apart (suc i) (suc j) d (omega (arith, lt)) (omega (arith, lt'))

-- whether a span holds a place

holds_true : (s : Span) (p : ℕ) → Holds s p → (nat_le s.low p && nat_le p s.last) ≡ true
holds_true s p so = let t : nat_le s.low p ≡ true = le-leb _ _ so.0 in let u : nat_le p s.last ≡ true = le-leb _ _ so.1 in rw t (rw u refl)

holds_false : (s : Span) (p : ℕ) → ¬ Holds s p → (nat_le s.low p && nat_le p s.last) ≡ false
holds_false s p outside = false_from_ne_true (nat_le s.low p && nat_le p s.last) (λ t. let both = and_parts (nat_le s.low p) (nat_le p s.last) t in outside (leb-true _ _ both.0, leb-true _ _ both.1))

-- where the edge that carries the place ends

end_carried : (es : List Edge) (k p : ℕ) (x : Edge) → Apart es → k < length es → get_or es k x ≡ x → Carries x p → end_at es p ≡ min top x.span.last
end_carried [] k p x apart lt is so = absurd (omega (arith, lt))
end_carried (e ∷ es) zero p x apart lt is so =
    let one : e ≡ x = is in
    let t : (nat_le e.span.low p && nat_le p e.span.last) ≡ true = holds_true e.span p (subst (λ (z : Edge). Carries z p) (sym one) so) in
    cond-true (nat_le e.span.low p && nat_le p e.span.last) (min top e.span.last) (end_at es p) t ∙ ap (λ (z : Edge). min top z.span.last) one
end_carried (e ∷ es) (suc k) p x apart lt is so =
    let f : (nat_le e.span.low p && nat_le p e.span.last) ≡ false = holds_false e.span p (λ both. apart 0 (suc k) x (omega arith) lt p both (subst (λ (z : Edge). Carries z p) (sym is) so)) in
    cond-false (nat_le e.span.low p && nat_le p e.span.last) (min top e.span.last) (end_at es p) f ∙ end_carried es k p x (later_apart e es apart) (omega (arith, lt)) is so

end_le : (es : List Edge) (p : ℕ) → end_at es p ≤ top
end_le [] p = omega arith
end_le (e ∷ es) p = go (nat_le e.span.low p && nat_le p e.span.last) (end_le es p)
  where
    go : (t : Bool) → end_at es p ≤ top → cond t (min top e.span.last) (end_at es p) ≤ top
    go true le = omega arith
    go false le = le

-- two edges that lead to a node are counted twice
count_two : (es : List Edge) (k l m : ℕ) (x y : Edge) → k < l → l < length es → get_or es k x ≡ x → get_or es l y ≡ y → x.node ≡ m → y.node ≡ m → 2 ≤ edges_to es m
count_two [] k l m x y less near is is' to to' = absurd (omega (arith, near))
count_two (e ∷ es) k zero m x y less near is is' to to' = absurd (omega (arith, less))
count_two (e ∷ es) zero (suc l) m x y less near is is' to to' =
    let t : (e.node == m) ≡ true = eq-eqb e.node m (ap (λ (z : Edge). z.node) is ∙ to) in rw t (omega (arith, positive es l m y (omega (arith, near)) is' to'))
count_two (e ∷ es) (suc k) (suc l) m x y less near is is' to to' = omega (arith, count_two es k l m x y (omega (arith, less)) (omega (arith, near)) is is' to to')

-- if one edge at most leads to the node, and at two places, it ends at the second or above
pub end_above : (r : Record) (p q m : ℕ) → Apart r.edges → edges_to r.edges m ≤ 1 → q ≤ top → LeadsTo r p m → LeadsTo r q m → q ≤ end_at r.edges p
end_above r p q m apart one place (k, x, lt, is, at) (l, y, lt', is', at') = go (cases k l)
  where
    cases : (k l : ℕ) → (k < l) ⊎ ((l < k) ⊎ (k ≡ l))
    cases k l = grind arith

    go : (k < l) ⊎ ((l < k) ⊎ (k ≡ l)) → q ≤ end_at r.edges p
    go (inl less) = absurd (let two : 2 ≤ edges_to r.edges m = count_two r.edges k l m x y less lt' is is' at.1 at'.1 in omega (arith, one, two))
    go (inr (inl less)) = absurd (let two : 2 ≤ edges_to r.edges m = count_two r.edges l k m y x less lt is' is at'.1 at.1 in omega (arith, one, two))
    go (inr (inr same)) =
        let z : x ≡ y = sym is ∙ get_or_default r.edges k x y lt ∙ ap (λ (i : ℕ). get_or r.edges i y) same ∙ is' in
        let last : x.span.last ≡ y.span.last = ap (λ (e : Edge). e.span.last) z in
        let e : end_at r.edges p ≡ min top x.span.last = end_carried r.edges k p x apart lt is at.0 in
        omega (arith, e, last, at'.0.1, place)

-- if it leads to another node at a place above, it ends below that
pub end_below : (r : Record) (p q m o : ℕ) → Apart r.edges → m ≢ o → p < q → LeadsTo r p m → LeadsTo r q o → end_at r.edges p < q
end_below r p q m o apart other less (k, x, lt, is, at) to =
    let e : end_at r.edges p ≡ min top x.span.last = end_carried r.edges k p x apart lt is at.0 in
    elim (cases_lt x.span.last q) [
      | inl below ↦ omega (arith, e, below)
      | inr above ↦ absurd (other (edge_one r.edges q m o apart (k, x, lt, is, ((omega (arith, at.0.0, less), above), at.1)) to))
    ]

-- what leads to a node ends at each place of its inset or above, under trees
module _ (g : ℕ → NodeState) (f : ℕ → Frame) (good : Good g) (facts : Tree g f) (child : (g : ℕ → NodeState) (e x p : ℕ) (s : Record) → OneEdge g → record_at g e ≡ Some s → 0 < edges_to s.edges x → Reaches g p x → Reaches g p e × LeadsTo s p x) where
  led_above : (i j p q : ℕ) (r : Record) → record_at g i ≡ Some r → LeadsTo r p j → InInset g j q → q ≤ end_at r.edges p
  led_above i j p q r is to inside =
      let both : edges_between g i j + edges_between g (suc i) j ≤ 1 = facts.edges.one j i (suc i) (λ same. omega (arith, same)) in
      let here : edges_between g i j ≡ edges_to r.edges j = ap (λ (o : Option Record). edges_in o j) is in
      end_above r p q j (good.apart i r is) (omega (arith, both, here)) inside.0 to (child g i j q r facts.edges is (counted r p j to) inside.1).1

  pub under_above : {N : Type 0} (sort : Sort) (layout : Layout) (shows : N → Body) (p q : ℕ) (h : List Event) (x : Hand N) (o : Option (Hand N)) → graph_after h ≡ g → IsUnder sort shows p x h o → InInset g x.node q → q ≤ end_under layout shows p o
  under_above sort layout shows p q h x None same under inside = inside.0
  under_above sort layout shows p q h x (Some y) same under inside = led_above y.node x.node p q (record_of (shows y.body)) (ap (λ (k : ℕ → NodeState). record_at k y.node) (sym same) ∙ record_is sort shows h y under.live under.matches) under.leads inside

-- where a node's own edge begins

own_above : (k : Kind) (cut : ℕ) (ss : List Start) → is_branch_kind k ≡ false → cut ≤ top → (k ≡ NoBranch → All (λ s. cut ≤ s.low) ss) → cut ≤ own_at (is_branch_kind k) ss
own_above Inner cut ss leaf place all = absurd (let no : ⊥ = cc in no)
own_above Directory cut ss leaf place all = absurd (let no : ⊥ = cc in no)
own_above NoBranch cut [] leaf place all = omega (arith, place)
own_above NoBranch cut (s ∷ ss) leaf place all = all refl 0 s (omega arith)

not_here : (cut : ℕ) (s : Start) (ss : List Start) → begins cut (s ∷ ss) ≡ false → s.low ≢ cut
not_here cut s ss none same = go (nat_eq s.low cut) (first_at (λ (x : Start). x.low) cut ss) (eq-eqb s.low cut same) none
  where
    go : (t : Bool) (rest : Option Start) → t ≡ true → is_some (cond t (Some s) rest) ≡ false → ⊥
    go true rest e f = cc
    go false rest e f = cc

pub own_past : (b : Body) (cut : ℕ) → is_branch b ≡ false → cut ≤ top → CanSplitAt b cut → begins cut b.starts ≡ false → cut < own_start b
own_past b cut leaf place splits none = go b.kind b.starts leaf splits.2 none
  where
    go : (k : Kind) (ss : List Start) → is_branch_kind k ≡ false → (k ≡ NoBranch → All (λ s. cut ≤ s.low) ss) → begins cut ss ≡ false → cut < own_at (is_branch_kind k) ss
    go Inner ss e all f = absurd (let no : ⊥ = cc in no)
    go Directory ss e all f = absurd (let no : ⊥ = cc in no)
    go NoBranch [] e all f = omega (arith, place)
    go NoBranch (s ∷ ss) e all f = let le : cut ≤ s.low = all refl 0 s (omega arith) in let ne = not_here cut s ss f in elim (cases_lt cut s.low) [ inl lt ↦ lt | inr ge ↦ absurd (ne (omega (arith, le, ge))) ]

pub own_on : (b : Body) (cut right : ℕ) → is_branch b ≡ false → own_start (split_on cut right b) ≡ cut
own_on b cut right leaf = go (is_branch b) (settled b.kind (starts_below cut (starts_below cut b.starts) ++ record { low = cut; node = right } ∷ starts_from cut (starts_below cut b.starts))) leaf
  where
    go : (t : Bool) (ss : List Start) → t ≡ false → own_at t (cond t ss (record { low = cut; node = right } ∷ [])) ≡ cut
    go true ss e = absurd (let no : ⊥ = cc in no)
    go false ss e = refl

-- the bound, by its parts

higher : (t : Bool) (low end own low' end' own' : ℕ) → low < low' → low' ≤ top → end' ≤ top → cuts_of t low' end' own' < cuts_of true low end own
higher false low end own low' end' own' above place le = omega arith
higher true low end own low' end' own' above place le = omega (arith, above, place, le)

lower : (t : Bool) (low end own end' own' : ℕ) → end' + min (suc end') own' < end + min (suc end) own → cuts_of t low end' own' < cuts_of true low end own
lower false low end own end' own' less = omega arith
lower true low end own end' own' less = omega (arith, less)

left_less : (b : Body) (cut end end' : ℕ) → CanSplitAt b cut → cut ≤ top → cut ≤ end → end' < cut → end' + min (suc end') (own_start (split_left cut b)) < end + min (suc end) (own_start b)
left_less b cut end end' splits place above below = go (is_branch b) refl
  where
    go : (t : Bool) → is_branch b ≡ t → end' + min (suc end') (own_at (is_branch b) (starts_below cut b.starts)) < end + min (suc end) (own_at (is_branch b) b.starts)
    go true e = rw e (omega (arith, above, below))
    go false e = let own : cut ≤ own_at (is_branch b) b.starts = own_above b.kind cut b.starts e place splits.2 in omega (arith, above, below, own)

module _ {N : Type 0} (layout : Layout) (shows : N → Body) (place : ℕ) where
  pub under_le : (o : Option (Hand N)) → end_under layout shows place o ≤ top
  under_le None = omega arith
  under_le (Some y) = end_le (edges_of (shows y.body)) place

  -- the right half of a full node, under whatever parent
  pub right_narrower : (path x : Path N) (cut : ℕ) → IsTrue (is_full layout (shows path.node.body)) → cut ≤ top → (shows path.node.body).low < cut → (shows x.node.body).low ≡ cut → cuts_left layout shows place x < cuts_left layout shows place path
  right_narrower path x cut full top_is above low =
      let b : Body = shows path.node.body in let c : Body = shows x.node.body in
      subst (λ (t : Bool). cuts_left layout shows place x < cuts_of t b.low (end_under layout shows place path.parent) (own_start b)) (sym full)
      (higher (is_full layout c) b.low (end_under layout shows place path.parent) (own_start b) c.low (end_under layout shows place x.parent) (own_start c) (omega (arith, above, low)) (omega (arith, top_is, low)) (under_le x.parent))

  -- its left half, under a parent which leads to it no further than to the cut
  pub left_narrower : (path x : Path N) (cut : ℕ) → IsTrue (is_full layout (shows path.node.body)) → CanSplitAt (shows path.node.body) cut → cut ≤ top → cut ≤ end_under layout shows place path.parent → end_under layout shows place x.parent < cut → shows x.node.body ≡ split_left cut (shows path.node.body) → cuts_left layout shows place x < cuts_left layout shows place path
  left_narrower path x cut full splits top_is above below is =
      let b : Body = shows path.node.body in let end : ℕ = end_under layout shows place path.parent in let end' : ℕ = end_under layout shows place x.parent in
      subst (λ (t : Bool). cuts_left layout shows place x < cuts_of t b.low end (own_start b)) (sym full)
      (subst (λ (c : Body). cuts_of (is_full layout c) c.low end' (own_start c) < cuts_of true b.low end (own_start b)) (sym is)
      (lower (is_full layout (split_left cut b)) b.low end (own_start b) end' (own_start (split_left cut b)) (left_less b cut end end' splits top_is above below)))

  -- what is left of it if it leads to its right half itself, under the same parent
  pub own_narrower : (path x : Path N) (cut : ℕ) → IsTrue (is_full layout (shows path.node.body)) → cut ≤ end_under layout shows place path.parent → cut < own_start (shows path.node.body) → x.parent ≡ path.parent → (shows x.node.body).low ≡ (shows path.node.body).low → own_start (shows x.node.body) ≡ cut → cuts_left layout shows place x < cuts_left layout shows place path
  own_narrower path x cut full above past same low own =
      let b : Body = shows path.node.body in let c : Body = shows x.node.body in let end : ℕ = end_under layout shows place path.parent in
      subst (λ (t : Bool). cuts_left layout shows place x < cuts_of t b.low end (own_start b)) (sym full)
      (subst (λ (o : Option (Hand N)). cuts_of (is_full layout c) c.low (end_under layout shows place o) (own_start c) < cuts_of true b.low end (own_start b)) (sym same)
      (subst (λ (l : ℕ). cuts_of (is_full layout c) l end (own_start c) < cuts_of true b.low end (own_start b)) (sym low)
      (lower (is_full layout c) b.low end (own_start b) end (own_start c) (omega (arith, above, past, own)))))

  -- one of two halves to which the parent leads
  pub half_narrower : (path x : Path N) (y left right : Hand N) (cut : ℕ) → IsTrue (is_full layout (shows path.node.body)) → CanSplitAt (shows path.node.body) cut → cut ≤ top → cut ≤ end_under layout shows place path.parent
      → shows left.body ≡ split_left cut (shows path.node.body) → shows right.body ≡ split_right cut (shows path.node.body) → (place < cut → end_at (edges_of (shows y.body)) place < cut)
      → x.parent ≡ Some y → (place < cut → x.node ≡ left) → (cut ≤ place → x.node ≡ right) → cuts_left layout shows place x < cuts_left layout shows place path
  half_narrower path x y left right cut full splits top_is above is_left is_right below parent kept_left kept_right = elim (cases_lt place cut) [
    | inl lt ↦ left_narrower path x cut full splits top_is above (subst (λ (o : Option (Hand N)). end_under layout shows place o < cut) (sym parent) (below lt)) (ap (λ (h : Hand N). shows h.body) (kept_left lt) ∙ is_left)
    | inr ge ↦ right_narrower path x cut full top_is splits.0.0 (ap (λ (h : Hand N). (shows h.body).low) (kept_right ge) ∙ ap (λ (b : Body). b.low) is_right)
  ]

  -- a node that is not full is not split
  pub no_cuts : (path : Path N) → is_full layout (shows path.node.body) ≡ false → cuts_left layout shows place path ≡ 0
  no_cuts path room = let b : Body = shows path.node.body in ap (λ (t : Bool). cuts_of t b.low (end_under layout shows place path.parent) (own_start b)) room

  -- a half with room narrows the search, under whatever parent the full node was
  pub room_narrower : (path : Path N) (part : Part N) → IsTrue (is_full layout (shows path.node.body)) → IsRoomy layout shows part → IsNarrower layout shows place path part
  room_narrower path (Split x) full room = let b : Body = shows path.node.body in
      subst (λ (n : ℕ). n < cuts_left layout shows place path) (sym (no_cuts x room))
      (subst (λ (t : Bool). 0 < cuts_of t b.low (end_under layout shows place path.parent) (own_start b)) (sym full) (omega arith))
  room_narrower path (Refused x) full room = tt
  room_narrower path (Shut x) full room = tt

-- what is left of a search: the nodes that it may still go down to, and how often the present one may be split
abbrev pub way_left : ℕ → ℕ → ℕ → ℕ
way_left nodes depth cuts = (nodes - depth) * 1361129467683753853853498429727072845824 + cuts

pub cuts_below : {N : Type 0} (layout : Layout) (shows : N → Body) (place : ℕ) (path : Path N) → cuts_left layout shows place path < 1361129467683753853853498429727072845824
cuts_below layout shows place path = let b : Body = shows path.node.body in go (is_full layout b) b.low (end_under layout shows place path.parent) (own_start b) (under_le layout shows place path.parent)
  where
    go : (t : Bool) (low end own : ℕ) → end ≤ top → cuts_of t low end own < 1361129467683753853853498429727072845824
    go false low end own le = omega arith
    go true low end own le = omega (arith, le)

pub less_down : (nodes depth deeper cuts less : ℕ) → depth < nodes → deeper ≡ suc depth → less < 1361129467683753853853498429727072845824 → way_left nodes deeper less < way_left nodes depth cuts
less_down nodes depth deeper cuts less near down small = omega (arith, near, down, small)

pub less_split : (nodes depth deeper cuts less : ℕ) → deeper ≡ depth → less < cuts → way_left nodes deeper less < way_left nodes depth cuts
less_split nodes depth deeper cuts less same lt = omega (arith, same, lt)

module _ {N : Type 0} (layout : Layout) (shows : N → Body) (place nodes : ℕ) where
  -- a step leaves less of the search
  pub less_on : (depth : ℕ) (x : Path N) (deeper : ℕ) (y : Path N) → depth < nodes → (deeper ≡ suc depth) ⊎ ((deeper ≡ depth) × (cuts_left layout shows place y < cuts_left layout shows place x)) → way_left nodes deeper (cuts_left layout shows place y) < way_left nodes depth (cuts_left layout shows place x)
  less_on depth x deeper y near (inl down) = less_down nodes depth deeper (cuts_left layout shows place x) (cuts_left layout shows place y) near down (cuts_below layout shows place y)
  less_on depth x deeper y near (inr split) = less_split nodes depth deeper (cuts_left layout shows place x) (cuts_left layout shows place y) split.0 split.1
