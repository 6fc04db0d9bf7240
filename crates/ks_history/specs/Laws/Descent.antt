-- Laws of descents: a caller that goes down along edges from the root is ever deeper, whatever its own Shapes do below it,
-- unless another makes a Shape. So one that took as many nodes as there are, and would take one more, may report Far.
use Rattle.std.proofs.Common.{◌≡◌, ◌≢◌, ℕ, suc, ◌==◌, ◌<◌, ◌≤◌, ◌⊎◌, inl, inr, cond, List, [], ◌∷◌, ◌++◌, length, get_or, Option, Some, None, sym, refl, ap, ◌∙◌, subst, arith}
use Rattle.std.specs.Prelude.{All, Any, count_by}
use Rattle.std.proofs.lemmas.List.{append_cancel_right}
use Rattle.std.proofs.lemmas.List.Sums.{sum_by-cons}
use mathlib.Core.Logic.{dite}
use native.Mathlib.Decide.{ℕ_discrete}
use Rattle.ks_keysets.specs.declared.NodeState.{NodeState}
use Rattle.ks_keysets.specs.declared.Record.{Record}
use Rattle.ks_keysets.specs.declared.Change.{Change}
use Rattle.ks_keysets.specs.Keyset.{live_record, record_at, IsLive}
use Rattle.ks_keysets.specs.Laws.Found.{KeepsEdges}
use Rattle.ks_keysets.specs.Walk.{OneParent}
use Rattle.ks_keysets.specs.Deep.{Deep}
use Rattle.ks_keysets.specs.Laws.Deep.{Under, absent, itself, onward, KeptAbove, deep_root, deep_next, deep_fewer, deep_along, deep_above, deep_freed, deep_bound}
use Rattle.ks_history.specs.declared.Op.{Op}
use Rattle.ks_history.specs.declared.Event.{Event}
use Rattle.ks_history.specs.declared.Event.TheVariants.{Take, Give, Claim, Shape, Call, Twin}
use Rattle.ks_history.specs.Trace.{◌⊑◌, caller_of, held, graph_after, turn_after}
use Rattle.ks_history.specs.Callers.{NoneBy}
use Rattle.ks_history.specs.Passes.{GrowsByOthers, GrowsWith}
use Rattle.ks_history.specs.Refusals.{IsOnWay, ShapesBesides, takes_by, BusyDue, FarDue}
use Rattle.ks_history.specs.Stays.{StaysHeld}
use Rattle.ks_history.specs.Laws.Stays.{AreInTurn, cond_here, cond_else, shaped_else}
use Rattle.ks_history.specs.Laws.Begins.{begins_self, begins_both, by_others_keeps, by_others_turn}
use Rattle.ks_history.specs.Laws.Dues.{sometime_wider}
use Rattle.ks_history.specs.Laws.Turns.{edges_both}
use Rattle.ks_history.specs.Laws.Far.{IsNoShape, NoShapes, NoShapesBesides, shapes_besides, edges_stay}
use Rattle.ks_history.specs.Laws.Beside.{edges_back, any_newer, any_older}
use Rattle.ks_history.specs.Descent.{IsDeep, TookSince}

-- node m is i, or c has claimed it, or an edge leads to it from a node that c holds and that is itself under i
pub data HeldUnder (h : List Event) (c i : ℕ) : ℕ → Type 0 where
  the_node : HeldUnder h c i i
  claimed : {m : ℕ} → turn_after h m ≡ held c → record_at (graph_after h) m ≡ None → HeldUnder h c i m
  target : {a m : ℕ} (r : Record) → HeldUnder h c i a → turn_after h a ≡ held c → record_at (graph_after h) a ≡ Some r → Any (λ e. e.node ≡ m) r.edges → HeldUnder h c i m

-- own events of c that are no Shapes
abbrev pub OwnQuiet : ℕ → List Event → Type 0
OwnQuiet c [] = Unit {0}
OwnQuiet c (e ∷ es) = (caller_of e ≡ c → IsNoShape e) × OwnQuiet c es

-- the root is 0 steps deep, whenever a descent begins
pub deep_at_root : (n c : ℕ) (s0 h : List Event) → s0 ⊑ h → IsDeep n c [] s0 h 0 0
deep_at_root n c s0 h begins = record { grows = begins; deep = inr (deep_root (graph_after h) n) }

-- the target of an edge is one step deeper
pub deep_down : (n c : ℕ) (gone : List ℕ) (s0 h : List Event) (steps i j : ℕ) (r : Record) → IsDeep n c gone s0 h steps i → record_at (graph_after h) i ≡ Some r → Any (λ e. e.node ≡ j) r.edges → IsDeep n c gone s0 h (suc steps) j
deep_down n c gone s0 h steps i j r so is leads = record {
  grows = so.grows;
  deep = elim so.deep [ inl any ↦ inl any | inr deep ↦ inr (deep_next (graph_after h) n gone steps i j r deep is leads) ];
}

-- a node that is `steps` deep is also `fewer` deep
pub deep_less : (n c : ℕ) (gone : List ℕ) (s0 h : List Event) (fewer steps i : ℕ) → fewer ≤ steps → IsDeep n c gone s0 h steps i → IsDeep n c gone s0 h fewer i
deep_less n c gone s0 h fewer steps i less so = record {
  grows = so.grows;
  deep = elim so.deep [ inl any ↦ inl any | inr deep ↦ inr (deep_fewer (graph_after h) n gone fewer steps i less deep) ];
}

-- after events among which is no Shape
quiet_event : (c : ℕ) (e : Event) → (caller_of e ≡ c → IsNoShape e) → (¬ ShapesBesides c e) → IsNoShape e
quiet_event c (Take d i) own other = tt
quiet_event c (Give d i) own other = tt
quiet_event c (Claim d i) own other = tt
quiet_event c (Shape d changes) own other = dite (ℕ_discrete d c) own other
quiet_event c (Call d i op reply) own other = tt
quiet_event c (Twin d i i' op reply) own other = tt

no_shapes : (c : ℕ) (es : List Event) → OwnQuiet c es → NoShapesBesides c es → NoShapes es
no_shapes c [] own other = tt
no_shapes c (e ∷ es) own other = (quiet_event c e own.0 other.0, no_shapes c es own.1 other.1)

edges_stay_back : (rest h : List Event) → NoShapes rest → KeepsEdges (graph_after (rest ++ h)) (graph_after h)
edges_stay_back [] h none = record { at = λ n r is. (r, is, refl) }
edges_stay_back (e ∷ es) h none = edges_both (graph_after (e ∷ (es ++ h))) (graph_after (es ++ h)) (graph_after h) (edges_back (es ++ h) e none.0) (edges_stay_back es h none.1)

-- what is not live remains so if no live node is added
not_live : (g k : ℕ → NodeState) (m : ℕ) → KeepsEdges k g → record_at g m ≡ None → record_at k m ≡ None
not_live g k m back none = go (record_at k m) refl
  where
    go : (o : Option Record) → record_at k m ≡ o → record_at k m ≡ None
    go None is = is
    go (Some r) is = let s = back.at m r is in let x : None ≡ Some s.0 = sym none ∙ s.1 in absurd (cc)

deep_quiet : (n : ℕ) (gone : List ℕ) (steps i : ℕ) (rest h : List Event) → NoShapes rest → AreInTurn (rest ++ h) → Deep (graph_after h) n gone steps i → Deep (graph_after (rest ++ h)) n gone steps i
deep_quiet n gone steps i rest h none are deep =
    deep_along (graph_after h) (graph_after (rest ++ h)) n gone steps i (edges_stay rest h none are)
    (λ k d lt. not_live (graph_after h) (graph_after (rest ++ h)) (get_or gone k d) (edges_stay_back rest h none) (deep.dead k d lt))
    deep

-- a node remains as deep while c makes no Shape, whatever others do
pub deep_while : (n c : ℕ) (gone : List ℕ) (s0 g h : List Event) (steps i : ℕ) → (grows : g ⊑ h) → OwnQuiet c grows.rest → AreInTurn h → IsDeep n c gone s0 g steps i → IsDeep n c gone s0 h steps i
deep_while n c gone s0 g h steps i grows quiet are so = record {
  grows = begins_both s0 g h so.grows grows;
  deep = elim so.deep [
    | inl any ↦ inl (any_older (ShapesBesides c) grows.rest so.grows.rest any)
    | inr deep ↦ elim (shapes_besides c grows.rest) [
      | inl any ↦ inl (any_newer (ShapesBesides c) grows.rest so.grows.rest any)
      | inr none ↦ inr (subst (λ (z : List Event). Deep (graph_after z) n gone steps i) (sym grows.is)
          (deep_quiet n gone steps i grows.rest g (no_shapes c grows.rest quiet none) (subst AreInTurn grows.is are) deep))
    ]
  ];
}

others_quiet : (c : ℕ) (es : List Event) → NoneBy c es → OwnQuiet c es
others_quiet c [] none = tt
others_quiet c (e ∷ es) none = ((λ own. absurd (none.0 own)), others_quiet c es none.1)

-- after events of others only
pub deep_others : (n c : ℕ) (gone : List ℕ) (s0 g h : List Event) (steps i : ℕ) → GrowsByOthers c g h → AreInTurn h → IsDeep n c gone s0 g steps i → IsDeep n c gone s0 h steps i
deep_others n c gone s0 g h steps i so are deep = deep_while n c gone s0 g h steps i (record { rest = so.rest; is = so.is }) (others_quiet c so.rest so.others) are deep

-- and after one event of c that is no Shape
pub deep_with : (n c : ℕ) (e : Event) (gone : List ℕ) (s0 g h : List Event) (steps i : ℕ) → IsNoShape e → GrowsWith c e g h → AreInTurn h → IsDeep n c gone s0 g steps i → IsDeep n c gone s0 h steps i
deep_with n c e gone s0 g h steps i none so are deep = deep_while n c gone s0 g h steps i (record { rest = e ∷ so.rest; is = so.is }) ((λ own. none), others_quiet c so.rest so.others) are deep

-- at a Shape of c of nodes that are under the node
held_under_is : (h : List Event) (c i m : ℕ) → HeldUnder h c i m → Under (graph_after h) i m
held_under_is h c i m the_node = itself
held_under_is h c i m (claimed mine none) = absent none
held_under_is h c i m (target {a = a} r u mine is leads) = onward r (held_under_is h c i a u) is leads

-- what is under it remains so, if only others act meanwhile
pub held_under_later : (g h : List Event) (c i m : ℕ) → GrowsByOthers c g h → AreInTurn h → HeldUnder g c i m → HeldUnder h c i m
held_under_later g h c i m so are the_node = the_node
held_under_later g h c i m so are (claimed mine none) = let stays : StaysHeld c m g h = by_others_keeps c m g h so are mine in claimed stays.turn (ap live_record stays.state ∙ none)
held_under_later g h c i m so are (target {a = a} r u mine is leads) =
    let stays : StaysHeld c a g h = by_others_keeps c a g h so are mine in target r (held_under_later g h c i a so are u) stays.turn (ap live_record stays.state ∙ is) leads

kept_above : (c i : ℕ) (changes : List Change) (h : List Event) → All (λ x. Under (graph_after h) i x.node) changes → KeptAbove (graph_after h) i (graph_after (Shape c changes ∷ h))
kept_above c i changes h under = record { same = λ m above. ap live_record (shaped_else changes m (graph_after h m) (λ k d lt same. above (subst (λ (z : ℕ). Under (graph_after h) i z) same (under k d lt)))) }

-- events of others and then a Shape of c, by what the Shape does at that moment
shaping : (n c : ℕ) (changes : List Change) (gone gone' : List ℕ) (s0 g h : List Event) (steps steps' i : ℕ) → (so : GrowsWith c (Shape c changes) g h) → AreInTurn h
    → (Deep (graph_after (so.rest ++ g)) n gone steps i → Deep (graph_after (Shape c changes ∷ (so.rest ++ g))) n gone' steps' i) → IsDeep n c gone s0 g steps i → IsDeep n c gone' s0 h steps' i
shaping n c changes gone gone' s0 g h steps steps' i so are acts deep = let before : IsDeep n c gone s0 m steps i = deep_others n c gone s0 g m steps i others turns deep in go before.grows before.deep
  where
    m : List Event
    m = so.rest ++ g

    turns : AreInTurn m
    turns = (subst AreInTurn so.is are).0

    others : GrowsByOthers c g m
    others = record { rest = so.rest; is = refl; others = so.others }

    go : (grows : s0 ⊑ m) → Any (ShapesBesides c) grows.rest ⊎ Deep (graph_after m) n gone steps i → IsDeep n c gone' s0 h steps' i
    go grows (inl any) = record { grows = record { rest = Shape c changes ∷ grows.rest; is = so.is ∙ ap (λ (z : List Event). Shape c changes ∷ z) grows.is }; deep = inl (any_older (ShapesBesides c) (Shape c changes ∷ []) grows.rest any) }
    go grows (inr at) = record {
      grows = record { rest = Shape c changes ∷ grows.rest; is = so.is ∙ ap (λ (z : List Event). Shape c changes ∷ z) grows.is };
      deep = inr (subst (λ (z : List Event). Deep (graph_after z) n gone' steps' i) (sym so.is) (acts at));
    }

-- just before the Shape its nodes are under i, as c holds those between
just_before : (c i : ℕ) (changes : List Change) (g h : List Event) → (so : GrowsWith c (Shape c changes) g h) → AreInTurn h → All (λ x. HeldUnder g c i x.node) changes → All (λ x. Under (graph_after (so.rest ++ g)) i x.node) changes
just_before c i changes g h so are under k d lt =
    held_under_is (so.rest ++ g) c i (get_or changes k d).node (held_under_later g (so.rest ++ g) c i (get_or changes k d).node (record { rest = so.rest; is = refl; others = so.others }) (subst AreInTurn so.is are).0 (under k d lt))

-- no node is gone yet, or each node that the changes name was live: so no node that is gone comes back
abbrev pub NoneBack : List ℕ → List Event → List Change → Type 0
NoneBack gone h changes = (gone ≡ []) ⊎ All (λ x. IsLive (graph_after h) x.node) changes

still_gone : (c : ℕ) (changes : List Change) (gone : List ℕ) (h : List Event) → NoneBack gone h changes → All (λ m. record_at (graph_after h) m ≡ None) gone → All (λ m. record_at (graph_after (Shape c changes ∷ h)) m ≡ None) gone
still_gone c changes gone h (inl none) dead k d lt = let e = ap length none in absurd (omega (arith, lt, e))
still_gone c changes gone h (inr live) dead k d lt =
    ap live_record (shaped_else changes (get_or gone k d) (graph_after h (get_or gone k d)) (λ j x less same. apart (get_or changes j x).node (get_or gone k d) same (live j x less) (dead k d lt))) ∙ dead k d lt
  where
    apart : (i m : ℕ) → i ≡ m → IsLive (graph_after h) i → record_at (graph_after h) m ≡ None → ⊥
    apart i m same is none = let x : None ≡ Some is.0 = sym none ∙ ap (record_at (graph_after h)) (sym same) ∙ is.1 in cc

none_back_later : (c : ℕ) (changes : List Change) (gone : List ℕ) (g h : List Event) → (so : GrowsWith c (Shape c changes) g h) → AreInTurn h → NoneBack gone g changes → NoneBack gone (so.rest ++ g) changes
none_back_later c changes gone g h so are (inl none) = inl none
none_back_later c changes gone g h so are (inr live) =
    let m : List Event = so.rest ++ g in
    let turns : AreInTurn (Shape c changes ∷ m) = subst AreInTurn so.is are in
    let others : GrowsByOthers c g m = record { rest = so.rest; is = refl; others = so.others } in
    inr (λ k d lt. let i : ℕ = (get_or changes k d).node in let stays : StaysHeld c i g m = by_others_keeps c i g m others turns.0 (by_others_turn c i g m others (turns.1 k d lt)) in let is = live k d lt in (is.0, ap live_record stays.state ∙ is.1))

-- a node remains as deep if a Shape of c names only nodes under it
pub deep_shaping : (n c : ℕ) (changes : List Change) (gone : List ℕ) (s0 g h : List Event) (steps i : ℕ) → (so : GrowsWith c (Shape c changes) g h) → AreInTurn h → OneParent (graph_after (so.rest ++ g)) → All (λ x. HeldUnder g c i x.node) changes
    → NoneBack gone g changes → IsDeep n c gone s0 g steps i → IsDeep n c gone s0 h steps i
deep_shaping n c changes gone s0 g h steps i so are one under back deep =
    let m : List Event = so.rest ++ g in
    shaping n c changes gone gone s0 g h steps steps i so are
    (λ at. deep_above (graph_after m) (graph_after (Shape c changes ∷ m)) n gone steps i one (kept_above c i changes m (just_before c i changes g h so are under))
    (still_gone c changes gone m (none_back_later c changes gone g h so are back) at.dead) at)
    deep

-- and if the Shape makes a live node free, that counts as a step more
pub deep_freeing : (n c : ℕ) (changes : List Change) (gone : List ℕ) (s0 g h : List Event) (steps i x : ℕ) → (so : GrowsWith c (Shape c changes) g h) → AreInTurn h → OneParent (graph_after (so.rest ++ g)) → All (λ y. HeldUnder g c i y.node) changes
    → NoneBack gone g changes → x < n → turn_after g x ≡ held c → IsLive (graph_after g) x → record_at (graph_after h) x ≡ None → IsDeep n c gone s0 g steps i → IsDeep n c (x ∷ gone) s0 h (suc steps) i
deep_freeing n c changes gone s0 g h steps i x so are one under back lt mine live free deep =
    let m : List Event = so.rest ++ g in
    let stays : StaysHeld c x g m = by_others_keeps c x g m (record { rest = so.rest; is = refl; others = so.others }) (subst AreInTurn so.is are).0 mine in
    shaping n c changes gone (x ∷ gone) s0 g h steps (suc steps) i so are
    (λ at. deep_freed (graph_after m) (graph_after (Shape c changes ∷ m)) n gone steps i x one (kept_above c i changes m (just_before c i changes g h so are under))
    (still_gone c changes gone m (none_back_later c changes gone g h so are back) at.dead) lt (live.0, ap live_record stays.state ∙ live.1)
    (subst (λ (z : List Event). record_at (graph_after z) x ≡ None) so.is free) at)
    deep

takes_none : (c : ℕ) (es fs : List Event) → NoneBy c es → takes_by c (es ++ fs) ≡ takes_by c fs
takes_none c [] fs none = refl
takes_none c (Take d i ∷ es) fs none = cond_else d c (i ∷ takes_by c (es ++ fs)) (takes_by c (es ++ fs)) none.0 ∙ takes_none c es fs none.1
takes_none c (Give d i ∷ es) fs none = takes_none c es fs none.1
takes_none c (Claim d i ∷ es) fs none = takes_none c es fs none.1
takes_none c (Shape d changes ∷ es) fs none = takes_none c es fs none.1
takes_none c (Call d i op reply ∷ es) fs none = takes_none c es fs none.1
takes_none c (Twin d i i' op reply ∷ es) fs none = takes_none c es fs none.1

-- events of which none is a Take of c
abbrev pub NoTakeBy : ℕ → List Event → Type 0
NoTakeBy c es = takes_by c es ≡ []

takes_both : (c : ℕ) (es fs : List Event) → NoTakeBy c es → takes_by c (es ++ fs) ≡ takes_by c fs
takes_both c [] fs none = refl
takes_both c (Take d i ∷ es) fs none = dite (ℕ_discrete d c)
    (λ own. let x : i ∷ takes_by c es ≡ [] = sym (cond_here d c (i ∷ takes_by c es) (takes_by c es) own) ∙ none in absurd (omega (arith, ap length x)))
    (λ other. cond_else d c (i ∷ takes_by c (es ++ fs)) (takes_by c (es ++ fs)) other ∙ takes_both c es fs (sym (cond_else d c (i ∷ takes_by c es) (takes_by c es) other) ∙ none))
takes_both c (Give d i ∷ es) fs none = takes_both c es fs none
takes_both c (Claim d i ∷ es) fs none = takes_both c es fs none
takes_both c (Shape d changes ∷ es) fs none = takes_both c es fs none
takes_both c (Call d i op reply ∷ es) fs none = takes_both c es fs none
takes_both c (Twin d i i' op reply ∷ es) fs none = takes_both c es fs none

-- at first c took none
pub took_none : (c : ℕ) (s : List Event) → TookSince c s s 0 0
took_none c s = record { grows = begins_self s; many = omega arith; root = omega arith }

-- it takes none in events of which none is a Take of it
pub took_while : (c : ℕ) (s0 g h : List Event) (taken roots : ℕ) → (grows : g ⊑ h) → NoTakeBy c grows.rest → TookSince c s0 g taken roots → TookSince c s0 h taken roots
took_while c s0 g h taken roots grows none so =
    let same : takes_by c (grows.rest ++ so.grows.rest) ≡ takes_by c so.grows.rest = takes_both c grows.rest so.grows.rest none in record {
      grows = begins_both s0 g h so.grows grows;
      many = subst (λ (xs : List ℕ). taken ≤ length xs) (sym same) so.many;
      root = subst (λ (xs : List ℕ). count_by (λ i. i == 0) xs ≤ roots) (sym same) so.root;
    }

-- a Take of c counts, and one of the root among those of the root
takes_more : (c i : ℕ) (es fs : List Event) → NoneBy c es → takes_by c (Take c i ∷ (es ++ fs)) ≡ i ∷ takes_by c fs
takes_more c i es fs none = cond_here c c (i ∷ takes_by c (es ++ fs)) (takes_by c (es ++ fs)) refl ∙ ap (λ (xs : List ℕ). i ∷ xs) (takes_none c es fs none)

count_root : (xs : List ℕ) → count_by (λ i. i == 0) (0 ∷ xs) ≡ suc (count_by (λ i. i == 0) xs)
count_root xs = let more = sum_by-cons (λ i. cond {A = ℕ} (i == 0) 1 0) 0 xs in omega (arith, more)

count_else : (i : ℕ) (xs : List ℕ) → i ≢ 0 → count_by (λ i. i == 0) (i ∷ xs) ≡ count_by (λ i. i == 0) xs
count_else i xs apart = let more = sum_by-cons (λ i. cond {A = ℕ} (i == 0) 1 0) i xs in let none = cond_else {A = ℕ} i 0 1 0 apart in omega (arith, more, none)

pub took_root : (c : ℕ) (s0 g h : List Event) (taken roots : ℕ) → GrowsWith c (Take c 0) g h → TookSince c s0 g taken roots → TookSince c s0 h (suc taken) (suc roots)
took_root c s0 g h taken roots so took =
    let more : takes_by c (Take c 0 ∷ (so.rest ++ took.grows.rest)) ≡ 0 ∷ takes_by c took.grows.rest = takes_more c 0 so.rest took.grows.rest so.others in
    let many = took.many in
    let root = took.root in record {
      grows = begins_both s0 g h took.grows (record { rest = Take c 0 ∷ so.rest; is = so.is });
      many = subst (λ (xs : List ℕ). suc taken ≤ length xs) (sym more) (omega (arith, many));
      root = subst (λ (xs : List ℕ). count_by (λ i. i == 0) xs ≤ suc roots) (sym more) (let e = count_root (takes_by c took.grows.rest) in omega (arith, root, e));
    }

-- any other node counts once
pub took_node : (c i : ℕ) (s0 g h : List Event) (taken roots : ℕ) → i ≢ 0 → GrowsWith c (Take c i) g h → TookSince c s0 g taken roots → TookSince c s0 h (suc taken) roots
took_node c i s0 g h taken roots apart so took =
    let more : takes_by c (Take c i ∷ (so.rest ++ took.grows.rest)) ≡ i ∷ takes_by c took.grows.rest = takes_more c i so.rest took.grows.rest so.others in
    let many = took.many in
    let root = took.root in record {
      grows = begins_both s0 g h took.grows (record { rest = Take c i ∷ so.rest; is = so.is });
      many = subst (λ (xs : List ℕ). suc taken ≤ length xs) (sym more) (omega (arith, many));
      root = subst (λ (xs : List ℕ). count_by (λ i. i == 0) xs ≤ roots) (sym more) (let e = count_else i (takes_by c took.grows.rest) apart in omega (arith, root, e));
    }

-- Far is due if c took as many nodes as there are, each one step deeper than the one before, and would go down to one
-- more
pub far_due : (n c : ℕ) (gone : List ℕ) (s0 h : List Event) (taken roots steps i j : ℕ) (r : Record) → TookSince c s0 h taken roots → roots ≤ 2 → n ≤ taken → IsDeep n c gone s0 h steps i → taken ≤ suc steps → OneParent (graph_after h) → ((m : ℕ) → IsLive (graph_after h) m → m < n)
    → record_at (graph_after h) i ≡ Some r → Any (λ e. e.node ≡ j) r.edges → IsLive (graph_after h) j → FarDue n c s0 h
far_due n c gone s0 h taken roots steps i j r took twice all so counted one few is leads live =
    let many = took.many in
    let root = took.root in record {
      grows = took.grows;
      many = omega (arith, many, all);
      root = omega (arith, root, twice);
      shaped = subst (Any (ShapesBesides c)) (append_cancel_right so.grows.rest took.grows.rest s0 (sym so.grows.is ∙ took.grows.is)) (go so.deep);
    }
  where
    go : Any (ShapesBesides c) so.grows.rest ⊎ Deep (graph_after h) n gone steps i → Any (ShapesBesides c) so.grows.rest
    go (inl any) = any
    go (inr deep) = let less = deep_bound (graph_after h) n gone (suc steps) j one few (deep_next (graph_after h) n gone steps i j r deep is leads) live in absurd (omega (arith, less, all, counted))

-- refusals that were due remain due as the trace grows

-- Far, if c takes no node afterwards
pub far_later : (n c : ℕ) (s0 h k : List Event) → (grows : h ⊑ k) → NoTakeBy c grows.rest → FarDue n c s0 h → FarDue n c s0 k
far_later n c s0 h k grows none due =
    let same : takes_by c (grows.rest ++ due.grows.rest) ≡ takes_by c due.grows.rest = takes_both c grows.rest due.grows.rest none in record {
      grows = begins_both s0 h k due.grows grows;
      many = subst (λ (xs : List ℕ). n ≤ length xs) (sym same) due.many;
      root = subst (λ (xs : List ℕ). count_by (λ i. i == 0) xs ≤ 2) (sym same) due.root;
      shaped = any_older (ShapesBesides c) grows.rest due.grows.rest due.shaped;
    }

-- Busy
pub busy_later : (c node holder : ℕ) (op : Op) (s0 h k : List Event) → h ⊑ k → BusyDue c op s0 h node holder → BusyDue c op s0 k node holder
busy_later c node holder op s0 h k begins due = record {
  another = due.another;
  place = due.place;
  touched = due.touched;
  on_way = sometime_wider s0 s0 h k (λ z. IsOnWay (graph_after z) due.place node) (begins_self s0) begins due.on_way;
  is_held = sometime_wider s0 s0 h k (λ z. turn_after z node ≡ held holder) (begins_self s0) begins due.is_held;
}
