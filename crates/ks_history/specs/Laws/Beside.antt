-- Laws of traces: a node that no Shape names keeps the places of its inset, so one that has lost a place was shaped, and
-- if not by the caller itself then by another.
use Rattle.std.proofs.Common.{◌≡◌, ◌≢◌, ℕ, zero, suc, ◌⊎◌, inl, inr, List, [], ◌∷◌, ◌++◌, Some, None, sym, refl, ap, ◌∙◌, subst, arith}
use Rattle.std.specs.Prelude.{All, Any}
use mathlib.Core.Logic.{dite}
use native.Mathlib.Decide.{ℕ_discrete}
use Rattle.ks_keysets.specs.declared.NodeState.{NodeState}
use Rattle.ks_keysets.specs.declared.NodeState.TheVariants.{Claimed}
use Rattle.ks_keysets.specs.declared.Change.{Change}
use Rattle.ks_keysets.specs.Record.{IsPlace}
use Rattle.ks_keysets.specs.Keyset.{live_record, record_at, at_root, InInset, InKeyset, Good}
use Rattle.ks_keysets.specs.Laws.Found.{KeepsEdges, reaches_along, keyset_along}
use Rattle.ks_history.specs.declared.Op.{Op}
use Rattle.ks_history.specs.declared.Event.{Event}
use Rattle.ks_history.specs.declared.Event.TheVariants.{Take, Give, Claim, Shape, Call, Twin}
use Rattle.ks_history.specs.Map.{Touches}
use Rattle.ks_history.specs.Write.{written, taken_out, put_in}
use Rattle.ks_history.specs.Trace.{◌⊑◌, caller_of, given, written_at, graph_after}
use Rattle.ks_history.specs.Callers.{NoneBy}
use Rattle.ks_history.specs.Refusals.{IsOnWay, ShapesFor, MovedDue}
use Rattle.ks_history.specs.Laws.Stays.{IsInTurn, AreInTurn, cond_here, cond_else}
use Rattle.ks_history.specs.Laws.Turns.{given_kept, written_back, edges_both}
use Rattle.ks_history.specs.Laws.Begins.{begins_both}
use Rattle.ks_history.specs.Laws.Far.{IsNoShape, edges_step}
use Rattle.ks_history.specs.Beside.{Shapes, NoneShapes, OwnSpare, StepsBeside, AreBeside}

-- an event that is no Shape adds no live node and no edge
pub edges_back : (h : List Event) (e : Event) → IsNoShape e → KeepsEdges (graph_after (e ∷ h)) (graph_after h)
edges_back h (Take c j) none = record { at = λ n r is. (r, is, refl) }
edges_back h (Give c j) none = record {
  at = λ n r is. dite (ℕ_discrete n j)
      (λ same. (r, ap (record_at (graph_after h)) same ∙ sym (given_kept (graph_after h j)) ∙ sym (ap live_record (cond_here n j (given (graph_after h j)) (graph_after h n) same)) ∙ is, refl))
      (λ apart. (r, sym (ap live_record (cond_else n j (given (graph_after h j)) (graph_after h n) apart)) ∙ is, refl));
}
edges_back h (Claim c j) none = record {
  at = λ n r is. dite (ℕ_discrete n j)
      (λ same. let x : None ≡ Some r = sym (ap live_record (cond_here n j (Claimed c) (graph_after h n) same)) ∙ is in absurd (cc))
      (λ apart. (r, sym (ap live_record (cond_else n j (Claimed c) (graph_after h n) apart)) ∙ is, refl));
}
edges_back h (Shape c changes) none = absurd none
edges_back h (Call c j op reply) none = written_back (written op reply) j (graph_after h)
edges_back h (Twin c j k op reply) none =
    let between : ℕ → NodeState = written_at (taken_out (written op reply)) j (graph_after h) in
    edges_both (graph_after (Twin c j k op reply ∷ h)) between (graph_after h) (written_back (put_in (written op reply)) k between) (written_back (taken_out (written op reply)) j (graph_after h))

unnamed : (i : ℕ) (changes : List Change) → (Any (λ x. x.node ≡ i) changes → ⊥) → All (λ x. x.node ≢ i) changes
unnamed i [] none k d lt same = omega arith
unnamed i (x ∷ xs) none zero d lt same = none (0, x, omega arith, refl, same)
unnamed i (x ∷ xs) none (suc k) d lt same = unnamed i xs (λ a. none (suc a.0, a.1, (let less = a.2 in omega (arith, less)), a.3, a.4)) k d (omega arith) same

module _ (Inside : (ℕ → NodeState) → ℕ → ℕ → Type 0) (along : (g k : ℕ → NodeState) (i p : ℕ) → KeepsEdges g k → KeepsEdges k g → Inside g i p → Inside k i p) where
  quiet_step : (h : List Event) (e : Event) (i p : ℕ) → IsNoShape e → AreInTurn h → IsInTurn h e → Inside (graph_after h) i p → Inside (graph_after (e ∷ h)) i p
  quiet_step h e i p none are may inside = along (graph_after h) (graph_after (e ∷ h)) i p (edges_step h e none are may) (edges_back h e none) inside

  inside_step : (h : List Event) (e : Event) (i p : ℕ) → ¬ Shapes i e → AreInTurn h → IsInTurn h e → StepsBeside Inside h e → Inside (graph_after h) i p → Inside (graph_after (e ∷ h)) i p
  inside_step h (Take c j) i p spared are may beside inside = quiet_step h (Take c j) i p tt are may inside
  inside_step h (Give c j) i p spared are may beside inside = quiet_step h (Give c j) i p tt are may inside
  inside_step h (Claim c j) i p spared are may beside inside = quiet_step h (Claim c j) i p tt are may inside
  inside_step h (Shape c changes) i p spared are may beside inside = beside i p (unnamed i changes spared) inside
  inside_step h (Call c j op reply) i p spared are may beside inside = quiet_step h (Call c j op reply) i p tt are may inside
  inside_step h (Twin c j j' op reply) i p spared are may beside inside = quiet_step h (Twin c j j' op reply) i p tt are may inside

  pub inside_stays : (i p : ℕ) (rest h : List Event) → NoneShapes i rest → AreInTurn (rest ++ h) → AreBeside Inside (rest ++ h) → Inside (graph_after h) i p → Inside (graph_after (rest ++ h)) i p
  inside_stays i p [] h none are beside inside = inside
  inside_stays i p (e ∷ es) h none are beside inside = inside_step (es ++ h) e i p none.0 are.0 are.1 beside.1 (inside_stays i p es h none.1 are.0 beside.0 inside)

-- so a place stays in the inset, and in the keyset, of a node that no Shape names
pub inset_stays : (i p : ℕ) (rest h : List Event) → NoneShapes i rest → AreInTurn (rest ++ h) → AreBeside InInset (rest ++ h) → InInset (graph_after h) i p → InInset (graph_after (rest ++ h)) i p
inset_stays = inside_stays InInset (λ g k i p forth back inside. (inside.0, reaches_along forth p inside.1))

pub keyset_stays : (i p : ℕ) (rest h : List Event) → NoneShapes i rest → AreInTurn (rest ++ h) → AreBeside InKeyset (rest ++ h) → InKeyset (graph_after h) i p → InKeyset (graph_after (rest ++ h)) i p
keyset_stays = inside_stays InKeyset (λ g k i p forth back inside. keyset_along forth back i p inside)

-- what holds of some event holds of some among more
pub any_later : (P : Event → Type 0) (e : Event) (es : List Event) → Any P es → Any P (e ∷ es)
any_later P e es (k, x, lt, is, so) = (suc k, x, omega arith, is, so)

pub any_older : (P : Event → Type 0) (es fs : List Event) → Any P fs → Any P (es ++ fs)
any_older P [] fs any = any
any_older P (e ∷ es) fs any = any_later P e (es ++ fs) (any_older P es fs any)

pub any_newer : (P : Event → Type 0) (es fs : List Event) → Any P es → Any P (es ++ fs)
any_newer P [] fs (k, x, lt, is, so) = absurd (omega arith)
any_newer P (e ∷ es) fs (zero, x, lt, is, so) = (0, e, omega arith, refl, subst P (sym is) so)
any_newer P (e ∷ es) fs (suc k, x, lt, is, so) = any_later P e (es ++ fs) (any_newer P es fs (k, x, omega arith, is, so))

-- own events of which no Shape names the node
pub spare_both : (c i : ℕ) (es fs : List Event) → OwnSpare c i es → OwnSpare c i fs → OwnSpare c i (es ++ fs)
spare_both c i [] fs spare spare' = spare'
spare_both c i (e ∷ es) fs spare spare' = (spare.0, spare_both c i es fs spare.1 spare')

pub spare_others : (c i : ℕ) (es : List Event) → NoneBy c es → OwnSpare c i es
spare_others c i [] none = tt
spare_others c i (e ∷ es) none = ((λ own. absurd (none.0 own)), spare_others c i es none.1)

pub quiet_spares : (i : ℕ) (e : Event) → IsNoShape e → Shapes i e → ⊥
quiet_spares i (Take d j) none so = so
quiet_spares i (Give d j) none so = so
quiet_spares i (Claim d j) none so = so
quiet_spares i (Shape d changes) none so = none
quiet_spares i (Call d j op reply) none so = so
quiet_spares i (Twin d j j' op reply) none so = so

-- a list of changes names the node, or does not; so a Shape of another than c names it, if one does and none of c's own
named_or_not : (i : ℕ) (changes : List Change) → Any (λ x. x.node ≡ i) changes ⊎ (Any (λ x. x.node ≡ i) changes → ⊥)
named_or_not i [] = inr (λ a. omega (arith, a.2))
named_or_not i (x ∷ xs) = dite (ℕ_discrete x.node i)
    (λ same. inl (0, x, omega arith, refl, same))
    (λ apart. elim (named_or_not i xs) [
      | inl later ↦ inl (suc later.0, later.1, (let lt = later.2 in omega (arith, lt)), later.3, later.4)
      | inr none ↦ inr (here_or_later apart none)
    ])
  where
    here_or_later : x.node ≢ i → (Any (λ x. x.node ≡ i) xs → ⊥) → Any (λ x. x.node ≡ i) (x ∷ xs) → ⊥
    here_or_later apart none (zero, y, lt, is, so) = apart (ap (λ (z : Change). z.node) is ∙ so)
    here_or_later apart none (suc k, y, lt, is, so) = none (k, y, omega arith, is, so)

for_or_not : (c i : ℕ) (e : Event) → (caller_of e ≡ c → ¬ Shapes i e) → ShapesFor c i e ⊎ (Shapes i e → ⊥)
for_or_not c i (Take d j) spare = inr (λ so. so)
for_or_not c i (Give d j) spare = inr (λ so. so)
for_or_not c i (Claim d j) spare = inr (λ so. so)
for_or_not c i (Shape d changes) spare = dite (ℕ_discrete d c)
    (λ own. inr (spare own))
    (λ other. elim (named_or_not i changes) [ inl named ↦ inl (other, named) | inr none ↦ inr none ])
for_or_not c i (Call d j op reply) spare = inr (λ so. so)
for_or_not c i (Twin d j j' op reply) spare = inr (λ so. so)

pub shaped_or_spared : (c i : ℕ) (es : List Event) → OwnSpare c i es → Any (ShapesFor c i) es ⊎ NoneShapes i es
shaped_or_spared c i [] spare = inr tt
shaped_or_spared c i (e ∷ es) spare = elim (for_or_not c i e spare.0) [
  | inl now ↦ inl (0, e, omega arith, refl, now)
  | inr never ↦ elim (shaped_or_spared c i es spare.1) [
    | inl later ↦ inl (any_later (ShapesFor c i) e es later)
    | inr none ↦ inr (never, none)
  ]
]

-- the root is on the search path of each place; if a node has the place in its inset, the target of its edge that carries
-- the place is on the path too, and has it in its inset
pub root_on_way : (g : ℕ → NodeState) (p : ℕ) → Good g → IsPlace p → IsOnWay g p 0 × InInset g 0 p
root_on_way g p good place = (inl refl, (place, at_root good.root))

-- the first of some events after a trace, if there is one
first_after : (rest before : List Event) → (rest ≡ []) ⊎ ((next : Event) × next ∷ before ⊑ rest ++ before)
first_after [] before = inl refl
first_after (e ∷ es) before = elim (first_after es before) [
  | inl none ↦ inr (e, record { rest = []; is = ap (λ (z : List Event). e ∷ (z ++ before)) none })
  | inr some ↦ inr (some.0, record { rest = e ∷ some.1.rest; is = ap (λ (z : List Event). e ∷ z) some.1.is })
]

-- if a place was in the inset of a node on its search path, and no longer is, and no Shape of the caller named the node,
-- Moved is due
pub moved_due : (c i p : ℕ) (op : Op) (s0 before after s1 : List Event) → s0 ⊑ before → (later : before ⊑ after) → after ⊑ s1 → Touches op p → AreInTurn after → AreBeside InInset after → OwnSpare c i later.rest
    → IsOnWay (graph_after before) p i → InInset (graph_after before) i p → ¬ InInset (graph_after after) i p → MovedDue c op s0 s1 i
moved_due c i p op s0 before after s1 since later until touched are beside spare on_way inside gone =
    let between : s0 ⊑ after = begins_both s0 before after since later in
    let whole : s0 ⊑ s1 = begins_both s0 after s1 between until in
    let next = moment (first_after later.rest before) in record {
      place = p;
      touched = touched;
      before = before;
      next = next.0;
      after = after;
      since = since;
      later = next.1;
      until = until;
      on_way = on_way;
      gone = gone;
      grows = whole;
      shaped = any_older (ShapesFor c i) until.rest (later.rest ++ since.rest) (any_newer (ShapesFor c i) later.rest since.rest shaped);
    }
  where
    still : (rest : List Event) → after ≡ rest ++ before → NoneShapes i rest → ⊥
    still rest is none = gone (subst (λ (z : List Event). InInset (graph_after z) i p) (sym is) (inset_stays i p rest before none (subst AreInTurn is are) (subst (AreBeside InInset) is beside) inside))

    moment : (later.rest ≡ []) ⊎ ((next : Event) × next ∷ before ⊑ later.rest ++ before) → (next : Event) × next ∷ before ⊑ after
    moment (inl none) = absurd (still [] (later.is ∙ ap (λ (z : List Event). z ++ before) none) tt)
    moment (inr some) = (some.0, subst (λ (z : List Event). some.0 ∷ before ⊑ z) (sym later.is) some.1)

    shaped : Any (ShapesFor c i) later.rest
    shaped = elim (shaped_or_spared c i later.rest spare) [ inl any ↦ any | inr none ↦ absurd (still later.rest later.is none) ]
