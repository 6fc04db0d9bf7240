-- What the calls of the arena leave their passes with.
use Rattle.std.proofs.Common.{◌≡◌, ◌≢◌, ℕ, ◌^◌, ◌<◌, ◌⊎◌, Bool, true, false, cond, eqb, List, [], ◌∷◌, ◌++◌, sym, refl, ap, ◌∙◌, subst, inl, inr, arith}
use Rattle.std.specs.Prelude.{Option, Some, None, All, AllPairs}
use Rattle.std.proofs.lemmas.List.Elements.{All-cons, All-nil}
use Rattle.std.proofs.lemmas.List.Kept.{AllPairs-cons}
use Rattle.atomic_table.specs.Table.{rest}
use Rattle.atomic_table.specs.Seated.{TableId}
use Rattle.ks_keysets.specs.declared.Frame.{Frame}
use Rattle.ks_keysets.specs.declared.NodeState.{NodeState}
use Rattle.ks_keysets.specs.declared.NodeState.TheVariants.{Free, Claimed, Live}
use Rattle.ks_keysets.specs.declared.Change.{Change}
use Rattle.ks_keysets.specs.Change.{new_state, shaped}
use Rattle.ks_keysets.specs.Reframed.{new_frame, reframed}
use Rattle.ks_history.specs.declared.Event.{Event}
use Rattle.ks_history.specs.declared.Event.TheVariants.{Give, Claim, Shape}
use Rattle.ks_history.specs.Own.{mine, hand, drop_one}
use Rattle.ks_history.specs.Trace.{free, held, turn_given, given, graph_after, turn_after, caller_of}
use Rattle.ks_history.specs.Frames.{frame_after}
use Rattle.ks_history.specs.Passes.{Has, GrowsByOthers, GrowsWith}
use Rattle.ks_history.specs.Callers.{CallersBelow}
use Rattle.ks_history.specs.Stays.{StaysHeld}
use Rattle.ks_history.specs.Laws.Stays.{AreInTurn, cond_here, cond_else}
use Rattle.ks_history.specs.Laws.Begins.{by_others_keeps, by_others_turn, by_others_hand, by_others_mine, with_mine, by_others_with, with_others, give_hand}
use Rattle.ks_arena.specs.declared.held.Pass.{Pass}
use Rattle.ks_arena.specs.declared.view.Mark.{Mark}
use Rattle.ks_arena.specs.declared.view.Mark.TheVariants.{Quiet}
use Rattle.ks_arena.specs.declared.view.View.{View}
use Rattle.ks_node.specs.Body.{Body, frame_of, blank_body}
use Rattle.ks_node.specs.Edges.{record_of}
use Rattle.ks_arena.specs.Sound.{Sort, blank_of, Sound}
use Rattle.ks_arena.specs.declared.held.Held.{Held as Hand}
use denote.Bor.{Bor}
use Rattle.ks_arena.specs.Clauses.{AllAmong, EachOnce, IsPass, IsPassWith, give_mark, Matches, MatchesIf, new_state_of, change_of, changes_of, IsShaped, AreShaped, hand_of, seen_of, Kept, KeptBut, NamesNot}
use Rattle.ks_arena.specs.Rule.{turn_word}
use Rattle.ks_arena.specs.Plays.{Shows, Seated, marked, Looks, Makes, drop_slot, Carries}
use Rattle.ks_arena.specs.Laws.Beyond.{are_in_turn}
use Rattle.ks_arena.proofs.Moves.{GivesMark, gives_mark_live, gives_mark_free}
use Rattle.ks_arena.proofs.Hold.{Follows, follows_marked, follows_both, looks_follows, makes_follows, looks_grows, makes_grows, Gains, carries_gain, carries_along, carries_give, carries_lift, slots_in, drop_in, hand_near, holds_it}

-- the event changes the state and the frame of node i only
abbrev pub Touches : Event → ℕ → Type 0
Touches e i = (h : List Event) (j : ℕ) → j ≢ i → (graph_after (e ∷ h) j ≡ graph_after h j) × ((blank : Frame) → frame_after blank (e ∷ h) j ≡ frame_after blank h j)

-- after one more event node j is still held, as it was
pub stays_then : (c : ℕ) (e : Event) (h k : List Event) (j : ℕ) → StaysHeld c j h k → turn_after (e ∷ k) j ≡ held c → graph_after (e ∷ k) j ≡ graph_after k j → ((blank : Frame) → frame_after blank (e ∷ k) j ≡ frame_after blank k j) → StaysHeld c j h (e ∷ k)
stays_then c e h k j so t s f = record { turn = t; state = s ∙ so.state; frame = λ blank. f blank ∙ so.frame blank }

-- lists of changes, as the clauses and as the traces write them

pub all_held : (h : List Event) (c : ℕ) (hs : List ℕ) (xs : List Change) → ((i : ℕ) → Has hs i → turn_after h i ≡ held c) → AllAmong hs xs → All (λ x. turn_after h x.node ≡ held c) xs
all_held h c hs [] so among = All-nil (λ (x : Change). turn_after h x.node ≡ held c)
all_held h c hs (x ∷ xs) so among = All-cons (λ (x : Change). turn_after h x.node ≡ held c) x xs (so x.node among.0) (all_held h c hs xs so among.1)

not_named : (xs : List Change) (j : ℕ) → NamesNot xs j → All (λ x. j ≡ x.node → ⊥) xs
not_named [] j not = All-nil (λ (x : Change). j ≡ x.node → ⊥)
not_named (x ∷ xs) j not = All-cons (λ (x : Change). j ≡ x.node → ⊥) x xs not.0 (not_named xs j not.1)

pub each_once : (xs : List Change) → EachOnce xs → AllPairs (λ x y. x.node ≡ y.node → ⊥) xs
each_once [] once = λ i j d lt within. absurd (omega arith)
each_once (x ∷ xs) once = AllPairs-cons (λ (x y : Change). x.node ≡ y.node → ⊥) x xs (not_named xs x.node once.0) (each_once xs once.1)

pub shaped_not : (xs : List Change) (j : ℕ) (s : NodeState) → NamesNot xs j → shaped xs j s ≡ s
shaped_not [] j s not = refl
shaped_not (x ∷ xs) j s not = cond_else j x.node (new_state x.state) (shaped xs j s) not.0 ∙ shaped_not xs j s not.1

pub reframed_not : (xs : List Change) (j : ℕ) (f : Frame) → NamesNot xs j → reframed xs j f ≡ f
reframed_not [] j f not = refl
reframed_not (x ∷ xs) j f not = cond_else j x.node (new_frame x.state f) (reframed xs j f) not.0 ∙ reframed_not xs j f not.1

-- the change is one of those, and no other names its node
pub IsAmong : List Change → Change → Type 0
IsAmong [] x = ⊥
IsAmong (y ∷ ys) x = (y ≡ x) ⊎ ((x.node ≢ y.node) × IsAmong ys x)

pub shaped_in : (xs : List Change) (x : Change) (s : NodeState) → IsAmong xs x → shaped xs x.node s ≡ new_state x.state
unfolding IsAmong
shaped_in [] x s a = absurd a
shaped_in (y ∷ ys) x s (inl e) = cond_here x.node y.node (new_state y.state) (shaped ys x.node s) (ap (λ (z : Change). z.node) (sym e)) ∙ ap (λ (z : Change). new_state z.state) e
shaped_in (y ∷ ys) x s (inr a) = cond_else x.node y.node (new_state y.state) (shaped ys x.node s) a.0 ∙ shaped_in ys x s a.1

pub reframed_in : (xs : List Change) (x : Change) (f : Frame) → IsAmong xs x → reframed xs x.node f ≡ new_frame x.state f
unfolding IsAmong
reframed_in [] x f a = absurd a
reframed_in (y ∷ ys) x f (inl e) = cond_here x.node y.node (new_frame y.state f) (reframed ys x.node f) (ap (λ (z : Change). z.node) (sym e)) ∙ ap (λ (z : Change). new_frame z.state f) e
reframed_in (y ∷ ys) x f (inr a) = cond_else x.node y.node (new_frame y.state f) (reframed ys x.node f) a.0 ∙ reframed_in ys x f a.1

pub among_first : (x : Change) (xs : List Change) → IsAmong (x ∷ xs) x
unfolding IsAmong
among_first x xs = inl refl

pub among_second : (x y : Change) (xs : List Change) → EachOnce (x ∷ y ∷ xs) → IsAmong (x ∷ y ∷ xs) y
unfolding IsAmong
among_second x y xs once = inr ((λ e. once.0.0 (sym e)), inl refl)

pub among_third : (x y z : Change) (xs : List Change) → EachOnce (x ∷ y ∷ z ∷ xs) → IsAmong (x ∷ y ∷ z ∷ xs) z
unfolding IsAmong
among_third x y z xs once = inr ((λ e. once.0.1.0 (sym e)), inr ((λ e. once.1.0.0 (sym e)), inl refl))

module _ {N : Type 0} (sort : Sort) (shows : N → Body) where
  shaped_if : (live : Bool) (s : NodeState) (f : Frame) (b : N) → (live ≡ false → shows b ≡ blank_body sort.ranged) → MatchesIf sort shows live (new_state (new_state_of shows live b)) (new_frame (new_state_of shows live b) f) b
  shaped_if true s f b blank = (refl, refl)
  shaped_if false s f b blank = (refl, blank refl)

  pub matches_live : (live : Bool) (s : NodeState) (f : Frame) (b : N) → live ≡ true → s ≡ Live (record_of (shows b)) → f ≡ frame_of (shows b) → MatchesIf sort shows live s f b
  matches_live true s f b e x y = (x, y)
  matches_live false s f b e x y = absurd (let q : ⊥ = cc in q)

  -- a node of a shape is after it what its body shows
  pub is_shaped : (xs : List Change) (h : List Event) (c : ℕ) (x : Hand N) → IsAmong xs (change_of shows x) → IsShaped sort shows (Shape c xs ∷ h) x
  is_shaped xs h c x a blank = let s : NodeState = graph_after h x.node in let f : Frame = frame_after (blank_of sort) h x.node in
      record { is = subst (λ (z : NodeState × Frame). MatchesIf sort shows x.live z.0 z.1 x.body) (λ k. (sym (shaped_in xs (change_of shows x) s a) k, sym (reframed_in xs (change_of shows x) f a) k)) (shaped_if x.live s f x.body blank) }

  pub are_shaped : (h : List Event) (c : ℕ) (x : Hand N) (y z : Option (Bor (Hand N))) → EachOnce (changes_of shows x y z) → AreShaped sort shows (Shape c (changes_of shows x y z) ∷ h) x y z
  are_shaped h c x None None once = (is_shaped (changes_of shows x None None) h c x (among_first (change_of shows x) []), tt, tt)
  are_shaped h c x (Some y) None once = (is_shaped (changes_of shows x (Some y) None) h c x (among_first (change_of shows x) (change_of shows y.now ∷ [])), is_shaped (changes_of shows x (Some y) None) h c y.now (among_second (change_of shows x) (change_of shows y.now) [] once), tt)
  are_shaped h c x None (Some z) once = (is_shaped (changes_of shows x None (Some z)) h c x (among_first (change_of shows x) (change_of shows z.now ∷ [])), tt, is_shaped (changes_of shows x None (Some z)) h c z.now (among_second (change_of shows x) (change_of shows z.now) [] once))
  are_shaped h c x (Some y) (Some z) once = (
    is_shaped (changes_of shows x (Some y) (Some z)) h c x (among_first (change_of shows x) (change_of shows y.now ∷ change_of shows z.now ∷ [])),
    is_shaped (changes_of shows x (Some y) (Some z)) h c y.now (among_second (change_of shows x) (change_of shows y.now) (change_of shows z.now ∷ []) once),
    is_shaped (changes_of shows x (Some y) (Some z)) h c z.now (among_third (change_of shows x) (change_of shows y.now) (change_of shows z.now) [] once),
  )

-- the view that counts the passes knows that no other caller has acted
abbrev pub Knows : View → View → Type 0
Knows v w = v.made ≢ 0 → CallersBelow v.made w.seen

-- what is released, as the step requires it
module _ {N : Type 0} (sort : Sort) (begins : Frame → Type 0) (asks : (ℕ → NodeState) → (ℕ → Frame) → List Change → Type 0) (shows : N → Body) where
  pub matches_shows : (live : Bool) (s : NodeState) (f : Frame) (b : N) → MatchesIf sort shows live s f b → Shows sort begins asks shows s f b × (cond live 1 0 ≡ turn_word (turn_given s))
  matches_shows true s f b so = (subst (λ (z : NodeState). Shows sort begins asks shows z f b) (sym so.0) (refl, so.1), sym (ap (λ (z : NodeState). turn_word (turn_given z)) so.0))
  matches_shows false Free f b so = (so.1, refl)
  matches_shows false (Claimed d) f b so = (so.1, refl)
  matches_shows false (Live r) f b so = let e : Some r ≡ None = so.0 in absurd (let q : ⊥ = cc in q)

  pub matches_mark : (live : Bool) (s : NodeState) (f : Frame) (b : N) (i : ℕ) (k : Mark) → MatchesIf sort shows live s f b → k ≡ give_mark live i → GivesMark s i k
  matches_mark true s f b i k so e = gives_mark_live s i k (ap turn_given so.0) e
  matches_mark false Free f b i k so e = gives_mark_free Free i k refl e
  matches_mark false (Claimed d) f b i k so e = gives_mark_free (Claimed d) i k refl e
  matches_mark false (Live r) f b i k so e = let e : Some r ≡ None = so.0 in absurd (let q : ⊥ = cc in q)

module _ {N : Type 0} (sort : Sort) (begins : Frame → Type 0) (asks : (ℕ → NodeState) → (ℕ → Frame) → List Change → Type 0) where
  -- the new seat of a pass serves it, with this mark
  pub pass_marked : {D : Type 0} (k l : Mark) (t : TableId) (callers : ℕ) (p q : Pass N D) (m : Seated N) → IsPassWith sort begins asks k t callers p → q.caller ≡ p.caller → q.seat.table_id ≡ p.seat.table_id → q.seat.me ≡ m
      → Follows (marked l p.seat.me.0) m.0 → Carries t.slots m.0.seen p.caller m.1 → slots_in m.1 ≡ hand p.caller m.0.seen → Sound sort begins asks t.slots m.0.seen → Knows p.seat.me.0 m.0 → IsPassWith sort begins asks l t callers q
  pass_marked k l t callers p q m is whose table me follows carries slots sound knows = record {
    table = table ∙ is.table;
    bare = ap (λ (z : Seated N). z.0.absorbed) me ∙ follows.bare;
    few = subst (λ (z : ℕ). z < 2 ^ 32) (sym whose) is.few;
    low = subst (λ (z : ℕ). z < callers) (sym whose) is.low;
    own = ap (λ (z : Seated N). z.0.callers) me ∙ follows.callers ∙ is.own ∙ ap (λ (z : ℕ). z ∷ []) (sym whose);
    carries = subst (λ (z : ℕ × Seated N). Carries t.slots z.1.0.seen z.0 z.1.1) (λ k. (sym whose k, sym me k)) carries;
    made = ap (λ (z : Seated N). z.0.made) me ∙ follows.made ∙ is.made ∙ ap (λ (z : ℕ). cond (eqb z 0) callers 0) (sym whose);
    known = λ some_made. subst (λ (z : ℕ × List Event). CallersBelow z.0 z.1) (λ k. (sym (ap (λ (z : Seated N). z.0.made) me ∙ follows.made) k, sym (ap (λ (z : Seated N). z.0.seen) me) k)) (knows (λ e. some_made (ap (λ (z : Seated N). z.0.made) me ∙ follows.made ∙ e)));
    slots = ap (λ (z : Seated N). slots_in z.1) me ∙ slots ∙ ap (λ (z : ℕ). hand z m.0.seen) (sym whose) ∙ ap (λ (z : Seated N). hand q.caller z.0.seen) (sym me);
    mark = ap (λ (z : Seated N). z.0.mark) me ∙ follows.mark;
    sound = subst (λ (z : Seated N). Sound sort begins asks t.slots z.0.seen) (sym me) sound;
  }

  pub pass_again : {D : Type 0} (t : TableId) (callers : ℕ) (p q : Pass N D) (m : Seated N) → IsPass sort begins asks t callers p → q.caller ≡ p.caller → q.seat.table_id ≡ p.seat.table_id → q.seat.me ≡ m
      → Follows p.seat.me.0 m.0 → Carries t.slots m.0.seen p.caller m.1 → slots_in m.1 ≡ hand p.caller m.0.seen → Sound sort begins asks t.slots m.0.seen → Knows p.seat.me.0 m.0 → IsPass sort begins asks t callers q
  pass_again t callers p q m is whose table me follows carries slots sound knows = pass_marked Quiet Quiet t callers p q m is whose table me (record { callers = follows.callers; made = follows.made; mark = follows.mark ∙ is.mark; bare = follows.bare }) carries slots sound knows

  -- the body of a node that a pass holds, and that stays as it is, still shows the node
  pub still : {D : Type 0} {l : Mark} (shows : N → Body) (t : TableId) (callers : ℕ) (p : Pass N D) (k : List Event) (x : Hand N) → IsPassWith sort begins asks l t callers p → Has (hand_of p) x.node → (turn_after (seen_of p) x.node ≡ held p.caller → StaysHeld p.caller x.node (seen_of p) k) → Matches sort shows (seen_of p) x → Matches sort shows k x
  still shows t callers p k x is has stays m = let so = stays (holds_it t.slots (seen_of p) p.caller x.node p.seat.me.1 is.carries is.slots has) in
      record { is = subst (λ (z : NodeState × Frame). MatchesIf sort shows x.live z.0 z.1 x.body) (λ j. (sym so.state j, sym (so.frame (blank_of sort)) j)) m.is }

  module _ (n c : ℕ) where
    -- events of others leave the slots
    pub carries_others : (h k : List Event) (xs : List (ℕ × Option N)) → GrowsByOthers c h k → AreInTurn k → Carries n h c xs → Carries n k c xs
    carries_others h k xs grows are carries = carries_along n h k c xs (λ i e. (by_others_keeps c i h k grows are e).turn) (λ i e. by_others_turn c i h k grows e) carries

    pub record Looked (me m : Seated N) : Type 0 where
      pub follows : Follows me.0 m.0
      pub grows : GrowsByOthers c me.0.seen m.0.seen
      pub kept : Kept c me.0.seen m.0.seen
      pub carries : Carries n m.0.seen c m.1
      pub slots : slots_in m.1 ≡ hand c m.0.seen
      pub hand_is : hand c m.0.seen ≡ hand c me.0.seen
      pub mine_is : mine c m.0.seen ≡ mine c me.0.seen
      pub sounds : Sound sort begins asks n m.0.seen
      pub knows : Knows me.0 m.0

    -- after a step that made no event
    pub looked : (me m : Seated N) → me.0.callers ≡ c ∷ [] → Carries n me.0.seen c me.1 → slots_in me.1 ≡ hand c me.0.seen → m.1 ≡ me.1 → Looks (Sound sort begins asks n) me.0 m.0 → Looked me m
    looked me m own carries slots same so = let grows : GrowsByOthers c me.0.seen m.0.seen = looks_grows (Sound sort begins asks n) me.0 m.0 c own so in let are : AreInTurn m.0.seen = are_in_turn sort begins asks n m.0.seen so.sound in
        let hands : hand c m.0.seen ≡ hand c me.0.seen = by_others_hand c me.0.seen m.0.seen grows in record {
          follows = looks_follows (Sound sort begins asks n) me.0 m.0 so;
          grows = grows;
          kept = λ j x. by_others_keeps c j me.0.seen m.0.seen grows are x;
          carries = subst (Carries n m.0.seen c) (sym same) (carries_others me.0.seen m.0.seen me.1 grows are carries);
          slots = ap slots_in same ∙ slots ∙ sym hands;
          hand_is = hands;
          mine_is = by_others_mine c me.0.seen m.0.seen grows;
          sounds = so.sound;
          knows = so.known;
        }

    pub record Gained (i : ℕ) (e : Event) (me m : Seated N) : Type 0 where
      pub follows : Follows me.0 m.0
      pub grows : GrowsWith c e me.0.seen m.0.seen
      pub kept : Kept c me.0.seen m.0.seen
      pub carries : Carries n m.0.seen c m.1
      pub slots : slots_in m.1 ≡ hand c m.0.seen
      pub hand_is : hand c m.0.seen ≡ i ∷ hand c me.0.seen
      pub mine_is : mine c m.0.seen ≡ e ∷ mine c me.0.seen
      pub sounds : Sound sort begins asks n m.0.seen
      pub knows : Knows me.0 m.0

    -- after a step by which c came to hold node i, whose slot is out
    pub gained : (i : ℕ) (o : Option N) (e : Event) (me m : Seated N) → i < n → caller_of e ≡ c → ((h : List Event) → Gains e h c i) → Touches e i → hand c m.0.seen ≡ i ∷ hand c me.0.seen → me.0.callers ≡ c ∷ [] → ¬ (turn_after me.0.seen i ≡ held c)
        → Carries n me.0.seen c me.1 → slots_in me.1 ≡ hand c me.0.seen → m.1 ≡ (i, o) ∷ me.1 → Makes (Sound sort begins asks n) e me.0 m.0 → Gained i e me m
    gained i o e me m near whose gains touches hands own fresh carries slots top so = let grows : GrowsWith c e me.0.seen m.0.seen = makes_grows (Sound sort begins asks n) e me.0 m.0 c own so in let h : List Event = grows.rest ++ me.0.seen in
        let others : GrowsByOthers c me.0.seen h = with_others c e me.0.seen m.0.seen grows in let are : AreInTurn h = (subst AreInTurn grows.is (are_in_turn sort begins asks n m.0.seen so.sound)).0 in let seen : e ∷ h ≡ m.0.seen = sym grows.is in record {
          follows = makes_follows (Sound sort begins asks n) e me.0 m.0 so;
          grows = grows;
          kept = λ j x. let ne : j ≢ i = λ y. fresh (subst (λ (z : ℕ). turn_after me.0.seen z ≡ held c) y x) in let t = touches h j ne in let k = by_others_keeps c j me.0.seen h others are x in
              subst (StaysHeld c j me.0.seen) seen (stays_then c e me.0.seen h j k (gains h j ∙ cond_else j i (held c) (turn_after h j) ne ∙ k.turn) t.0 t.1);
          carries = subst (λ (z : List Event × List (ℕ × Option N)). Carries n z.0 c z.1) (λ k. (seen k, sym top k)) (carries_gain n e h c i o me.1 (gains h) near (λ x. fresh (by_others_turn c i me.0.seen h others x)) (carries_others me.0.seen h me.1 others are carries));
          slots = ap slots_in top ∙ ap (λ (z : List ℕ). i ∷ z) slots ∙ sym hands;
          hand_is = hands;
          mine_is = with_mine c e me.0.seen m.0.seen whose grows;
          sounds = so.sound;
          knows = so.known;
        }

    -- a node that c has just claimed it did not hold
    pub claim_fresh : (i : ℕ) (me m : Seated N) → me.0.callers ≡ c ∷ [] → Makes (Sound sort begins asks n) (Claim c i) me.0 m.0 → ¬ (turn_after me.0.seen i ≡ held c)
    claim_fresh i me m own so mine_is = let e : Event = Claim c i in let grows : GrowsWith c e me.0.seen m.0.seen = makes_grows (Sound sort begins asks n) e me.0 m.0 c own so in let h : List Event = grows.rest ++ me.0.seen in
        let all : Sound sort begins asks n (e ∷ h) = subst (Sound sort begins asks n) grows.is so.sound in let k = by_others_keeps c i me.0.seen h (with_others c e me.0.seen m.0.seen grows) (are_in_turn sort begins asks n h all.0) mine_is in let x : free ≡ held c = sym all.1.0 ∙ k.turn in (cc)

    -- the slot of node i is on top, with a body back in it
    pub record Ready (i : ℕ) (b : N) (me m : Seated N) : Type 0 where
      pub follows : Follows me.0 m.0
      pub grows : GrowsByOthers c me.0.seen m.0.seen
      pub near : i < n
      pub top : m.1 ≡ (i, Some b) ∷ drop_slot i me.1
      pub stays : StaysHeld c i me.0.seen m.0.seen
      pub carries : Carries n m.0.seen c m.1
      pub sounds : Sound sort begins asks n m.0.seen
      pub knows : Knows me.0 m.0

    pub ready : (i : ℕ) (b : N) (me m : Seated N) → me.0.callers ≡ c ∷ [] → turn_after me.0.seen i ≡ held c → Carries n me.0.seen c me.1 → Looks (Sound sort begins asks n) me.0 m.0 → m.1 ≡ (i, Some b) ∷ drop_slot i me.1 → Ready i b me m
    ready i b me m own holds carries so top = let grows : GrowsByOthers c me.0.seen m.0.seen = looks_grows (Sound sort begins asks n) me.0 m.0 c own so in let are : AreInTurn m.0.seen = are_in_turn sort begins asks n m.0.seen so.sound in let k = by_others_keeps c i me.0.seen m.0.seen grows are holds in record {
      follows = looks_follows (Sound sort begins asks n) me.0 m.0 so;
      grows = grows;
      near = hand_near n me.0.seen c me.1 i carries.hands (carries.all i holds);
      top = top;
      stays = k;
      carries = subst (Carries n m.0.seen c) (sym top) (carries_lift n m.0.seen c me.1 i (Some b) k.turn (carries_others me.0.seen m.0.seen me.1 grows are carries));
      sounds = so.sound;
      knows = so.known;
    }

    -- the body has been put into the slot since the look
    pub ready_with : (i : ℕ) (b : N) (me l m : Seated N) (o : Option N) → me.0.callers ≡ c ∷ [] → turn_after me.0.seen i ≡ held c → Carries n me.0.seen c me.1 → Looks (Sound sort begins asks n) me.0 l.0 → l.1 ≡ (i, o) ∷ drop_slot i me.1
        → m ≡ (l.0, (i, Some b) ∷ rest l.1) → Ready i b me m
    ready_with i b me l m o own holds carries so top then =
        subst (Ready i b me) (sym (then ∙ ap (λ (z : List (ℕ × Option N)). (l.0, (i, Some b) ∷ rest z)) top)) (ready i b me (l.0, (i, Some b) ∷ drop_slot i me.1) own holds carries so refl)

    pub record Given (i : ℕ) (me m : Seated N) : Type 0 where
      pub follows : Follows (marked Quiet me.0) m.0
      pub grows : GrowsWith c (Give c i) me.0.seen m.0.seen
      pub kept : KeptBut i c me.0.seen m.0.seen
      pub carries : Carries n m.0.seen c m.1
      pub slots : slots_in m.1 ≡ hand c m.0.seen
      pub hand_is : hand c m.0.seen ≡ drop_one i (hand c me.0.seen)
      pub mine_is : mine c m.0.seen ≡ Give c i ∷ mine c me.0.seen
      pub sounds : Sound sort begins asks n m.0.seen
      pub knows : Knows me.0 m.0

    pub gave_it : (i : ℕ) (b : N) (me l m : Seated N) → me.0.callers ≡ c ∷ [] → slots_in me.1 ≡ hand c me.0.seen → Ready i b me l → Makes (Sound sort begins asks n) (Give c i) (marked Quiet l.0) m.0 → m.1 ≡ drop_slot i me.1 → Given i me m
    gave_it i b me l m own slots so makes same = let e : Event = Give c i in let own' : l.0.callers ≡ c ∷ [] = so.follows.callers ∙ own in let later : GrowsWith c e l.0.seen m.0.seen = makes_grows (Sound sort begins asks n) e (marked Quiet l.0) m.0 c own' makes in let grows : GrowsWith c e me.0.seen m.0.seen = by_others_with c e me.0.seen l.0.seen m.0.seen so.grows later in
        let h : List Event = grows.rest ++ me.0.seen in let others : GrowsByOthers c me.0.seen h = with_others c e me.0.seen m.0.seen grows in let are : AreInTurn h = (subst AreInTurn grows.is (are_in_turn sort begins asks n m.0.seen makes.sound)).0 in let seen : e ∷ h ≡ m.0.seen = sym grows.is in
        let k : List Event = later.rest ++ l.0.seen in let there : GrowsByOthers c l.0.seen k = with_others c e l.0.seen m.0.seen later in let now : AreInTurn k = (subst AreInTurn later.is (are_in_turn sort begins asks n m.0.seen makes.sound)).0 in
        let hands : hand c m.0.seen ≡ drop_one i (hand c me.0.seen) = give_hand c i me.0.seen m.0.seen grows in record {
          follows = follows_both (marked Quiet me.0) (marked Quiet l.0) m.0 (follows_marked Quiet me.0 l.0 so.follows) (makes_follows (Sound sort begins asks n) e (marked Quiet l.0) m.0 makes);
          grows = grows;
          kept = λ j ne x. let s = by_others_keeps c j me.0.seen h others are x in
              subst (StaysHeld c j me.0.seen) seen (stays_then c e me.0.seen h j s (cond_else j i (turn_given (graph_after h i)) (turn_after h j) ne ∙ s.turn) (cond_else j i (given (graph_after h i)) (graph_after h j) ne) (λ blank. refl));
          carries = subst (λ (z : List Event × List (ℕ × Option N)). Carries n z.0 c z.1) (λ z. (sym later.is z, sym same z)) (carries_give n k c i (Some b) (drop_slot i me.1) (carries_others l.0.seen k ((i, Some b) ∷ drop_slot i me.1) there now (subst (Carries n l.0.seen c) so.top so.carries)));
          slots = ap slots_in same ∙ drop_in me.1 i ∙ ap (drop_one i) slots ∙ sym hands;
          hand_is = hands;
          mine_is = with_mine c e me.0.seen m.0.seen refl grows;
          sounds = makes.sound;
          knows = λ some_made. subst (λ (z : ℕ). CallersBelow z m.0.seen) so.follows.made (makes.known (λ e. some_made (sym so.follows.made ∙ e)));
        }

    -- after an event on a counting word: c holds what it held
    pub record Counted (e : Event) (me m : Seated N) : Type 0 where
      pub follows : Follows me.0 m.0
      pub grows : GrowsWith c e me.0.seen m.0.seen
      pub carries : Carries n m.0.seen c m.1
      pub slots : slots_in m.1 ≡ hand c m.0.seen
      pub hand_is : hand c m.0.seen ≡ hand c me.0.seen
      pub mine_is : mine c m.0.seen ≡ e ∷ mine c me.0.seen
      pub sounds : Sound sort begins asks n m.0.seen
      pub knows : Knows me.0 m.0
      -- just before it, what c held was as before
      pub before : Kept c me.0.seen (grows.rest ++ me.0.seen)

    pub counted : (e : Event) (me m : Seated N) → caller_of e ≡ c → ((h : List Event) (j : ℕ) → turn_after (e ∷ h) j ≡ turn_after h j) → ((h : List Event) → hand c (e ∷ h) ≡ hand c h) → me.0.callers ≡ c ∷ [] → Carries n me.0.seen c me.1 → slots_in me.1 ≡ hand c me.0.seen → m.1 ≡ me.1 → Makes (Sound sort begins asks n) e me.0 m.0 → Counted e me m
    counted e me m whose turns hands own carries slots same so = let grows : GrowsWith c e me.0.seen m.0.seen = makes_grows (Sound sort begins asks n) e me.0 m.0 c own so in let h : List Event = grows.rest ++ me.0.seen in
        let others : GrowsByOthers c me.0.seen h = with_others c e me.0.seen m.0.seen grows in let are : AreInTurn h = (subst AreInTurn grows.is (are_in_turn sort begins asks n m.0.seen so.sound)).0 in let seen : e ∷ h ≡ m.0.seen = sym grows.is in
        let hand_is : hand c m.0.seen ≡ hand c me.0.seen = ap (hand c) (sym seen) ∙ hands h ∙ by_others_hand c me.0.seen h others in record {
          follows = makes_follows (Sound sort begins asks n) e me.0 m.0 so;
          grows = grows;
          carries = subst (λ (z : List Event × List (ℕ × Option N)). Carries n z.0 c z.1) (λ k. (seen k, sym same k)) (carries_along n h (e ∷ h) c me.1 (λ j x. turns h j ∙ x) (λ j x. sym (turns h j) ∙ x) (carries_others me.0.seen h me.1 others are carries));
          slots = ap slots_in same ∙ slots ∙ sym hand_is;
          hand_is = hand_is;
          mine_is = with_mine c e me.0.seen m.0.seen whose grows;
          sounds = so.sound;
          knows = so.known;
          before = λ j x. by_others_keeps c j me.0.seen h others are x;
        }
