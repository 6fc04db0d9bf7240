-- What each step of the arena requires, and what is known after it.
use Rattle.std.proofs.Common.{◌≡◌, ◌≢◌, ℕ, ◌+◌, ◌*◌, ◌/◌, max, bit_and, bit_or, w64, ◌%◌, ◌^◌, ◌<◌, ◌⊎◌, eqb, List, [], ◌∷◌, ◌++◌, length, get_or, set, sym, refl, ap, ◌∙◌, subst, inl, inr, ⊎_elim, arith, length-set, get_or-set_other, get_or-set_same, length-append}
use Rattle.std.specs.Prelude.{Option, Some, All}
use Rattle.std.proofs.lemmas.List.{set_comm, set-set}
use Rattle.std.proofs.lemmas.List.Elements.{All-head, All-tail}
use mathlib.Core.Option.{none, some, some-injective, some-ne-none}
use mathlib.Core.Option as maybe
use mathlib.Core.Logic.{dite}
use native.Mathlib.Decide.{ℕ_discrete}
use lib.ListN.{get_elem?}
use prog.Atomic.{either}
use Rattle.atomic_table.specs.Table.{State, Act, keeps, takes, gives, chain, Valid, stepped, carried_after, homes_after, Allows, step}
use Rattle.atomic_table.proofs.Lists.{set_here, set_else, set_again, exchanged}
use Rattle.ks_keysets.specs.declared.Frame.{Frame}
use Rattle.ks_keysets.specs.declared.NodeState.{NodeState}
use Rattle.ks_keysets.specs.declared.NodeState.TheVariants.{Free, Claimed, Live}
use Rattle.ks_keysets.specs.declared.Change.{Change}
use Rattle.ks_keysets.specs.Change.{new_state, shaped}
use Rattle.ks_keysets.specs.Reframed.{new_frame, reframed}
use Rattle.ks_history.specs.declared.Answered.{Answered}
use Rattle.ks_history.specs.declared.Op.{Op}
use Rattle.ks_history.specs.declared.Reply.{Reply}
use Rattle.ks_history.specs.declared.Event.{Event}
use Rattle.ks_history.specs.declared.Event.TheVariants.{Take, Give, Claim, Shape, Call, Twin}
use Rattle.ks_history.specs.Trace.{Turn, free, idle, held, turn_given, given, state_with, graph_after, turn_after, number_after, calls_of, caller_of}
use Rattle.ks_history.specs.Frames.{frame_after}
use Rattle.ks_history.specs.Own.{shapes_in}
use Rattle.ks_history.specs.Write.{written, taken_out, put_in}
use Rattle.ks_history.specs.Passes.{Has, GrowsByOthers}
use Rattle.ks_history.specs.Callers.{CallersBelow}
use Rattle.std.specs.Int.{bit_at, bit_not}
use Rattle.std.proofs.lemmas.Nat.Bits.{bit_at_or, bit_at-lt, bit_at-pow_same, bit_at-pow_other, bit_at_clear_same, bit_at_clear_other}
use Rattle.ks_arena.specs.declared.view.Mark.{Mark}
use Rattle.ks_arena.specs.declared.view.Mark.TheVariants.{Quiet, Claiming, Freeing}
use Rattle.ks_arena.specs.declared.view.View.{View}
use Rattle.ks_node.specs.Body.{Body}
use Rattle.ks_arena.specs.Sound.{Sort, blank_of, Sound, StepsSoundly}
use Rattle.ks_arena.specs.Spots.{calls_at, shapes_at, turn_at, free_at}
use Rattle.ks_arena.specs.Rule.{Rests, Running, turn_word, Marks, SomeMarks, FreeBits, callers_in, all_callers}
use Rattle.ks_history.specs.Stays.{StaysHeld}
use Rattle.ks_history.specs.Laws.Stays.{cond_here, cond_else, twice_else}
use Rattle.ks_history.specs.Laws.Begins.{none_by, by_others_keeps}
use Rattle.ks_arena.specs.Plays.{Seated, with_seen, marked, TellsFree, Looks, Makes, slot_in, drop_slot, InHand, HasSlots, Shows, TookAt, took, ClaimedAt, claimed, gave, brought, bit_was_set, bit_was_cleared, scanned, decided, formed}
use Rattle.ks_arena.proofs.Apart.{turn_back, free_back, count_inside, bit_inside}
use Rattle.ks_arena.proofs.Words.{word_idle, word_free, word_below, held_below}
use Rattle.ks_arena.specs.Laws.Beyond.{are_in_turn}
use Rattle.ks_arena.proofs.Seen.{has_left}
use Rattle.ks_arena.proofs.Bits.{inside, marks_held, mark_own, turn_bits, free_word_bits}
use Rattle.ks_arena.proofs.Stepping.{has_one, looks, turns_at, frees_at, counts_at}

same_pair : (cs : List ℕ) (c d i j : ℕ) → cs ≡ c ∷ [] → cs ≡ d ∷ [] → turn_at i ≡ turn_at j → (c ≡ d) × (i ≡ j)
same_pair cs c d i j a b e = let x : c ∷ [] ≡ d ∷ [] = sym a ∙ b in ((cc), turn_back i j e)

one_more : (a b x : ℕ) → b ≡ a + 1 → x ≡ a % 2 ^ 64 → (x + 1) % 2 ^ 64 ≡ b % 2 ^ 64
one_more a b x more e = omega arith

a_call_more : (xs : List Answered) (x : Answered) → length (xs ++ x ∷ []) ≡ length xs + 1
a_call_more xs x = length-append xs (x ∷ [])

-- a power of two and the word determine which bit it is
opened_same : (i j n : ℕ) → free_at n (i / 64) ≡ free_at n (j / 64) → 2 ^ (i % 64) ≡ 2 ^ (j % 64) → i ≡ j
opened_same i j n word bit = dite (ℕ_discrete (j % 64) (i % 64)) (λ e. let same : i / 64 ≡ j / 64 = free_back n (i / 64) (j / 64) word in omega arith) (λ ne. let one : bit_at (2 ^ (j % 64)) (j % 64) ≡ 1 = bit_at-pow_same (j % 64) in let none_set : bit_at (2 ^ (i % 64)) (j % 64) ≡ 0 = bit_at-pow_other (i % 64) (j % 64) ne in absurd (omega (arith, one, none_set, ap (λ (z : ℕ). bit_at z (j % 64)) bit)))

-- a node that is released as free has its bit set before, and one that is released as idle has not
pub GivesMark : NodeState → ℕ → Mark → Type 0
GivesMark t i k = ((turn_given t ≡ free) × (k ≡ Freeing i)) ⊎ ((turn_given t ≡ idle) × (k ≡ Quiet))

pub gives_mark_live : (t : NodeState) (i : ℕ) (k : Mark) → turn_given t ≡ idle → k ≡ Quiet → GivesMark t i k
unfolding GivesMark
gives_mark_live t i k is quiet = inr (is, quiet)

pub gives_mark_free : (t : NodeState) (i : ℕ) (k : Mark) → turn_given t ≡ free → k ≡ Freeing i → GivesMark t i k
unfolding GivesMark
gives_mark_free t i k is freeing = inl (is, freeing)

-- whatever others do before it, the event may follow
abbrev pub May : Sort → (Frame → Type 0) → ((ℕ → NodeState) → (ℕ → Frame) → List Change → Type 0) → ℕ → ℕ → List Event → Event → Type 0
May sort begins asks n c seen e = (h : List Event) → GrowsByOthers c seen h → Sound sort begins asks n h → StepsSoundly sort begins asks n h e

module _ {N : Type 0} (sort : Sort) (begins : Frame → Type 0) (asks : (ℕ → NodeState) → (ℕ → Frame) → List Change → Type 0) (shows : N → Body) where
  abbrev Rule : State (Option N) View → Type 0
  Rule = Running sort begins asks shows

  abbrev SoundTo : ℕ → List Event → Type 0
  SoundTo n = Sound sort begins asks n

  -- the mark that the step leaves
  abbrev pub looks_marked : (n : ℕ) (s : State (Option N) View) (r : Rule s) (id : ℕ) (v : View) (k : Mark) → length s.homes ≡ n → get_elem? s.views id ≡ some v → Looks (SoundTo n) (marked k v) (with_seen (marked k v) r.trace)
  looks_marked n s r id v k long at = let f = r.views.each id v at in record { rest = f.rest; is = ap (with_seen (marked k v)) f.is; others = f.others; sound = subst (λ (z : ℕ). SoundTo z r.trace) long r.sound; known = r.views.known id v at }

  pub known_then : (s : State (Option N) View) (r : Rule s) (id : ℕ) (v : View) (e : Event) → get_elem? s.views id ≡ some v → Has v.callers (caller_of e) → v.made ≢ 0 → CallersBelow v.made (e ∷ r.trace)
  known_then s r id v e at mine made = ((r.views.maker id id v v at at made).0 (caller_of e) (has_left v.callers (callers_in v.absorbed) (caller_of e) mine), r.views.known id v at made)

  abbrev pub makes_marked : (n : ℕ) (s : State (Option N) View) (r : Rule s) (id : ℕ) (v : View) (k : Mark) (e : Event) → length s.homes ≡ n → get_elem? s.views id ≡ some v → Has v.callers (caller_of e) → StepsSoundly sort begins asks (length s.homes) r.trace e → Makes (SoundTo n) e (marked k v) (with_seen (marked k v) (e ∷ r.trace))
  makes_marked n s r id v k e long at mine may = let f = r.views.each id v at in
      record { rest = f.rest; is = ap (λ (z : List Event). with_seen (marked k v) (e ∷ z)) f.is; others = f.others; sound = subst (λ (z : ℕ). SoundTo z (e ∷ r.trace)) long (r.sound, may); known = known_then s r id v e at mine }

  -- the mark stays
  abbrev pub looks_all : (n : ℕ) (s : State (Option N) View) (r : Rule s) (id : ℕ) (v : View) → length s.homes ≡ n → get_elem? s.views id ≡ some v → Looks (SoundTo n) v (with_seen v r.trace)
  looks_all n s r id v long at = let x = looks_marked n s r id v v.mark long at in record { rest = x.rest; is = x.is; others = x.others; sound = x.sound; known = x.known }

  abbrev pub makes_one : (n : ℕ) (s : State (Option N) View) (r : Rule s) (id : ℕ) (v : View) (e : Event) → length s.homes ≡ n → get_elem? s.views id ≡ some v → Has v.callers (caller_of e) → StepsSoundly sort begins asks (length s.homes) r.trace e → Makes (SoundTo n) e v (with_seen v (e ∷ r.trace))
  makes_one n s r id v e long at mine may = let x = makes_marked n s r id v v.mark e long at mine may in record { rest = x.rest; is = x.is; others = x.others; sound = x.sound; known = x.known }

  abbrev Goes : State (Option N) View → ℕ → ℕ → Seated N → (ℕ → Seated N → Type 0) → ℕ → Type 0
  Goes s k id me then x = (w : View) × (a : Act (Option N)) × Valid s.homes me.1 a × Rule (stepped s k x id me.1 w a) × then (get_or s.words k 0) (w, carried_after me.1 a)

  quiet_marks : (k : Mark) → k ≡ Quiet → (i : ℕ) → ¬ Marks k i
  quiet_marks k quiet i m = subst (λ (z : Mark). Marks z i) quiet m

  unnamed : (k : Mark) (i : ℕ) → k ≡ Quiet → (j : ℕ) → Marks k j → j ≡ i
  unnamed k i quiet j m = absurd (quiet_marks k quiet j m)

  idle_unmarked : (s : State (Option N) View) (r : Rule s) (i : ℕ) → turn_after r.trace i ≡ idle → ¬ SomeMarks s.views i
  idle_unmarked s r i is m = let so = marks_held r.trace s.views (length s.homes) s.words r.bits i m in let x : idle ≡ held so.0 = sym is ∙ so.1 in (cc)

  free_unmarked : (s : State (Option N) View) (r : Rule s) (i : ℕ) → turn_after r.trace i ≡ free → ¬ SomeMarks s.views i
  free_unmarked s r i is m = let so = marks_held r.trace s.views (length s.homes) s.words r.bits i m in let x : free ≡ held so.0 = sym is ∙ so.1 in (cc)

  takes_at : (n id : ℕ) (me : Seated N) (c i : ℕ) → me.0.callers ≡ c ∷ [] → me.0.absorbed ≡ [] → me.0.mark ≡ Quiet → c < 2 ^ 32 → i < n → Allows Rule n id me (turn_at i) (λ y. either (eqb y 1) (c + 2) y) (took sort begins asks shows (step n (turn_at i) 1 (c + 2) none) me)
  takes_at n id me c i mine bare quiet small near s r long at _ = let h : List Event = r.trace in let near' : i < length s.homes = subst (λ (z : ℕ). i < z) (sym long) near in let y : ℕ = get_or s.words (turn_at i) 0 in let word : y ≡ turn_word (turn_after h i) = r.turns i near' in
      let told = took sort begins asks shows (step n (turn_at i) 1 (c + 2) none) me in
      exchanged y 1 (c + 2) (Goes s (turn_at i) id me told)
      (λ hit. let is : turn_after h i ≡ idle = word_idle (turn_after h i) (sym word ∙ hit) in let b = subst (λ (z : Turn). Rests sort shows (graph_after h i) (frame_after (blank_of sort) h i) z (get_elem? s.homes i)) is (r.homes i near') in
      let e : Event = Take c i in let here : turn_after (e ∷ h) i ≡ held c = cond_here i i (held c) (turn_after h i) refl in (
        with_seen me.0 (e ∷ h),
        takes i (Some b.0),
        b.1,
        turns_at sort begins asks shows s r id me.0 me.0.mark e i (c + 2) none at bare (has_one me.0.callers c mine) small near' is refl refl (λ j ne. (cond_else j i (held c) (turn_after h j) ne, refl, refl)) (ap turn_word (sym here))
            (subst (λ (z : Turn). Rests sort shows (graph_after h i) (frame_after (blank_of sort) h i) z (some none)) (sym here) refl)
            (turn_bits h e s.views id me.0 me.0.mark (length s.homes) s.words i (c + 2) r.bits at near' (λ j ne. cond_else j i (held c) (turn_after h j) ne) (unnamed me.0.mark i quiet) (unnamed me.0.mark i quiet) (λ j u ne there m. idle_unmarked s r i is (j, u, there, m)) (λ m. absurd (quiet_marks me.0.mark quiet i m))
            (inr ((λ f. let x : idle ≡ free = sym is ∙ f in (cc)), idle_unmarked s r i is, (λ f. let x : held c ≡ free = sym here ∙ f in (cc)), quiet_marks me.0.mark quiet i))),
        λ d j own at'. let p = same_pair me.0.callers c d i j mine own at' in subst (λ (z : ℕ × ℕ). TookAt sort begins asks shows n z.0 z.1 me y (with_seen me.0 (e ∷ h), (i, Some b.0) ∷ me.1)) (λ k. (p.0 k, p.1 k))
            (λ _. (makes_one n s r id me.0 e long at (has_one me.0.callers c mine) is, (b.0, refl, b.2, b.3)), λ miss. absurd (miss hit)),
      ))
      (λ miss. (
        with_seen me.0 h,
        keeps,
        tt,
        looks sort begins asks shows s r id (turn_at i) me.0 at bare,
        λ d j own at'. let p = same_pair me.0.callers c d i j mine own at' in subst (λ (z : ℕ × ℕ). TookAt sort begins asks shows n z.0 z.1 me y (with_seen me.0 h, me.1)) (λ k. (p.0 k, p.1 k))
            (λ hit. absurd (miss hit), λ _. (looks_all n s r id me.0 long at, refl, word, word_below (2 ^ 32) (turn_after h i) y word (λ d e. held_below (2 ^ 32) h i d r.few e))),
      ))

  -- the same at a word that is that turn
  pub takes_ok : (n id : ℕ) (me : Seated N) (c i z : ℕ) → z ≡ turn_at i → me.0.callers ≡ c ∷ [] → me.0.absorbed ≡ [] → me.0.mark ≡ Quiet → c < 2 ^ 32 → i < n → Allows Rule n id me z (λ y. either (eqb y 1) (c + 2) y) (took sort begins asks shows (step n z 1 (c + 2) none) me)
  takes_ok n id me c i z is mine bare quiet small near = subst (λ (w : ℕ). Allows Rule n id me w (λ y. either (eqb y 1) (c + 2) y) (took sort begins asks shows (step n w 1 (c + 2) none) me)) (sym is) (takes_at n id me c i mine bare quiet small near)

  claims_at : (n id : ℕ) (me : Seated N) (c i : ℕ) → me.0.callers ≡ c ∷ [] → me.0.absorbed ≡ [] → me.0.mark ≡ Quiet → c < 2 ^ 32 → i < n → Allows Rule n id me (turn_at i) (λ y. either (eqb y 0) (c + 2) y) (claimed sort begins asks shows (step n (turn_at i) 0 (c + 2) none) me)
  claims_at n id me c i mine bare quiet small near s r long at _ = let h : List Event = r.trace in let near' : i < length s.homes = subst (λ (z : ℕ). i < z) (sym long) near in let y : ℕ = get_or s.words (turn_at i) 0 in let word : y ≡ turn_word (turn_after h i) = r.turns i near' in
      let told = claimed sort begins asks shows (step n (turn_at i) 0 (c + 2) none) me in
      exchanged y 0 (c + 2) (Goes s (turn_at i) id me told)
      (λ hit. let is : turn_after h i ≡ free = word_free (turn_after h i) (sym word ∙ hit) in let b = subst (λ (z : Turn). Rests sort shows (graph_after h i) (frame_after (blank_of sort) h i) z (get_elem? s.homes i)) is (r.homes i near') in
      let e : Event = Claim c i in let here : turn_after (e ∷ h) i ≡ held c = cond_here i i (held c) (turn_after h i) refl in (
        with_seen (marked (Claiming i) me.0) (e ∷ h),
        takes i (Some b.0),
        b.1,
        turns_at sort begins asks shows s r id me.0 (Claiming i) e i (c + 2) none at bare (has_one me.0.callers c mine) small near' (is, near') refl refl (λ j ne. (cond_else j i (held c) (turn_after h j) ne, cond_else j i (Claimed c) (graph_after h j) ne, refl)) (ap turn_word (sym here))
            (subst (λ (z : Turn). Rests sort shows (graph_after (e ∷ h) i) (frame_after (blank_of sort) h i) z (some none)) (sym here) refl)
            (turn_bits h e s.views id me.0 (Claiming i) (length s.homes) s.words i (c + 2) r.bits at near' (λ j ne. cond_else j i (held c) (turn_after h j) ne) (unnamed me.0.mark i quiet) (λ j m. sym m) (λ j u ne there m. free_unmarked s r i is (j, u, there, m)) (λ m. (c, has_one me.0.callers c mine, here)) (inl (inl is, inr refl))),
        λ d j own at'. let p = same_pair me.0.callers c d i j mine own at' in subst (λ (z : ℕ × ℕ). ClaimedAt sort begins asks shows n z.0 z.1 me y (with_seen (marked (Claiming i) me.0) (e ∷ h), (i, Some b.0) ∷ me.1)) (λ k. (p.0 k, p.1 k))
            (λ _. (makes_marked n s r id me.0 (Claiming i) e long at (has_one me.0.callers c mine) (is, near'), (b.0, refl, b.2)), λ miss. absurd (miss hit)),
      ))
      (λ miss. (
        with_seen me.0 h,
        keeps,
        tt,
        looks sort begins asks shows s r id (turn_at i) me.0 at bare,
        λ d j own at'. let p = same_pair me.0.callers c d i j mine own at' in subst (λ (z : ℕ × ℕ). ClaimedAt sort begins asks shows n z.0 z.1 me y (with_seen me.0 h, me.1)) (λ k. (p.0 k, p.1 k))
            (λ hit. absurd (miss hit), λ _. (looks_all n s r id me.0 long at, refl, λ now. miss (word ∙ ap turn_word now))),
      ))

  pub claims_ok : (n id : ℕ) (me : Seated N) (c i z : ℕ) → z ≡ turn_at i → me.0.callers ≡ c ∷ [] → me.0.absorbed ≡ [] → me.0.mark ≡ Quiet → c < 2 ^ 32 → i < n → Allows Rule n id me z (λ y. either (eqb y 0) (c + 2) y) (claimed sort begins asks shows (step n z 0 (c + 2) none) me)
  claims_ok n id me c i z is mine bare quiet small near = subst (λ (w : ℕ). Allows Rule n id me w (λ y. either (eqb y 0) (c + 2) y) (claimed sort begins asks shows (step n w 0 (c + 2) none) me)) (sym is) (claims_at n id me c i mine bare quiet small near)

  rests_given : (t : NodeState) (f : Frame) (b : N) → Shows sort begins asks shows t f b → Rests sort shows (given t) f (turn_given t) (some (some (Some b)))
  rests_given Free f b so = (b, refl, so)
  rests_given (Claimed d) f b so = (b, refl, so)
  rests_given (Live r) f b so = (b, refl, ap Live so.0, so.1)

  -- the trace continues what the caller has seen by events of others
  others_now : (s : State (Option N) View) (r : Rule s) (id : ℕ) (v : View) (c : ℕ) → get_elem? s.views id ≡ some v → v.callers ≡ c ∷ [] → GrowsByOthers c v.seen r.trace
  others_now s r id v c at mine = let f = r.views.each id v at in record { rest = f.rest; is = f.is; others = none_by v.callers f.rest c f.others (has_one v.callers c mine) }

  -- what the caller holds, at the moment of the step
  pub own_now : (s : State (Option N) View) (r : Rule s) (id : ℕ) (v : View) (c i : ℕ) → get_elem? s.views id ≡ some v → v.callers ≡ c ∷ [] → turn_after v.seen i ≡ held c → StaysHeld c i v.seen r.trace
  own_now s r id v c i at mine holds = by_others_keeps c i v.seen r.trace (others_now s r id v c at mine) (are_in_turn sort begins asks (length s.homes) r.trace r.sound) holds

  -- what a free word says of its nodes
  reads_word : (s : State (Option N) View) (r : Rule s) (id : ℕ) (v : View) (c w : ℕ) → get_elem? s.views id ≡ some v → v.callers ≡ c ∷ [] → v.mark ≡ Quiet → TellsFree (length s.homes) w c r.trace (get_or s.words (free_at (length s.homes) w) 0)
  reads_word s r id v c w at mine quiet = record {
    sets = λ b low on. let so = r.bits.sets w b low on in (
      so.0,
      ⊎_elim (λ f. inl f) (λ m. let h = r.bits.marks m.0 (64 * w + b) m.1 m.2 m.3 in
          inr (h.0, (λ same. quiet_marks v.mark quiet (64 * w + b) (subst (λ (z : View). Marks z.mark (64 * w + b)) (some-injective m.1 v (sym m.2 ∙ ap (get_elem? s.views) (r.views.apart m.0 id c m.1 v m.2 at (subst (λ (z : ℕ). Has (all_callers m.1) z) same (has_left m.1.callers (callers_in m.1.absorbed) h.0 h.1)) (has_left v.callers (callers_in v.absorbed) c (has_one v.callers c mine))) ∙ at)) m.3)), h.2)) so.1,
    );
    clears = λ b low near off. (r.bits.clears w b low near off).0;
  }

  InHand_not : (xs : List (ℕ × Option N)) (i k : ℕ) → ¬ InHand xs k → InHand xs i → k ≢ i
  InHand_not xs i k out has e = out (subst (InHand xs) (sym e) has)

  -- the slots that are held are out of the table
  abbrev Out : List (maybe.Option (Option N)) → List (ℕ × Option N) → Type 0
  Out hs [] = Unit {0}
  Out hs (x ∷ xs) = (get_elem? hs x.0 ≡ some none) × (¬ InHand xs x.0) × Out hs xs

  out_set : (hs : List (maybe.Option (Option N))) (k : ℕ) (a : maybe.Option (Option N)) (xs : List (ℕ × Option N)) → ¬ InHand xs k → Out hs xs → Out (set hs k a) xs
  out_set hs k a [] never out = tt
  out_set hs k a (x ∷ xs) never out = (set_else hs k x.0 a (λ e. never (inl e)) ∙ out.0, out.1, out_set hs k a xs (λ h. never (inr h)) out.2)

  -- puts back the slots above that of i, and then that one, and takes them again, with that of i on top
  lift : (xs : List (ℕ × Option N)) (i : ℕ) → InHand xs i → Act (Option N)
  lift [] i h = keeps
  lift (x ∷ xs) i (inl e) = keeps
  lift (x ∷ xs) i (inr h) = chain gives (chain (lift xs i h) (chain gives (chain (takes x.0 x.1) (takes i (slot_in i xs)))))

  Lifts : List (maybe.Option (Option N)) → List (ℕ × Option N) → ℕ → Act (Option N) → Type 0
  Lifts hs xs i a = Valid hs xs a × (homes_after hs xs a ≡ hs) × (carried_after xs a ≡ (i, slot_in i xs) ∷ drop_slot i xs)

  set_back : (hs : List (maybe.Option (Option N))) (k i : ℕ) (a b : maybe.Option (Option N)) → k ≢ i → get_elem? hs k ≡ some none → get_elem? hs i ≡ some none → set (set (set (set hs k a) i b) k none) i none ≡ hs
  set_back hs k i a b ne outk outi = ap (λ (z : List (maybe.Option (Option N))). set z i none) (set_comm (set hs k a) i k b none (λ e. ne (sym e)) ∙ ap (λ (z : List (maybe.Option (Option N))). set z i b) (set-set hs k a none ∙ set_again hs k none outk)) ∙ set-set hs i b none ∙ set_again hs i none outi

  out_in : (hs : List (maybe.Option (Option N))) (xs : List (ℕ × Option N)) (i : ℕ) → Out hs xs → InHand xs i → get_elem? hs i ≡ some none
  out_in hs [] i out h = absurd h
  out_in hs (x ∷ xs) i out (inl e) = ap (get_elem? hs) (sym e) ∙ out.0
  out_in hs (x ∷ xs) i out (inr h) = out_in hs xs i out.2 h

  abbrev Tail : ℕ → ℕ × Option N → Option N → Act (Option N)
  Tail i x o = chain gives (chain (takes x.0 x.1) (takes i o))

  lifts : (hs : List (maybe.Option (Option N))) (xs : List (ℕ × Option N)) (i : ℕ) (h : InHand xs i) → Out hs xs → Lifts hs xs i (lift xs i h)
  unfolding lift Lifts
  lifts hs [] i h out = absurd h
  lifts hs (x ∷ xs) i (inl e) out = (tt, refl, (λ k. (e k, sym (cond_here x.0 i x.1 (slot_in i xs) e) k) ∷ sym (cond_here x.0 i xs (x ∷ drop_slot i xs) e) k))
  lifts hs (x ∷ xs) i (inr h) out = let k : ℕ = x.0 in let hs₁ : List (maybe.Option (Option N)) = set hs k (some x.1) in let a : Act (Option N) = lift xs i h in let o : Option N = slot_in i xs in let so = lifts hs₁ xs i h (out_set hs k (some x.1) xs out.1 out.2) in
      let ne : k ≢ i = InHand_not xs i k out.1 h in let outi : get_elem? hs i ≡ some none = out_in hs xs i out.2 h in let d : List (ℕ × Option N) = drop_slot i xs in
      let F : List (maybe.Option (Option N)) × List (ℕ × Option N) → Type 0 = λ z. Valid z.0 z.1 (Tail i x o) × (homes_after z.0 z.1 (Tail i x o) ≡ hs) × (carried_after z.1 (Tail i x o) ≡ (i, o) ∷ x ∷ d) in
      let near : k < length hs₁ = subst (λ (z : ℕ). k < z) (sym (length-set hs k (some x.1))) (inside hs k none out.0) in let neari : i < length hs₁ = subst (λ (z : ℕ). i < z) (sym (length-set hs k (some x.1))) (inside hs i none outi) in
      let last : F (hs₁, (i, o) ∷ d) = (
        (tt, (set_else hs₁ i k (some o) ne ∙ set_here hs k (some x.1) (inside hs k none out.0), set_else (set hs₁ i (some o)) k i none (λ e. ne (sym e)) ∙ set_here hs₁ i (some o) neari)),
        set_back hs k i (some x.1) (some o) ne out.0 outi,
        refl,
      ) in let all = subst F (λ j. (sym so.1 j, sym so.2 j)) last in (
        (tt, (so.0, all.0)),
        all.1,
        all.2 ∙ (λ j. (i, sym (cond_else x.0 i x.1 o ne) j) ∷ sym (cond_else x.0 i xs (x ∷ drop_slot i xs) ne) j),
      )

  hands_out : (s : State (Option N) View) (r : Rule s) (id : ℕ) (v : View) (c n : ℕ) (xs : List (ℕ × Option N)) → length s.homes ≡ n → get_elem? s.views id ≡ some v → v.callers ≡ c ∷ [] → HasSlots n v.seen c xs → Out s.homes xs
  hands_out s r id v c n [] long at mine hands = tt
  hands_out s r id v c n (x ∷ xs) long at mine hands = (
    subst (λ (z : Turn). Rests sort shows (graph_after r.trace x.0) (frame_after (blank_of sort) r.trace x.0) z (get_elem? s.homes x.0)) (own_now s r id v c x.0 at mine hands.1).turn (r.homes x.0 (subst (λ (z : ℕ). x.0 < z) (sym long) hands.0)),
    hands.2,
    hands_out s r id v c n xs long at mine hands.3,
  )

  brings_at : (n id : ℕ) (me : Seated N) (c i : ℕ) → me.0.callers ≡ c ∷ [] → me.0.absorbed ≡ [] → HasSlots n me.0.seen c me.1 → InHand me.1 i → Allows Rule n id me (turn_at i) (λ y. y) (brought sort begins asks shows (step n (turn_at i) 0 0 none) me)
  unfolding Lifts
  brings_at n id me c i mine bare hands has s r long at _ = let so = lifts s.homes me.1 i has (hands_out s r id me.0 c n me.1 long at mine hands) in let y : ℕ = get_or s.words (turn_at i) 0 in let w : View = with_seen me.0 r.trace in (
    w,
    lift me.1 i has,
    so.0,
    subst (λ (z : List (maybe.Option (Option N))). Rule record { words = set s.words (turn_at i) y; homes = z; views = set s.views id w }) (sym so.1) (looks sort begins asks shows s r id (turn_at i) me.0 at bare),
    λ j at'. let p : i ≡ j = turn_back i j at' in (looks_all n s r id me.0 long at, subst (λ (z : ℕ). carried_after me.1 (lift me.1 i has) ≡ (z, slot_in z me.1) ∷ drop_slot z me.1) p so.2),
  )

  pub brings_ok : (n id : ℕ) (me : Seated N) (c i z : ℕ) → z ≡ turn_at i → me.0.callers ≡ c ∷ [] → me.0.absorbed ≡ [] → HasSlots n me.0.seen c me.1 → InHand me.1 i → Allows Rule n id me z (λ y. y) (brought sort begins asks shows (step n z 0 0 none) me)
  brings_ok n id me c i z is mine bare hands has = subst (λ (w : ℕ). Allows Rule n id me w (λ y. y) (brought sort begins asks shows (step n w 0 0 none) me)) (sym is) (brings_at n id me c i mine bare hands has)

  mark_named : (k : Mark) (t : NodeState) (i : ℕ) → GivesMark t i k → (j : ℕ) → Marks k j → j ≡ i
  unfolding GivesMark
  mark_named k t i (inl so) j m = sym (subst (λ (z : Mark). Marks z j) so.1 m)
  mark_named k t i (inr so) j m = absurd (quiet_marks k so.1 j m)

  given_bits : (s : State (Option N) View) (r : Rule s) (id : ℕ) (v : View) (c i new : ℕ) → get_elem? s.views id ≡ some v → Has v.callers c → i < length s.homes → turn_after r.trace i ≡ held c → GivesMark (graph_after r.trace i) i v.mark
      → FreeBits (Give c i ∷ r.trace) (set s.views id (with_seen (marked Quiet v) (Give c i ∷ r.trace))) (length s.homes) (set s.words (turn_at i) new)
  unfolding GivesMark
  given_bits s r id v c i new at own near now mark = let h : List Event = r.trace in let e : Event = Give c i in let t : NodeState = graph_after h i in let others = mark_own h s.views (length s.homes) s.words r.bits i r.views id c v at own now in
      let then : turn_after (e ∷ h) i ≡ turn_given t = cond_here i i (turn_given t) (turn_after h i) refl in
      turn_bits h e s.views id v Quiet (length s.homes) s.words i new r.bits at near (λ j ne. cond_else j i (turn_given t) (turn_after h j) ne) (mark_named v.mark t i mark) (λ j m. absurd m) others (λ m. absurd m)
      (⊎_elim (λ so. inl (inr (id, v, at, subst (λ (z : Mark). Marks z i) (sym so.1) refl), inl (then ∙ so.0)))
      (λ so. inr (
        (λ f. let x : held c ≡ free = sym now ∙ f in (cc)),
        (λ m. dite (ℕ_discrete m.0 id)
            (λ same. quiet_marks v.mark so.1 i (subst (λ (z : View). Marks z.mark i) (some-injective m.1 v (sym m.2 ∙ ap (get_elem? s.views) same ∙ at)) m.3)) (λ ne. others m.0 m.1 ne m.2 m.3)),
        (λ f. let x : idle ≡ free = sym so.0 ∙ sym then ∙ f in (cc)),
        λ m. m,
      )) mark)

  gives_at : (n id : ℕ) (me : Seated N) (c i : ℕ) (b : N) (others : List (ℕ × Option N)) (new : ℕ) → me.0.callers ≡ c ∷ [] → me.0.absorbed ≡ [] → c < 2 ^ 32 → i < n → me.1 ≡ (i, Some b) ∷ others → turn_after me.0.seen i ≡ held c → Shows sort begins asks shows (graph_after me.0.seen i) (frame_after (blank_of sort) me.0.seen i) b
      → new ≡ turn_word (turn_given (graph_after me.0.seen i)) → GivesMark (graph_after me.0.seen i) i me.0.mark → Allows Rule n id me (turn_at i) (λ _. new) (λ _. gave sort begins asks shows (step n (turn_at i) new 0 none) me new)
  gives_at n id me c i b others new mine bare small near has holds body word mark s r long at _ = let h : List Event = r.trace in let near' : i < length s.homes = subst (λ (z : ℕ). i < z) (sym long) near in let own = own_now s r id me.0 c i at mine holds in
      let e : Event = Give c i in let t : NodeState = graph_after h i in let f : Frame = frame_after (blank_of sort) h i in let turns : turn_after (e ∷ h) i ≡ turn_given t = cond_here i i (turn_given t) (turn_after h i) refl in let states : graph_after (e ∷ h) i ≡ given t = cond_here i i (given t) t refl in
      let one = has_one me.0.callers c mine in
      subst (λ (cs : List (ℕ × Option N)). Goes s (turn_at i) id (me.0, cs) (λ _. gave sort begins asks shows (step n (turn_at i) new 0 none) (me.0, cs) new) new) (sym has) (
        with_seen (marked Quiet me.0) (e ∷ h),
        gives,
        tt,
        turns_at sort begins asks shows s r id me.0 Quiet e i new (some (Some b)) at bare one small near' own.turn refl refl (λ j ne. (cond_else j i (turn_given t) (turn_after h j) ne, cond_else j i (given t) (graph_after h j) ne, refl))
            (word ∙ ap (λ (z : NodeState). turn_word (turn_given z)) (sym own.state) ∙ ap turn_word (sym turns))
            (subst (λ (z : NodeState × Turn). Rests sort shows z.0 f z.1 (some (some (Some b)))) (λ k. (sym states k, sym turns k)) (rests_given t f b (subst (λ (z : NodeState × Frame). Shows sort begins asks shows z.0 z.1 b) (λ k. (sym own.state k, sym (own.frame (blank_of sort)) k)) body)))
            (given_bits s r id me.0 c i new at one near' own.turn (subst (λ (z : NodeState). GivesMark z i me.0.mark) (sym own.state) mark)),
        λ d j x more own' at' has'. let p = same_pair me.0.callers c d i j mine own' at' in let q : others ≡ more = cc in (subst (λ (z : ℕ × ℕ). Makes (SoundTo n) (Give z.0 z.1) (marked Quiet me.0) (with_seen (marked Quiet me.0) (e ∷ h))) (λ k. (p.0 k, p.1 k)) (makes_marked n s r id me.0 Quiet e long at one own.turn), q),
      )

  pub gives_ok : (n id : ℕ) (me : Seated N) (c i z : ℕ) (b : N) (others : List (ℕ × Option N)) (new : ℕ) → z ≡ turn_at i → me.0.callers ≡ c ∷ [] → me.0.absorbed ≡ [] → c < 2 ^ 32 → i < n → me.1 ≡ (i, Some b) ∷ others → turn_after me.0.seen i ≡ held c → Shows sort begins asks shows (graph_after me.0.seen i) (frame_after (blank_of sort) me.0.seen i) b
      → new ≡ turn_word (turn_given (graph_after me.0.seen i)) → GivesMark (graph_after me.0.seen i) i me.0.mark → Allows Rule n id me z (λ _. new) (λ _. gave sort begins asks shows (step n z new 0 none) me new)
  gives_ok n id me c i z b others new is mine bare small near has holds body word mark = subst (λ (w : ℕ). Allows Rule n id me w (λ _. new) (λ _. gave sort begins asks shows (step n w new 0 none) me new)) (sym is) (gives_at n id me c i b others new mine bare small near has holds body word mark)

  -- the bit of a node that c holds is set, or cleared

  in_words : (s : State (Option N) View) (r : Rule s) (i : ℕ) → i < length s.homes → free_at (length s.homes) (i / 64) < length s.words
  in_words s r i near = subst (λ (z : ℕ). free_at (length s.homes) (i / 64) < z) (sym r.wide) (bit_inside i (length s.homes) near)

  pub sets_bit_ok : (n id : ℕ) (me : Seated N) (c i : ℕ) → me.0.callers ≡ c ∷ [] → me.0.absorbed ≡ [] → me.0.mark ≡ Quiet → i < n → turn_after me.0.seen i ≡ held c
      → Allows Rule n id me (free_at n (i / 64)) (λ y. bit_or y (2 ^ (i % 64))) (λ _ m. bit_was_set sort begins asks shows (step n (free_at n (i / 64)) (2 ^ (i % 64)) 0 none) me m)
  sets_bit_ok n id me c i mine bare quiet near holds s r long at _ = let q : ℕ = i / 64 in let b : ℕ = i % 64 in let near' : i < length s.homes = subst (λ (z : ℕ). i < z) (sym long) near in let own = own_now s r id me.0 c i at mine holds in
      let y : ℕ = get_or s.words (free_at n q) 0 in let new : ℕ = bit_or y (2 ^ b) in let w : View = with_seen (marked (Freeing i) me.0) r.trace in (
        w,
        keeps,
        tt,
        subst (λ (z : ℕ). Rule record { words = set s.words (free_at z q) (bit_or (get_or s.words (free_at z q) 0) (2 ^ b)); homes = s.homes; views = set s.views id w }) long
            (let x : ℕ = get_or s.words (free_at (length s.homes) q) 0 in frees_at sort begins asks shows s r id me.0 (Freeing i) q (bit_or x (2 ^ b)) at bare
            (free_word_bits r.trace s.views id me.0 (Freeing i) (length s.homes) s.words i c (bit_or x (2 ^ b)) r.views r.bits at near' (has_one me.0.callers c mine) own.turn (unnamed me.0.mark i quiet) (λ j m. sym m) (in_words s r i near')
            (λ a low ne. bit_at_or x (2 ^ b) a ∙ ap (max (bit_at x a)) (bit_at-pow_other b a ne) ∙ (let z : max (bit_at x a) 0 ≡ bit_at x a = omega arith in z))
            (inl (bit_at_or x (2 ^ b) b ∙ ap (max (bit_at x b)) (bit_at-pow_same b) ∙ (let low = bit_at-lt x b in let z : max (bit_at x b) 1 ≡ 1 = omega arith in z), refl)))),
        λ j at' bit. let e : i ≡ j = opened_same i j n at' bit in subst (λ (z : ℕ). Looks (SoundTo n) (marked (Freeing z) me.0) w × (me.1 ≡ me.1)) e (looks_marked n s r id me.0 (Freeing i) long at, refl),
      )

  pub clears_bit_ok : (n id : ℕ) (me : Seated N) (c i : ℕ) → me.0.callers ≡ c ∷ [] → me.0.absorbed ≡ [] → me.0.mark ≡ Claiming i → i < n → turn_after me.0.seen i ≡ held c
      → Allows Rule n id me (free_at n (i / 64)) (λ y. bit_and y (bit_not w64 (1 * 2 ^ (i % 64) % 2 ^ 64))) (λ _ m. bit_was_cleared sort begins asks shows (step n (free_at n (i / 64)) (bit_not w64 (1 * 2 ^ (i % 64) % 2 ^ 64)) 0 none) me m)
  clears_bit_ok n id me c i mine bare claiming near holds s r long at _ = let q : ℕ = i / 64 in let b : ℕ = i % 64 in let near' : i < length s.homes = subst (λ (z : ℕ). i < z) (sym long) near in let own = own_now s r id me.0 c i at mine holds in
      let mask : ℕ = bit_not w64 (1 * 2 ^ b % 2 ^ 64) in let w : View = with_seen (marked Quiet me.0) r.trace in let low : b < 64 = omega arith in (
        w,
        keeps,
        tt,
        subst (λ (z : ℕ). Rule record { words = set s.words (free_at z q) (bit_and (get_or s.words (free_at z q) 0) mask); homes = s.homes; views = set s.views id w }) long
            (let x : ℕ = get_or s.words (free_at (length s.homes) q) 0 in frees_at sort begins asks shows s r id me.0 Quiet q (bit_and x mask) at bare
            (free_word_bits r.trace s.views id me.0 Quiet (length s.homes) s.words i c (bit_and x mask) r.views r.bits at near' (has_one me.0.callers c mine) own.turn (λ j m. sym (subst (λ (z : Mark). Marks z j) claiming m)) (λ j m. absurd m) (in_words s r i near')
            (λ a low' ne. bit_at_clear_other w64 x b low a low' ne)
            (inr (bit_at_clear_same w64 x b low, λ m. m)))),
        (looks_marked n s r id me.0 Quiet long at, refl),
      )

  -- a free word is read
  pub scans_ok : (n id : ℕ) (me : Seated N) (w : ℕ) → me.0.absorbed ≡ [] → Allows Rule n id me (free_at n w) (λ y. y) (scanned sort begins asks shows (step n (free_at n w) 0 0 none) me)
  scans_ok n id me w bare s r long at _ = let y : ℕ = get_or s.words (free_at n w) 0 in (
    with_seen me.0 r.trace,
    keeps,
    tt,
    looks sort begins asks shows s r id (free_at n w) me.0 at bare,
    λ c u mine quiet at'. let e : w ≡ u = free_back n w u at' in (looks_all n s r id me.0 long at, refl, subst (λ (z : ℕ). TellsFree n z c r.trace y) e (subst (λ (z : ℕ). TellsFree z w c r.trace (get_or s.words (free_at z w) 0)) long (reads_word s r id me.0 c w at mine quiet))),
  )

  count_in : (s : State (Option N) View) (r : Rule s) (k : ℕ) → k < 2 → k < length s.words
  count_in s r k low = subst (λ (z : ℕ). k < z) (sym r.wide) (count_inside k (length s.homes) low)

  now : (n : ℕ) (s : State (Option N) View) (r : Rule s) (id : ℕ) (v : View) (c : ℕ) (e : Event) → length s.homes ≡ n → get_elem? s.views id ≡ some v → v.callers ≡ c ∷ [] → May sort begins asks n c v.seen e → StepsSoundly sort begins asks (length s.homes) r.trace e
  now n s r id v c e long at mine may = subst (λ (z : ℕ). StepsSoundly sort begins asks z r.trace e) (sym long) (may r.trace (others_now s r id v c at mine) (subst (λ (z : ℕ). SoundTo z r.trace) long r.sound))

  pub decides_ok : (n id : ℕ) (me : Seated N) (c i : ℕ) (o : Op) (y : Reply) (e : Event) → e ≡ Call c i o y → me.0.callers ≡ c ∷ [] → me.0.absorbed ≡ [] → c < 2 ^ 32 → turn_after me.0.seen i ≡ held c → May sort begins asks n c me.0.seen (Call c i o y)
      → Allows Rule n id me calls_at (λ x. (x + 1) % 2 ^ 64) (decided sort begins asks shows (step n calls_at 1 0 none) e me)
  decides_ok n id me c i o y said_ said mine bare small holds may = subst (λ (z : Event). Allows Rule n id me calls_at (λ x. (x + 1) % 2 ^ 64) (decided sort begins asks shows (step n calls_at 1 0 none) z me)) (sym said) (λ s r long at _.
      let h : List Event = r.trace in let own = own_now s r id me.0 c i at mine holds in let e : Event = Call c i o y in let so = now n s r id me.0 c e long at mine may in
      let count : get_or s.words calls_at 0 ≡ number_after h = r.call_count in let x : ℕ = get_or s.words calls_at 0 in let f = r.views.each id me.0 at in (
        with_seen me.0 (e ∷ h),
        keeps,
        tt,
        counts_at sort begins asks shows s r id me.0 e calls_at ((x + 1) % 2 ^ 64) at bare (has_one me.0.callers c mine) small (omega arith) so (λ j. refl)
            (λ j. dite (ℕ_discrete j i) (λ z. inr (c, ap (turn_after h) z ∙ own.turn)) (λ z. inl (cond_else j i (state_with (written o y) (graph_after h i)) (graph_after h j) z, refl)))
            (get_or-set_same s.words calls_at ((x + 1) % 2 ^ 64) 0 (count_in s r calls_at (omega arith)) ∙ one_more (length (calls_of h)) (length (calls_of (e ∷ h))) x (a_call_more (calls_of h) record { op = o; reply = y }) count) (get_or-set_other s.words calls_at shapes_at ((x + 1) % 2 ^ 64) 0 (λ z. omega arith) ∙ r.shape_count),
        (makes_one n s r id me.0 e long at (has_one me.0.callers c mine) so, refl, count ∙ ap number_after f.is),
      ))

  -- the same of a call at two nodes, both held
  pub twin_ok : (n id : ℕ) (me : Seated N) (c i m : ℕ) (o : Op) (y : Reply) (e : Event) → e ≡ Twin c i m o y → me.0.callers ≡ c ∷ [] → me.0.absorbed ≡ [] → c < 2 ^ 32 → turn_after me.0.seen i ≡ held c → turn_after me.0.seen m ≡ held c → May sort begins asks n c me.0.seen (Twin c i m o y)
      → Allows Rule n id me calls_at (λ x. (x + 1) % 2 ^ 64) (decided sort begins asks shows (step n calls_at 1 0 none) e me)
  twin_ok n id me c i m o y said_ said mine bare small holds also may = subst (λ (z : Event). Allows Rule n id me calls_at (λ x. (x + 1) % 2 ^ 64) (decided sort begins asks shows (step n calls_at 1 0 none) z me)) (sym said) (λ s r long at _.
      let h : List Event = r.trace in let own = own_now s r id me.0 c i at mine holds in let other = own_now s r id me.0 c m at mine also in let e : Event = Twin c i m o y in let so = now n s r id me.0 c e long at mine may in
      let count : get_or s.words calls_at 0 ≡ number_after h = r.call_count in let x : ℕ = get_or s.words calls_at 0 in let f = r.views.each id me.0 at in (
        with_seen me.0 (e ∷ h),
        keeps,
        tt,
        counts_at sort begins asks shows s r id me.0 e calls_at ((x + 1) % 2 ^ 64) at bare (has_one me.0.callers c mine) small (omega arith) so (λ j. refl)
            (λ j. dite (ℕ_discrete j i) (λ z. inr (c, ap (turn_after h) z ∙ own.turn)) (λ z. dite (ℕ_discrete j m) (λ w. inr (c, ap (turn_after h) w ∙ other.turn)) (λ w. inl (twice_else (taken_out (written o y)) (put_in (written o y)) i m (graph_after h) j z w, refl))))
            (get_or-set_same s.words calls_at ((x + 1) % 2 ^ 64) 0 (count_in s r calls_at (omega arith)) ∙ one_more (length (calls_of h)) (length (calls_of (e ∷ h))) x (a_call_more (calls_of h) record { op = o; reply = y }) count) (get_or-set_other s.words calls_at shapes_at ((x + 1) % 2 ^ 64) 0 (λ z. omega arith) ∙ r.shape_count),
        (makes_one n s r id me.0 e long at (has_one me.0.callers c mine) so, refl, count ∙ ap number_after f.is),
      ))

  shaped_or : (h : List Event) (c : ℕ) (xs : List Change) (i : ℕ) (t : NodeState) (f : Frame) → All (λ x. turn_after h x.node ≡ held c) xs → ((shaped xs i t ≡ t) × (reframed xs i f ≡ f)) ⊎ ((d : ℕ) × (turn_after h i ≡ held d))
  shaped_or h c [] i t f so = inl (refl, refl)
  shaped_or h c (x ∷ xs) i t f so = dite (ℕ_discrete i x.node) (λ e. inr (c, ap (turn_after h) e ∙ All-head (λ (y : Change). turn_after h y.node ≡ held c) x xs so))
      (λ ne. ⊎_elim (λ a. inl (cond_else i x.node (new_state x.state) (shaped xs i t) ne ∙ a.0, cond_else i x.node (new_frame x.state f) (reframed xs i f) ne ∙ a.1)) (λ a. inr a) (shaped_or h c xs i t f (All-tail (λ (y : Change). turn_after h y.node ≡ held c) x xs so)))

  pub forms_ok : (n id : ℕ) (me : Seated N) (c : ℕ) (xs : List Change) (e : Event) → e ≡ Shape c xs → me.0.callers ≡ c ∷ [] → me.0.absorbed ≡ [] → c < 2 ^ 32 → May sort begins asks n c me.0.seen (Shape c xs) → Allows Rule n id me shapes_at (λ x. (x + 1) % 2 ^ 64) (λ _ m. formed sort begins asks shows (step n shapes_at 1 0 none) e me m)
  forms_ok n id me c xs said_ said mine bare small may = subst (λ (z : Event). Allows Rule n id me shapes_at (λ x. (x + 1) % 2 ^ 64) (λ _ m. formed sort begins asks shows (step n shapes_at 1 0 none) z me m)) (sym said) (λ s r long at _.
      let h : List Event = r.trace in let e : Event = Shape c xs in let so = now n s r id me.0 c e long at mine may in
      let count : get_or s.words shapes_at 0 ≡ shapes_in h % 2 ^ 64 = r.shape_count in let x : ℕ = get_or s.words shapes_at 0 in (
        with_seen me.0 (e ∷ h),
        keeps,
        tt,
        counts_at sort begins asks shows s r id me.0 e shapes_at ((x + 1) % 2 ^ 64) at bare (has_one me.0.callers c mine) small (omega arith) so (λ j. refl) (λ j. shaped_or h c xs j (graph_after h j) (frame_after (blank_of sort) h j) so.0)
            (get_or-set_other s.words shapes_at calls_at ((x + 1) % 2 ^ 64) 0 (λ z. omega arith) ∙ r.call_count) (get_or-set_same s.words shapes_at ((x + 1) % 2 ^ 64) 0 (count_in s r shapes_at (omega arith)) ∙ one_more (shapes_in h) (shapes_in (e ∷ h)) x refl count),
        (makes_one n s r id me.0 e long at (has_one me.0.callers c mine) so, refl),
      ))
