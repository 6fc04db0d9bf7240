-- Four kinds of step keep the rule: on the turn word of a node, on a free word, on a counting word, and one that changes no word.
use Rattle.std.proofs.Common.{◌≡◌, ◌≢◌, ℕ, ◌%◌, ◌^◌, ◌<◌, ◌⊎◌, List, [], ◌∷◌, length, get_or, set, sym, refl, ap, ◌∙◌, subst, inl, inr, arith, length-set, get_or-set_other, get_or-set_same}
use Rattle.std.specs.Prelude.{Option}
use Rattle.std.proofs.lemmas.List.{set-get_or}
use mathlib.Core.Option.{none, some, some-injective, some-ne-none}
use mathlib.Core.Option as maybe
use mathlib.Core.Logic.{dite}
use native.Mathlib.Decide.{ℕ_discrete}
use lib.ListN.{get_elem?}
use Rattle.atomic_table.specs.Table.{State}
use Rattle.atomic_table.proofs.Lists.{set_here, set_else}
use Rattle.ks_keysets.specs.declared.NodeState.{NodeState}
use Rattle.ks_keysets.specs.declared.Frame.{Frame}
use Rattle.ks_keysets.specs.declared.Change.{Change}
use Rattle.ks_history.specs.declared.Event.{Event}
use Rattle.ks_history.specs.Trace.{Turn, held, graph_after, turn_after, number_after, caller_of}
use Rattle.ks_history.specs.Frames.{frame_after}
use Rattle.ks_history.specs.Own.{shapes_in}
use Rattle.ks_history.specs.Passes.{Has}
use Rattle.ks_arena.specs.declared.view.Mark.{Mark}
use Rattle.ks_arena.specs.declared.view.View.{View}
use Rattle.ks_node.specs.Body.{Body}
use Rattle.ks_arena.specs.Sound.{Sort, blank_of, Sound, StepsSoundly}
use Rattle.ks_arena.specs.Spots.{calls_at, shapes_at, turn_at, free_at, words_for}
use Rattle.ks_arena.specs.Rule.{Rests, Running, turn_word, callers_in, FreeBits}
use Rattle.ks_arena.specs.Plays.{with_seen, marked}
use Rattle.ks_arena.proofs.Apart.{turns_apart, count_no_turn, count_no_free, turn_no_free, turn_inside}
use Rattle.ks_arena.proofs.Seen.{grows, grows_to, has_left, all_own}
use Rattle.ks_arena.proofs.Bits.{inside, bits_words, bits_view}

pub has_one : (cs : List ℕ) (c : ℕ) → cs ≡ c ∷ [] → Has cs c
has_one cs c e = subst (λ (z : List ℕ). Has z c) (sym e) (inl refl)

module _ {N : Type 0} (sort : Sort) (begins : Frame → Type 0) (asks : (ℕ → NodeState) → (ℕ → Frame) → List Change → Type 0) (shows : N → Body) where
  -- no event, no word and no slot changes
  pub looks : (s : State (Option N) View) (r : Running sort begins asks shows s) (id k : ℕ) (v : View) → get_elem? s.views id ≡ some v → v.absorbed ≡ []
      → Running sort begins asks shows record { words = set s.words k (get_or s.words k 0); homes = s.homes; views = set s.views id (with_seen v r.trace) }
  looks s r id k v at bare = subst (λ (ws : List ℕ). Running sort begins asks shows record { words = ws; homes = s.homes; views = set s.views id (with_seen v r.trace) }) (sym (set-get_or s.words k 0)) record {
    trace = r.trace;
    views = grows r.trace [] s.views id v r.views at bare tt (inside s.views id v at);
    sound = r.sound;
    few = r.few;
    wide = r.wide;
    call_count = r.call_count;
    shape_count = r.shape_count;
    turns = r.turns;
    bits = bits_view r.trace s.views id v (with_seen v r.trace) (length s.homes) s.words at refl (λ i c m has. has) r.bits;
    homes = r.homes;
  }

  -- the event e changes the turn, the state or the frame of node i only
  abbrev pub Alone : Event → List Event → ℕ → Type 0
  Alone e h i = (j : ℕ) → j ≢ i → (turn_after (e ∷ h) j ≡ turn_after h j) × (graph_after (e ∷ h) j ≡ graph_after h j) × (frame_after (blank_of sort) (e ∷ h) j ≡ frame_after (blank_of sort) h j)

  -- what rests in the slot of node i after the trace h
  abbrev pub RestsAt : List Event → ℕ → maybe.Option (maybe.Option (Option N)) → Type 0
  RestsAt h i x = Rests sort shows (graph_after h i) (frame_after (blank_of sort) h i) (turn_after h i) x

  -- one event on the turn word of node i, and the mark that the view has then
  pub turns_at : (s : State (Option N) View) (r : Running sort begins asks shows s) (id : ℕ) (v : View) (k : Mark) (e : Event) (i new : ℕ) (h : maybe.Option (Option N)) → get_elem? s.views id ≡ some v → v.absorbed ≡ [] → Has v.callers (caller_of e) → caller_of e < 2 ^ 32 → i < length s.homes
      → StepsSoundly sort begins asks (length s.homes) r.trace e → number_after (e ∷ r.trace) ≡ number_after r.trace → shapes_in (e ∷ r.trace) ≡ shapes_in r.trace → Alone e r.trace i
      → new ≡ turn_word (turn_after (e ∷ r.trace) i) → RestsAt (e ∷ r.trace) i (some h) → FreeBits (e ∷ r.trace) (set s.views id (with_seen (marked k v) (e ∷ r.trace))) (length s.homes) (set s.words (turn_at i) new)
      → Running sort begins asks shows record { words = set s.words (turn_at i) new; homes = set s.homes i h; views = set s.views id (with_seen (marked k v) (e ∷ r.trace)) }
  turns_at s r id v k e i new h at bare mine small near may c₀ c₁ alone word rests bits = let same : length (set s.homes i h) ≡ length s.homes = length-set s.homes i h in record {
    trace = e ∷ r.trace;
    views = grows_to r.trace (e ∷ []) s.views id v v.callers k r.views at (λ c a. has_left v.callers (callers_in v.absorbed) c a) (all_own v bare) (mine, tt) (inside s.views id v at);
    sound = subst (λ (z : ℕ). Sound sort begins asks z (e ∷ r.trace)) (sym same) (r.sound, may);
    few = (small, r.few);
    wide = length-set s.words (turn_at i) new ∙ r.wide ∙ ap words_for (sym same);
    call_count = get_or-set_other s.words (turn_at i) calls_at new 0 (count_no_turn calls_at i (omega arith)) ∙ r.call_count ∙ sym c₀;
    shape_count = get_or-set_other s.words (turn_at i) shapes_at new 0 (count_no_turn shapes_at i (omega arith)) ∙ r.shape_count ∙ ap (λ (z : ℕ). z % 2 ^ 64) (sym c₁);
    turns = λ j close. let close' : j < length s.homes = subst (λ (z : ℕ). j < z) same close in dite (ℕ_discrete j i)
        (λ x. ap (λ (z : ℕ). get_or (set s.words (turn_at i) new) (turn_at z) 0) x ∙ get_or-set_same s.words (turn_at i) new 0 (subst (λ (z : ℕ). turn_at i < z) (sym r.wide) (turn_inside i (length s.homes) near)) ∙ word ∙ ap (λ (z : ℕ). turn_word (turn_after (e ∷ r.trace) z)) (sym x))
        (λ x. get_or-set_other s.words (turn_at i) (turn_at j) new 0 (turns_apart i j x) ∙ r.turns j close' ∙ ap turn_word (sym (alone j x).0));
    bits = subst (λ (z : ℕ). FreeBits (e ∷ r.trace) (set s.views id (with_seen (marked k v) (e ∷ r.trace))) z (set s.words (turn_at i) new)) (sym same) bits;
    homes = λ j close. let close' : j < length s.homes = subst (λ (z : ℕ). j < z) same close in dite (ℕ_discrete j i)
        (λ x. subst (λ (z : ℕ). RestsAt (e ∷ r.trace) z (get_elem? (set s.homes i h) z)) (sym x) (subst (RestsAt (e ∷ r.trace) i) (sym (set_here s.homes i h near)) rests))
        (λ x. let so = alone j x in subst (λ (z : NodeState × Frame × Turn × maybe.Option (maybe.Option (Option N))). Rests sort shows z.0 z.1 z.2 z.3) (λ k. (sym so.1 k, sym so.2 k, sym so.0 k, sym (set_else s.homes i j h x) k)) (r.homes j close'));
  }

  -- no event; the free word k and the mark change
  pub frees_at : (s : State (Option N) View) (r : Running sort begins asks shows s) (id : ℕ) (v : View) (k : Mark) (w new : ℕ) → get_elem? s.views id ≡ some v → v.absorbed ≡ []
      → FreeBits r.trace (set s.views id (with_seen (marked k v) r.trace)) (length s.homes) (set s.words (free_at (length s.homes) w) new)
      → Running sort begins asks shows record { words = set s.words (free_at (length s.homes) w) new; homes = s.homes; views = set s.views id (with_seen (marked k v) r.trace) }
  frees_at s r id v k w new at bare bits = let n : ℕ = length s.homes in record {
    trace = r.trace;
    views = grows_to r.trace [] s.views id v v.callers k r.views at (λ c a. has_left v.callers (callers_in v.absorbed) c a) (all_own v bare) tt (inside s.views id v at);
    sound = r.sound;
    few = r.few;
    wide = length-set s.words (free_at n w) new ∙ r.wide;
    call_count = get_or-set_other s.words (free_at n w) calls_at new 0 (count_no_free calls_at n w (omega arith)) ∙ r.call_count;
    shape_count = get_or-set_other s.words (free_at n w) shapes_at new 0 (count_no_free shapes_at n w (omega arith)) ∙ r.shape_count;
    turns = λ j close. get_or-set_other s.words (free_at n w) (turn_at j) new 0 (turn_no_free j n w close) ∙ r.turns j close;
    bits = bits;
    homes = r.homes;
  }

  -- the event e leaves the state and the frame of node j, or the node is held
  abbrev pub Leaves : Event → List Event → ℕ → Type 0
  Leaves e h j = ((graph_after (e ∷ h) j ≡ graph_after h j) × (frame_after (blank_of sort) (e ∷ h) j ≡ frame_after (blank_of sort) h j)) ⊎ ((c : ℕ) × (turn_after h j ≡ held c))

  rests_on : (a b : NodeState) (f g : Frame) (t u : Turn) (x : maybe.Option (maybe.Option (Option N))) → u ≡ t → ((b ≡ a) × (g ≡ f)) ⊎ ((c : ℕ) × (t ≡ held c)) → Rests sort shows a f t x → Rests sort shows b g u x
  rests_on a b f g t u x same (inl e) so = subst (λ (z : NodeState × Frame × Turn). Rests sort shows z.0 z.1 z.2 x) (λ k. (sym e.0 k, sym e.1 k, sym same k)) so
  rests_on a b f g t u x same (inr h) so = subst (λ (z : Turn). Rests sort shows b g z x) (sym (same ∙ h.1)) (subst (λ (z : Turn). Rests sort shows a f z x) h.1 so)

  -- one event on the counting word k, which changes only nodes that are held
  pub counts_at : (s : State (Option N) View) (r : Running sort begins asks shows s) (id : ℕ) (v : View) (e : Event) (k new : ℕ) → get_elem? s.views id ≡ some v → v.absorbed ≡ [] → Has v.callers (caller_of e) → caller_of e < 2 ^ 32 → k < 2
      → StepsSoundly sort begins asks (length s.homes) r.trace e → ((j : ℕ) → turn_after (e ∷ r.trace) j ≡ turn_after r.trace j) → ((j : ℕ) → Leaves e r.trace j)
      → get_or (set s.words k new) calls_at 0 ≡ number_after (e ∷ r.trace) → get_or (set s.words k new) shapes_at 0 ≡ shapes_in (e ∷ r.trace) % 2 ^ 64
      → Running sort begins asks shows record { words = set s.words k new; homes = s.homes; views = set s.views id (with_seen v (e ∷ r.trace)) }
  counts_at s r id v e k new at bare mine small low may same kept c₀ c₁ = record {
    trace = e ∷ r.trace;
    views = grows r.trace (e ∷ []) s.views id v r.views at bare (mine, tt) (inside s.views id v at);
    sound = (r.sound, may);
    few = (small, r.few);
    wide = length-set s.words k new ∙ r.wide;
    call_count = c₀;
    shape_count = c₁;
    turns = λ j close. get_or-set_other s.words k (turn_at j) new 0 (λ y. count_no_turn k j low (sym y)) ∙ r.turns j close ∙ ap turn_word (sym (same j));
    bits = let w : View = with_seen v (e ∷ r.trace) in let n : ℕ = length s.homes in bits_view (e ∷ r.trace) s.views id v w n (set s.words k new) at refl (λ i c m has. has)
        (bits_words r.trace (e ∷ r.trace) s.views n s.words (set s.words k new) (λ x. get_or-set_other s.words k (free_at n x) new 0 (λ y. count_no_free k n x low (sym y))) same r.bits);
    homes = λ j close. rests_on (graph_after r.trace j) (graph_after (e ∷ r.trace) j) (frame_after (blank_of sort) r.trace j) (frame_after (blank_of sort) (e ∷ r.trace) j) (turn_after r.trace j) (turn_after (e ∷ r.trace) j) (get_elem? s.homes j) (same j) (kept j) (r.homes j close);
  }
