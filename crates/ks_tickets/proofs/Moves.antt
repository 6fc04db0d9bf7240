-- What each step requires and ensures.
use Rattle.std.proofs.Common.{zero, suc, ◌≡◌, ◌≢◌, ℕ, ◌+◌, ◌%◌, ◌^◌, ◌<◌, ◌≤◌, ◌⊎◌, List, [], ◌∷◌, ◌++◌, length, get_or, map, set, sym, refl, ap, ◌∙◌, subst, inl, inr, ⊎_elim, arith, length-set, get_or-set_other, get_or-set_same}
use Rattle.std.specs.Prelude.{Option, Some}
use mathlib.Core.Option.{none, some, some-injective, some-ne-none}
use mathlib.Core.Option as maybe
use mathlib.Core.Logic.{dite}
use native.Mathlib.Decide.{ℕ_discrete}
use Rattle.std.proofs.Math.Decide.{dec_lt}
use lib.ListN.{get_elem?}
use Rattle.atomic_table.specs.Table.{State, keeps, takes, gives, Allows, Splits, Joins, step, put_back, rest, opening, Final, Seen}
use Rattle.atomic_table.proofs.Lists.{at_set, set_here, set_else, at_snoc, at_map}
use Rattle.ks_tickets.specs.declared.view.View.{View}
use Rattle.ks_tickets.specs.Rule.{total, times, drawn_times, held_times, Fits, Waiting, AtDesk, Done, Stage, Running, Numbered, first_view, maker_view, next_view, both_views, spent_view, drew, stopped, cleared}
use Rattle.ks_tickets.specs.Plays.{Seated, drawn, closed}
use Rattle.ks_tickets.proofs.Numbers.{moved_numbers, split_numbers, join_numbers, first_numbers}
use Rattle.ks_tickets.proofs.Totals.{total_set, term_le, all_in_one, times_here, times_else, times_append, none_times, two_terms, one_gone}

-- how often t is in lists of the views, once one view has become another
same_drawn : (vs : List View) (id : ℕ) (v w : View) (t : ℕ) → get_elem? vs id ≡ some v → times t w.drawn ≡ times t v.drawn → drawn_times t (set vs id w) ≡ drawn_times t vs
same_drawn vs id v w t at e = let s = total_set (λ (u : View). times t u.drawn) vs id v w at in omega arith

same_held : (vs : List View) (id : ℕ) (v w : View) (t : ℕ) → get_elem? vs id ≡ some v → times t w.held ≡ times t v.held → held_times t (set vs id w) ≡ held_times t vs
same_held vs id v w t at e = let s = total_set (λ (u : View). times t u.held) vs id v w at in omega arith

later_fits : (n w w' : ℕ) (v : View) → w ≤ w' → Fits n w v → Fits n w' v
later_fits n w w' v le so = record { ended = so.ended; past = λ z. (let p = so.past z in omega arith); known = (let p = so.known in omega arith); among = so.among; spent = so.spent }

-- fewer desks have ended than there are parts, if one with a part has not
ends_below : (vs : List View) → ((j : ℕ) (v : View) → get_elem? vs j ≡ some v → v.ended ≤ v.parts) → total (λ v. v.ended) vs ≤ total (λ v. v.parts) vs
ends_below [] so = omega arith
ends_below (x ∷ xs) so = let a : x.ended ≤ x.parts = so 0 x refl in let b = ends_below xs (λ j v at. so (suc j) v at) in omega arith

ends_less : (vs : List View) (id : ℕ) (v : View) → ((j : ℕ) (u : View) → get_elem? vs j ≡ some u → u.ended ≤ u.parts) → get_elem? vs id ≡ some v → v.ended < v.parts → total (λ u. u.ended) vs < total (λ u. u.parts) vs
ends_less [] id v so at less = absurd (some-ne-none v (sym at))
ends_less (x ∷ xs) zero v so at less = let e = some-injective x v at in let a : x.ended < x.parts = subst (λ (z : View). z.ended < z.parts) (sym e) less in let b = ends_below xs (λ j u there. so (suc j) u there) in omega arith
ends_less (x ∷ xs) (suc id) v so at less = let a : x.ended ≤ x.parts = so 0 x refl in let b = ends_less xs id v (λ j u there. so (suc j) u there) at less in omega arith

ends_few : (vs : List View) (id : ℕ) (v : View) (n w : ℕ) → ((j : ℕ) (u : View) → get_elem? vs j ≡ some u → Fits n w u) → get_elem? vs id ≡ some v → 0 < v.parts → v.ended ≡ 0 → total (λ u. u.ended) vs + 1 ≤ total (λ u. u.parts) vs
ends_few vs id v n w so at part goes = let l = ends_less vs id v (λ j u there. (so j u there).ended) at (omega arith) in omega arith

first_fits : (n w j : ℕ) (v : View) → get_elem? (first_view ∷ []) j ≡ some v → Fits n w v
first_fits n w zero v e = subst (Fits n w) (some-injective first_view v e) record { ended = (omega arith); past = λ z. absurd (z refl); known = (omega arith); among = λ t. omega arith; spent = λ z. refl }
first_fits n w (suc j) v e = absurd (some-ne-none v (sym e))

module _ {J : Type 0} (waits finished : J → ℕ → Type 0) where
  abbrev Rule : State (Option J) View → Type 0
  Rule = Running waits finished

  -- a ticket that is not i, once ticket i has been drawn or finished
  other_stage : (t i w w' f : ℕ) (x : maybe.Option (maybe.Option (Option J))) (d h : ℕ) → w ≤ w' → (w' ≤ t ⊎ (t < w ⊎ w ≡ w')) → Stage waits finished t w f x d h → Stage waits finished t w' f x d h
  other_stage t i w w' f x d h le far (inl so) = inl record { later = (let p = so.later in ⊎_elim (λ a. a) (λ b. ⊎_elim (λ c. absurd (omega arith)) (λ c. omega arith) b) far); word_is = so.word_is; no_desk = so.no_desk; closed = so.closed; job = so.job; home = so.home; is_waiting = so.is_waiting }
  other_stage t i w w' f x d h le far (inr (inl so)) = inr (inl record { before = (let p = so.before in omega arith); word_is = so.word_is; one_desk = so.one_desk; open_there = so.open_there; out = so.out })
  other_stage t i w w' f x d h le far (inr (inr so)) = inr (inr record { before = (let p = so.before in omega arith); word_is = so.word_is; one_desk = so.one_desk; closed = so.closed; job = so.job; home = so.home; is_finished = so.is_finished })

  -- the stage of a ticket that was not drawn
  is_waiting : (t w f : ℕ) (x : maybe.Option (maybe.Option (Option J))) (d h : ℕ) → w ≤ t → Stage waits finished t w f x d h → Waiting waits finished t w f x d h
  is_waiting t w f x d h le (inl so) = so
  is_waiting t w f x d h le (inr (inl so)) = absurd (let p = so.before in omega arith)
  is_waiting t w f x d h le (inr (inr so)) = absurd (let p = so.before in omega arith)

  -- the stage of a ticket that is open somewhere
  is_open : (t w f : ℕ) (x : maybe.Option (maybe.Option (Option J))) (d h : ℕ) → 0 < h → Stage waits finished t w f x d h → AtDesk waits finished t w f x d h
  is_open t w f x d h some_desk (inl so) = absurd (let p = so.closed in omega arith)
  is_open t w f x d h some_desk (inr (inl so)) = so
  is_open t w f x d h some_desk (inr (inr so)) = absurd (let p = so.closed in omega arith)

  -- the stage of a drawn ticket that is open nowhere
  is_done : (t w f : ℕ) (x : maybe.Option (maybe.Option (Option J))) (d h : ℕ) → t < w → h ≡ 0 → Stage waits finished t w f x d h → Done waits finished t w f x d h
  is_done t w f x d h before none_held (inl so) = absurd (let p = so.later in omega arith)
  is_done t w f x d h before none_held (inr (inl so)) = absurd (let p = so.open_there in omega arith)
  is_done t w f x d h before none_held (inr (inr so)) = so

  -- only one view, one word and the slot of ticket i have changed
  record Moved (s : State (Option J) View) (id : ℕ) (v u : View) (i : ℕ) (s' : State (Option J) View) : Type 0 where
    pub views : s'.views ≡ set s.views id u
    pub wide : length s'.words ≡ length s.words
    pub long : length s'.homes ≡ length s.homes
    pub later : get_or s.words 0 0 ≤ get_or s'.words 0 0
    pub parts : u.parts ≡ v.parts
    pub made : u.made ≡ v.made
    pub desks : u.desks ≡ v.desks
    pub count : get_or s'.words 0 0 ≤ length s.homes + total (λ x. x.ended) (set s.views id u)
    pub fits : Fits (length s.homes) (get_or s'.words 0 0) u
    pub drawn : (t : ℕ) → t ≢ i → times t u.drawn ≡ times t v.drawn
    pub held : (t : ℕ) → t ≢ i → times t u.held ≡ times t v.held
    pub flags : (t : ℕ) → t ≢ i → get_or s'.words (t + 1) 0 ≡ get_or s.words (t + 1) 0
    pub homes : (t : ℕ) → t ≢ i → get_elem? s'.homes t ≡ get_elem? s.homes t
    pub far : (t : ℕ) → t ≢ i → t < length s.homes → (get_or s'.words 0 0 ≤ t) ⊎ ((t < get_or s.words 0 0) ⊎ (get_or s.words 0 0 ≡ get_or s'.words 0 0))
    pub here : i < length s.homes → Stage waits finished i (get_or s'.words 0 0) (get_or s'.words (i + 1) 0) (get_elem? s'.homes i) (drawn_times i (set s.views id u)) (held_times i (set s.views id u))
    pub out : length s.homes ≤ i → (times i u.drawn ≡ times i v.drawn) × (times i u.held ≡ times i v.held)

  moved : (s : State (Option J) View) (id : ℕ) (v u : View) (i : ℕ) (s' : State (Option J) View) → Rule s → get_elem? s.views id ≡ some v → Moved s id v u i s' → Rule s'
  moved s id v u i s' r at m = let n : ℕ = length s.homes in let w : ℕ = get_or s.words 0 0 in let w' : ℕ = get_or s'.words 0 0 in let vs : List View = set s.views id u in
      let eq = m.views in let long = m.long in record {
        wide = m.wide ∙ r.wide ∙ ap (λ (z : ℕ). z + 1) (sym long);
        few = subst (λ (z : ℕ). z < 2 ^ 32) (sym long) r.few;
        parts = ap (total (λ (x : View). x.parts)) eq ∙ (let a = total_set (λ (x : View). x.parts) s.views id v u at in let b = r.parts in let c = m.parts in let g : total (λ (x : View). x.parts) vs ≡ 64 = omega arith in g);
        numbers = subst Numbered (sym eq) (moved_numbers s.views id v u at m.made m.desks r.numbers);
        count = subst (λ (z : ℕ × List View). w' ≤ z.0 + total (λ (x : View). x.ended) z.1) (λ k. (sym long k, sym eq k)) m.count;
        each = λ j x e. subst (λ (z : ℕ). Fits z w' x) (sym long) (⊎_elim (λ a. subst (Fits n w') a.1 m.fits) (λ a. later_fits n w w' x m.later (r.each j x a.1)) (at_set s.views id j u x (sym (ap (λ (z : List View). get_elem? z j) eq) ∙ e)));
        tickets = λ t near. let near' : t < n = subst (λ (z : ℕ). t < z) long near in subst (λ (z : List View). Stage waits finished t w' (get_or s'.words (t + 1) 0) (get_elem? s'.homes t) (drawn_times t z) (held_times t z)) (sym eq)
            (dite (ℕ_discrete t i)
            (λ e. subst (λ (z : ℕ). Stage waits finished z w' (get_or s'.words (z + 1) 0) (get_elem? s'.homes z) (drawn_times z vs) (held_times z vs)) (sym e) (m.here (subst (λ (z : ℕ). z < n) e near')))
            (λ ne. subst (λ (z : (ℕ × ℕ × ℕ) × maybe.Option (maybe.Option (Option J))). Stage waits finished t w' z.0.0 z.1 z.0.1 z.0.2) (λ k. ((sym (m.flags t ne) k, sym (same_drawn s.views id v u t at (m.drawn t ne)) k, sym (same_held s.views id v u t at (m.held t ne)) k), sym (m.homes t ne) k))
            (other_stage t i w w' (get_or s.words (t + 1) 0) (get_elem? s.homes t) (drawn_times t s.views) (held_times t s.views) m.later (m.far t ne near') (r.tickets t near'))));
        beyond = λ t away. let away' : n ≤ t = subst (λ (z : ℕ). z ≤ t) long away in let both : (times t u.drawn ≡ times t v.drawn) × (times t u.held ≡ times t v.held) = dite (ℕ_discrete t i) (λ e. subst (λ (z : ℕ). (times z u.drawn ≡ times z v.drawn) × (times z u.held ≡ times z v.held)) (sym e) (m.out (subst (λ (z : ℕ). n ≤ z) e away'))) (λ ne. (m.drawn t ne, m.held t ne)) in
            let old = r.beyond t away' in subst (λ (z : List View). (drawn_times t z ≡ 0) × (held_times t z ≡ 0)) (sym eq) (same_drawn s.views id v u t at both.0 ∙ old.0, same_held s.views id v u t at both.1 ∙ old.1);
      }

  abbrev Slot : Type 0
  Slot = maybe.Option (maybe.Option (Option J))

  -- a draw
  pub draws_ok : (n id : ℕ) (me : Seated J) → 0 < me.0.parts → me.0.ended ≡ 0 → me.0.held ≡ [] → Allows Rule n id me 0 (λ x. (x + 1) % 2 ^ 64) (drawn waits (step n 0 1 0 none) me)
  draws_ok n id me part goes empty s r long at _ = let v : View = me.0 in let w : ℕ = get_or s.words 0 0 in let m : ℕ = length s.homes in let b = r.each id v at in
      let total_parts : ℕ = total (λ (x : View). x.parts) s.views in let total_ended : ℕ = total (λ (x : View). x.ended) s.views in
      let bound : total_ended + 1 ≤ 64 = (let e = ends_few s.views id v m w r.each at part goes in let p = r.parts in omega arith) in
      let low : (w + 1) % 2 ^ 64 ≡ w + 1 = (let c = r.count in let f = r.few in omega arith) in
      let wide : 0 < length s.words = (let p = r.wide in omega arith) in
      let word : get_or (set s.words 0 ((w + 1) % 2 ^ 64)) 0 0 ≡ w + 1 = get_or-set_same s.words 0 ((w + 1) % 2 ^ 64) 0 wide ∙ low in
      dite (dec_lt w m)
      (λ hit. let so = is_waiting w w (get_or s.words (w + 1) 0) (get_elem? s.homes w) (drawn_times w s.views) (held_times w s.views) (omega arith) (r.tickets w hit) in
      let u : View = drew w v in (
        u,
        takes w (Some so.job),
        so.home,
        moved s id v u w record { words = set s.words 0 ((w + 1) % 2 ^ 64); homes = set s.homes w none; views = set s.views id u } r at record {
          views = refl;
          wide = length-set s.words 0 ((w + 1) % 2 ^ 64);
          long = length-set s.homes w none;
          later = (let p = word in omega arith);
          parts = refl;
          made = refl;
          desks = refl;
          count = (let p = word in omega arith);
          fits = record { ended = b.ended; past = λ z. absurd (z goes); known = (let p = word in omega arith); among = λ t. dite (ℕ_discrete t w) (λ e. subst (λ (z : ℕ). times z (w ∷ v.held) ≤ times z (w ∷ v.drawn)) (sym e) (let p = times_here w v.held in let q = times_here w v.drawn in let o = b.among w in omega arith)) (λ ne. let p = times_else t w v.held ne in let q = times_else t w v.drawn ne in let o = b.among t in omega arith); spent = λ z. absurd (omega arith) };
          drawn = λ t ne. times_else t w v.drawn ne;
          held = λ t ne. times_else t w v.held ne;
          flags = λ t ne. get_or-set_other s.words 0 (t + 1) ((w + 1) % 2 ^ 64) 0 (λ e. omega arith);
          homes = λ t ne. set_else s.homes w t none ne;
          far = λ t ne near. dite (dec_lt t w) (λ a. inr (inl a)) (λ a. inl (let p = word in omega arith));
          here = λ near. inr (inl record {
            before = (let p = word in omega arith);
            word_is = get_or-set_other s.words 0 (w + 1) ((w + 1) % 2 ^ 64) 0 (λ e. omega arith) ∙ so.word_is;
            one_desk = (let a = total_set (λ (x : View). times w x.drawn) s.views id v u at in let p = times_here w v.drawn in let z = so.no_desk in omega arith);
            open_there = (let a = total_set (λ (x : View). times w x.held) s.views id v u at in let p = times_here w v.held in let z = so.closed in omega arith);
            out = set_here s.homes w none hit;
          });
          out = λ away. absurd (omega arith);
        },
        record { known = b.known; hit = λ _. record { view = refl; job = so.job; slots = refl; is_waiting = so.is_waiting }; miss = λ no. absurd (let e = long in omega arith) },
      ))
      (λ past. let u : View = stopped w v in (
        u,
        keeps,
        tt,
        moved s id v u w record { words = set s.words 0 ((w + 1) % 2 ^ 64); homes = s.homes; views = set s.views id u } r at record {
          views = refl;
          wide = length-set s.words 0 ((w + 1) % 2 ^ 64);
          long = refl;
          later = (let p = word in omega arith);
          parts = refl;
          made = refl;
          desks = refl;
          count = (let p = word in let c = r.count in let a = total_set (λ (x : View). x.ended) s.views id v u at in omega arith);
          fits = record { ended = (let g = goes in omega arith); past = λ z. (let p = word in omega arith); known = (let p = word in omega arith); among = b.among; spent = b.spent };
          drawn = λ t ne. refl;
          held = λ t ne. refl;
          flags = λ t ne. get_or-set_other s.words 0 (t + 1) ((w + 1) % 2 ^ 64) 0 (λ e. omega arith);
          homes = λ t ne. refl;
          far = λ t ne near. inr (inl (omega arith));
          here = λ near. absurd (omega arith);
          out = λ away. (refl, refl);
        },
        record { known = b.known; hit = λ yes. absurd (let e = long in omega arith); miss = λ _. (refl, refl) },
      ))

  -- the open ticket is finished
  pub finishes_ok : (n id : ℕ) (me : Seated J) (k : ℕ) (b : J) → me.0.held ≡ k ∷ [] → me.1 ≡ (k, Some b) ∷ [] → finished b k → Allows Rule n id me (k + 1) (λ _. 1) (λ _. closed (step n (k + 1) 1 0 none) me 1)
  finishes_ok n id me k b opened slot fin s r long at _ = let v : View = me.0 in let w : ℕ = get_or s.words 0 0 in let m : ℕ = length s.homes in let f = r.each id v at in let u : View = cleared v in
      let one : times k v.held ≡ 1 = ap (times k) opened ∙ times_here k [] in
      let some_desk : 0 < held_times k s.views = (let a = term_le (λ (x : View). times k x.held) s.views id v at in omega arith) in
      let near : k < m = dite (dec_lt k m) (λ a. a) (λ a. let z = (r.beyond k (omega arith)).1 in absurd (omega arith)) in
      let so = is_open k w (get_or s.words (k + 1) 0) (get_elem? s.homes k) (drawn_times k s.views) (held_times k s.views) some_desk (r.tickets k near) in
      let same : get_or (set s.words (k + 1) 1) 0 0 ≡ w = get_or-set_other s.words (k + 1) 0 1 0 (λ e. omega arith) in
      let inside : k + 1 < length s.words = (let p = r.wide in omega arith) in (
        u,
        gives,
        tt,
        subst (λ (z : List (ℕ × Option J)). Rule record { words = set s.words (k + 1) 1; homes = put_back s.homes z; views = set s.views id u }) (sym slot)
            (moved s id v u k record { words = set s.words (k + 1) 1; homes = set s.homes k (some (Some b)); views = set s.views id u } r at record {
              views = refl;
              wide = length-set s.words (k + 1) 1;
              long = length-set s.homes k (some (Some b));
              later = (let p = same in omega arith);
              parts = refl;
              made = refl;
              desks = refl;
              count = (let p = same in let c = r.count in let a = total_set (λ (x : View). x.ended) s.views id v u at in omega arith);
              fits = record { ended = f.ended; past = λ z. (let p = same in let q = f.past z in omega arith); known = (let p = same in let q = f.known in omega arith); among = λ t. omega arith; spent = f.spent };
              drawn = λ t ne. refl;
              held = λ t ne. sym (ap (times t) opened ∙ times_else t k [] ne);
              flags = λ t ne. get_or-set_other s.words (k + 1) (t + 1) 1 0 (λ e. ne (omega arith));
              homes = λ t ne. set_else s.homes k t (some (Some b)) ne;
              far = λ t ne _. inr (inr (sym same));
              here = λ _. inr (inr record {
                before = (let p = same in let q = so.before in omega arith);
                word_is = get_or-set_same s.words (k + 1) 1 0 inside;
                one_desk = same_drawn s.views id v u k at refl ∙ so.one_desk;
                closed = (let a = total_set (λ (x : View). times k x.held) s.views id v u at in let p = so.open_there in omega arith);
                job = b;
                home = set_here s.homes k (some (Some b)) near;
                is_finished = fin;
              });
              out = λ away. absurd (omega arith);
            }),
        (refl, ap (λ (z : List (ℕ × Option J)). rest z) slot),
      )

  same_words : (s : State (Option J) View) (vs : List View) → Rule s → Numbered vs → total (λ x. x.parts) vs ≡ total (λ x. x.parts) s.views → total (λ x. x.ended) vs ≡ total (λ x. x.ended) s.views → ((t : ℕ) → drawn_times t vs ≡ drawn_times t s.views) → ((t : ℕ) → held_times t vs ≡ held_times t s.views)
      → ((j : ℕ) (v : View) → get_elem? vs j ≡ some v → Fits (length s.homes) (get_or s.words 0 0) v) → Rule record { words = s.words; homes = s.homes; views = vs }
  same_words s vs r numbers parts ended drew held fits = record {
    wide = r.wide;
    few = r.few;
    parts = parts ∙ r.parts;
    numbers = numbers;
    count = subst (λ (z : ℕ). get_or s.words 0 0 ≤ length s.homes + z) (sym ended) r.count;
    each = fits;
    tickets = λ t near. subst (λ (z : ℕ × ℕ). Stage waits finished t (get_or s.words 0 0) (get_or s.words (t + 1) 0) (get_elem? s.homes t) z.0 z.1) (λ k. (sym (drew t) k, sym (held t) k)) (r.tickets t near);
    beyond = λ t away. let o = r.beyond t away in (drew t ∙ o.0, held t ∙ o.1);
  }

  pub splits_ok : (id : ℕ) (v : View) → 1 < v.parts → v.made ≢ 0 → v.ended ≡ 0 → Splits Rule id v (maker_view v) (next_view v)
  splits_ok id v some_parts some_made goes s r at = let f = r.each id v at in same_words s (set s.views id (maker_view v) ++ next_view v ∷ []) r (split_numbers s.views id v at some_made r.numbers)
      (two_terms (λ x. x.parts) s.views id v (maker_view v) (next_view v) at (omega arith))
      (two_terms (λ x. x.ended) s.views id v (maker_view v) (next_view v) at (omega arith))
      (λ t. two_terms (λ x. times t x.drawn) s.views id v (maker_view v) (next_view v) at (omega arith))
      (λ t. two_terms (λ x. times t x.held) s.views id v (maker_view v) (next_view v) at (omega arith))
      (λ j x e. ⊎_elim
      (λ a. ⊎_elim (λ b. subst (Fits (length s.homes) (get_or s.words 0 0)) b.1 record { ended = (let g = goes in omega arith); past = f.past; known = f.known; among = f.among; spent = λ z. absurd (omega arith) }) (λ b. r.each j x b.1) (at_set s.views id j (maker_view v) x a))
      (λ a. subst (Fits (length s.homes) (get_or s.words 0 0)) a record { ended = (omega arith); past = λ z. absurd (z refl); known = (omega arith); among = λ t. omega arith; spent = λ z. refl })
      (at_snoc (set s.views id (maker_view v)) (next_view v) x j e))

  pub joins_ok : (id other : ℕ) (v w : View) → 0 < v.parts → Joins Rule id v other w (both_views v w) spent_view
  joins_ok id other v w some_part s r at ne at' = let u : View = both_views v w in let f = r.each id v at in let there : get_elem? s.views other ≡ some w = sym (set_else s.views id other u ne) ∙ at' in let g = r.each other w there in same_words s (set (set s.views id u) other spent_view) r (join_numbers s.views id other v w at ne at' r.numbers)
      (one_gone (λ x. x.parts) s.views id other v w u spent_view at at' (omega arith))
      (one_gone (λ x. x.ended) s.views id other v w u spent_view at at' (omega arith))
      (λ t. one_gone (λ x. times t x.drawn) s.views id other v w u spent_view at at' (let p = times_append t v.drawn w.drawn in omega arith))
      (λ t. one_gone (λ x. times t x.held) s.views id other v w u spent_view at at' (let p = times_append t v.held w.held in omega arith))
      (λ j x e. ⊎_elim
      (λ a. subst (Fits (length s.homes) (get_or s.words 0 0)) a.1 record { ended = (omega arith); past = λ z. absurd (z refl); known = (omega arith); among = λ t. omega arith; spent = λ z. refl })
      (λ a. ⊎_elim (λ b. subst (Fits (length s.homes) (get_or s.words 0 0)) b.1 record {
        ended = (let p = f.ended in let q = g.ended in omega arith);
        past = λ z. dite (ℕ_discrete v.ended 0) (λ y. g.past (λ x. z (omega arith))) (λ y. f.past y);
        known = f.known;
        among = λ t. (let p = times_append t v.drawn w.drawn in let q = times_append t v.held w.held in let a = f.among t in let b = g.among t in omega arith);
        spent = λ z. absurd (omega arith);
      }) (λ b. r.each j x b.1) (at_set s.views id j u x a.1))
      (at_set (set s.views id u) other j spent_view x e))

  maps_long : (xs : List (Option J)) → length (map some xs) ≡ length xs
  maps_long [] = refl
  maps_long (x ∷ xs) = omega (arith, maps_long xs)

  pub opens : (ws : List ℕ) (xs : List (Option J)) → length ws ≡ length xs + 1 → length xs < 2 ^ 32 → ((i : ℕ) → get_or ws i 0 ≡ 0) → ((t : ℕ) → t < length xs → (b : J) × (get_elem? xs t ≡ some (Some b)) × waits b t) → Rule (opening ws xs first_view)
  opens ws xs wide few zeros so = let n : length (map some xs) ≡ length xs = maps_long xs in record {
    wide = wide ∙ ap (λ (z : ℕ). z + 1) (sym n);
    few = subst (λ (z : ℕ). z < 2 ^ 32) (sym n) few;
    parts = (omega arith);
    numbers = first_numbers;
    count = (let z = zeros 0 in omega arith);
    each = λ j v e. first_fits (length (map some xs)) (get_or ws 0 0) j v e;
    tickets = λ t near. let b = so t (subst (λ (z : ℕ). t < z) n near) in inl record { later = (let z = zeros 0 in omega arith); word_is = zeros (t + 1); no_desk = (omega arith); closed = (omega arith); job = b.0; home = at_map some xs t (Some b.0) b.1; is_waiting = b.2 };
    beyond = λ t away. ((omega arith), (omega arith));
  }

  pub closes : (id : ℕ) (v : View) (ws : List ℕ) (xs : List (Option J)) → v.parts ≡ 64 → v.ended ≢ 0 → v.held ≡ [] → Final (Seen Rule id v) ws xs → (t : ℕ) → t < length xs → (b : J) × (get_elem? xs t ≡ some (Some b)) × finished b t
  closes id v ws xs parts ended empty fin t near = let s = fin.0 in let r = fin.1.0 in let at = fin.1.1 in let near' : t < length s.homes = subst (λ (z : ℕ). t < z) (sym fin.3) near in
      let none_held : held_times t s.views ≡ 0 = all_in_one (λ (x : View). x.parts) (λ (x : View). times t x.held) s.views id v (λ i u there z. let f = r.each i u there in let a = f.among t in let b = none_times t u.drawn (f.spent z) in omega arith) at (r.parts ∙ sym parts) ∙ none_times t v.held empty in
      let past : length s.homes ≤ get_or s.words 0 0 = (r.each id v at).past ended in
      let done = is_done t (get_or s.words 0 0) (get_or s.words (t + 1) 0) (get_elem? s.homes t) (drawn_times t s.views) (held_times t s.views) (omega arith) none_held (r.tickets t near') in (done.job, fin.4 t (Some done.job) done.home, done.is_finished)
