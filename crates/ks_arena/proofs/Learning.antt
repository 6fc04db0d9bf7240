-- What a pass is after it has learnt a note.
use Rattle.std.proofs.Common.{◌≡◌, ◌≢◌, ℕ, max, List, [], ◌∷◌, ◌++◌, sym, refl, ap, ◌∙◌, subst, inl, arith}
use Rattle.std.specs.Prelude.{Option}
use Rattle.atomic_table.specs.Seated.{TableId}
use Rattle.atomic_table.specs.Table.{Step}
use Rattle.ks_keysets.specs.declared.Frame.{Frame}
use Rattle.ks_keysets.specs.declared.NodeState.{NodeState}
use Rattle.ks_keysets.specs.declared.Change.{Change}
use Rattle.ks_history.specs.Trace.{◌⊑◌}
use Rattle.ks_history.specs.Own.{hand}
use Rattle.ks_history.specs.Passes.{Has, GrowsByOthers}
use Rattle.ks_history.specs.Callers.{CallersBelow}
use Rattle.ks_history.specs.Laws.Begins.{none_by, by_others_hand, by_others_mine, by_others_keeps}
use Rattle.ks_node.specs.Body.{Body}
use Rattle.ks_arena.specs.declared.held.Pass.{Pass}
use Rattle.ks_arena.specs.declared.held.Note.{Note}
use Rattle.ks_arena.specs.declared.view.View.{View}
use Rattle.ks_arena.specs.Sound.{Sort, Sound}
use Rattle.ks_arena.specs.declared.view.Part.{Part}
use Rattle.ks_arena.specs.Rule.{FitsAll, both_views, callers_in, all_callers, part_of}
use Rattle.ks_arena.specs.Plays.{Seated, gathered, Carries}
use Rattle.ks_arena.specs.Clauses.{IsPass, IsNote, seen_of, noted, HasLooked, Kept}
use Rattle.ks_arena.specs.Laws.Beyond.{are_in_turn}
use Rattle.ks_arena.proofs.Hold.{Follows, slots_in}
use Rattle.ks_arena.proofs.After.{carries_others}

module _ {N D : Type 0} (sort : Sort) (begins : Frame → Type 0) (asks : (ℕ → NodeState) → (ℕ → Frame) → List Change → Type 0) (shows : N → Body) where
  pub record Learned (t : TableId) (callers : ℕ) (p : Pass N D) (x : Note N D) (m : Seated N) : Type 0 where
    pub follows : Follows p.seat.me.0 m.0
    pub looked : HasLooked p.caller (seen_of p) m.0.seen
    pub told : noted x ⊑ m.0.seen
    pub kept : Kept p.caller (seen_of p) m.0.seen
    pub carries : Carries t.slots m.0.seen p.caller m.1
    pub slots : slots_in m.1 ≡ hand p.caller m.0.seen
    pub sounds : Sound sort begins asks t.slots m.0.seen
    pub knows : p.seat.me.0.made ≢ 0 → CallersBelow p.seat.me.0.made m.0.seen

  -- the callers of a pass that has a note among its parts are its own
  own_callers : (p : Pass N D) (x : Note N D) (c : ℕ) → p.seat.me.0.callers ≡ c ∷ [] → p.seat.me.0.absorbed ≡ [] → x.seat.me.0.callers ≡ [] → x.seat.me.0.absorbed ≡ [] → all_callers (both_views p.seat.me.0 x.seat.me.0) ≡ p.seat.me.0.callers
  own_callers p x c own bare none bare' = let v : View = p.seat.me.0 in let w : View = x.seat.me.0 in let more : List ℕ = callers_in (v.absorbed ++ (part_of w ∷ w.absorbed)) in
      let nobody : more ≡ [] = ap (λ (z : List Part). callers_in (z ++ (part_of w ∷ w.absorbed))) bare ∙ ap (λ (z : List ℕ). z ++ callers_in w.absorbed) none ∙ ap callers_in bare' in
      ap (λ (z : List ℕ). z ++ more) own ∙ ap (λ (z : List ℕ). c ∷ z) nobody ∙ sym own

  pub learned : (t : TableId) (callers : ℕ) (st : Step (Option N)) (p : Pass N D) (x : Note N D) (j m : Seated N) → st.slots ≡ t.slots → IsPass sort begins asks t callers p → IsNote t x → j ≡ (both_views p.seat.me.0 x.seat.me.0, p.seat.me.1) → gathered sort begins asks shows st j m → Learned t callers p x m
  learned t callers st p x j m same is note joined raw = let v : View = p.seat.me.0 in let w : View = x.seat.me.0 in let c : ℕ = p.caller in
      let got = subst (λ (z : Seated N). gathered sort begins asks shows st z m) joined raw in let all : List ℕ = all_callers (both_views v w) in
      let fits = got.2 in let grows : GrowsByOthers c v.seen m.0.seen = record { rest = fits.rest; is = fits.is; others = none_by v.callers fits.rest c fits.others (subst (λ (z : List ℕ). Has z c) (sym is.own) (inl refl)) } in
      let sound : Sound sort begins asks t.slots m.0.seen = subst (λ (z : ℕ). Sound sort begins asks z m.0.seen) same got.4 in let are = are_in_turn sort begins asks t.slots m.0.seen sound in
      let part = (subst (λ (z : List Part). FitsAll m.0.seen (z ++ (part_of w ∷ w.absorbed))) is.bare got.3).0 in let hands : hand c m.0.seen ≡ hand c v.seen = by_others_hand c v.seen m.0.seen grows in
      let none_made : w.made ≡ 0 = note.made in record {
        follows = record {
          callers = ap (λ (z : View). z.callers) got.1 ∙ own_callers p x c is.own is.bare note.own note.bare;
          made = ap (λ (z : View). z.made) got.1 ∙ (let e : max v.made w.made ≡ v.made = omega arith in e);
          mark = ap (λ (z : View). z.mark) got.1;
          bare = ap (λ (z : View). z.absorbed) got.1;
        };
        looked = record { grows = grows; hand = hands; mine = by_others_mine c v.seen m.0.seen grows };
        told = record { rest = part.rest; is = part.is };
        kept = λ i y. by_others_keeps c i v.seen m.0.seen grows are y;
        carries = subst (Carries t.slots m.0.seen c) (sym got.0) (carries_others sort begins asks t.slots c v.seen m.0.seen p.seat.me.1 grows are is.carries);
        slots = ap slots_in got.0 ∙ is.slots ∙ sym hands;
        sounds = sound;
        knows = λ some_made. let e : max v.made w.made ≡ v.made = omega arith in subst (λ (z : ℕ). CallersBelow z m.0.seen) e (got.5 (λ z. some_made (sym e ∙ z)));
      }
