-- The result of all callers.
use Rattle.std.proofs.Common.{◌≡◌, ℕ, zero, suc, ◌<◌, List, [], ◌∷◌, ◌++◌, map, length, take, drop, get_or, Some, sym, refl, ap, ap₂, subst, ◌∙◌, arith}
use Rattle.std.specs.Prelude.{slice_get, All, Bool}
use Rattle.std.specs.List.{AllByRecursion}
use Rattle.std.proofs.lemmas.List.{append-nil, length-map}
use Rattle.std.proofs.lemmas.List.Elements.{All-head, All-nil, All-from_recursion, All-weaker}
use Rattle.std.proofs.Math.Seq.{take-append_seam}
use mathlib.Core.Option.{some, some-injective, some-ne-none}
use lib.ListN.{get_elem?}
use Rattle.atomic_table.proofs.Lists.{at_map}
use Rattle.atomic_table.specs.Seated.{TableId}
use Rattle.ks_keysets.specs.declared.Change.{Change}
use Rattle.ks_keysets.specs.declared.Frame.{Frame}
use Rattle.ks_keysets.specs.declared.NodeState.{NodeState}
use Rattle.ks_history.specs.declared.Event.{Event}
use Rattle.ks_history.specs.declared.Event.TheVariants.{Take, Give, Claim, Shape, Call, Twin}
use Rattle.ks_history.specs.Trace.{NumberedCall, calls_by, calls_of}
use Rattle.ks_history.specs.Own.{hand}
use Rattle.ks_history.specs.Map.{map_after, Legal}
use Rattle.ks_history.specs.Laws.Calls.{by_others_calls}
use Rattle.ks_history.specs.Callers.{NoneBy, CallersBelow}
use Rattle.ks_history.specs.Passes.{GrowsByOthers}
use Rattle.ks_history.specs.Served.{at_place, CalledBelow, IsListing}
use Rattle.ks_lines.specs.declared.Line.{Line}
use Rattle.ks_lines.specs.declared.Said.{Said}
use Rattle.ks_lines.specs.Lines.{AreAnswered, AllBoth, IsServedLine, MayAnswer, calls_of_lines, calls_of_script, ops_in, replies_in}
use Rattle.ks_lines.specs.Asked.{AreServedLines, IsLine}
use Rattle.ks_lines.specs.ServedLines.{ServedLines}
use Rattle.ks_script.specs.Plain.{IsPrintable}
use Rattle.ks_script.specs.Laws.Printable.{script_printable}
use Rattle.ks_arena.specs.declared.held.Pass.{Pass}
use Rattle.ks_arena.specs.Sound.{Sort}
use Rattle.ks_arena.specs.Clauses.{EndsAll, seen_of}
use Rattle.ks_shape.specs.Idle.{Site, IsIdle}
use Rattle.ks_dictionary.specs.Crew.{AreNew, AreAll}
use Rattle.ks_jobs.specs.About.{AreAbout, site_with}
use Rattle.ks_serving.specs.Called.{HaveCalled}
use Rattle.ks_jobs.specs.Work.{HasRoom, WaitsAs, FinishedAs, asked_by, told_by, ops_of_lines, replies_of_lines}
use Rattle.ks_jobs.specs.declared.job.Job.{Job}
use Rattle.ks_serving.proofs.Spread.{all_moves_too, both_at, one_of, script_long}
use Rattle.ks_tickets.specs.Clauses.{EachAs}

-- a vector whose elements were all written through a slice
pub written : {X : Type 0} (n : ℕ) (xs ys : List X) → n ≡ length xs → length ys ≡ length xs → take n (ys ++ drop (length ys) xs) ≡ ys
written n xs ys is same = ap (λ k. take k (ys ++ drop (length ys) xs)) (is ∙ sym same) ∙ take-append_seam ys (drop (length ys) xs)

-- the element at a place of a list that is a map of another
pub at_of_map : {X Y : Type 0} (f : X → Y) (xs : List X) (j : ℕ) (y : Y) → get_elem? (map f xs) j ≡ some y → (x : X) × (get_elem? xs j ≡ some x) × (f x ≡ y)
at_of_map f [] j y is = absurd (cc)
at_of_map f (x ∷ xs) zero y is = let same : f x ≡ y = cc in (x, refl, same)
at_of_map f (x ∷ xs) (suc j) y is = at_of_map f xs j y is

pub at_of_slice : {X : Type 0} (xs : List X) (j : ℕ) (y : X) → slice_get xs j ≡ Some y → get_elem? xs j ≡ some y
at_of_slice [] j y is = absurd (cc)
at_of_slice (x ∷ xs) zero y is = let same : x ≡ y = cc in ap some same
at_of_slice (x ∷ xs) (suc j) y is = at_of_slice xs j y is

at_once : {X : Type 0} (xs : List X) (j : ℕ) (x y : X) → get_elem? xs j ≡ some x → get_elem? xs j ≡ some y → x ≡ y
at_once xs j x y a b = some-injective x y (sym a ∙ b)

at_within : {X : Type 0} (xs : List X) (j : ℕ) (x : X) → get_elem? xs j ≡ some x → j < length xs
at_within [] j x is = absurd (some-ne-none x (sym is))
at_within (y ∷ xs) zero x is = omega arith
at_within (y ∷ xs) (suc j) x is = let p = at_within xs j x is in omega arith

at_or : {X : Type 0} (xs : List X) (j : ℕ) (x d : X) → get_elem? xs j ≡ some x → get_or xs j d ≡ x
at_or [] j x d is = absurd (some-ne-none x (sym is))
at_or (y ∷ xs) zero x d is = some-injective y x is
at_or (y ∷ xs) (suc j) x d is = at_or xs j x d is

-- what holds of all elements holds of the one at a place
all_at : {X : Type 0} (P : X → Type 0) (xs : List X) (j : ℕ) (x : X) → get_elem? xs j ≡ some x → All P xs → P x
all_at P xs j x is all = subst P (at_or xs j x x is) (all j x (at_within xs j x is))

-- of scripts that are served each is
pub served_at : (scans moves : Bool) (scripts : List (List Line)) (t : ℕ) (script : List Line) → get_elem? scripts t ≡ some script → AreServedLines scans moves scripts → All (λ l. IsLine l × IsServedLine scans moves l) script
served_at scans moves scripts t script is served = all_at (λ ls. All (λ l. IsLine l × IsServedLine scans moves l) ls) scripts t script is served

elem_at : {X : Type 0} (xs : List X) (j : ℕ) → j < length xs → (x : X) × (get_elem? xs j ≡ some x)
elem_at [] j lt = absurd (omega (arith, lt))
elem_at (x ∷ xs) zero lt = (x, refl)
elem_at (x ∷ xs) (suc j) lt = elem_at xs j (omega (arith, lt))

-- what may be said of lines can be printed
lines_printable : (ls : List Line) (ss : List Said) → AllBoth MayAnswer ls ss → All IsPrintable ss
lines_printable ls ss answered = All-head (All IsPrintable) ss [] (script_printable (ls ∷ []) (ss ∷ []) (answered, tt))

-- callers of events are callers of calls
called_below : (n : ℕ) (h : List Event) → CallersBelow n h → AllByRecursion (CalledBelow n) h
called_below n [] so = tt
called_below n (Take c i ∷ h) so = (tt, called_below n h so.1)
called_below n (Give c i ∷ h) so = (tt, called_below n h so.1)
called_below n (Claim c i ∷ h) so = (tt, called_below n h so.1)
called_below n (Shape c changes ∷ h) so = (tt, called_below n h so.1)
called_below n (Call c i op reply ∷ h) so = (so.0, called_below n h so.1)
called_below n (Twin c i j op reply ∷ h) so = (so.0, called_below n h so.1)

-- a trace without an event of caller 0 and of all others
none_at_all : (h : List Event) → NoneBy 0 h → CallersBelow 1 h → h ≡ []
none_at_all [] none below = refl
none_at_all (e ∷ h) none below = absurd (none.0 (omega (arith, below.0)))

called_nothing : (place : ℕ → ℕ) → HaveCalled place [] [] []
called_nothing place = record {
  asked = λ c ops is. absurd (let q : ⊥ = cc in q);
  told = λ c ls is. absurd (let q : ⊥ = cc in q);
  callers = refl;
  others = All-nil (CalledBelow 0);
}

-- if there is no event nobody has called
pub nobody : (place : ℕ → ℕ) (h : List Event) → h ≡ [] → HaveCalled place [] [] h
nobody place h is = subst (HaveCalled place [] []) (sym is) (called_nothing place)

-- what was called for the scripts, in a lawful history, with the map at its end
pub served_by : (place : ℕ → ℕ) (script : List (List Line)) (said : List (List Said)) (entries : List (ℕ × ℕ)) (h : List Event) →
    AreAnswered script said → HaveCalled place (ops_in script said) (replies_in script said) h → Legal (calls_of h) → IsListing (λ k. map_after (calls_of h) (place k)) entries
    → ServedLines place script said entries h
served_by place script said entries h answered so legal final = record {
  answered = answered;
  calls = record { asked = so.asked; told = so.told; callers = so.callers; others = so.others; legal = legal; final = final };
}

module _ (a : Site) {N D : Type 0} where
  -- new passes are a crew
  pub new_crew : (ps : List (Pass N D)) → AreNew a ps → AreAll a ps
  new_crew ps new = record {
    each = λ j p is. let q = new.each j p is in (q.pass, ap (hand p.caller) q.seen);
    all = λ c lt. let at = elem_at ps c (omega (arith, new.long, lt)) in (c, at.0, at.1, (new.each c at.0 at.1).caller);
  }

  -- if one new pass has seen all, there is no event
  pub no_event : (ps : List (Pass N D)) (h : List Event) → a.callers ≡ 1 → AreNew a ps → EndsAll h ps → CallersBelow a.callers h → h ≡ []
  no_event ps h one new seen below =
      let at = elem_at ps 0 (omega (arith, new.long, one)) in
      let q = new.each 0 at.0 at.1 in
      let s = seen 0 at.0 at.1 in
      let is : h ≡ s.rest = s.is ∙ ap (λ z. s.rest ++ z) q.seen ∙ append-nil s.rest in
      let none : NoneBy 0 h = subst (NoneBy 0) (sym is) (subst (λ k. NoneBy k s.rest) q.caller s.others) in
      none_at_all h none (subst (λ k. CallersBelow k h) one below)

-- what jobs are about is the arena
module _ (sort : Sort) (begins : Frame → Type 0) (step : (ℕ → NodeState) → (ℕ → Frame) → List Change → Type 0) (t : TableId) (c n : ℕ)
    (t' : TableId) (c' n' : ℕ) (about : AreAbout (site_with sort begins step t c n) t' c' n') (P : Site → Type 0) where
  pub at_arena : P (site_with sort begins step t' c' n') → P (site_with sort begins step t c n)
  at_arena = subst (λ (z : TableId × ℕ × ℕ). P (site_with sort begins step z.0 z.1 z.2)) (λ k. (about.table_is k, about.callers_are k, about.nodes_are k))

  pub as_about : P (site_with sort begins step t c n) → P (site_with sort begins step t' c' n')
  as_about = subst (λ (z : TableId × ℕ × ℕ). P (site_with sort begins step z.0 z.1 z.2)) (λ k. (sym about.table_is k, sym about.callers_are k, sym about.nodes_are k))

module _ (a : Site) {N D W : Type 0} where
  -- the caller holds nothing; what is said of its script may be said of it, and it has made the calls that the lines then
  -- represent, with places for keys, in order, with these numbers and replies
  pub record HasRun (place : ℕ → ℕ) (before after : Job N D W) : Type 0 where
    pub pass : IsIdle a after.pass
    pub caller : after.pass.caller ≡ before.pass.caller
    pub script : after.script ≡ before.script
    pub answered : AllBoth MayAnswer before.script after.said.items
    pub asked : asked_by before.pass.caller (seen_of after.pass) ≡ map (at_place place) (ops_of_lines before.script after.said.items)
    pub told : told_by before.pass.caller (seen_of after.pass) ≡ replies_of_lines before.script after.said.items

  -- new passes with scripts and room wait
  pub all_wait : (scans moves : Bool) (js : List (Job N D W)) → AreNew a (map (λ j. j.pass) js) → All (HasRoom scans) js → AreServedLines scans moves (map (λ j. j.script) js)
      → EachAs (WaitsAs a (map (λ j. j.script) js)) js
  all_wait scans moves js crew room served t near =
      let at = elem_at js t near in
      let j : Job N D W = at.0 in
      let new = crew.each t j.pass (at_map (λ x. x.pass) js t j at.1) in
      let has = subst (λ (x : Job N D W). HasRoom scans x) (at_or js t j j at.1) (room t j near) in
      let script = at_map (λ x. x.script) js t j at.1 in (
        j,
        at.1,
        record {
          ready = record {
            pass = (new.pass, ap (hand j.pass.caller) new.seen);
            fresh = ap (calls_by j.pass.caller) new.seen;
            blank = has.blank;
            room = has.room;
            rooms = has.rooms (all_moves_too scans moves j.script (All-weaker (λ l. IsLine l × IsServedLine scans moves l) (λ l. IsServedLine scans moves l) (λ l both. both.1) j.script
                (served_at scans moves (map (λ x. x.script) js) t j.script script served)));
          };
          caller = new.caller;
          script = script;
        },
      )

  -- a job that waited, once the calls of its script are made
  pub has_finished : (place : ℕ → ℕ) (scripts : List (List Line)) (before after : Job N D W) (t : ℕ) → WaitsAs a scripts before t → HasRun place before after → FinishedAs a scripts place after t
  has_finished place scripts before after t w r = record {
    pass = r.pass;
    caller = r.caller ∙ w.caller;
    script = w.script ∙ ap some (sym r.script);
    answered = subst (λ o. AllBoth MayAnswer o after.said.items) (sym r.script) r.answered;
    asked = ap (λ c. asked_by c (seen_of after.pass)) (sym w.caller) ∙ r.asked ∙ ap (λ o. map (at_place place) (ops_of_lines o after.said.items)) (sym r.script);
    told = ap (λ c. told_by c (seen_of after.pass)) (sym w.caller) ∙ r.told ∙ ap (λ o. replies_of_lines o after.said.items) (sym r.script);
  }

  -- what is said in finished jobs can be printed
  pub all_printable : (place : ℕ → ℕ) (scripts : List (List Line)) (js : List (Job N D W)) → EachAs (FinishedAs a scripts place) js → All (λ j. All IsPrintable j.said.items) js
  all_printable place scripts js done t d lt =
      let at = done t lt in
      subst (λ (j : Job N D W). All IsPrintable j.said.items) (sym (at_or js t at.0 d at.1)) (lines_printable at.0.script at.0.said.items at.2.answered)

  module _ (place : ℕ → ℕ) (scripts : List (List Line)) (js : List (Job N D W)) (all : a.callers ≡ length js) (long : length js ≡ length scripts)
      (done : EachAs (FinishedAs a scripts place) js) where
    job_at : (t : ℕ) (j : Job N D W) → get_elem? js t ≡ some j → FinishedAs a scripts place j t
    job_at t j is = let d = done t (at_within js t j is) in subst (λ (x : Job N D W). FinishedAs a scripts place x t) (at_once js t d.0 j d.1 is) d.2

    -- after their work the passes are a crew
    pub is_crew : AreAll a (map (λ j. j.pass) js)
    is_crew = record {
      each = λ t p is. let at = at_of_map (λ j. j.pass) js t p is in subst (λ q. IsIdle a q) at.2 (job_at t at.0 at.1).pass;
      all = λ c lt. let d = done c (omega (arith, lt, all)) in (c, d.0.pass, at_map (λ j. j.pass) js c d.0 d.1, d.2.caller);
    }

    module _ (h : List Event) (seen : EndsAll h (map (λ j. j.pass) js)) (below : CallersBelow a.callers h) where
      calls_at : (c : ℕ) (j : Job N D W) → get_elem? js c ≡ some j → calls_by c h ≡ calls_by c (seen_of j.pass)
      calls_at c j is =
          let grows : GrowsByOthers c (seen_of j.pass) h = subst (λ k. GrowsByOthers k (seen_of j.pass) h) (job_at c j is).caller (seen c j.pass (at_map (λ x. x.pass) js c j is)) in
          by_others_calls c (seen_of j.pass) h grows

      abbrev pub words : List (List Said)
      words = map (λ j. j.said.items) js

      -- one caller's calls are those of its lines
      job_of : (c : ℕ) (calls : List NumberedCall) → get_elem? (calls_of_script scripts words) c ≡ some calls → (j : Job N D W) × (get_elem? js c ≡ some j) × (calls_of_lines j.script j.said.items ≡ calls)
      job_of c calls is =
          let one = one_of scripts words c calls is in
          let at = at_of_map (λ j. j.said.items) js c one.ss one.word in
          let script = at_once scripts c at.0.script one.ls (job_at c at.0 at.1).script one.line in
          (at.0, at.1, ap₂ calls_of_lines script at.2 ∙ one.calls_are)

      pub have_called : HaveCalled place (ops_in scripts words) (replies_in scripts words) h
      have_called = record {
        asked = λ c ops is.
            let at = at_of_map (map (λ x. x.call.op)) (calls_of_script scripts words) c ops (at_of_slice (ops_in scripts words) c ops is) in
            let d = job_of c at.0 at.1 in
            ap (map (λ x. x.call.op)) (calls_at c d.0 d.1) ∙ (job_at c d.0 d.1).asked ∙ ap (map (at_place place)) (ap (map (λ x. x.call.op)) d.2 ∙ at.2);
        told = λ c ls is.
            let at = at_of_map (map (λ x. (x.number, x.call.reply))) (calls_of_script scripts words) c ls (at_of_slice (replies_in scripts words) c ls is) in
            let d = job_of c at.0 at.1 in
            ap (map (λ x. (x.number, x.call.reply))) (calls_at c d.0 d.1) ∙ (job_at c d.0 d.1).told ∙ ap (map (λ x. (x.number, x.call.reply))) d.2 ∙ at.2;
        callers = length-map (calls_of_script scripts words) (map (λ x. (x.number, x.call.reply))) ∙ sym (length-map (calls_of_script scripts words) (map (λ x. x.call.op)));
        others = subst (λ k. All (CalledBelow k) h)
            (all ∙ long ∙ sym (length-map (calls_of_script scripts words) (map (λ x. x.call.op)) ∙ script_long scripts words (length-map js (λ j. j.said.items) ∙ long)))
            (All-from_recursion (CalledBelow a.callers) h (called_below a.callers h below));
      }

      pub are_answered : AreAnswered scripts words
      are_answered = both_at (AllBoth MayAnswer) scripts words (length-map js (λ j. j.said.items) ∙ long) (λ c ls ss line word.
          let at = at_of_map (λ j. j.said.items) js c ss word in
          let d = job_at c at.0 at.1 in
          subst (λ (z : List Line). AllBoth MayAnswer z ss) (at_once scripts c at.0.script ls d.script line)
          (subst (λ (z : List Said). AllBoth MayAnswer at.0.script z) at.2 d.answered))
