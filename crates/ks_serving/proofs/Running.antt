-- The work of one caller, line by line.
use Rattle.std.proofs.Common.{◌≡◌, ℕ, ◌+◌, ◌<◌, ◌≤◌, List, [], ◌∷◌, ◌++◌, map, length, take, drop, get_or, refl, sym, ap, subst, ◌∙◌, length-append}
use Rattle.std.specs.Prelude.{All, vec_capacity, Bool}
use Rattle.std.proofs.lemmas.List.{append-nil, take_all}
use Rattle.ks_history.specs.declared.Reply.{Reply}
use Rattle.ks_history.specs.Served.{at_place}
use Rattle.ks_history.specs.Trace.{NumberedCall, calls_by}
use Rattle.ks_lines.specs.declared.Line.{Line}
use Rattle.ks_lines.specs.declared.Said.{Said}
use Rattle.ks_lines.specs.Lines.{AllBoth, IsServedLine, MayAnswer, calls_of_line, calls_of_lines}
use Rattle.ks_lines.specs.Asked.{IsLine}
use Rattle.ks_arena.specs.Clauses.{seen_of}
use Rattle.ks_shape.specs.Idle.{Site, IsIdle}
use Rattle.ks_jobs.specs.declared.job.Job.{Job}
use Rattle.ks_jobs.specs.Rooms.{HaveRooms, rooms_after}
use Rattle.ks_jobs.specs.Work.{IsReadyJob, ops_of_lines, replies_of_lines}
use Rattle.ks_serving.specs.Called.{call_at}
use Rattle.ks_serving.proofs.Joined.{HasRun}
use Rattle.ks_serving.proofs.Spread.{answered_next, as_asked, as_told, called_all, called_next, rooms_next}

module _ (a : Site) (place : ℕ → ℕ) {N D W : Type 0} (before : Job N D W) where
  -- the calls of the first lines are made
  pub record IsRunning (at : ℕ) (now : Job N D W) : Type 0 where
    pub pass : IsIdle a now.pass
    pub caller : now.pass.caller ≡ before.pass.caller
    pub script : now.script ≡ before.script
    pub long : length now.said.items ≡ at
    pub room : length before.script ≤ vec_capacity now.said
    pub rooms : HaveRooms (drop at before.script) now.rooms.items
    pub answered : AllBoth MayAnswer (take at before.script) now.said.items
    pub calls : calls_by before.pass.caller (seen_of now.pass) ≡ calls_by before.pass.caller (seen_of before.pass) ++ map (call_at place) (calls_of_lines (take at before.script) now.said.items)

  pub begins : IsReadyJob a before → IsRunning 0 before
  begins ready = record {
    pass = ready.pass;
    caller = refl;
    script = refl;
    long = ap length ready.blank;
    room = ready.room;
    rooms = ready.rooms;
    answered = subst (AllBoth MayAnswer []) (sym ready.blank) tt;
    calls = sym (append-nil (calls_by before.pass.caller (seen_of before.pass)));
  }

  module _ (at : ℕ) (now : Job N D W) (d line : Line) (near : at < length before.script) (is : line ≡ get_or now.script at d) (so : IsRunning at now) where
    line_is : line ≡ get_or before.script at d
    line_is = is ∙ ap (λ (s : List Line). get_or s at d) so.script

    -- the line may be there, and is served
    pub fits : (scans moves : Bool) → All (λ l. IsLine l × IsServedLine scans moves l) before.script → IsLine line × IsServedLine scans moves line
    fits scans moves all = subst (λ l. IsLine l × IsServedLine scans moves l) (sym line_is) (all at d near)

    pub one_line : (after : Job N D W) (word : Said) → IsIdle a after.pass → after.pass.caller ≡ now.pass.caller → after.script ≡ now.script → after.said.items ≡ now.said.items ++ word ∷ [] → vec_capacity after.said ≡ vec_capacity now.said
        → after.rooms.items ≡ rooms_after line now.rooms.items → MayAnswer line word
        → calls_by now.pass.caller (seen_of after.pass) ≡ calls_by now.pass.caller (seen_of now.pass) ++ map (call_at place) (calls_of_line line word) → IsRunning (at + 1) after
    one_line after word idle caller script pushed room rooms answer calls = record {
      pass = idle;
      caller = caller ∙ so.caller;
      script = script ∙ so.script;
      long = ap (λ (z : List Said). length z) pushed ∙ length-append now.said.items (word ∷ []) ∙ ap (λ (n : ℕ). n + 1) so.long;
      room = subst (λ (k : ℕ). length before.script ≤ k) (sym room) so.room;
      rooms = rooms_next before.script at d near now.rooms.items after.rooms.items so.rooms (subst (λ l. after.rooms.items ≡ rooms_after l now.rooms.items) line_is rooms);
      answered = answered_next before.script at d near now.said.items after.said.items word pushed so.answered (subst (λ l. MayAnswer l word) line_is answer);
      calls = called_next before.script at d near place before.pass.caller now.pass.caller (seen_of before.pass) (seen_of now.pass) (seen_of after.pass) now.said.items after.said.items word so.caller pushed so.answered so.calls
          (subst (λ l. calls_by now.pass.caller (seen_of after.pass) ≡ calls_by now.pass.caller (seen_of now.pass) ++ map (call_at place) (calls_of_line l word)) line_is calls);
    }

  pub has_run : (at : ℕ) (now : Job N D W) → IsReadyJob a before → length before.script ≤ at → IsRunning at now → HasRun a place before now
  has_run at now ready over so =
      let c : ℕ = before.pass.caller in
      let calls = called_all place (calls_by c (seen_of before.pass)) (calls_by c (seen_of now.pass)) before.script at now.said.items over so.calls in record {
        pass = so.pass;
        caller = so.caller;
        script = so.script;
        answered = subst (λ (ls : List Line). AllBoth MayAnswer ls now.said.items) (take_all at before.script over) so.answered;
        asked = as_asked place c (seen_of before.pass) (seen_of now.pass) before.script now.said.items calls ∙ ap (λ (z : List NumberedCall). map (λ (x : NumberedCall). x.call.op) z ++ map (at_place place) (ops_of_lines before.script now.said.items)) ready.fresh;
        told = as_told place c (seen_of before.pass) (seen_of now.pass) before.script now.said.items calls ∙ ap (λ (z : List NumberedCall). map {B = ℕ × Reply} (λ (x : NumberedCall). (x.number, x.call.reply)) z ++ replies_of_lines before.script now.said.items) ready.fresh;
      }
