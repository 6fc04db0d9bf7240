use Rattle.std.proofs.Common.{◌≡◌, ◌∙◌, List, length, All, sym, ap, subst, ⊎_elim, arith}
use Rattle.std.proofs.lemmas.List.{length-map}
use Rattle.ks_history.specs.Callers.{CallersBelow}
use Rattle.ks_lines.specs.declared.Line.{Line}
use Rattle.ks_lines.specs.declared.Said.{Said}
use Rattle.ks_lines.specs.Lines.{AreAnswered, ops_in, replies_in}
use Rattle.ks_lines.specs.Asked.{AreServedLines}
use Rattle.ks_arena.specs.Sound.{sort_of}
use Rattle.ks_shape.specs.Idle.{Site}
use Rattle.ks_tickets.specs.Clauses.{EachAs}
use Rattle.ks_jobs.specs.About.{site_with}
use Rattle.ks_jobs.specs.Work.{FinishedAs, HasRoom, WaitsAs}
use Rattle.ks_jobs.specs.declared.job.Job.{Job}
use Rattle.ks_serving.specs.Called.{HaveCalled}
use Rattle.ks_dictionary.specs.Ended.{history}
use Rattle.ks_dictionary.specs.Of.{site_of}
use Rattle.ks_serving.proofs.Joined.{all_wait, all_printable, are_answered, as_about, at_arena, is_crew, have_called}
use Rattle.ks_serving.proofs.serving.serve_jobs.Goals as goal
use Rattle.ks_serving.proofs.serving.serve_jobs.Given.{Over}
use Rattle.ks_serving.proofs.serving.serve_jobs.Goals.{In_ok-jobs}

abbrev site : (g : Over) → In_ok-jobs g → Site
site g c = site_of c.args.dictionary

abbrev asked : (g : Over) → In_ok-jobs g → List (List Line)
asked g c = c.args.script

-- there is a job for each script
many : (g : Over) (c : In_ok-jobs g) → length c.in_ok-jobs.jobs.items ≡ length (asked g c)
many g c = sym (length-map c.in_ok-jobs.jobs.items (λ j. j.script)) ∙ ap length c.in_ok-jobs.ensures.scripts

-- what holds of jobs about the run holds of them about the arena
jobs_done : {N D W : Type 0} (g : Over) (c : In_ok-jobs g) (js : List (Job N D W))
    → EachAs (FinishedAs (site_with (sort_of g.N.Node.layout g.N.Node.ranged) g.T.Rule.Discipline.begins g.T.Rule.Discipline.step g.W.About.table g.W.About.callers g.W.About.nodes) g.W.About.scripts g.N.Places.Placing.place_of) js
    → EachAs (FinishedAs (site g c) (asked g c) g.N.Places.Placing.place_of) js
jobs_done g c js done =
    let a = c.args.dictionary.arena in
    subst (λ (xs : List (List Line)). EachAs (FinishedAs (site g c) xs g.N.Places.Placing.place_of) js) c.requires.scripts
    (at_arena (sort_of g.N.Node.layout g.N.Node.ranged) g.T.Rule.Discipline.begins g.T.Rule.Discipline.step a.table.shared.table_id a.callers a.nodes
    g.W.About.table g.W.About.callers g.W.About.nodes c.requires.about (λ s. EachAs (FinishedAs s g.W.About.scripts g.N.Places.Placing.place_of) js) done)

all_callers : {A : Type 0} (g : Over) (c : In_ok-jobs g) (js : List A) → length js ≡ length c.in_ok-jobs.jobs.items → c.args.dictionary.arena.callers ≡ length js
all_callers g c js long = sym c.requires.crew.long ∙ c.requires.even ∙ sym (many g c) ∙ sym long

as_asked : {A : Type 0} (g : Over) (c : In_ok-jobs g) (js : List A) → length js ≡ length c.in_ok-jobs.jobs.items → length js ≡ length (asked g c)
as_asked g c js long = long ∙ many g c

pub start-requires-clause-few : goal.start-requires-clause-few
start-requires-clause-few g c = let n = many g (goal.at.start-requires-clause-few g c).In_ok-jobs in let few = c.requires.few in omega arith

pub start-requires-clause-workers : goal.start-requires-clause-workers
start-requires-clause-workers g c =
    let n = many g (goal.at.start-requires-clause-workers g c).In_ok-jobs in let m = c.in_ok-jobs.jobs.ok.0 in let l = c.len-2.ensures in let some = c.requires.some in let w = c.args.setting.workers_fit in let le = c.workers_for-desks.ensures.least.1 in
    (⊎_elim (λ e. omega arith) (λ e. omega arith) c.workers_for-desks.ensures.one, omega arith)

pub start-requires-clause-jobs : goal.start-requires-clause-jobs
start-requires-clause-jobs g c =
    let d = (goal.at.start-requires-clause-jobs g c).In_ok-jobs in
    let a = c.args.dictionary.arena in
    as_about (sort_of g.N.Node.layout g.N.Node.ranged) g.T.Rule.Discipline.begins g.T.Rule.Discipline.step a.table.shared.table_id a.callers a.nodes
    g.W.About.table g.W.About.callers g.W.About.nodes c.requires.about (λ s. EachAs (WaitsAs s g.W.About.scripts) c.in_ok-jobs.jobs.items)
    (subst (λ (xs : List (List Line)). EachAs (WaitsAs (site g d) xs) c.in_ok-jobs.jobs.items) (c.in_ok-jobs.ensures.scripts ∙ sym c.requires.scripts)
    (all_wait (site g d) _ _ c.in_ok-jobs.jobs.items (rw c.in_ok-jobs.ensures.passes c.requires.crew)
    (subst (λ b. All (HasRoom b) c.in_ok-jobs.jobs.items) c.serves_scans.ensures c.in_ok-jobs.ensures.room)
    (subst (AreServedLines _ _) (sym c.in_ok-jobs.ensures.scripts) c.requires.served)))

pub work_aided-requires-clause-served : goal.work_aided-requires-clause-served
work_aided-requires-clause-served g c κs within = subst (AreServedLines _ _) (sym c.requires.scripts) c.requires.served

pub work_aided-requires-clause-count : goal.work_aided-requires-clause-count
work_aided-requires-clause-count g c κs within =
    let n = many g (goal.at.work_aided-requires-clause-count g c).In_ok-jobs in let m = c.in_ok-jobs.jobs.ok.0 in let l = c.len-2.ensures in let some = c.requires.some in let w = c.args.setting.workers_fit in let le = c.workers_for-desks.ensures.least.1 in
    let count = c.in_ok-tickets.ensures.count in
    (⊎_elim (λ e. omega arith) (λ e. omega arith) c.workers_for-desks.ensures.one, omega arith)

pub close-requires-clause-room : goal.close-requires-clause-room
close-requires-clause-room g c = let a = c.in_ok-tickets.ensures.jobs in let b = c.in_ok-into.ensures.capacity in let d = c.len.ensures in let e = c.in_ok-jobs.jobs.ok.0 in omega arith

pub close-requires-2-after_bounds : goal.close-requires-2-after_bounds
close-requires-2-after_bounds g c κs within =
    let d = (goal.at.close-requires-2-after_bounds g c).In_ok-jobs in
    let js = c.close.result.items in
    let long : length js ≡ length c.in_ok-jobs.jobs.items = c.close.ensures.count ∙ c.in_ok-tickets.ensures.jobs in
    rw c.in_ok-passes.ensures.passes
    (is_crew (site g d) g.N.Places.Placing.place_of (asked g d) js (all_callers g d js long) (as_asked g d js long) (jobs_done g d js c.close.ensures.jobs))

pub apart-requires : goal.apart-requires
apart-requires g c =
    let d = (goal.at.apart-requires g c).In_ok-jobs in
    let js = c.close.result.items in
    let long : length js ≡ length c.in_ok-jobs.jobs.items = c.close.ensures.count ∙ c.in_ok-tickets.ensures.jobs in
    all_printable (site g d) g.N.Places.Placing.place_of (asked g d) js (jobs_done g d js c.close.ensures.jobs)

pub returns-clause-answered : goal.returns-clause-answered
returns-clause-answered g c =
    let d = (goal.at.returns-clause-answered g c).In_ok-jobs in
    let js = c.close.result.items in
    let long : length js ≡ length c.in_ok-jobs.jobs.items = c.close.ensures.count ∙ c.in_ok-tickets.ensures.jobs in
    subst (AreAnswered (asked g d)) (sym c.in_ok-passes.ensures.replies)
    (are_answered (site g d) g.N.Places.Placing.place_of (asked g d) js (all_callers g d js long) (as_asked g d js long) (jobs_done g d js c.close.ensures.jobs)
    (history c.close-2.result) (rw c.in_ok-passes.ensures.passes at c.close-2.ensures.seen) c.close-2.ensures.callers)

pub returns-clause-called : goal.returns-clause-called
returns-clause-called g c =
    let d = (goal.at.returns-clause-called g c).In_ok-jobs in
    let js = c.close.result.items in
    let long : length js ≡ length c.in_ok-jobs.jobs.items = c.close.ensures.count ∙ c.in_ok-tickets.ensures.jobs in
    subst (λ (said : List (List Said)). HaveCalled g.N.Places.Placing.place_of (ops_in (asked g d) said) (replies_in (asked g d) said) (history c.close-2.result))
    (sym c.in_ok-passes.ensures.replies)
    (have_called (site g d) g.N.Places.Placing.place_of (asked g d) js (all_callers g d js long) (as_asked g d js long) (jobs_done g d js c.close.ensures.jobs)
    (history c.close-2.result) (rw c.in_ok-passes.ensures.passes at c.close-2.ensures.seen) c.close-2.ensures.callers)

pub returns-clause-callers : goal.returns-clause-callers
returns-clause-callers g c = subst (λ n. CallersBelow n (history c.close-2.result)) (sym c.requires.crew.long ∙ c.requires.even) c.close-2.ensures.callers
