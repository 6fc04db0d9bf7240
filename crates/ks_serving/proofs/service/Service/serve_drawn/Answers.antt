use Rattle.std.proofs.Common.{length, refl, ◌<◌, ◌≤◌, arith}
use Rattle.ks_arena.specs.Sound.{sort_of}
use Rattle.ks_dictionary.specs.Of.{site_of}
use Rattle.ks_jobs.specs.About.{site_with}
use Rattle.ks_jobs.specs.Work.{IsReadyJob}
use Rattle.ks_serving.proofs.Joined.{HasRun, as_about, at_arena, has_finished, served_at}
use Rattle.ks_serving.proofs.Running.{begins, fits, has_run, one_line}
use Rattle.ks_serving.proofs.service.Service.serve_drawn.Goals as goal

pub loop-at-init : goal.loop-at-init
loop-at-init g c =
    let a = c.args.self.now.dictionary.now.arena in
    begins (site_of c.args.self.now.dictionary.now) g.N.Places.Placing.place_of c.args.job
    (at_arena (sort_of g.N.Node.layout g.N.Node.ranged) g.T.Rule.Discipline.begins g.T.Rule.Discipline.step a.table.shared.table_id a.callers a.nodes
    g.W.About.table g.W.About.callers g.W.About.nodes c.requires.about (λ s. IsReadyJob s c.args.job) c.requires.waits.ready)

pub answer-said-requires-clause-line : goal.answer-said-requires-clause-line
answer-said-requires-clause-line g c κs within =
    let job = c.args.job in
    let near : c.loop-at.at < length job.script = omega (arith, c.loop-at-test.true, c.loop-at.auto.at-end, c.len-at-end.ensures) in
    (fits (site_of c.args.self.now.dictionary.now) g.N.Places.Placing.place_of job c.loop-at.at c.loop-at.job _ c.get-line.result near c.get-line.ensures c.loop-at.invariant _ _
    (served_at _ _ g.W.About.scripts c.args.ticket job.script c.requires.waits.script c.requires.served)).0

pub answer-said-requires-clause-served : goal.answer-said-requires-clause-served
answer-said-requires-clause-served g c κs within =
    let job = c.args.job in
    let near : c.loop-at.at < length job.script = omega (arith, c.loop-at-test.true, c.loop-at.auto.at-end, c.len-at-end.ensures) in
    (fits (site_of c.args.self.now.dictionary.now) g.N.Places.Placing.place_of job c.loop-at.at c.loop-at.job _ c.get-line.result near c.get-line.ensures c.loop-at.invariant _ _
    (served_at _ _ g.W.About.scripts c.args.ticket job.script c.requires.waits.script c.requires.served)).1

pub loop-at-preserved : goal.loop-at-preserved
loop-at-preserved g c =
    let job = c.args.job in
    let near : c.loop-at.at < length job.script = omega (arith, c.loop-at-test.true, c.loop-at.auto.at-end, c.len-at-end.ensures) in
    let line = c.answer-said.ensures in
    let pushed = c.push_reserved.ensures in
    one_line (site_of c.args.self.now.dictionary.now) g.N.Places.Placing.place_of job c.loop-at.at c.loop-at.job _ c.get-line.result near c.get-line.ensures c.loop-at.invariant _ c.answer-said.result
    line.pass line.caller refl pushed.items pushed.capacity line.rooms line.answer line.calls

pub finish-requires-clause-finished : goal.finish-requires-clause-finished
finish-requires-clause-finished g c =
    let a = c.args.self.now.dictionary.now.arena in
    let place = g.N.Places.Placing.place_of in
    let sort = sort_of g.N.Node.layout g.N.Node.ranged in
    let first = g.T.Rule.Discipline.begins in
    let step = g.T.Rule.Discipline.step in
    let job = c.args.job in
    let over : length job.script ≤ c.loop-at.at = omega (arith, c.loop-at-test.false, c.loop-at.auto.at-end, c.len-at-end.ensures) in
    let ready = at_arena sort first step a.table.shared.table_id a.callers a.nodes g.W.About.table g.W.About.callers g.W.About.nodes c.requires.about (λ s. IsReadyJob s job) c.requires.waits.ready in
    has_finished (site_with sort first step g.W.About.table g.W.About.callers g.W.About.nodes) place g.W.About.scripts job c.loop-at.job c.args.ticket c.requires.waits
    (as_about sort first step a.table.shared.table_id a.callers a.nodes g.W.About.table g.W.About.callers g.W.About.nodes c.requires.about (λ s. HasRun s place job c.loop-at.job)
    (has_run (site_of c.args.self.now.dictionary.now) place job c.loop-at.at c.loop-at.job ready over c.loop-at.invariant))
