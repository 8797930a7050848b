use Rattle.job.specs.State.{world}
use Rattle.job.proofs.Calls.{finish-told, finished_part, finish-turns}
use Rattle.job.proofs.Ranges.{part-rule}
use Rattle.job.proofs.job.Job.finish.Goals as goal

pub answer-requires-clause-rule : goal.answer-requires-clause-rule
answer-requires-clause-rule g c =
    let a = c.args in
    let p = c.in_ok-p.p in
    let t = finish-told a.file.now a.self.now a.rows.now a.actions.now a.piece p c.ask_finish.result c.ask_finish.ensures c.in_ok-p.was in
    part-rule a.file.now a.rows.now p.part.at p.part.kept.rows t.in_rows t.rule

pub returns : goal.returns
returns g c =
    let a = c.args in
    let m = g.M.Machine.model a.m.now in
    let p = c.in_ok-p.p in
    let t = finish-told a.file.now a.self.now a.rows.now a.actions.now a.piece p c.ask_finish.result c.ask_finish.ensures c.in_ok-p.was in
    finish-turns m a.file.now (world a.self.now a.rows.now a.actions.now) a.piece _ a.matches.now _ _ t.none (finished_part m a.file.now a.self.now a.rows.now a.actions.now a.piece p t.is) c.answer.ensures
