use Rattle.std.proofs.Common.{sym, subst}
use Rattle.runs.specs.declared.steps.Call.{Call}
use Rattle.runs.specs.declared.steps.Reply.TheVariants.{Made, Answered}
use Rattle.runs.specs.Runs.{Does, reads, joins, finishes, stage, answered}
use Rattle.runs.proofs.running.make.Goals as goal

pub returns-in-Read : goal.returns-in-Read
returns-in-Read g c =
    let a = c.args in
    let m = g.M.Machine.model a.m.now in
    subst (λ (x : Call). Does m a.file.now (stage a.job.now a.rows.now a.actions.now a.matches.now) (answered x (Made c.read.result)) (stage c.read.new.self c.read.new.rows c.read.new.actions a.matches.now))
    (sym c.in-Read.is) (reads c.read.ensures.says)

pub returns-in-Join : goal.returns-in-Join
returns-in-Join g c =
    let a = c.args in
    let m = g.M.Machine.model a.m.now in
    subst (λ (x : Call). Does m a.file.now (stage a.job.now a.rows.now a.actions.now a.matches.now) (answered x (Made c.join.result)) (stage c.join.new.self c.join.new.rows c.join.new.actions a.matches.now))
    (sym c.in-Join.is) (joins c.join.ensures.says)

pub returns-in-Finish : goal.returns-in-Finish
returns-in-Finish g c =
    let a = c.args in
    let m = g.M.Machine.model a.m.now in
    subst (λ (x : Call). Does m a.file.now (stage a.job.now a.rows.now a.actions.now a.matches.now) (answered x (Answered c.finish.result)) (stage a.job.now a.rows.now a.actions.now c.finish.new.matches))
    (sym c.in-Finish.is) (finishes c.finish.ensures)
