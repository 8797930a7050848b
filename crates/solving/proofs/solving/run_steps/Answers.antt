use Rattle.std.proofs.Common.{Err, is_some, sym, ap, ◌∙◌, subst}
use Rattle.std.proofs.lemmas.Result.{err_from_is_err_and}
use Rattle.runs.specs.Runs.{lent}
use Rattle.solving.specs.Solving.{SolveSays}
use Rattle.solving.proofs.Tried.{decides, solve-ok, solve-refused}
use Rattle.solving.proofs.solving.run_steps.Goals as goal

pub unwrap-requires : goal.unwrap-requires
unwrap-requires g c =
    let a = lent c.new-job.result c.args.rows.now c.args.actions.now c.args.matches.now c.args.steps.now in
    let b = lent c.run.new.job c.run.new.rows c.run.new.actions c.run.new.matches c.run.new.steps in
    ap is_some c.outcome_of.ensures ∙ decides (g.M.Machine.model c.args.m.now) c.args.file.now a b c.requires c.in_ok-run.ensures

pub returns : goal.returns
returns g c =
    let a = lent c.new-job.result c.args.rows.now c.args.actions.now c.args.matches.now c.args.steps.now in
    let b = lent c.run.new.job c.run.new.rows c.run.new.actions c.run.new.matches c.run.new.steps in
    solve-ok (g.M.Machine.model c.args.m.now) c.args.file.now a b c.requires c.in_ok-run.ensures c.unwrap.result (sym c.unwrap.ensures ∙ c.outcome_of.ensures)

pub returns-in_err-run : goal.returns-in_err-run
returns-in_err-run g c =
    let a = lent c.new-job.result c.args.rows.now c.args.actions.now c.args.matches.now c.args.steps.now in
    let b = lent c.run.new.job c.run.new.rows c.run.new.actions c.run.new.matches c.run.new.steps in
    let e = err_from_is_err_and c.from_residual.result c.from_residual.ensures.1 in
    subst (λ r. SolveSays (g.M.Machine.model c.args.m.now) c.args.steps.now c.args.file.now c.args.rows.now c.args.actions.now c.args.matches.now r c.run.new.rows c.run.new.actions c.run.new.matches)
    (sym (e.1 ∙ ap Err e.2)) (solve-refused (g.M.Machine.model c.args.m.now) c.args.file.now a b c.in_err-run.field-0.0 c.in_err-run.ensures)
