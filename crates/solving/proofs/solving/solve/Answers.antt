use Rattle.std.proofs.Common.{List, length, Ok, Err, Result, ap, sym, ◌∙◌, subst}
use Rattle.std.proofs.lemmas.Result.{err_from_is_err_and}
use Rattle.machine.specs.declared.refusal.Refusal.{Refusal}
use Rattle.job.specs.declared.answer.Answer.{Answer}
use Rattle.runs.specs.declared.steps.Step.{Step}
use Rattle.request.proofs.Stopping.{if_refused}
use Rattle.solving.specs.Plan.{plan_of}
use Rattle.solving.specs.Solving.{FinishesLast, calls_of, SolveSays}
use Rattle.solving.proofs.Deciding.{plan_ends}
use Rattle.solving.proofs.solving.solve.Goals as goal

pub run_steps-requires : goal.run_steps-requires
run_steps-requires g c =
    subst (λ ss. FinishesLast (calls_of ss)) (sym (c.as_mut_slice.ensures.value ∙ c.in_ok-steps.ensures)) (plan_ends c.args.cuts.now (length c.args.file.now))

pub returns-clause-solved : goal.returns-clause-solved
returns-clause-solved g c =
    let a = c.args in
    let r = c.run_steps.new in
    subst (λ ss. SolveSays (g.M.Machine.model a.m.now) ss a.file.now a.rows.now a.actions.now a.matches.now (Ok c.in_ok-run_steps.field-0) r.rows r.actions r.matches) (c.as_mut_slice.ensures.value ∙ c.in_ok-steps.ensures) c.in_ok-run_steps.ensures

pub returns-in_err-run_steps-clause-solved : goal.returns-in_err-run_steps-clause-solved
returns-in_err-run_steps-clause-solved g c =
    let a = c.args in
    let r = c.run_steps.new in
    let says = λ (ss : List Step) (o : Result Answer Refusal). SolveSays (g.M.Machine.model a.m.now) ss a.file.now a.rows.now a.actions.now a.matches.now o r.rows r.actions r.matches in
    let e = err_from_is_err_and c.from_residual-in_err-run_steps.result c.from_residual-in_err-run_steps.ensures.1 in
    if_refused (says (plan_of a.cuts.now (length a.file.now))) (e.1 ∙ ap Err e.2) (subst (λ ss. says ss (Err c.in_err-run_steps.field-0.0)) (c.as_mut_slice.ensures.value ∙ c.in_ok-steps.ensures) c.in_err-run_steps.ensures)
