use Rattle.std.proofs.Common.{vec_items, ap, ◌∙◌, Err}
use Rattle.std.proofs.lemmas.Result.{err_from_is_err_and}
use Rattle.request.proofs.Stopping.{weaker, if_refused}
use Rattle.session.specs.Answering.{TextSays, refuses, by_relation}
use Rattle.session.proofs.answering.answer_by_relation.Goals as goal

pub returns-clause-says : goal.returns-clause-says
returns-clause-says c = weaker c.try_machine.result (λ o t. by_relation c.make.new.self c.requires c.in_ok-make.ensures t) c.try_machine.ensures.tried

pub returns-in_err-make-clause-says : goal.returns-in_err-make-clause-says
returns-in_err-make-clause-says c =
    let e = err_from_is_err_and c.from_residual.result c.from_residual.ensures.1 in
    if_refused (λ o. TextSays c.args.asked.now.queries.now (vec_items c.args.asked.now.cuts) c.args.asked.now.file.now c.args.matches.now o c.args.matches.now) (e.1 ∙ ap Err e.2) (refuses c.in_err-make.ensures.0)
