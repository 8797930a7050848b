use Rattle.std.proofs.Common.{◌≡◌, Err, vec_items, ap, ◌∙◌}
use Rattle.std.proofs.lemmas.Bool.{false≢true}
use Rattle.std.proofs.lemmas.Result.{err_from_is_err_and}
use Rattle.machine.specs.declared.refusal.Refusal.TheVariants.{TooManySets}
use Rattle.request.proofs.Stopping.{weaker, if_refused}
use Rattle.session.specs.Answering.{TextSays, refuses, by_table}
use Rattle.session.proofs.Saying.{refused-too}
use Rattle.session.proofs.answering.answer_queries.Goals as goal

pub returns-clause-says : goal.returns-clause-says
returns-clause-says c = weaker c.try_machine.result (λ o t. by_table c.make-made.new.self (rw c.in_ok-made.was at c.make-made.ensures) t) c.try_machine.ensures.tried

pub returns-in_err-made-clause-says : goal.returns-in_err-made-clause-says
returns-in_err-made-clause-says c =
    let e = err_from_is_err_and c.from_residual.result c.from_residual.ensures.1 in
    let other = λ (z : c.in_err-made.field-0.0 ≡ TooManySets). let same : c.make-made.result ≡ Err TooManySets = c.in_err-made.was ∙ ap Err z in false≢true (rw same at c.if-eq.ensures) in
    let refused = rw c.in_err-made.was at c.make-made.ensures in
    if_refused (λ o. TextSays c.args.asked.now.queries.now (vec_items c.args.asked.now.cuts) c.args.asked.now.file.now c.args.matches.now o c.args.matches.now) (e.1 ∙ ap Err e.2)
    (refuses (refused-too c.args.asked.now.queries.now c.in_err-made.field-0.0 other refused.0))
