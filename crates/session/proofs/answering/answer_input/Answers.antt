use Rattle.std.proofs.Common.{vec_items}
use Rattle.request.proofs.Stopping.{weaker}
use Rattle.request.specs.Asked.{request}
use Rattle.session.proofs.Saying.{said_text}
use Rattle.session.proofs.answering.answer_input.Goals as goal

pub returns-clause-said : goal.returns-clause-said
returns-clause-said c =
    let asked = c.in_ok-asked.asked in
    weaker c.answer_queries.result (λ o h. said_text (vec_items asked.cuts) asked.queries.now asked.file.now (request c.args.input.now) c.args.matches.now o _ c.in_ok-asked.ensures.asks h) c.answer_queries.ensures.says
