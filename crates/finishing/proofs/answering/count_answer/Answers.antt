use Rattle.std.proofs.Common.{length, ap, ◌∙◌, sym, arith}
use Rattle.std.proofs.lemmas.List.{length-append}
use Rattle.rows.specs.Places.{stored, paired}
use Rattle.answers.specs.Own.{matches_at}
use Rattle.answers.specs.Finish.{row_matches}
use Rattle.finishing.proofs.Matches.{counted, with_none, with_one}
use Rattle.finishing.proofs.answering.count_answer.Goals as goal

pub returns-in-None : goal.returns-in-None
returns-in-None g c = c.count_matches-n.ensures.number ∙ ap length (sym (with_none (g.M.Machine.model c.args.m.now) (paired c.args.entries.now.rows.now c.args.entries.now.actions.now) c.args.more c.in-None.is))

pub returns-in-Some : goal.returns-in-Some
returns-in-Some g c =
    let m = g.M.Machine.model c.args.m.now in
    let es = paired c.args.entries.now.rows.now c.args.entries.now.actions.now in
    let r = c.in-Some.last.0 in
    let p = c.in-Some.last.1 in
    let own = c.count_set.ensures.number ∙ ap (λ l. length (matches_at 0 0 l)) c.marked.ensures ∙ counted 0 0 ((stored m).marks p) ∙ sym (counted r.place 0 ((stored m).marks p)) in
    let all = ap length (with_one m es c.args.more r p c.in-Some.is) ∙ length-append (row_matches (stored m) es) (matches_at r.place 0 ((stored m).marks p)) in
    omega (arith, own, c.count_matches-n.ensures.number, all)
