use Rattle.std.proofs.Common.{◌≡◌, ◌+◌, length, ap, ◌∙◌, sym, refl, arith}
use Rattle.std.proofs.lemmas.List.{length-append}
use Rattle.rows.specs.Places.{stored, paired}
use Rattle.rows.specs.Lists.{splice}
use Rattle.answers.specs.Own.{matches_at}
use Rattle.answers.specs.Finish.{row_matches}
use Rattle.finishing.specs.Ends.{last_row}
use Rattle.rows.proofs.Splices.{splice-splice}
use Rattle.finishing.proofs.Matches.{with_none, with_one, with_more}
use Rattle.finishing.proofs.answering.write_answer.Goals as goal

pub write_matches-n-requires : goal.write_matches-n-requires
write_matches-n-requires g c =
    let more = with_more (g.M.Machine.model c.args.m.now) (paired c.args.entries.now.rows.now c.args.entries.now.actions.now) (last_row c.args.more) in
    omega (arith, more, c.requires)

pub write_set-requires : goal.write_set-requires
write_set-requires g c =
    let m = g.M.Machine.model c.args.m.now in
    let es = paired c.args.entries.now.rows.now c.args.entries.now.actions.now in
    let r = c.in-Some.last.0 in
    let p = c.in-Some.last.1 in
    let own = ap (λ l. length (matches_at r.place 0 l)) c.marked.ensures in
    let all = ap length (with_one m es c.args.more r p c.in-Some.is) ∙ length-append (row_matches (stored m) es) (matches_at r.place 0 ((stored m).marks p)) in
    omega (arith, own, all, c.write_matches-n.ensures.end, c.requires, c.write_matches-n.auto.matches)

pub returns-in-Some : goal.returns-in-Some
returns-in-Some g c =
    let m = g.M.Machine.model c.args.m.now in
    let old = c.args.matches.now in
    let es = paired c.args.entries.now.rows.now c.args.entries.now.actions.now in
    let ms = row_matches (stored m) es in
    let w = c.write_matches-n in
    let r = c.in-Some.last.0 in
    let p = c.in-Some.last.1 in
    let own = matches_at r.place 0 ((stored m).marks p) in
    let more = with_more m es (last_row c.args.more) in
    let end : w.result ≡ 0 + length ms = omega (arith, w.ensures.end) in
    c.write_set.ensures.written
    ∙ ap (λ l. splice w.result (matches_at r.place 0 l) w.new.matches) c.marked.ensures
    ∙ ap (λ k. splice k own w.new.matches) end
    ∙ ap (splice (0 + length ms) own) w.ensures.written
    ∙ splice-splice 0 ms own old (length ms) refl (omega (arith, more, c.requires))
    ∙ ap (λ l. splice 0 l old) (sym (with_one m es c.args.more r p c.in-Some.is))

pub returns-in_default : goal.returns-in_default
returns-in_default g c = c.write_matches-n.ensures.written ∙ ap (λ l. splice 0 l c.args.matches.now) (sym (with_none (g.M.Machine.model c.args.m.now) (paired c.args.entries.now.rows.now c.args.entries.now.actions.now) c.args.more c.in_default.is))
