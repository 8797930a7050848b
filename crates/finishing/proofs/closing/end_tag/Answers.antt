use Rattle.std.proofs.Common.{Ok, Err, sym, ap, ◌∙◌, append-nil}
use Rattle.std.proofs.lemmas.Result.{err_from_is_err_and}
use Rattle.rows.specs.Places.{stored, paired}
use Rattle.answers.specs.Finish.{row_matches}
use Rattle.finishing.specs.Ends.{answered}
use Rattle.finishing.proofs.Listed.{end-stray, end-mismatch, end-closes}
use Rattle.finishing.proofs.closing.end_tag.Goals as goal

pub returns-in_default : goal.returns-in_default
returns-in_default g c =
    let a = c.args in
    let es = a.entries.now in
    end-stray (stored (g.M.Machine.model a.source.now.machine.now)) es.rows.now es.actions.now es.beside c.requires.none a.source.now.file.now a.row a.plain.now c.requires.kind c.in_default.ensures

pub returns-then-not-same_name : goal.returns-then-not-same_name
returns-then-not-same_name g c =
    let a = c.args in
    let es = a.entries.now in
    end-mismatch (stored (g.M.Machine.model a.source.now.machine.now)) es.rows.now es.actions.now es.beside c.requires.none a.source.now.file.now a.row a.plain.now c.in-Some.base c.requires.kind c.in-Some.ensures (sym c.if-not-same_name.ensures)

pub returns-in_err-all_closed : goal.returns-in_err-all_closed
returns-in_err-all_closed g c =
    let a = c.args in
    let es = a.entries.now in
    let m = stored (g.M.Machine.model a.source.now.machine.now) in
    let e = err_from_is_err_and c.from_residual.result c.from_residual.ensures.1 in
    let f = c.in_err-all_closed.field-0.0 in
    ap (answered m (paired es.rows.now es.actions.now)) e.1 ∙ ap Err e.2
    ∙ end-closes m es.rows.now es.actions.now es.beside c.requires.none a.source.now.file.now a.row a.plain.now c.in-Some.base c.in-Some.ensures (Err f) c.requires.kind (sym c.if-not-same_name.ensures) c.in_err-all_closed.ensures

pub returns : goal.returns
returns g c =
    let a = c.args in
    let es = a.entries.now in
    let m = stored (g.M.Machine.model a.source.now.machine.now) in
    ap (λ l. Ok (row_matches m l)) (append-nil (paired es.rows.now es.actions.now))
    ∙ end-closes m es.rows.now es.actions.now es.beside c.requires.none a.source.now.file.now a.row a.plain.now c.in-Some.base c.in-Some.ensures (Ok tt) c.requires.kind (sym c.if-not-same_name.ensures) c.in_ok-all_closed.ensures
