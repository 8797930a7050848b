use Rattle.std.proofs.Common.{Ok, Err, ap, ◌∙◌, append-nil}
use Rattle.std.proofs.lemmas.Result.{err_from_is_err_and}
use Rattle.rows.specs.Places.{stored, paired}
use Rattle.rows.specs.Lists.{ends_of}
use Rattle.answers.specs.Finish.{finish, row_matches}
use Rattle.finishing.specs.Ends.{answered, first_close_row}
use Rattle.finishing.proofs.Listed.{stray-none, by-stray, by-fault, by_rows, by-stretch}
use Rattle.finishing.proofs.closing.ending.Goals as goal

pub returns-in_err-no_stray : goal.returns-in_err-no_stray
returns-in_err-no_stray g c =
    let m = stored (g.M.Machine.model c.args.source.now.machine.now) in
    let es = c.args.entries.now in
    let e = err_from_is_err_and c.from_residual.result c.from_residual.ensures.1 in
    ap (answered m (paired es.rows.now es.actions.now)) e.1 ∙ ap Err e.2
    ∙ by-stray m es.rows.now es.actions.now es.beside c.args.source.now.file.now (ends_of c.args.part) c.args.part.kept.fault c.in_err-no_stray.field-0.0 c.in_err-no_stray.ensures

pub returns-in-Some : goal.returns-in-Some
returns-in-Some g c =
    let es = c.args.entries.now in
    let none = stray-none (first_close_row es.rows.now) tt c.in_ok-no_stray.ensures in
    ap Err c.from.ensures
    ∙ by-fault (stored (g.M.Machine.model c.args.source.now.machine.now)) es.rows.now es.actions.now es.beside none c.args.source.now.file.now (ends_of c.args.part) c.args.part.kept.fault c.in-Some.found c.in-Some.is

pub returns-then-part-gt0 : goal.returns-then-part-gt0
returns-then-part-gt0 g c =
    let m = stored (g.M.Machine.model c.args.source.now.machine.now) in
    let es = c.args.entries.now in
    let none = stray-none (first_close_row es.rows.now) tt c.in_ok-no_stray.ensures in
    c.last_stretch.ensures
    ∙ ap (finish m) (by-stretch m es.rows.now es.actions.now es.beside none c.args.source.now.file.now (ends_of c.args.part) c.args.part.kept.fault c.in_default.is c.if-part-gt0.true)

pub returns-in_err-all_closed : goal.returns-in_err-all_closed
returns-in_err-all_closed g c =
    let m = stored (g.M.Machine.model c.args.source.now.machine.now) in
    let es = c.args.entries.now in
    let none = stray-none (first_close_row es.rows.now) tt c.in_ok-no_stray.ensures in
    let e = err_from_is_err_and c.from_residual-in_err-all_closed.result c.from_residual-in_err-all_closed.ensures.1 in
    ap (answered m (paired es.rows.now es.actions.now)) e.1 ∙ ap Err e.2
    ∙ by_rows m es.rows.now es.actions.now es.beside none c.args.source.now.file.now (ends_of c.args.part) c.args.part.kept.fault (Err c.in_err-all_closed.field-0.0) c.in_default.is c.if-part-gt0.false c.in_err-all_closed.ensures

pub returns : goal.returns
returns g c =
    let m = stored (g.M.Machine.model c.args.source.now.machine.now) in
    let es = c.args.entries.now in
    let none = stray-none (first_close_row es.rows.now) tt c.in_ok-no_stray.ensures in
    ap (λ l. Ok (row_matches m l)) (append-nil (paired es.rows.now es.actions.now))
    ∙ by_rows m es.rows.now es.actions.now es.beside none c.args.source.now.file.now (ends_of c.args.part) c.args.part.kept.fault (Ok tt) c.in_default.is c.if-part-gt0.false c.in_ok-all_closed.ensures
