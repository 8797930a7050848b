use Rattle.std.proofs.Common.{Ok, Err, sym, ap, ◌∙◌}
use Rattle.std.proofs.lemmas.Result.{err_from_is_err_and}
use Rattle.rows.specs.Places.{stored, paired}
use Rattle.rows.specs.Pieces.{put}
use Rattle.answers.specs.Finish.{finish}
use Rattle.finishing.specs.Ends.{answered, open_content}
use Rattle.finishing.proofs.Endings.{bad_last, open-last}
use Rattle.finishing.proofs.Listed.{no-close, end-done}
use Rattle.finishing.proofs.closing.last_stretch.Goals as goal

pub returns-in_err-row : goal.returns-in_err-row
returns-in_err-row g c =
    let m = stored (g.M.Machine.model c.args.source.now.machine.now) in
    let file = c.args.source.now.file.now in
    let rows = c.args.entries.now in
    let es = paired rows.rows.now rows.actions.now in
    let e = err_from_is_err_and c.from_residual.result c.from_residual.ensures.1 in
    ap (answered m es) e.1 ∙ ap Err e.2
    ∙ sym (bad_last m file es (no-close m rows.rows.now rows.actions.now rows.beside c.requires.none) c.in_err-row.field-0.0)
    ∙ ap (λ y. finish m (put file m (open_content es) y)) c.in_err-row.ensures.made

pub returns-in-Open : goal.returns-in-Open
returns-in-Open g c =
    let m = stored (g.M.Machine.model c.args.source.now.machine.now) in
    let file = c.args.source.now.file.now in
    let rows = c.args.entries.now in
    let es = paired rows.rows.now rows.actions.now in
    sym (open-last m file es (no-close m rows.rows.now rows.actions.now rows.beside c.requires.none) c.in_ok-row.row c.in_ok-row.plain c.in-Open.is)
    ∙ ap (λ y. finish m (put file m (open_content es) y)) c.in_ok-row.ensures.made

pub returns-in_err-all_closed-in-Done : goal.returns-in_err-all_closed-in-Done
returns-in_err-all_closed-in-Done g c =
    let m = stored (g.M.Machine.model c.args.source.now.machine.now) in
    let file = c.args.source.now.file.now in
    let rows = c.args.entries.now in
    let es = paired rows.rows.now rows.actions.now in
    let e = err_from_is_err_and c.from_residual-in_err-all_closed-in-Done.result c.from_residual-in_err-all_closed-in-Done.ensures.1 in
    ap (answered m es) e.1 ∙ ap Err e.2
    ∙ end-done m rows.rows.now rows.actions.now rows.beside c.requires.none file c.in_ok-row.row c.in_ok-row.plain (Err c.in_err-all_closed-in-Done.field-0.0) c.in-Done.is c.in_err-all_closed-in-Done.ensures
    ∙ ap (λ y. finish m (put file m (open_content es) y)) c.in_ok-row.ensures.made

pub returns-in_ok-all_closed-in-Done : goal.returns-in_ok-all_closed-in-Done
returns-in_ok-all_closed-in-Done g c =
    let m = stored (g.M.Machine.model c.args.source.now.machine.now) in
    let file = c.args.source.now.file.now in
    let rows = c.args.entries.now in
    let es = paired rows.rows.now rows.actions.now in
    end-done m rows.rows.now rows.actions.now rows.beside c.requires.none file c.in_ok-row.row c.in_ok-row.plain (Ok tt) c.in-Done.is c.in_ok-all_closed-in-Done.ensures
    ∙ ap (λ y. finish m (put file m (open_content es) y)) c.in_ok-row.ensures.made
