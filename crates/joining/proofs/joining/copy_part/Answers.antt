use Rattle.std.proofs.Common.{drop, ◌∙◌, arith}
use Rattle.std.proofs.lemmas.List.{take_at, length-take-le}
use Rattle.joining.proofs.Copies.{same_kept}
use Rattle.joining.proofs.joining.copy_part.Goals as goal

pub returns-clause-copied : goal.returns-clause-copied
returns-clause-copied g c =
    let a = c.args in
    let n = a.part.kept.rows in
    let from = c.rows_of-from.ensures in
    let new = a.lists.now in
    same_kept a.old.now.rows.now _ a.old.now.actions.now _ a.part.at 0 a.part.kept
    (take_at _ (drop n new.rows.now) n (omega (arith, c.copy_from_slice.ensures.len, length-take-le n new.rows.now (omega arith))) ∙ c.copy_from_slice.ensures.after ∙ from.rows)
    (take_at _ (drop n new.actions.now) n (omega (arith, c.copy_from_slice-2.ensures.len, length-take-le n new.actions.now (omega arith))) ∙ c.copy_from_slice-2.ensures.after ∙ from.actions)
