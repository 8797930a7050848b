use Rattle.std.proofs.Common.{◌≡◌, ◌+◌, None, subst}
use Rattle.rows.specs.declared.row.RowKind.TheVariants.{Close}
use Rattle.rows.specs.Places.{stored, Based}
use Rattle.rows.proofs.Steps.{state-of, add-step, close-step, mismatch-step}
use Rattle.rows.proofs.putting.put_entry.Goals.{in_default-via-in-Close+in_default, in_default-via-in_default}
use Rattle.rows.proofs.putting.put_entry.Goals as goal

pub returns-in-Ok-clause-taken : goal.returns-in-Ok-clause-taken
returns-in-Ok-clause-taken g c =
    let a = c.args in
    let was = a.lists.now in
    let b = subst (Based was.rows.now a.left) c.in-Close-Some.is-1 c.requires.based in
    let did = c.in-Ok.ensures in
    state-of a.left a.n _ did.closed.1 did.actions (close-step a.file.now (stored (g.M.Machine.model a.m.now)) was.rows.now was.actions.now was.beside a.left a.n c.requires.room c.requires.within a.row c.in-Close-Some.i b a.plain.now c.in-Close-Some.is-0 did.closed.0)

pub returns-in-Err-clause-taken : goal.returns-in-Err-clause-taken
returns-in-Err-clause-taken g c =
    let a = c.args in
    let was = a.lists.now in
    let b = subst (Based was.rows.now a.left) c.in-Close-Some.is-1 c.requires.based in
    let did = c.in-Err.ensures in
    state-of a.left a.n _ did.mismatch.2 did.actions (mismatch-step a.file.now (stored (g.M.Machine.model a.m.now)) was.rows.now was.actions.now was.beside a.left a.n c.requires.room c.requires.within a.row c.in-Close-Some.i b a.plain.now c.in-Close-Some.is-0 did.mismatch.1)

pub returns-in_default-clause-taken : goal.returns-in_default-clause-taken
returns-in_default-clause-taken g c =
    let a = c.args in
    let was = a.lists.now in
    let did = c.add_entry.ensures in
    let adds : a.row.kind ≡ Close → a.base ≡ None = λ k. elim c.in_default.branch [ in_default-via-in-Close+in_default w ↦ w.in_default.is-1 | in_default-via-in_default w ↦ absurd (w.in_default.not-Close-0 k) ] in
    state-of a.left (a.n + 1) _ did.rows did.actions (add-step a.file.now (stored (g.M.Machine.model a.m.now)) was.rows.now was.actions.now was.beside a.left a.n c.requires.room c.requires.within a.row a.base a.plain.now c.requires.based adds)
