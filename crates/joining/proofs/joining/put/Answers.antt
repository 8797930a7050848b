use Rattle.std.proofs.Common.{◌≡◌, false, is_some}
use Rattle.rows.specs.Places.{stored, paired}
use Rattle.rows.specs.Lists.{kept_at}
use Rattle.rows.proofs.Puts.{put-taken}
use Rattle.joining.proofs.Firsts.{no-fault, first-fault}
use Rattle.joining.proofs.joining.put.Goals as goal

pub returns-clause-put : goal.returns-clause-put
returns-clause-put g c =
    let a = c.args in
    let was = a.lists.now in
    let more = a.more.now in
    let none = no-fault a.x.fault (let e : is_some a.x.fault ≡ false = cc in e) in
    let t = c.take_rows-taken.ensures.taken in
    put-taken a.source.now.file.now (stored (g.M.Machine.model a.source.now.machine.now)) (kept_at was.rows.now was.actions.now 0 a.x) (record { rows = paired more.rows.now more.actions.now; fault = a.fault }) _ _ _ _ t.stop _
    none c.take_rows-taken.ensures.within.0 t.taken (first-fault t.stop _ _ _ t.fault c.or.ensures) c.seal.ensures.sealed
