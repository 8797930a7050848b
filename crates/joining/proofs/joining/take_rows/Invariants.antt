use Rattle.std.proofs.Common.{◌+◌, length, take}
use Rattle.rows.specs.Pieces.{run}
use Rattle.rows.specs.Places.{stored, paired}
use Rattle.rows.specs.Same.{SameLists}
use Rattle.joining.proofs.Loops.{Running}
use Rattle.joining.proofs.joining.take_rows.Given as goal

abbrev pub invariant-loop-row : goal.invariant-loop-row
invariant-loop-row g l =
    let m = stored (g.M.Machine.model l.source.machine.now) in
    let z = paired l.initial.lists.rows.now l.initial.lists.actions.now in
    let more = l.more in
    record {
      running : Running l.source.file.now m l.left (l.left + length more.rows.now) (run l.source.file.now m (take l.left z) (paired more.rows.now more.actions.now)) l.lists.rows.now l.lists.actions.now l.n l.base l.row-iterator.a.rest.now l.row-iterator.b.rest.now;
      same : SameLists l.initial.lists l.lists;
    }
