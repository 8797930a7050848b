use Rattle.std.proofs.Common.{◌-◌}
use Rattle.rows.specs.Places.{stored}
use Rattle.rows.specs.Same.{SameLists}
use Rattle.reading.proofs.Marking.{Going}
use Rattle.reading.proofs.reading.read_rows.Given as goal

abbrev pub invariant-loop-next : goal.invariant-loop-next
invariant-loop-next g l = record {
  going : Going l.source.file.now (stored (g.M.Machine.model l.source.machine.now)) l.from l.to l.lists l.reader l.mark l.next;
  same : SameLists l.initial.lists l.lists;
}

abbrev pub decreases-loop-next : goal.decreases-loop-next
decreases-loop-next g l = l.to - l.next
