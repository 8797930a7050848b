use Rattle.std.proofs.Common.{◌*◌, ◌≤◌}
use Rattle.machine.proofs.Counting.{Counts, drafted}
use Rattle.machine.proofs.measure.Measure.of.Given as goal

abbrev pub invariant-loop-b : goal.invariant-loop-b
invariant-loop-b l =
    Counts (drafted l.text l.b-index) l.measure.reader.state l.measure.lines l.measure.positions
    × (l.measure.lines ≤ l.b-index)
    × (l.measure.positions ≤ 2 * l.b-index)
