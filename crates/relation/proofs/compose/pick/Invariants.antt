use Rattle.std.proofs.Common.{◌≡◌, ◌≤◌}
use lib.Bits.{bit_or}
use Rattle.positions.specs.Sets.{picked}
use Rattle.relation.proofs.compose.pick.Given as goal

abbrev pub invariant-loop-left : goal.invariant-loop-left
invariant-loop-left l = (l.left ≤ l.row) × (bit_or l.got (picked l.left l.rows) ≡ picked l.row l.rows)

abbrev pub decreases-loop-left : goal.decreases-loop-left
decreases-loop-left l = l.left
