use Rattle.std.proofs.Common.{◌-◌}
use Rattle.table.specs.Filling.{seen, by_moves, KeepsMoves}
use Rattle.table.proofs.Closing.{Closing}
use Rattle.table.proofs.filling.Filling.try_states.Given as goal

abbrev pub invariant-loop-i : goal.invariant-loop-i
invariant-loop-i l =
    let old = l.initial.self in
    record { keeps : KeepsMoves old l.self; closing : Closing (by_moves old.moves) old.columns (seen old.found) l.i (seen l.self.found) l.self.next }

abbrev pub decreases-loop-i : goal.decreases-loop-i
decreases-loop-i l = 32 - l.i
