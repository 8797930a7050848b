use Rattle.std.proofs.Common.{get_or}
use Rattle.table.specs.Filling.{seen, by_moves, KeepsMoves}
use Rattle.table.proofs.Trying.{Trying}
use Rattle.table.proofs.filling.Filling.try_state.Given as goal

abbrev pub invariant-loop-c : goal.invariant-loop-c
invariant-loop-c l =
    let old = l.initial.self in
    let sets = seen old.found in
    record { keeps : KeepsMoves old l.self; tried : Trying (by_moves old.moves) old.columns l.i (get_or sets l.i 0) sets l.c (seen l.self.found) l.self.next }
