use Rattle.machine.specs.Sketches.{sketch}
use Rattle.machine.proofs.Counting.{drafted}
use Rattle.machine.proofs.Following.{Follows}
use Rattle.machine.proofs.plan.Plan.read.Given as goal

abbrev pub invariant-loop-i : goal.invariant-loop-i
invariant-loop-i l = Follows (drafted l.text l.i) l.text l.from l.i l.reader.state (sketch l.self)
