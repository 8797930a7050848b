use Rattle.std.proofs.Common.{vec_items}
use Rattle.std.specs.Iterator.Adapters.{rev_source}
use Rattle.std.specs.Slice.Iter.{iter_rest}
use Rattle.solving.proofs.Planning.{Planned}
use Rattle.solving.proofs.plan.plan_calls.Given as goal

abbrev pub invariant-loop-cut : goal.invariant-loop-cut
invariant-loop-cut l = Planned l.cuts l.size (iter_rest (rev_source l.cut-iterator)) (vec_items l.steps) l.to
