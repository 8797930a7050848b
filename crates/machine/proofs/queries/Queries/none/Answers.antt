use Rattle.std.proofs.Common.{ap}
use Rattle.machine.specs.Asked.{queries_of}
use Rattle.machine.specs.Sketches.{Sketch}
use Rattle.machine.specs.Views.{decoded}
use Rattle.machine.proofs.queries.Queries.none.Goals as goal

pub returns-clause-queries : goal.returns-clause-queries
unfolding queries_of
returns-clause-queries c = ap (λ (S : Sketch). decoded S.names S.places) c.new.ensures
