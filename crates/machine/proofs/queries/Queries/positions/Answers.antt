use Rattle.std.proofs.Common.{◌∙◌}
use Rattle.machine.proofs.Kept.{places-are}
use Rattle.machine.proofs.queries.Queries.positions.Goals as goal

pub returns-clause-list : goal.returns-clause-list
returns-clause-list c = c.positions.ensures ∙ places-are c.args.self.now
