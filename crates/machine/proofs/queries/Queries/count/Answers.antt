use Rattle.machine.proofs.Kept.{lines_are}
use Rattle.machine.proofs.queries.Queries.count.Goals as goal

pub returns-clause-number : goal.returns-clause-number
returns-clause-number c = lines_are c.args.self.now
