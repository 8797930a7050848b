use Rattle.machine.proofs.Kept.{all_listed}
use Rattle.machine.proofs.queries.Queries.names.Goals as goal

pub returns-clause-all : goal.returns-clause-all
returns-clause-all c = all_listed c.args.self.now
