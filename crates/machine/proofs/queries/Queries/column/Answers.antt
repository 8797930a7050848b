use Rattle.std.proofs.Common.{arith}
use Rattle.machine.specs.Asked.{listed_names}
use Rattle.machine.proofs.Columns.{column-le}
use Rattle.machine.proofs.Kept.{few-names}
use Rattle.machine.proofs.queries.Queries.column.Goals as goal

pub returns-clause-few : goal.returns-clause-few
returns-clause-few c = omega (arith, c.column.ensures, column-le (listed_names c.args.self.now) c.args.name.now, few-names c.args.self.now)
