use Rattle.machine.proofs.Stands.{path-rule}
use Rattle.machine.proofs.laws.path_rule.Goals as goal

pub returns : goal.returns
returns g c = path-rule
