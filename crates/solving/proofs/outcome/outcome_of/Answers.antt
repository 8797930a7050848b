use Rattle.std.proofs.Common.{rules}
use Rattle.solving.proofs.Telling.{told}
use Rattle.solving.proofs.outcome.outcome_of.Goals as goal

pub returns : goal.returns
returns c = told c.args.steps.now c.find_map.result (search rules)
