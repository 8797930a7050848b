use Rattle.std.proofs.Common.{◌∙◌}
use Rattle.machine.proofs.Kept.{lasts_are}
use Rattle.machine.proofs.queries.Queries.lasts.Goals as goal

pub returns-clause-list : goal.returns-clause-list
returns-clause-list c = c.lasts.ensures ∙ lasts_are c.args.self.now
