use Rattle.std.proofs.Common.{false, rules}
use Rattle.positions.specs.Tabs.{from_fn-tab}
use Rattle.relation.proofs.related.RelationMachineMachine.marks.Goals as goal

pub returns : goal.returns
returns c = from_fn-tab _ _ _ 8 (λ i x q l k. search rules) c.from_fn.result false c.from_fn.ensures.items
