use Rattle.std.proofs.Common.{get_or, rules}
use Rattle.positions.specs.Sets.{picked}
use Rattle.positions.specs.Tabs.{from_fn-tab}
use Rattle.relation.specs.Relations.{same-action}
use Rattle.relation.proofs.related.RelationMachineMachine.then.Goals as goal

pub invariant_of-result : goal.invariant_of-result
invariant_of-result c = record { size = c.from_fn.ensures.items.long; low = λ k h. search rules }

pub returns : goal.returns
returns c = same-action _ _ (from_fn-tab _ _ (λ i. picked (get_or c.args.a.now.rows i 0) c.args.b.now.rows) 32 (λ i x q l k. search rules) c.from_fn.result 0 c.from_fn.ensures.items)
