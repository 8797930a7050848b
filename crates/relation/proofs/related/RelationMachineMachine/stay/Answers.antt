use Rattle.std.proofs.Common.{◌^◌, rules}
use Rattle.std.proofs.lemmas.Nat.{one_shl}
use Rattle.positions.specs.Tabs.{from_fn-tab}
use Rattle.relation.specs.Relations.{same-action}
use Rattle.relation.proofs.related.RelationMachineMachine.stay.Goals as goal

pub returns : goal.returns
returns c = same-action _ _ (from_fn-tab _ _ (λ i. 2 ^ i) 32 (λ i x q l k. let e = one_shl i 32 l in search rules) c.from_fn.result 0 c.from_fn.ensures.items)
