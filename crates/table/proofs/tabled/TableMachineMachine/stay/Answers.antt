use Rattle.std.proofs.Common.{rules}
use Rattle.positions.specs.Tabs.{from_fn-tab}
use Rattle.table.specs.Tables.{same-action}
use Rattle.table.proofs.tabled.TableMachineMachine.stay.Goals as goal

pub returns : goal.returns
returns c = same-action _ _ (from_fn-tab _ _ (λ k. k) 32 (λ i x q l k. search rules) c.from_fn.result 0 c.from_fn.ensures.items)
