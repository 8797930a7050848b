use Rattle.std.proofs.Common.{get_or, ◌%◌, ◌<◌, sym, subst, rules}
use Rattle.positions.specs.Tabs.{from_fn-tab}
use Rattle.table.specs.Tables.{backing, same-action}
use Rattle.table.proofs.tabled.TableMachineMachine.back.Goals as goal

pub invariant_of-result : goal.invariant_of-result
invariant_of-result c =
    let e = from_fn-tab _ _ (λ k. get_or c.args.p.now k 0 % 32) 32 (λ i x q l k. search rules) c.from_fn.result 0 c.from_fn.ensures.items in
    record { size = c.from_fn.ensures.items.long; ok = λ k h. subst (λ to. get_or to k 0 < 32) (sym e) ((backing c.args.p.now).ok k h) }

pub returns : goal.returns
returns c = same-action _ _ (from_fn-tab _ _ (λ k. get_or c.args.p.now k 0 % 32) 32 (λ i x q l k. search rules) c.from_fn.result 0 c.from_fn.ensures.items)
