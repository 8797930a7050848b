use Rattle.std.proofs.Common.{rules}
use Rattle.machine.specs.Masks.{fit_mask}
use Rattle.positions.specs.Tabs.{from_fn-tab}
use Rattle.positions.proofs.masks.fit_masks.Goals as goal

pub returns : goal.returns
returns c = from_fn-tab _ _ (fit_mask c.args.positions.now) 16 (λ i x q l k. search rules) c.from_fn.result 0 c.from_fn.ensures.items
