use Rattle.std.proofs.Common.{◌∙◌, ◌-◌, ◌++◌, true, replicate, length-append, ◌||◌, leb, map, length, get_or, false, ap, arith, rules}
use lib.ListN.{length-map, length-replicate}
use Rattle.machine.specs.declared.position.Position.TheVariants.{End}
use Rattle.machine.specs.Queries.{deep_at}
use Rattle.machine.specs.Masks.{mask}
use Rattle.positions.specs.Tabs.{from_fn-tab}
use Rattle.positions.proofs.Bits.{mask-tab, rest_tested}
use Rattle.positions.proofs.masks.rest_mask.Goals as goal

pub returns : goal.returns
returns c =
    let ps = c.args.positions.now in
    let rest = replicate (32 - length ps) true in
    let test = λ (j : _). leb (length ps) j || deep_at (get_or ps j End) in
    c.mask_of.ensures ∙ ap mask (from_fn-tab _ _ test 32 (λ i x q l k. search rules) c.from_fn.result false c.from_fn.ensures.items)
    ∙ mask-tab test 32 (map deep_at ps ++ rest) (omega (arith, length-append (map deep_at ps) rest, length-map ps deep_at, length-replicate (32 - length ps) true)) (λ k h. rest_tested deep_at ps End (32 - length ps) k (omega arith))
