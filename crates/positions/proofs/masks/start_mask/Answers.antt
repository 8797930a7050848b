use Rattle.std.proofs.Common.{◌∙◌, true, ◌-◌, ◌&&◌, ◌||◌, ltb, eqb, length, get_or, false, ap, arith, rules}
use Rattle.machine.specs.declared.position.Position.TheVariants.{End}
use Rattle.machine.specs.Masks.{mask}
use Rattle.machine.specs.Views.{is_end}
use Rattle.positions.specs.Sets.{start_bits}
use Rattle.positions.specs.Tabs.{from_fn-tab}
use Rattle.positions.proofs.Bits.{mask-tab, start_tested}
use Rattle.positions.proofs.Rule.{length-starts}
use Rattle.positions.proofs.masks.start_mask.Goals as goal

pub returns : goal.returns
returns c =
    let ps = c.args.positions.now in
    let test = λ (j : _). ltb j (length ps) && (eqb j 0 || is_end (get_or ps (j - 1) End)) in
    c.mask_of.ensures ∙ ap mask (from_fn-tab _ _ test 32 (λ i x q l k. search rules) c.from_fn.result false c.from_fn.ensures.items)
    ∙ mask-tab test 32 (start_bits true ps) (omega (arith, length-starts true ps)) (λ k h. start_tested ps k)
