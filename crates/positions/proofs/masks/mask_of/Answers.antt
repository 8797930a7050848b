use Rattle.std.proofs.Common.{◌∙◌, arith, rules}
use Rattle.std.proofs.lemmas.Iterator.Adapters.{YieldsList-from_rev_slice}
use Rattle.std.proofs.lemmas.Iterator.Consumers.{fold_from_yields_List}
use Rattle.positions.proofs.Bits.{under, fold-under}
use Rattle.positions.proofs.masks.mask_of.Goals as goal

pub returns : goal.returns
returns c = fold_from_yields_List _ (under 32) 0 c.fold.result c.fold.ensures.ran (YieldsList-from_rev_slice c.args.bits (search rules)) (λ a x b q k. search rules) ∙ fold-under 32 c.args.bits (omega arith)
