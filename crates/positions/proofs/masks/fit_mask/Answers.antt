use Rattle.std.proofs.Common.{◌∙◌, rules}
use Rattle.std.proofs.lemmas.Iterator.Adapters.{YieldsList-from_rev_slice}
use Rattle.std.proofs.lemmas.Iterator.Consumers.{fold_from_yields_List}
use Rattle.machine.specs.declared.position.Position.{Position}
use Rattle.machine.specs.Queries.{fits_at}
use Rattle.positions.proofs.Bits.{under, fold-tested}
use Rattle.positions.proofs.masks.fit_mask.Goals as goal

pub returns : goal.returns
returns c =
    let ps = c.args.positions.now in
    let test = (λ (p : Position). fits_at p c.args.column) in
    fold_from_yields_List _ (λ m p. under 32 m (test p)) 0 c.fold.result c.fold.ensures.ran (YieldsList-from_rev_slice ps (search rules)) (λ a x b q k. search rules) ∙ fold-tested 32 test ps c.requires
