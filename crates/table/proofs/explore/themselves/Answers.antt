use Rattle.std.proofs.Common.{◌/◌, ◌∙◌, arith}
use Rattle.std.proofs.lemmas.List.Edits.{fill_by_more}
use Rattle.std.proofs.lemmas.List.{length-set}
use Rattle.table.proofs.explore.themselves.Goals as goal

pub loop-k-preserved : goal.loop-k-preserved
loop-k-preserved c = (length-set _ _ _ ∙ c.loop-k.invariant.0, fill_by_more (λ j. j / 16) c.loop-k.next c.loop-k.k 0 (omega (arith, c.loop-k.invariant.0)) c.loop-k.invariant.1)
