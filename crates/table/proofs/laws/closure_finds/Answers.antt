use Rattle.table.proofs.Arise.{closure-finds}
use Rattle.table.proofs.Counting.{never_both}
use Rattle.table.proofs.laws.closure_finds.Goals as goal

pub returns : goal.returns
returns c = record { finds = closure-finds; either = never_both }
