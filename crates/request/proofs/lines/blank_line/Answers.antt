use Rattle.std.proofs.Common.{arith}
use Rattle.std.proofs.lemmas.Bool.Decides.{nat_tests}
use Rattle.request.specs.Lines.{blank_line}
use Rattle.request.proofs.Finding.{found-blank, passed-blank, ended-blank}
use Rattle.request.proofs.lines.blank_line.Goals as goal

pub returns-then-ends : goal.returns-then-ends
returns-then-ends c = record { before = found-blank c.loop-at.fresh c.args.bytes.now c.loop-at.at (blank_line c.args.bytes.now) c.loop-at.invariant (omega arith) (grind (arith, nat_tests)); within = omega arith }

pub loop-at-preserved : goal.loop-at-preserved
loop-at-preserved c = passed-blank c.loop-at.fresh c.args.bytes.now c.loop-at.at (blank_line c.args.bytes.now) c.loop-at.invariant (omega arith) (grind (arith, nat_tests))

pub returns : goal.returns
returns c = record { before = ended-blank c.loop-at.fresh c.args.bytes.now c.loop-at.at (blank_line c.args.bytes.now) c.loop-at.invariant (omega arith) (omega arith); within = omega arith }
