use Rattle.tags.proofs.Blocks.{no_bits, lowest_bit}
use Rattle.tags.proofs.marks.mark_in_block.Goals as goal

pub returns-then-marks-eq0 : goal.returns-then-marks-eq0
returns-then-marks-eq0 c = no_bits c.args.block.now c.told-block c.if-marks-eq0.true

pub returns-else-marks-eq0 : goal.returns-else-marks-eq0
returns-else-marks-eq0 c = lowest_bit c.args.block.now c.told-block c.if-marks-eq0.false
