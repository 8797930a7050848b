use Rattle.std.proofs.Common.{◌∙◌, length, ap, rules, arith}
use Rattle.std.specs.Slice.Iter.{chunks_rest}
use Rattle.tags.proofs.Blocks.{few, with-marks, without-marks, all-counted}
use Rattle.tags.proofs.marks.scan.Goals as goal

pub overflow_add-count : goal.overflow_add-count
overflow_add-count c = omega (arith, few c.in-Some.block.now (chunks_rest c.next.new.self) c.count_marks-marks.result c.loop-block.invariant.3 c.in-Some.ensures.steps.1.0 c.count_marks-marks.ensures, ap length c.part.ensures.bytes)

pub loop-block-preserved-then-marks-gt0 : goal.loop-block-preserved-then-marks-gt0
loop-block-preserved-then-marks-gt0 c = (
  omega (arith, c.in-Some.ensures.steps.0),
  tt,
  c.in-Some.ensures.steps.0 ∙ c.loop-block.invariant.2,
  with-marks c.in-Some.block.now (chunks_rest c.next.new.self) c.count_marks-marks.result c.loop-block.invariant.3 c.in-Some.ensures.steps.1.0 c.count_marks-marks.ensures c.if-marks-gt0.true,
)

pub loop-block-preserved : goal.loop-block-preserved
loop-block-preserved c = (
  omega (arith, c.in-Some.ensures.steps.0),
  tt,
  c.in-Some.ensures.steps.0 ∙ c.loop-block.invariant.2,
  without-marks c.in-Some.block.now (chunks_rest c.next.new.self) c.count_marks-marks.result c.loop-block.invariant.3 c.in-Some.ensures.steps.1.0 c.count_marks-marks.ensures (omega arith),
)

pub returns : goal.returns
returns c =
    all-counted c.args.file.now c.args.from c.args.to c.next_mark-first.result c.last_mark.result c.map_or.result c.next_mark-first.ensures c.loop-block.invariant.3 c.in-None.ensures.steps.1.0 c.last_mark.ensures (search rules)
