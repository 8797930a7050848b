use Rattle.std.proofs.Common.{sym, ap, ◌∙◌}
use Rattle.std.specs.List.{count_by}
use Rattle.std.proofs.lemmas.List.{take_all}
use Rattle.tags.specs.Bytes.{mark}
use Rattle.tags.proofs.Blocks.{length-marks}
use Rattle.tags.proofs.marks.count_marks.Goals as goal

pub returns : goal.returns
returns c =
    let bytes = c.args.bytes.now in
    c.loop-b.invariant.0 ∙ ap (count_by mark) (take_all c.loop-b.b-index bytes c.loop-b-test.false) ∙ sym (length-marks bytes 0)
