use Rattle.std.proofs.Common.{◌≡◌, ◌≤◌, take}
use Rattle.std.specs.List.{count_by}
use Rattle.tags.specs.Bytes.{mark}
use Rattle.tags.proofs.marks.count_marks.Given as goal

abbrev pub invariant-loop-b : goal.invariant-loop-b
invariant-loop-b l = (l.count ≡ count_by mark (take l.b-index l.bytes)) × (l.count ≤ l.b-index)
