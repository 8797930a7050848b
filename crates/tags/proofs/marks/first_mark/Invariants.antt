use Rattle.std.proofs.Common.{◌≡◌, ◌*◌, ◌≤◌, [], length, take}
use Rattle.tags.specs.Marks.{marks}
use Rattle.tags.proofs.marks.first_mark.Given as goal

abbrev pub invariant-loop-i : goal.invariant-loop-i
invariant-loop-i l = (16 * l.i ≤ length l.bytes) × (marks (take (16 * l.i) l.bytes) 0 ≡ [])
