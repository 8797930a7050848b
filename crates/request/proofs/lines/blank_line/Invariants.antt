use Rattle.std.proofs.Common.{◌≡◌, ◌+◌, drop}
use Rattle.request.specs.Lines.{ahead_of_blank, blank_line}
use Rattle.request.proofs.lines.blank_line.Given as goal

abbrev pub invariant-loop-at : goal.invariant-loop-at
invariant-loop-at l = blank_line l.bytes ≡ l.at + ahead_of_blank l.fresh (drop l.at l.bytes)
