use Rattle.std.proofs.Common.{false, arith}
use Rattle.positions.specs.Tabs.{is_tab}
use Rattle.positions.proofs.lines.Lines.marked.Goals as goal

pub returns : goal.returns
returns c = is_tab _ c.loop-q.marked 8 false c.loop-q.invariant.0 (λ k h. c.loop-q.invariant.1 k (omega arith))
