use Rattle.std.proofs.Common.{get_or, sym, subst, arith}
use Rattle.machine.specs.Reading.{turn}
use Rattle.machine.proofs.Counting.{Counts, counts_none, counts_on, counted-le, line_count-le, drafted, drafted_more, drafted_all}
use Rattle.machine.proofs.measure.Measure.of.Goals as goal

pub loop-b-init : goal.loop-b-init
loop-b-init c = (counts_none c.args.text.now _ c.new.ensures, omega arith, omega arith)

pub loop-b-preserved : goal.loop-b-preserved
loop-b-preserved c =
    let text = c.args.text.now in
    let i = c.loop-b.b-index in
    let m = c.loop-b.measure in
    let after = c.take.new.self in
    let b = get_or text i 0 in
    let t = turn m.reader.state b in
    let h = counts_on (drafted text i) m.reader.state m.lines m.positions b after.reader.state after.lines after.positions c.loop-b.invariant.0 c.take.ensures.state c.take.ensures.lines c.take.ensures.positions in (
      subst (λ D. Counts D after.reader.state after.lines after.positions) (sym (drafted_more text i (omega arith))) h,
      omega (arith, c.take.ensures.lines, line_count-le t.0),
      omega (arith, c.take.ensures.positions, line_count-le t.0, counted-le t.1),
    )

pub returns : goal.returns
returns c =
    let text = c.args.text.now in
    let i = c.loop-b.b-index in
    let m = c.loop-b.measure in
    let after = c.take-2.new.self in
    let h = counts_on (drafted text i) m.reader.state m.lines m.positions 10 after.reader.state after.lines after.positions c.loop-b.invariant.0 c.take-2.ensures.state c.take-2.ensures.lines c.take-2.ensures.positions in
    let w = subst (λ D. Counts D after.reader.state after.lines after.positions) (sym (drafted_all text i (omega arith))) h in
    record { state = w.state; lines = w.lines_is; positions = w.positions_is }
