use Rattle.std.proofs.Common.{◌+◌, take, Some, refl, ap, ◌∙◌, arith}
use Rattle.rows.specs.Places.{stored, paired}
use Rattle.reading.proofs.Readers.{ready_none}
use Rattle.reading.proofs.Marking.{found_low, found_past, going-none, going-all, going-fault, going_more}
use Rattle.reading.proofs.reading.read_rows.Goals as goal

pub overflow_add-mark : goal.overflow_add-mark
overflow_add-mark g c =
    let h = found_low c.args.source.now.file.now c.args.from c.args.to c.next_mark-mark.result c.next_mark-mark.ensures in
    omega arith

pub loop-next-init : goal.loop-next-init
loop-next-init g c =
    let a = c.args in
    let s = a.source.now in
    let r = c.new-reader in
    record {
      going = going-none s.file.now (stored (g.M.Machine.model s.machine.now)) a.from a.to a.lists.now r.result c.next_mark-mark.result c.next_mark-next.result (ready_none s.file.now a.lists.now.rows.now r.result r.ensures.rows r.ensures.base) r.ensures.rows c.next_mark-mark.ensures c.next_mark-next.ensures;
      same = (refl, refl, refl);
    }

pub returns-in-Err-clause-read : goal.returns-in-Err-clause-read
returns-in-Err-clause-read g c =
    let a = c.args in
    let s = a.source.now in
    let l = c.loop-next in
    let k = c.keep_closes-n in
    going-fault s.file.now (stored (g.M.Machine.model s.machine.now)) a.from a.to l.lists l.reader l.mark l.next l.invariant.going c.loop-next-test.true (record { rows = take k.result (paired k.new.self.rows.now k.new.self.actions.now); fault = Some c.in-Err.fault })
    (ap (λ x. record { rows = x; fault = Some c.in-Err.fault }) k.ensures.kept ∙ c.in-Err.ensures.put) c.in-Err.fault refl

pub loop-next-smaller : goal.loop-next-smaller
loop-next-smaller g c =
    let l = c.loop-next in
    let h = found_past c.args.source.now.file.now (l.next + 1) c.args.to c.next_mark-next-in-loop-next.result c.next_mark-next-in-loop-next.ensures (omega (arith, c.loop-next-test.true)) in
    omega (arith, c.loop-next-test.true)

pub loop-next-preserved : goal.loop-next-preserved
loop-next-preserved g c =
    let a = c.args in
    let s = a.source.now in
    let l = c.loop-next in
    let to = c.read_stretch.new in
    let did = c.in_default.ensures in
    record {
      going = going_more s.file.now (stored (g.M.Machine.model s.machine.now)) a.from a.to l.lists l.reader l.mark l.next l.invariant.going to.lists to.self c.next_mark-next-in-loop-next.result c.loop-next-test.true did.put did.ready did.few c.next_mark-next-in-loop-next.ensures;
      same = (did.same.0 ∙ l.invariant.same.0, did.same.1 ∙ l.invariant.same.1, did.same.2 ∙ l.invariant.same.2);
    }

pub returns-clause-read : goal.returns-clause-read
returns-clause-read g c =
    let a = c.args in
    let s = a.source.now in
    let l = c.loop-next in
    going-all s.file.now (stored (g.M.Machine.model s.machine.now)) a.from a.to l.lists l.reader l.mark l.next l.invariant.going c.loop-next-test.false
