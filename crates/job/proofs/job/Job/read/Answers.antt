use Rattle.std.proofs.Common.{◌≡◌, Ok, Err, sym, rules}
use Rattle.std.proofs.lemmas.Result.{err_from_is_err_and}
use Rattle.tags.specs.Marks.{scanned}
use Rattle.rows.specs.Stretches.{content}
use Rattle.rows.specs.Places.{stored}
use Rattle.job.specs.State.{world, asked_read, Refused}
use Rattle.job.proofs.Asked.{turns_none}
use Rattle.job.proofs.Calls.{refused-turns, unchanged, read_told, made-piece}
use Rattle.job.proofs.job.Job.read.Goals as goal

pub returns-in_err-marks : goal.returns-in_err-marks
returns-in_err-marks g c =
    let p = err_from_is_err_and c.from_residual.result c.from_residual.ensures.1 in
    let a = c.args in
    let w = world a.self.now a.rows.now a.actions.now in
    let is : c.from_residual.result ≡ Err c.in_err-marks.field-0.0 = cc in
    record {
      says = refused-turns (asked_read a.file.now w a.from a.to) (scanned a.file.now a.from a.to) c.ask_read.result c.in_err-marks.field-0.0 c.from_residual.result w _ c.ask_read.ensures c.in_err-marks.was is;
      kept = unchanged c.from_residual.result c.in_err-marks.field-0.0 a.self.now is;
    }

pub read-kept-requires : goal.read-kept-requires
read-kept-requires g c =
    let a = c.args in
    let t = read_told a.file.now a.self.now a.rows.now a.actions.now a.from a.to c.in_ok-marks.marks c.ask_read.result c.ask_read.ensures c.in_ok-marks.was in
    record { within = t.within; marks = t.count; room = (t.in_rows, t.in_acts) }

pub add-requires : goal.add-requires
add-requires g c =
    let a = c.args in
    let t = read_told a.file.now a.self.now a.rows.now a.actions.now a.from a.to c.in_ok-marks.marks c.ask_read.result c.ask_read.ensures c.in_ok-marks.was in
    let r = t.in_rows in
    record { few = t.few; bytes = (t.order, t.end); rows = (c.read-kept.ensures.few, t.marks); used = search rules }

pub returns : goal.returns
returns g c =
    let a = c.args in
    let m = g.M.Machine.model a.m.now in
    let w = world a.self.now a.rows.now a.actions.now in
    let v = world c.add.new.self c.read-kept.new.rows c.read-kept.new.actions in
    let told = c.in_ok-marks.marks in
    let t = read_told a.file.now a.self.now a.rows.now a.actions.now a.from a.to told c.ask_read.result c.ask_read.ensures c.in_ok-marks.was in
    record {
      says =
          turns_none (asked_read a.file.now w a.from a.to) (λ why. Refused why w (Ok c.add.result) v) _ t.none
          (made-piece w v a.from a.to (scanned a.file.now a.from a.to) told (content a.file.now (stored m) a.from a.to) c.read-kept.result c.add.result told.2
          c.add.ensures.number c.add.ensures.job t.is (sym t.count) c.read-kept.ensures.left);
      kept = tt;
    }
