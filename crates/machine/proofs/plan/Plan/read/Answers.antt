use Rattle.std.proofs.Common.{◌+◌, ◌<◌, length, get_or, sym, ◌∙◌, subst, arith}
use Rattle.std.proofs.lemmas.Result.{err_from_is_err_and}
use Rattle.machine.specs.Sketches.{sketch}
use Rattle.machine.proofs.Counting.{drafted, drafted_all}
use Rattle.machine.proofs.Following.{Follows, ahead_more, ahead-last, room, line-room, unfit, follows_none, follows-parted, follows_on, Told, told}
use Rattle.machine.proofs.plan.Plan.read.Goals as goal
use Rattle.machine.proofs.plan.Plan.read.Goals.{then-parts_names, else-parts_names}

pub loop-i-init : goal.loop-i-init
loop-i-init c = follows_none c.args.text.now c.new-reader.result.state (sketch c.args.self.now) c.new-reader.ensures c.requires.none

pub byte-requires : goal.byte-requires
byte-requires c =
    let text = c.args.text.now in
    let i = c.loop-i.i in
    let a = ahead_more text i (omega arith) in
    record {
      room = room text (drafted text i) c.loop-i.from i c.loop-i.reader.state c.loop-i.self (get_or text i 0) c.loop-i.invariant a c.requires.positions;
      lines = line-room text (drafted text i) c.loop-i.from i c.loop-i.reader.state c.loop-i.self (get_or text i 0) c.loop-i.invariant a c.requires.lines;
    }

pub returns-in_err-byte : goal.returns-in_err-byte
returns-in_err-byte c =
    let text = c.args.text.now in
    let i = c.loop-i.i in
    let p = err_from_is_err_and c.from_residual.result c.from_residual.ensures.1 in
    let h = c.in_err-byte.ensures.sketch in
    rw (p.1, p.2) (h.0, unfit text (drafted text i) c.loop-i.from i c.loop-i.reader.state c.loop-i.self (get_or text i 0) c.loop-i.invariant (ahead_more text i (omega arith)) h.1)

pub loop-i-preserved : goal.loop-i-preserved
loop-i-preserved c =
    let text = c.args.text.now in
    let i = c.loop-i.i in
    let from = c.loop-i.from in
    let s = c.loop-i.reader.state in
    let s' = c.byte.new.reader.state in
    let p = c.loop-i.self in
    let p' = c.byte.new.self in
    let h = c.in_ok-byte.ensures in
    let high : i < length text = omega arith in
    elim c.if-parts_names.branch [
      | then-parts_names w ↦ subst (λ k. Follows (drafted text (i + 1)) text k (i + 1) s' (sketch p')) (sym w.from-is) (follows-parted text from i s s' p (sketch p') high c.loop-i.invariant h.state h.sketch (sym c.parts_names.ensures ∙ w.if-parts_names.true))
      | else-parts_names w ↦ subst (λ k. Follows (drafted text (i + 1)) text k (i + 1) s' (sketch p')) (sym w.from-is) (follows_on text from i s s' p (sketch p') high c.loop-i.invariant h.state h.sketch (sym c.parts_names.ensures ∙ w.if-parts_names.false))
    ]

pub byte-requires-2 : goal.byte-requires-2
byte-requires-2 c =
    let text = c.args.text.now in
    let i = c.loop-i.i in
    let a = ahead-last text i (omega arith) in
    record {
      room = room text (drafted text i) c.loop-i.from i c.loop-i.reader.state c.loop-i.self 10 c.loop-i.invariant a c.requires.positions;
      lines = line-room text (drafted text i) c.loop-i.from i c.loop-i.reader.state c.loop-i.self 10 c.loop-i.invariant a c.requires.lines;
    }

pub returns : goal.returns
returns c =
    let text = c.args.text.now in
    let i = c.loop-i.i in
    let last = drafted_all text i (omega arith) in
    let h = told text (drafted text i) c.loop-i.from i (length text) c.loop-i.reader.state c.loop-i.self 10 c.loop-i.invariant (ahead-last text i (omega arith)) (omega arith) c.byte-2.result (sketch c.byte-2.new.self) c.byte-2.ensures.sketch in
    subst (λ D. Told text D c.byte-2.result (sketch c.byte-2.new.self)) (sym last) h
