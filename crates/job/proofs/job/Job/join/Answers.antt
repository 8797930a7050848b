use Rattle.std.proofs.Common.{◌≡◌, ◌+◌, Ok, Err, ap, ◌∙◌, subst, arith, rules}
use Rattle.std.proofs.lemmas.Result.{err_from_is_err_and}
use Rattle.rows.specs.Lists.{ends_of}
use Rattle.job.specs.declared.piece.Piece.{Piece}
use Rattle.job.specs.State.{world, seen, nth_piece, joined_marks, joined_content, asked_join, Refused, Accepted}
use Rattle.job.proofs.Asked.{turns_none}
use Rattle.job.proofs.Calls.{refused-turns, unchanged, joined_count, join_told, made-piece}
use Rattle.job.proofs.job.Job.join.Goals as goal

pub returns-in_err-l : goal.returns-in_err-l
returns-in_err-l g c =
    let p = err_from_is_err_and c.from_residual.result c.from_residual.ensures.1 in
    let a = c.args in
    let w = world a.self.now a.rows.now a.actions.now in
    let is : c.from_residual.result ≡ Err c.in_err-l.field-0.0 = cc in
    record {
      says = refused-turns (asked_join a.file.now w a.left a.right) _ c.ask_join.result c.in_err-l.field-0.0 c.from_residual.result w _ c.ask_join.ensures c.in_err-l.was is;
      kept = unchanged c.from_residual.result c.in_err-l.field-0.0 a.self.now is;
    }

pub join-kept-requires : goal.join-kept-requires
join-kept-requires g c =
    let a = c.args in
    let d = c.in_ok-l in
    let t = join_told a.file.now a.self.now a.rows.now a.actions.now a.left a.right d.l d.r c.ask_join.result c.ask_join.ensures d.was in
    let y = t.ready in
    record {
      room = (y.in_rows, y.in_acts);
      below = (y.left.2, y.right.2);
      few = (y.left.3, y.right.3);
      rule = (y.left_rule, y.right_rule);
    }

pub add-requires : goal.add-requires
add-requires g c =
    let a = c.args in
    let d = c.in_ok-l in
    let t = join_told a.file.now a.self.now a.rows.now a.actions.now a.left a.right d.l d.r c.ask_join.result c.ask_join.ensures d.was in
    let y = t.ready in
    let n : c.joined_ends-marks.result.2 ≡ d.l.part.marks + d.r.part.marks =
    ap (λ x. x.2) c.joined_ends-marks.ensures ∙ joined_count (ends_of d.l.part) (ends_of d.r.part) in
    let f = c.join-kept.ensures.few in
    record {
      few = y.few;
      bytes = ((let p = y.left.0 in let q = y.right.0 in let m = y.meet in omega arith), y.right.1);
      rows = (omega arith, (let p = y.left in let q = y.right in let m = y.meet in let u = p.4 in let v = q.4 in let o = p.0 in let w = q.0 in omega arith));
      used = search rules;
    }

pub returns : goal.returns
returns g c =
    let a = c.args in
    let d = c.in_ok-l in
    let m = g.M.Machine.model a.m.now in
    let j = a.self.now in
    let w = world j a.rows.now a.actions.now in
    let t = join_told a.file.now j a.rows.now a.actions.now a.left a.right d.l d.r c.ask_join.result c.ask_join.ensures d.was in
    let v = world c.add.new.self c.join-kept.new.rows c.join-kept.new.actions in
    record {
      says =
          turns_none _ (λ why. Refused why w (Ok c.add.result) v) _ t.none
          (subst (λ (x : Piece). Accepted w x.from (nth_piece (seen j) a.right).to (joined_marks x (nth_piece (seen j) a.right)) (joined_content a.file.now m w x (nth_piece (seen j) a.right)) (Ok c.add.result) v) t.left_is
          (subst (λ (x : Piece). Accepted w d.l.from x.to (joined_marks d.l x) (joined_content a.file.now m w d.l x) (Ok c.add.result) v) t.right_is
          (made-piece w v d.l.from d.r.to (joined_marks d.l d.r) c.joined_ends-marks.result (joined_content a.file.now m w d.l d.r) c.join-kept.result c.add.result (d.l.part.marks + d.r.part.marks)
          c.add.ensures.number c.add.ensures.job c.joined_ends-marks.ensures (joined_count (ends_of d.l.part) (ends_of d.r.part)) c.join-kept.ensures.left)));
      kept = tt;
    }
