use Rattle.std.proofs.Common.{◌≡◌, ◌+◌, ◌≤◌, length, drop, sym, ◌∙◌, subst, arith}
use Rattle.std.proofs.lemmas.List.{length-take-le, length-drop}
use Rattle.rows.specs.Stretches.{stretches, content, nothing}
use Rattle.rows.specs.Places.{stored}
use Rattle.rows.specs.Lists.{Written, rows_of, actions_of, RowRule}
use Rattle.rows.proofs.Rules.{Ruled, ruled-eval, ruled-at}
use Rattle.rows.proofs.Leaves.{written, mid_is, rule_mid, kept-is, rows_are, actions_are}
use Rattle.reading.proofs.reading.read.Goals as goal

pub returns : goal.returns
returns g c =
    let a = c.args in
    let m = stored (g.M.Machine.model a.source.now.machine.now) in
    let file = a.source.now.file.now in
    let rs = a.rows.now in
    let ps = a.actions.now in
    let u = a.used in
    let d = c.read_into in
    let ys = d.new.rows in
    let qs = d.new.actions in
    let n = d.result.rows in
    let whole = content file m a.from a.to in
    let w : length ys ≡ a.marks = let v = length-drop u rs in let x = length-take-le a.marks (drop u rs) (omega (arith, c.requires.room.0)) in omega arith in
    let v : length qs ≡ a.marks = let y = length-drop u ps in let x = length-take-le a.marks (drop u ps) (omega (arith, c.requires.room.1)) in omega arith in
    let few : n ≤ a.marks = omega (arith, d.ensures.few) in
    let high : n ≤ length ys = omega arith in
    let ruled = subst (λ x. Ruled file x.rows) (sym d.ensures.read) (ruled-eval file m (stretches file a.from a.to) nothing tt) in
    record {
      left = record {
        kept = kept-is ys qs d.result whole (w ∙ sym v) high d.ensures.read;
        rows_are = subst (Written u a.marks (rows_of whole) rs) (sym (mid_is rs ys u a.marks)) (written rs ys (rows_of whole) u a.marks n w few (rows_are ys qs d.result whole (w ∙ sym v) high d.ensures.read));
        actions_are = subst (Written u a.marks (actions_of whole) ps) (sym (mid_is ps qs u a.marks)) (written ps qs (actions_of whole) u a.marks n v few (actions_are ys qs d.result whole (w ∙ sym v) high d.ensures.read));
      };
      few = omega (arith, d.ensures.few);
      rule = subst (λ x. RowRule file x u n) (sym (mid_is rs ys u a.marks)) (rule_mid file rs ys (drop (u + a.marks) rs) u n (omega (arith, c.requires.room.0)) high (ruled-at file n ys qs (w ∙ sym v) high ruled));
    }
