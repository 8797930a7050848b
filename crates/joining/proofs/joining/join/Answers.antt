use Rattle.std.proofs.Common.{◌≡◌, ◌+◌, ◌≤◌, ◌++◌, length, take, drop, sym, ap, ◌∙◌, subst, arith}
use Rattle.std.proofs.lemmas.List.{take-take, length-take-le}
use Rattle.rows.specs.Stretches.{joined_at}
use Rattle.rows.specs.Places.{stored}
use Rattle.rows.specs.Lists.{held, ends_of, RowRule}
use Rattle.rows.proofs.Leaves.{kept-is, rows_are, actions_are, rule_mid}
use Rattle.joining.proofs.Copies.{held_below, written_back}
use Rattle.joining.proofs.joining.join.Goals as goal

pub returns-clause-left : goal.returns-clause-left
returns-clause-left g c =
    let a = c.args in
    let rs = a.rows.now in
    let ps = a.actions.now in
    let file = a.source.now.file.now in
    let m = stored (g.M.Machine.model a.source.now.machine.now) in
    let rows = c.split_at_mut-old_rows in
    let acts = c.split_at_mut-old_actions in
    let marks = a.left.marks + a.right.marks in
    let j = c.join_into in
    let ys = j.new.rows in
    let qs = j.new.actions in
    let w : length ys ≡ marks = omega (arith, j.auto.rows, rows.ensures.back_len, length-take-le marks rows.result.1.now (omega (arith, rows.ensures.back_len))) in
    let v : length qs ≡ marks = omega (arith, j.auto.actions, acts.ensures.back_len, length-take-le marks acts.result.1.now (omega (arith, acts.ensures.back_len))) in
    let few : j.result.rows ≤ marks = omega (arith, j.ensures.few) in
    let front = ap (take a.used) rows.ensures.front ∙ take-take a.used a.used rs (omega arith) in
    let front-acts = ap (take a.used) acts.ensures.front ∙ take-take a.used a.used ps (omega arith) in
    let left = held_below rs rows.result.0.now ps acts.result.0.now a.used a.left c.requires.below.0 front front-acts in
    let right = held_below rs rows.result.0.now ps acts.result.0.now a.used a.right c.requires.below.1 front front-acts in
    let is = j.ensures.joined ∙ ap (λ x. joined_at file m (ends_of a.left) (ends_of a.right) x (held rows.result.0.now acts.result.0.now a.right)) left ∙ ap (joined_at file m (ends_of a.left) (ends_of a.right) (held rs ps a.left)) right in
    record {
      kept = kept-is ys qs j.result _ (omega arith) (omega arith) is;
      rows_are = written_back rs _ _ ys _ a.used marks j.result.rows rows.ensures.front rows.ensures.back w few (rows_are ys qs j.result _ (omega arith) (omega arith) is);
      actions_are = written_back ps _ _ qs _ a.used marks j.result.rows acts.ensures.front acts.ensures.back v few (actions_are ys qs j.result _ (omega arith) (omega arith) is);
    }

pub returns-clause-rule : goal.returns-clause-rule
returns-clause-rule g c =
    let a = c.args in
    let file = a.source.now.file.now in
    let j = c.join_into in
    let rows = c.split_at_mut-old_rows in
    let marks = a.left.marks + a.right.marks in
    let w : length j.new.rows ≡ marks = omega (arith, j.auto.rows, rows.ensures.back_len, length-take-le marks rows.result.1.now (omega (arith, rows.ensures.back_len))) in
    let zs = drop marks rows.result.1.now in
    subst (λ x. RowRule file (x ++ (j.new.rows ++ zs)) a.used j.result.rows) (sym rows.ensures.front) (rule_mid file a.rows.now j.new.rows zs a.used j.result.rows (omega arith) (omega (arith, j.ensures.few)) j.ensures.rule)
