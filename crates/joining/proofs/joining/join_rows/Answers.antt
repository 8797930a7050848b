use Rattle.std.proofs.Common.{◌≡◌, length, drop, ap, ◌∙◌, sym, arith}
use Rattle.std.proofs.lemmas.List.{length-take-le, length-drop}
use Rattle.rows.specs.Pieces.{put}
use Rattle.rows.specs.Stretches.{one}
use Rattle.rows.specs.Places.{stored}
use Rattle.rows.specs.Lists.{kept_at, held, ends_of}
use Rattle.rows.proofs.Rules.{ruled-put, ruled-one}
use Rattle.joining.proofs.Copies.{kept_rule, put_both, held_part, joined-both}
use Rattle.joining.proofs.Firsts.{first-kept}
use Rattle.joining.proofs.joining.join_rows.Goals as goal

pub returns-then-left-eq0-clause-rule : goal.returns-then-left-eq0-clause-rule
returns-then-left-eq0-clause-rule g c =
    let a = c.args in
    let is = c.copy_part.new.lists in
    let n = ap (λ x. x.rows) c.copy_part.ensures.kept in
    first-kept a.source.now.file.now is.rows.now is.actions.now c.copy_part.result is.beside (omega (arith, n, c.requires.few.1, c.copy_part.ensures.same.2)) c.copy_part.ensures.copied
    (kept_rule _ a.old.now.rows.now a.old.now.actions.now a.right.at a.right.kept a.old.now.beside c.requires.within.1 c.requires.rule.1)

pub returns-then-right-eq0-clause-rule : goal.returns-then-right-eq0-clause-rule
returns-then-right-eq0-clause-rule g c =
    let a = c.args in
    let k = c.copy_part-copied in
    let is = k.new.lists in
    let n = ap (λ x. x.rows) k.ensures.kept in
    first-kept a.source.now.file.now is.rows.now is.actions.now k.result is.beside (omega (arith, n, c.requires.few.0, k.ensures.same.2)) k.ensures.copied
    (kept_rule _ a.old.now.rows.now a.old.now.actions.now a.left.at a.left.kept a.old.now.beside c.requires.within.0 c.requires.rule.0)

pub put_stretch-between-requires-clause-names : goal.put_stretch-between-requires-clause-names
put_stretch-between-requires-clause-names g c =
    let a = c.args in
    let k = c.copy_part-copied in
    let is = k.new.lists in
    let n = ap (λ x. x.rows) k.ensures.kept in
    first-kept a.source.now.file.now is.rows.now is.actions.now k.result is.beside (omega (arith, n, c.requires.few.0, k.ensures.same.2)) k.ensures.copied
    (kept_rule _ a.old.now.rows.now a.old.now.actions.now a.left.at a.left.kept a.old.now.beside c.requires.within.0 c.requires.rule.0)

pub put-requires-clause-names : goal.put-requires-clause-names
put-requires-clause-names g c =
    let a = c.args in
    let file = a.source.now.file.now in
    let m = stored (g.M.Machine.model a.source.now.machine.now) in
    let old = a.old.now in
    let b = c.put_stretch-between in
    let is = b.new.lists in
    let n = ap (λ x. x.rows) c.copy_part-copied.ensures.kept in
    let tag = one file m (a.left.last, a.right.first) in
    first-kept file is.rows.now is.actions.now b.result is.beside (omega (arith, n, c.requires.few.0, b.ensures.within, b.ensures.same.2, c.copy_part-copied.ensures.same.2, c.if-left-eq0.false)) (b.ensures.put ∙ ap (λ x. put file m x tag) c.copy_part-copied.ensures.copied)
    (ruled-put file m (held old.rows.now old.actions.now a.left) tag (kept_rule file old.rows.now old.actions.now a.left.at a.left.kept old.beside c.requires.within.0 c.requires.rule.0) (ruled-one file m (a.left.last, a.right.first)))

-- both pieces with the stretch between
both : (g : _) (c : goal.After-put g) →
    let a = c.args in
    let file = a.source.now.file.now in
    let m = stored (g.M.Machine.model a.source.now.machine.now) in
    let old = a.old.now in
    kept_at c.put.new.lists.rows.now c.put.new.lists.actions.now 0 c.put.result ≡ put file m (put file m (held old.rows.now old.actions.now a.left) (one file m (a.left.last, a.right.first))) (held old.rows.now old.actions.now a.right)
both g c =
    let a = c.args in
    put_both a.source.now.file.now (stored (g.M.Machine.model a.source.now.machine.now)) (one a.source.now.file.now (stored (g.M.Machine.model a.source.now.machine.now)) (a.left.last, a.right.first)) c.copy_part-copied.ensures.copied c.put_stretch-between.ensures.put c.put.ensures.put
    (held_part a.old.now.rows.now a.old.now.actions.now a.right c.rows_of.ensures.rows c.rows_of.ensures.actions)

pub returns-clause-joined : goal.returns-clause-joined
returns-clause-joined g c =
    let a = c.args in
    let file = a.source.now.file.now in
    let m = stored (g.M.Machine.model a.source.now.machine.now) in
    let old = a.old.now in
    both g c ∙ sym (joined-both file m (ends_of a.left) (ends_of a.right) (held old.rows.now old.actions.now a.left) (held old.rows.now old.actions.now a.right) c.if-left-eq0.false c.if-right-eq0.false)

pub returns-clause-rule : goal.returns-clause-rule
returns-clause-rule g c =
    let a = c.args in
    let file = a.source.now.file.now in
    let m = stored (g.M.Machine.model a.source.now.machine.now) in
    let old = a.old.now in
    let b = c.put_stretch-between in
    let is = c.put.new.lists in
    let n = ap (λ x. x.rows) c.copy_part-copied.ensures.kept in
    let long = ap length c.rows_of.ensures.rows in
    let left = held old.rows.now old.actions.now a.left in
    let tag = one file m (a.left.last, a.right.first) in
    first-kept file is.rows.now is.actions.now c.put.result is.beside (omega (arith, n, long, length-take-le a.right.kept.rows (drop a.right.at old.rows.now), length-drop a.right.at old.rows.now, c.requires.few.0, c.requires.few.1, c.put.ensures.within, c.put.ensures.same.2, b.ensures.within, b.ensures.same.2, c.copy_part-copied.ensures.same.2, c.if-left-eq0.false, c.if-right-eq0.false)) (both g c)
    (ruled-put file m (put file m left tag) (held old.rows.now old.actions.now a.right)
    (ruled-put file m left tag (kept_rule file old.rows.now old.actions.now a.left.at a.left.kept old.beside c.requires.within.0 c.requires.rule.0) (ruled-one file m (a.left.last, a.right.first)))
    (kept_rule file old.rows.now old.actions.now a.right.at a.right.kept old.beside c.requires.within.1 c.requires.rule.1))
