use Rattle.std.proofs.Common.{◌<◌, [], ◌++◌, sym, ap, ◌∙◌, subst, arith}
use Rattle.positions.specs.Tabs.{is_tab}
use Rattle.positions.proofs.Columns.{column-few}
use Rattle.table.specs.Tables.{same-action, next_state, next_few}
use Rattle.table.proofs.Turned.{leads-by-column, length-column}
use Rattle.table.proofs.tabled.TableMachineMachine.action_of.Goals as goal

pub overflow_mul-from : goal.overflow_mul-from
overflow_mul-from c = omega (arith, c.column-column.ensures, column-few c.args.self.now.names c.args.name.now)

pub overflow_add-from : goal.overflow_add-from
overflow_add-from c = omega (arith, c.column-column.ensures, column-few c.args.self.now.names c.args.name.now)

pub slice_bounds-copy_from_slice-end : goal.slice_bounds-copy_from_slice-end
slice_bounds-copy_from_slice-end c = omega (arith, c.column-column.ensures, column-few c.args.self.now.names c.args.name.now)

pub invariant_of-result : goal.invariant_of-result
invariant_of-result c =
    let m = c.args.self.now in
    let column = c.column-column.result in
    let few : column < 16 = omega (arith, c.column-column.ensures, column-few m.names c.args.name.now) in
    let to = c.copy_from_slice.new.self in
    record {
      size = length-column m.states column few to c.copy_from_slice.ensures.after;
      ok = λ k h. subst (λ x. x < 32) (sym (leads-by-column m.states column few to c.copy_from_slice.ensures.after k h)) (next_few m k column h few);
    }

pub returns : goal.returns
returns c =
    let m = c.args.self.now in
    let column = c.column-column.result in
    let few : column < 16 = omega (arith, c.column-column.ensures, column-few m.names c.args.name.now) in
    let to = c.copy_from_slice.new.self in
    same-action _ _ (is_tab _ (to ++ []) 32 0 (length-column m.states column few to c.copy_from_slice.ensures.after)
    (λ k h. leads-by-column m.states column few to c.copy_from_slice.ensures.after k h ∙ ap (next_state m.states.next k) c.column-column.ensures))
