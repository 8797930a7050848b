use Rattle.std.proofs.Common.{rules, [], vec_items, ◌-◌, refl}
use Rattle.solving.proofs.Planning.{planned_more, planned_all}
use Rattle.solving.proofs.plan.plan_calls.Goals as goal

pub loop-cut-init : goal.loop-cut-init
loop-cut-init c = record { looked = []; all = search rules; made = c.new-steps.ensures.items; here = refl }

pub loop-cut-preserved : goal.loop-cut-preserved
loop-cut-preserved c = planned_more c.loop-cut.invariant c.in-Some.cut.now c.next.new.self.iter.rest.now (vec_items c.add_piece.new.steps) c.in-Some.ensures.steps c.in_ok-add_piece.ensures

pub returns : goal.returns
returns c = planned_all c.loop-cut.invariant (vec_items c.add_piece-2.new.steps) (vec_items c.add.new.steps) (c.len-whole.result - 1) c.in-None.ensures.steps.0 c.in_ok-add_piece-2.ensures (search rules) c.in_ok-add.ensures
