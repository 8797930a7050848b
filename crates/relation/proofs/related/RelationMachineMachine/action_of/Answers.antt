use Rattle.std.proofs.Common.{◌*◌, ◌%◌, ◌^◌, ◌<◌, ◌∙◌, ap₂, arith, rules}
use Rattle.std.proofs.iter.Serving.{serving}
use Rattle.std.proofs.lemmas.Nat.{one_shl}
use Rattle.positions.specs.Tabs.{from_fn-tab, tab_same}
use Rattle.positions.specs.Sets.{moved_on}
use Rattle.positions.proofs.Columns.{column-few}
use Rattle.relation.specs.Relations.{same-action}
use Rattle.relation.proofs.related.RelationMachineMachine.action_of.Goals as goal

pub from_fn-requires : goal.from_fn-requires
from_fn-requires c = let few : c.column-column.result < 16 = omega (arith, c.column-column.ensures, column-few c.args.self.now.names c.args.name.now) in grind serving

pub returns : goal.returns
returns c =
    let m = c.args.self.now.moves in
    let column = c.column-column.result in
    same-action _ _
    (from_fn-tab _ _ (λ i. moved_on m.fits m.stays ((1 * 2 ^ i) % 2 ^ 32) column) 32 (λ i x q l k. search rules) c.from_fn.result 0 c.from_fn.ensures.items
    ∙ tab_same _ _ 32 0 (λ i l. ap₂ (moved_on m.fits m.stays) (one_shl i 32 l) c.column-column.ensures))
