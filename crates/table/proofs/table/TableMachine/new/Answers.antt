use Rattle.std.proofs.Common.{◌∙◌, arith}
use Rattle.std.proofs.lemmas.Nat.{div-mul-add}
use Rattle.positions.specs.Tabs.{tab_same}
use Rattle.positions.proofs.Columns.{column-few}
use Rattle.positions.proofs.Telling.{marked-none}
use Rattle.table.specs.Tables.{same-action}
use Rattle.table.proofs.table.TableMachine.new.Goals as goal

pub returns : goal.returns
returns c = record {
  verdict = λ path. marked-none c.none-empty.result _ c.none-empty.ensures.0;
  marks = λ a. marked-none c.none-empty.result _ c.none-empty.ensures.0;
  stays = λ n.
      let few = column-few c.none.result n in
      same-action _ _ (tab_same _ _ 32 0 (λ k h. c.none-2.ensures.next _ (omega arith) ∙ div-mul-add k 16 _ few));
}
