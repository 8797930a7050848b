-- The table machine tells by the path rule.
use Rattle.std.proofs.Common.{◌≡◌, ◌+◌, ◌<◌, List, [], ◌∷◌, map, length, get_or, ap, ◌∙◌, arith}
use Rattle.std.specs.List.{AllByRecursion}
use Rattle.machine.specs.Queries.{Query, positions, begins, ends, Listed}
use Rattle.machine.specs.Masks.{mask, has, fit_mask}
use Rattle.machine.specs.Views.{names_of}
use Rattle.positions.specs.Tabs.{get_or-tab}
use Rattle.positions.specs.Sets.{run_by, fit_masks}
use Rattle.positions.specs.Verdicts.{ByRule, LinesOf}
use Rattle.positions.proofs.Columns.{columns_lt, names_few}
use Rattle.positions.proofs.Rule.{all-meets}
use Rattle.positions.proofs.Telling.{by-rule}
use Rattle.table.specs.declared.table.TableMachine.{TableMachine}
use Rattle.table.specs.Filling.{seen, leads, Made}
use Rattle.table.specs.Tables.{column_of, set_at, walk, verdict_of}
use Rattle.table.proofs.Arise.{closure-keeps}
use Rattle.table.proofs.Closing.{closure-grows}
use Rattle.table.proofs.Walks.{walks}

pub table_rule : (m : TableMachine) (qs : List Query) → AllByRecursion (Listed (names_of m.names)) qs → LinesOf qs m.lines
    → Made (leads (positions (names_of m.names) qs)) (length (names_of m.names) + 1) (mask (begins qs)) m.states → ByRule qs (verdict_of m)
table_rule m qs listed lines made =
    let names = names_of m.names in
    let ps = positions names qs in
    let cols = length names + 1 in
    let start = mask (begins qs) in
    let sets = seen m.states.found in
    let few = names_few m.names in
    let long : 0 < length sets = omega (arith, ap length made.all, closure-grows (leads ps) cols 32 0 (start ∷ [])) in
    let first : get_or sets 0 0 ≡ start = ap (λ zs. get_or zs 0 0) made.all ∙ closure-keeps (leads ps) cols 32 0 (start ∷ []) (omega arith) in
    by-rule qs m.lines lines (λ path q. set_at m.states.found (walk m.states.next 0 (map (column_of m) path)))
    (λ path k l.
    ap (λ x. has x (get_or (ends 0 qs) k 0))
    (walks (leads ps) cols sets m.states.next made.filled (omega arith) 0 (map (column_of m) path) long (columns_lt names path)
    ∙ ap (λ x. run_by (leads ps) x (map (column_of m) path)) first)
    ∙ all-meets names qs (fit_masks ps) 16 few (λ c h. get_or-tab (fit_mask ps) 16 c 0 h) listed path k l)
