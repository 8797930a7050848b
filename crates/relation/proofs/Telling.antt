-- The machine of relations tells by the path rule.
use Rattle.std.proofs.Common.{◌≡◌, ◌^◌, List, map, get_or, ap, ◌∙◌, ap₂}
use Rattle.std.specs.List.{AllByRecursion}
use Rattle.machine.specs.Queries.{Query, positions, ends, Listed}
use Rattle.machine.specs.Masks.{has, fit_mask}
use Rattle.machine.specs.Views.{names_of}
use Rattle.positions.specs.Tabs.{get_or-tab}
use Rattle.positions.specs.Sets.{moved_on, run_by, rest_mask, fit_masks}
use Rattle.positions.specs.Verdicts.{ByRule, LinesOf}
use Rattle.positions.proofs.Columns.{names_few}
use Rattle.positions.proofs.Rule.{one-meets}
use Rattle.positions.proofs.Telling.{by-rule}
use Rattle.relation.specs.declared.relation.RelationMachine.{RelationMachine}
use Rattle.relation.specs.Relations.{column_of, moves_of, verdict_of}

pub related-rule : (m : RelationMachine) (qs : List Query) → AllByRecursion (Listed (names_of m.names)) qs → LinesOf qs m.lines
    → m.moves.fits ≡ fit_masks (positions (names_of m.names) qs) → m.moves.stays ≡ rest_mask 32 (positions (names_of m.names) qs) → ByRule qs (verdict_of m)
related-rule m qs listed lines f s =
    let names = names_of m.names in
    let ps = positions names qs in
    by-rule qs m.lines lines (λ path q. run_by (moves_of m) (2 ^ get_or m.lines.first q 0) (map (column_of m) path))
    (λ path k l.
    ap₂ (λ next start. has (run_by next start (map (column_of m) path)) (get_or (ends 0 qs) k 0)) (ap₂ moved_on f s) (ap (λ j. 2 ^ j) (lines.first k l))
    ∙ one-meets names qs (fit_masks ps) 16 (names_few m.names) (λ c h. get_or-tab (fit_mask ps) 16 c 0 h) listed 32 path k l)
