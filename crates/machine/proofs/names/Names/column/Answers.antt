use Rattle.std.proofs.Common.{◌≡◌, true, false, ap, ◌∙◌, rules}
use Rattle.std.specs.Str.{bytes_eq}
use Rattle.std.proofs.lemmas.Iterator.{YieldsList-from_slice, IsFirst-from_position}
use borrow.Author.Tests.{tests}
use Rattle.machine.specs.Queries.{column}
use Rattle.machine.specs.Views.{bytes_of}
use Rattle.machine.proofs.Columns.{column-first}
use Rattle.machine.proofs.names.Names.column.Goals as goal

pub returns : goal.returns
returns c =
    let n = c.args.name.now in
    let xs = c.as_slice.result.now in
    let first = IsFirst-from_position _ _ c.position.result (λ x. bytes_eq (bytes_of x) n ≡ true) (λ x. bytes_eq (bytes_of x) n ≡ false) c.position.ensures.ran (YieldsList-from_slice xs cc) (λ x q k. search (rules, tests)) (λ x q k. search (rules, tests)) in
    column-first bytes_of xs n c.position.result c.map_or.result first (search rules) ∙ ap (λ ns. column ns n) c.as_slice.ensures
