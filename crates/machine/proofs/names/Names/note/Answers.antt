use Rattle.std.proofs.Common.{◌≡◌, ◌<◌, sym, refl, ap, ◌∙◌, arith}
use Rattle.machine.specs.Queries.{column}
use Rattle.machine.specs.Views.{names_of}
use Rattle.machine.proofs.Columns.{noted-new, noted-old, column-last, column-le, long_name}
use Rattle.machine.proofs.Viewed.{length-names}
use Rattle.machine.proofs.names.Names.note.Goals as goal

pub returns-then-name-gt-LONGEST_NAME : goal.returns-then-name-gt-LONGEST_NAME
returns-then-name-gt-LONGEST_NAME c = (refl, long_name (names_of c.args.self.now) c.args.name.now (omega arith))

pub returns-then-column-gt0 : goal.returns-then-column-gt0
returns-then-column-gt0 c =
    let ns = c.args.self.now in
    let n = c.args.name.now in
    let old : 0 < column (names_of ns) n = omega arith in
    (sym (noted-old (names_of ns) n old), c.column-column.ensures, omega (arith, column-le (names_of ns) n, length-names ns, ns.within))

pub returns : goal.returns
returns c =
    let ns = c.args.self.now in
    let n = c.args.name.now in
    let none : column (names_of ns) n ≡ 0 = omega arith in (
      c.add.ensures.names ∙ sym (noted-new (names_of ns) n none),
      omega (arith, column-last (names_of ns) n none, length-names ns, ap (λ x. column x n) c.add.ensures.names),
      omega (arith, length-names ns),
    )
