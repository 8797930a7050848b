use Rattle.std.proofs.Common.{ap, ◌∙◌, rules}
use Rattle.tags.specs.Marks.{first_or, marks}
use Rattle.tags.proofs.Blocks.{first-marked-or}
use Rattle.tags.proofs.marks.next_mark.Goals as goal

pub returns : goal.returns
returns c =
    let from = c.args.from in
    let to = c.args.to in
    first-marked-or c.part.result.now from to c.first_mark.result c.map_or.result c.first_mark.ensures (search rules)
    ∙ ap (λ bs. first_or to (marks bs from)) c.part.ensures.bytes
