use Rattle.tags.specs.Marks.{part}
use Rattle.tags.specs.Reads.{shown}
use Rattle.grammar.proofs.Exactly.{told}
use Rattle.grammar.proofs.read_tag.Goals as goal

pub returns : goal.returns
returns c = told (part c.args.file.now c.args.mark c.args.to) c.args.mark (shown c.read_tag.result) c.read_tag.ensures
