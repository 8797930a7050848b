-- The worked examples, in one table.
use Rattle.examples.specs.Queries.{QueryExamples}
use Rattle.examples.specs.Tags.{TagExamples}
use Rattle.examples.specs.Files.{FileExamples}

pub record Worked : Type 0 where
  pub queries : QueryExamples
  pub tags : TagExamples
  pub files : FileExamples
