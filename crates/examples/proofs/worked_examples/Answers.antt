use Rattle.std.proofs.Common.{refl}
use Rattle.examples.proofs.States.{examples}
use Rattle.examples.proofs.worked_examples.Goals as goal

pub returns : goal.returns
returns c = record {
  queries = examples;
  tags = (refl, refl, refl, refl, refl, refl, refl, refl, refl, refl, refl);
  files = λ verdict. (refl, refl, refl, refl, refl, refl, refl, refl, refl, refl);
}
