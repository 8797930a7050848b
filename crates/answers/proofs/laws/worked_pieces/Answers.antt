use Rattle.std.proofs.Common.{refl}
use Rattle.answers.proofs.Paths.{every_verdict}
use Rattle.answers.proofs.laws.worked_pieces.Goals as goal

pub returns : goal.returns
returns c = record {
  pieces = λ verdict. (refl, refl, refl, refl);
  machine = every_verdict;
}
