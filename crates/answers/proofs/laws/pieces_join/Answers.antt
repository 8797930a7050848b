use Rattle.answers.proofs.Cuts.{stretched, join, any-cut}
use Rattle.answers.proofs.Wholes.{whole, any-cut_whole}
use Rattle.answers.proofs.Stored.{stored-laws}
use Rattle.answers.proofs.laws.pieces_join.Goals as goal

pub returns : goal.returns
returns g c = record {
  stretches = stretched;
  join = λ m laws. join m laws.assoc;
  cuts = λ m laws. any-cut m laws.assoc;
  whole = λ m laws. whole m laws.marks_path;
  cuts_whole = λ m laws. any-cut_whole m laws.assoc laws.marks_path;
  stored = stored-laws;
}
