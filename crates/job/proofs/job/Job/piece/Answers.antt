use Rattle.std.proofs.Common.{sym}
use Rattle.std.proofs.lemmas.List.{get_or-take}
use Rattle.job.specs.Pieces.{no_piece}
use Rattle.job.proofs.job.Job.piece.Goals as goal

pub returns : goal.returns
returns c =
    record {
      is = sym (get_or-take c.args.self.now.made c.args.self.now.pieces c.args.k no_piece c.requires);
      placed = c.args.self.now.placed c.args.k c.requires;
    }
