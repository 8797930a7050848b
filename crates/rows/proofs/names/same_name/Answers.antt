use Rattle.std.proofs.lemmas.Slice.Eq.{slice_eq-Decides}
use Rattle.rows.proofs.Bytes.{same_test}
use Rattle.rows.proofs.names.same_name.Goals as goal
use Rattle.std.proofs.lemmas.Bool.Decides.{Decides-eqb}

pub returns : goal.returns
returns c = same_test _ _ _ _ _ (slice_eq-Decides Decides-eqb _ _ _ c.eq.ensures) c.name_of.ensures c.name_of-2.ensures
