use Rattle.std.proofs.Common.{arith}
use Rattle.table.specs.Filling.{seen}
use Rattle.table.proofs.Closing.{filled_ok}
use Rattle.table.proofs.Trying.{length_seen}
use Rattle.table.proofs.explore.explore.Goals as goal

pub invariant_of-result : goal.invariant_of-result
invariant_of-result c =
    let f = c.try_states.new.self.found in
    let h = c.in_ok-try_states.ensures.1 in
    record {
      size = h.size;
      ok = filled_ok _ _ _ (seen f) c.try_states.new.self.next (omega (arith, length_seen f, f.within)) h;
      whole = c.columns_of-columns.ensures.0;
      turned = c.columns_of-columns.ensures.1;
    }

pub returns-in_err-try_states : goal.returns-in_err-try_states
unfolding seen
returns-in_err-try_states c = rw c.from_residual.ensures c.in_err-try_states.ensures

pub returns : goal.returns
unfolding seen
returns c = record { all = c.in_ok-try_states.ensures.0; filled = c.in_ok-try_states.ensures.1 }
