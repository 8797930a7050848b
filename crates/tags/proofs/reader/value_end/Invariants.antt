use Rattle.std.proofs.Common.{◌≡◌, ℕ, ◌<◌, ◌≤◌, true, get_or}
use Rattle.tags.specs.Bytes.{in_value}
use Rattle.tags.proofs.reader.value_end.Given as goal

abbrev pub invariant-loop-i : goal.invariant-loop-i
invariant-loop-i l = (k : ℕ) → l.from ≤ k → k < l.i → in_value l.quote (get_or l.stretch k 0) ≡ true
