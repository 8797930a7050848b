use Rattle.std.proofs.Common.{◌≡◌, ℕ, ◌<◌, ◌≤◌, true, get_or}
use Rattle.tags.specs.Bytes.{name_byte}
use Rattle.tags.proofs.reader.name_end.Given as goal

abbrev pub invariant-loop-i : goal.invariant-loop-i
invariant-loop-i l = (k : ℕ) → l.from ≤ k → k < l.i → name_byte (get_or l.stretch k 0) ≡ true
