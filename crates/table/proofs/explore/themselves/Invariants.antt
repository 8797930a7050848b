use Rattle.std.proofs.Common.{◌≡◌, ℕ, ◌/◌, ◌<◌, length, get_or}
use Rattle.table.proofs.explore.themselves.Given as goal

abbrev pub invariant-loop-k : goal.invariant-loop-k
invariant-loop-k l = (length l.next ≡ 512) × ((j : ℕ) → j < l.k → get_or l.next j 0 ≡ j / 16)
