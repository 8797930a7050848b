use Rattle.std.proofs.Common.{◌≡◌, ◌*◌, ◌≤◌, take}
use Rattle.std.specs.List.{sum_by, count_by}
use Rattle.rows.specs.Places.{stored}
use Rattle.finishing.proofs.matching.count_matches.Given as goal

abbrev pub invariant-loop-plain : goal.invariant-loop-plain
invariant-loop-plain g l = (l.n ≡ sum_by (λ p. count_by (λ b. b) ((stored (g.M.Machine.model l.m)).marks p)) (take l.plain-index l.plain-items)) × (l.n ≤ 8 * l.plain-index)
