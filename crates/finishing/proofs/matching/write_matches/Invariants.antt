use Rattle.std.proofs.Common.{◌+◌, length}
use Rattle.rows.specs.Places.{stored, paired}
use Rattle.rows.specs.Lists.{splice}
use Rattle.answers.specs.Finish.{row_matches}
use Rattle.finishing.proofs.Matches.{Pending}
use Rattle.finishing.proofs.matching.write_matches.Given as goal

abbrev pub invariant-loop-row : goal.invariant-loop-row
invariant-loop-row g l =
    let m = stored (g.M.Machine.model l.m) in
    let entries = l.entries in
    let all = row_matches m (paired entries.rows.now entries.actions.now) in
    Pending l.n (row_matches m (paired l.row-iterator.a.rest.now l.row-iterator.b.rest.now)) l.matches (splice l.at all l.initial.matches) (l.at + length all)
