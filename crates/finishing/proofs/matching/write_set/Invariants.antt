use Rattle.std.proofs.Common.{◌+◌, length, drop}
use Rattle.rows.specs.Lists.{splice}
use Rattle.answers.specs.Own.{matches_at}
use Rattle.finishing.proofs.Matches.{Pending}
use Rattle.finishing.proofs.matching.write_set.Given as goal

abbrev pub invariant-loop-query : goal.invariant-loop-query
invariant-loop-query l =
    let all = matches_at l.place 0 l.set in
    Pending l.n (matches_at l.place l.query (drop l.query l.set)) l.matches (splice l.at all l.initial.matches) (l.at + length all)
