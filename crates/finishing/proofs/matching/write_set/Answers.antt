use Rattle.std.proofs.Common.{◌<◌, length, refl, arith}
use Rattle.std.proofs.lemmas.List.{at_drop_all}
use Rattle.answers.specs.Own.{matches_at}
use Rattle.finishing.proofs.Matches.{all-pending, pending-as, pending-moved, one_written, written-all, next-marked, next-unmarked}
use Rattle.finishing.proofs.matching.write_set.Goals.{then-marked, else-marked}
use Rattle.finishing.proofs.matching.write_set.Goals as goal

pub loop-query-init : goal.loop-query-init
loop-query-init c = all-pending _ _ _ _ refl c.requires

fits : (c : goal.Then-marked) → c.loop-query.n < length c.loop-query.matches
fits c =
    let p = pending-as (next-marked c.args.place c.loop-query.query c.args.set.now (omega arith) c.if-marked.true) c.loop-query.invariant in
    omega (arith, p.ends, p.room)

pub offset_bounds-matches-n : goal.offset_bounds-matches-n
offset_bounds-matches-n c = omega (arith, fits c)

pub bounds-matches-n : goal.bounds-matches-n
bounds-matches-n c = omega (arith, fits c)

pub overflow_add-n : goal.overflow_add-n
overflow_add-n c = omega (arith, fits c)

pub loop-query-preserved : goal.loop-query-preserved
loop-query-preserved c =
    let l = c.loop-query in
    elim c.if-marked.branch [
      | then-marked w ↦
          pending-moved w.n-is w.matches-is (one_written (pending-as (next-marked c.args.place l.query c.args.set.now (omega arith) w.if-marked.true) l.invariant))
      | else-marked w ↦
          pending-moved w.n-is w.matches-is (pending-as (next-unmarked c.args.place l.query c.args.set.now (omega arith) w.if-marked.false) l.invariant)
    ]

pub returns : goal.returns
returns c =
    let l = c.loop-query in
    let all = written-all (pending-as (at_drop_all (matches_at c.args.place l.query) c.args.set.now l.query (omega arith)) l.invariant) in
    record { written = all.0; end = all.1 }
