-- Queries that were read have at most 32 positions.
use Rattle.std.proofs.Common.{◌≤◌, length, ap, arith}
use Rattle.std.proofs.lemmas.List.{length-take-le}
use Rattle.machine.specs.declared.queries.Queries.{Queries}
use Rattle.machine.specs.Asked.{queries_of, listed_names}
use Rattle.machine.specs.Queries.{size}
use Rattle.machine.specs.Views.{places_of}
use Rattle.machine.proofs.Decoding.{encoded}
use Rattle.machine.proofs.Drawing.{length-positions}

pub queries_few : (q : Queries) → size (queries_of q) ≤ 32
unfolding queries_of
queries_few q =
    let p = q.plan in
    let names = listed_names q in
    let e = encoded names (places_of p) q.whole q.known in
    omega (arith, ap length e, length-positions names (queries_of q), length-take-le p.count p.list (omega (arith, p.size, p.within)), p.within)
