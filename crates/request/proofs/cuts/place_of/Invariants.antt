use Rattle.std.proofs.Common.{◌≡◌, ◌≤◌, drop}
use Rattle.request.specs.Places.{place_of, limit}
use Rattle.request.proofs.Placing.{read_on}
use Rattle.request.proofs.cuts.place_of.Given as goal

abbrev pub invariant-loop-b : goal.invariant-loop-b
invariant-loop-b l = (place_of l.word ≡ read_on l.place (drop l.b-index l.word)) × (l.place ≤ limit)
