use Rattle.std.proofs.Common.{◌≡◌, ◌<◌, length, refl, sym, subst, arith}
use Rattle.std.proofs.lemmas.List.{length-take-le}
use Rattle.table.specs.Closure.{place}
use Rattle.table.specs.Filling.{seen}
use Rattle.table.proofs.Places.{added-write, added-length, added-old}
use Rattle.table.proofs.found.Found.number.Goals as goal

pub returns-in-Some : goal.returns-in-Some
returns-in-Some c =
    let h = subst (λ xs. (c.in-Some.at ≡ place c.args.set xs) × (c.in-Some.at < length xs)) c.seen.ensures c.in-Some.ensures in
    (h.0, sym (added-old (seen c.args.self.now) c.args.set (omega arith)))

pub returns-then-self-eq-MOST_STATES : goal.returns-then-self-eq-MOST_STATES
unfolding seen
returns-then-self-eq-MOST_STATES c =
    let f = c.args.self.now in
    let h = subst (λ xs. place c.args.set xs ≡ length xs) c.seen.ensures c.in_default.ensures in
    let n = length-take-le f.count f.sets (omega arith) in
    (omega (arith, added-length f.sets f.count c.args.set (omega arith) (omega arith)), refl)

pub returns : goal.returns
unfolding seen
returns c =
    let f = c.args.self.now in
    let h = subst (λ xs. place c.args.set xs ≡ length xs) c.seen.ensures c.in_default.ensures in
    let n = length-take-le f.count f.sets (omega arith) in
    (omega arith, added-write f.sets f.count c.args.set (omega arith) (omega arith))
