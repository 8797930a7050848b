use Rattle.std.proofs.Common.{◌≡◌, ◌<◌, sym, ◌∙◌, rules, arith}
use Rattle.std.specs.List.{count_by}
use Rattle.std.proofs.lemmas.List.Sums.{count_by-le-length}
use Rattle.finishing.proofs.Matches.{counted}
use Rattle.finishing.proofs.matching.count_set.Goals as goal

pub sum-requires-clause-fits : goal.sum-requires-clause-fits
sum-requires-clause-fits c = let few : count_by (λ b. b) c.args.set.now < 18446744073709551616 = omega (arith, count_by-le-length (λ b. b) c.args.set.now) in search rules

pub returns : goal.returns
returns c =
    let e : c.sum.result ≡ count_by (λ b. b) c.args.set.now = search rules in
    record { number = e ∙ sym (counted 0 0 c.args.set.now); few = omega (arith, e, count_by-le-length (λ b. b) c.args.set.now) }
