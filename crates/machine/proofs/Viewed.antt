-- What the code's values stand for.
use Rattle.std.proofs.Common.{◌≡◌, length, take, ◌∙◌, arith}
use lib.ListN.{length-map}
use Rattle.std.proofs.lemmas.List.{length-take-le}
use Rattle.machine.specs.declared.names.Names.{Names}
use Rattle.machine.specs.declared.plan.Plan.{Plan}
use Rattle.machine.specs.Views.{bytes_of, names_of, places_of, lasts_of}

pub length-names : (ns : Names) → length (names_of ns) ≡ ns.count
length-names ns = length-map (take ns.count ns.list) bytes_of ∙ length-take-le ns.count ns.list (omega (arith, ns.size, ns.within))

pub length-places : (p : Plan) → length (places_of p) ≡ p.count
length-places p = length-take-le p.count p.list (omega (arith, p.size, p.within))

pub length-lasts : (p : Plan) → length (lasts_of p) ≡ p.lines
length-lasts p = length-take-le p.lines p.lasts (omega (arith, p.room, p.few))
