use Rattle.std.proofs.Common.{◌≡◌, ◌-◌, ◌≤◌, true}
use Rattle.reading.specs.Opens.{items}
use Rattle.reading.proofs.Rings.{Links}
use Rattle.reading.proofs.opens.Opens.refill.Given as goal

abbrev pub invariant-loop-self : goal.invariant-loop-self
invariant-loop-self l = record {
  start : l.self.top ≡ 0;
  complete : l.self.complete ≡ true;
  within : l.low ≤ l.end;
  links : Links l.rows l.end (items l.self) l.low;
}

abbrev pub decreases-loop-self : goal.decreases-loop-self
decreases-loop-self l = 4096 - l.self.count
