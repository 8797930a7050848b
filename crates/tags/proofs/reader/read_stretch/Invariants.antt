use Rattle.std.proofs.Common.{◌≡◌, ◌-◌, ◌≤◌, [], length, drop}
use Rattle.std.specs.List.{between}
use Rattle.tags.specs.declared.reader.State.TheVariants.{Before}
use Rattle.tags.specs.Reads.{reads}
use Rattle.tags.proofs.Reading.{Span}
use Rattle.tags.proofs.reader.read_stretch.Given as goal

abbrev pub invariant-loop-i : goal.invariant-loop-i
invariant-loop-i l =
    (reads l.reader.state l.i (between l.from l.end l.stretch) (drop l.i l.stretch) ≡ reads Before 0 [] l.stretch)
    × Span l.reader.state l.from l.end l.i
    × (l.i ≤ length l.stretch)

abbrev pub decreases-loop-i : goal.decreases-loop-i
decreases-loop-i l = length l.stretch - l.i
