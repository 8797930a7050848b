use Rattle.std.proofs.Common.{◌≡◌}
use Rattle.std.specs.Slice.Iter.{chunks_rest, chunks_size}
use Rattle.tags.specs.Marks.{part}
use Rattle.tags.proofs.Blocks.{Counted}
use Rattle.tags.proofs.marks.scan.Given as goal

abbrev pub invariant-loop-block : goal.invariant-loop-block
invariant-loop-block l =
    (goal.iterator-loop-block).can_next l.block-iterator
    × (goal.iterator-loop-block).is_finite l.block-iterator
    × (chunks_size l.block-iterator ≡ 240)
    × Counted (part l.file l.first l.to) (chunks_rest l.block-iterator) l.first l.next l.count l.low l.last
