use Rattle.std.proofs.Common.{vec_items}
use Rattle.request.proofs.Placing.{WordsLeft}
use Rattle.request.proofs.cuts.cuts_of.Given as goal

abbrev pub invariant-loop-word : goal.invariant-loop-word
invariant-loop-word l =
    (goal.iterator-loop-word).can_next l.word-iterator × (goal.iterator-loop-word).is_finite l.word-iterator
    × WordsLeft (goal.iterator-loop-word).next_gives (λ w. w.now) l.line l.word-iterator (vec_items l.cuts) l.least
