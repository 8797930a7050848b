use Rattle.std.proofs.Common.{◌≡◌, ◌++◌, take, string_bytes}
use Rattle.std.specs.Iterator.Adapters.{take_source, take_count}
use Rattle.std.specs.Slice.Iter.{iter_rest}
use Rattle.listing.specs.Listing.{match_lines}
use Rattle.listing.proofs.listing.list_matches.Given as goal

abbrev pub invariant-loop-found : goal.invariant-loop-found
invariant-loop-found l =
    (goal.iterator-loop-found).can_next l.found-iterator × (goal.iterator-loop-found).is_finite l.found-iterator
    × (string_bytes l.fn.text ++ match_lines (take l.count l.matches) ≡ string_bytes l.text ++ match_lines (take (take_count l.found-iterator) (iter_rest (take_source l.found-iterator))))
