use Rattle.std.proofs.Common.{◌++◌, ◌∷◌, [], ◌∙◌, ap, append_assoc, string_bytes, take, codes, decimal}
use Rattle.std.specs.Iterator.Adapters.{take_source, take_count}
use Rattle.std.specs.Slice.Iter.{iter_rest}
use Rattle.listing.specs.Listing.{line_1, match_lines}
use Rattle.listing.proofs.Listed.{listed_more, listed_all}
use Rattle.listing.proofs.listing.list_matches.Goals as goal

pub loop-found-preserved : goal.loop-found-preserved
loop-found-preserved c = (
  tt,
  tt,
  listed_more _ (string_bytes c.loop-found.text) (string_bytes c.writeln.new.self) (take_count c.loop-found.found-iterator) (take_count c.next.new.self)
      (iter_rest (take_source c.loop-found.found-iterator)) (iter_rest (take_source c.next.new.self)) c.in-Some.found.now
      c.loop-found.invariant.2 c.in-Some.ensures.steps.0 c.in-Some.ensures.steps.1
      (c.in_ok-writeln.ensures.bytes ∙ ap (λ l. string_bytes c.loop-found.text ++ (codes "match " ++ l)) (append_assoc (decimal c.in-Some.found.now.place) (32 ∷ decimal c.in-Some.found.now.query) (10 ∷ []))),
)

pub returns : goal.returns
returns c = listed_all (string_bytes c.args.text.now) (match_lines (take c.args.count c.args.matches.now)) (string_bytes c.loop-found.text) (take_count c.loop-found.found-iterator) (iter_rest (take_source c.loop-found.found-iterator))
    c.loop-found.invariant.2 (λ h. (c.in-None.ensures.steps h).0) c.writeln-2.result (string_bytes c.writeln-2.new.self) (line_1 (codes "end ") c.args.count) c.writeln-2.ensures.bytes
