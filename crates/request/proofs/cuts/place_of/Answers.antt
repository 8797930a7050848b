use Rattle.std.proofs.Common.{◌+◌, ◌-◌, ◌*◌, get_or, drop, sym, ◌∙◌}
use Rattle.request.proofs.Placing.{read_above, read-digit, read-other, read_end}
use Rattle.request.proofs.cuts.place_of.Goals as goal

pub returns-then-not-is_ascii_digit : goal.returns-then-not-is_ascii_digit
returns-then-not-is_ascii_digit c = sym (c.loop-b.invariant.0 ∙ read-other c.loop-b.place c.args.word.now c.loop-b.b-index c.loop-b-test.true (sym c.is_ascii_digit.ensures.value ∙ c.if-not-is_ascii_digit.true))

pub returns-then-place-gt-LIMIT : goal.returns-then-place-gt-LIMIT
returns-then-place-gt-LIMIT c =
    let word = c.args.word.now in
    let step = read-digit c.loop-b.place word c.loop-b.b-index c.loop-b-test.true (sym c.is_ascii_digit.ensures.value ∙ c.if-not-is_ascii_digit.false) in
    sym (c.loop-b.invariant.0 ∙ step ∙ read_above (c.loop-b.place * 10 + (get_or word c.loop-b.b-index 0 - 48)) (drop (c.loop-b.b-index + 1) word) c.if-place-gt-LIMIT.true)

pub loop-b-preserved : goal.loop-b-preserved
loop-b-preserved c = (
  c.loop-b.invariant.0 ∙ read-digit c.loop-b.place c.args.word.now c.loop-b.b-index c.loop-b-test.true (sym c.is_ascii_digit.ensures.value ∙ c.if-not-is_ascii_digit.false),
  c.if-place-gt-LIMIT.false,
)

pub returns : goal.returns
returns c = sym (c.loop-b.invariant.0 ∙ read_end c.loop-b.place c.args.word.now c.loop-b.b-index c.loop-b-test.false c.loop-b.invariant.1)
