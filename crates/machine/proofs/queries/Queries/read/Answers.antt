use Rattle.std.proofs.Common.{◌≡◌, ◌≤◌, true, length, sym, ap, ◌∙◌, subst, inl, inr, arith}
use Rattle.std.proofs.lemmas.Result.{err_from_is_err_and}
use Rattle.machine.specs.Asked.{Refused}
use Rattle.machine.specs.Reading.{closes, reads_as}
use Rattle.machine.specs.Sketches.{size_in}
use Rattle.machine.proofs.Answering.{not-whole, once, parsed, size_is, plan-whole, plan-known, plan-ending, accepted, names_over}
use Rattle.machine.proofs.queries.Queries.read.Goals as goal

pub returns-then-text-gt-MOST_BYTES : goal.returns-then-text-gt-MOST_BYTES
returns-then-text-gt-MOST_BYTES c = record { answer = omega arith; once = once c.args.text.now }

pub returns-then-not-is_whole : goal.returns-then-not-is_whole
returns-then-not-is_whole c =
    let text = c.args.text.now in
    record {
      answer = (
        omega arith,
        elim c.then-not-is_whole.either [
          | inl f ↦ not-whole text (inl (ap closes (sym c.of-measure.ensures.state) ∙ sym c.is_whole.ensures ∙ f))
          | inr g ↦ not-whole text (inr (omega (arith, c.of-measure.ensures.lines, g.1)))
        ],
      );
      once = once text;
    }

pub returns-then-measure-gt-MOST_POSITIONS : goal.returns-then-measure-gt-MOST_POSITIONS
returns-then-measure-gt-MOST_POSITIONS c =
    let text = c.args.text.now in
    let w : closes (reads_as text).state ≡ true = ap closes (sym c.of-measure.ensures.state) ∙ sym c.if-not-is_whole.ensures in
    let l : length (reads_as text).lines ≤ 8 = omega (arith, c.of-measure.ensures.lines) in
    record {
      answer = (omega arith, ((reads_as text).lines, parsed text w l, omega (arith, c.of-measure.ensures.positions, size_is text w l)));
      once = once text;
    }

pub returns-in_err-read : goal.returns-in_err-read
returns-in_err-read c =
    let text = c.args.text.now in
    let w : closes (reads_as text).state ≡ true = ap closes (sym c.of-measure.ensures.state) ∙ sym c.if-not-is_whole.ensures in
    let l : length (reads_as text).lines ≤ 8 = omega (arith, c.of-measure.ensures.lines) in
    let few : size_in (reads_as text) ≤ 32 = omega (arith, c.of-measure.ensures.positions) in
    let p = err_from_is_err_and c.from_residual.result c.from_residual.ensures.1 in
    let h = c.in_err-read.ensures in
    record {
      answer = rw (p.1, p.2) (subst (Refused text) (sym h.0) (names_over text (omega arith) w l few h.1));
      once = once text;
    }

pub invariant_of-result : goal.invariant_of-result
invariant_of-result c =
    let text = c.args.text.now in
    let w : closes (reads_as text).state ≡ true = ap closes (sym c.of-measure.ensures.state) ∙ sym c.if-not-is_whole.ensures in
    let l : length (reads_as text).lines ≤ 8 = omega (arith, c.of-measure.ensures.lines) in
    let p = c.read.new.self in
    let e = c.in_ok-read.ensures in
    record { whole = plan-whole text w l p e; known = plan-known text w l p e; ending = plan-ending text w l p e }

pub returns : goal.returns
returns c =
    let text = c.args.text.now in
    let w : closes (reads_as text).state ≡ true = ap closes (sym c.of-measure.ensures.state) ∙ sym c.if-not-is_whole.ensures in
    let l : length (reads_as text).lines ≤ 8 = omega (arith, c.of-measure.ensures.lines) in
    let few : size_in (reads_as text) ≤ 32 = omega (arith, c.of-measure.ensures.positions) in
    record { answer = accepted text (omega arith) w l few _ c.in_ok-read.ensures; once = once text }
