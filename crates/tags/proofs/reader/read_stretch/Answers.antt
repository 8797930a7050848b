use Rattle.std.proofs.Common.{◌≡◌, ◌+◌, [], length, sym, refl, ◌∙◌, arith}
use Rattle.std.specs.List.{between}
use Rattle.std.proofs.lemmas.List.{at_drop_all}
use Rattle.tags.specs.declared.reader.State.TheVariants.{Before}
use Rattle.tags.specs.Reads.{reads, tag, fault}
use Rattle.tags.proofs.Reading.{at_done, at-bad, on-past, on-first, on-next, stayed-in, stayed-out}
use Rattle.tags.proofs.reader.read_stretch.Goals as goal

pub returns-in-Done : goal.returns-in-Done
returns-in-Done c = record {
  read =
      (λ i. tag (c.new.ensures.kind i) (c.new.ensures.name i))
      ∙ sym (at_done c.args.stretch.now c.loop-i.reader.state c.step.new.self.state c.loop-i.i (between c.loop-i.from c.loop-i.end c.args.stretch.now) (omega arith) c.in-Done.kind c.in-Done.ensures)
      ∙ c.loop-i.invariant.0;
  within = tt;
}

pub returns-in-Bad : goal.returns-in-Bad
returns-in-Bad c = record {
  read =
      sym (at-bad c.args.stretch.now c.loop-i.reader.state c.step.new.self.state c.loop-i.i (between c.loop-i.from c.loop-i.end c.args.stretch.now) (omega arith) c.in-Bad.cause c.in-Bad.ensures)
      ∙ c.loop-i.invariant.0;
  within = omega arith;
}

pub loop-i-preserved-then-end-eq0 : goal.loop-i-preserved-then-end-eq0
loop-i-preserved-then-end-eq0 c =
    let xs = c.args.stretch.now in
    let s = c.loop-i.reader.state in
    let s' = c.step.new.self.state in
    let i = c.loop-i.i in
    let o = reads Before 0 [] xs in
    let named = sym c.in_name.ensures ∙ c.if-in_name.true in
    let first = on-first xs s s' c.loop-i.from c.loop-i.end i i (i + 1) o (omega arith) c.in-On.ensures c.loop-i.invariant.0 c.loop-i.invariant.1 named c.if-end-eq0.true refl refl in
    stayed-in xs s' i (i + 1) (i + 1) o (omega arith) first.0 first.1 c.stays_to-next.result c.stays_to-next.ensures.within.0 c.stays_to-next.ensures.within.1 c.stays_to-next.ensures.all named

pub loop-i-preserved-else-end-eq0 : goal.loop-i-preserved-else-end-eq0
loop-i-preserved-else-end-eq0 c =
    let xs = c.args.stretch.now in
    let s = c.loop-i.reader.state in
    let s' = c.step.new.self.state in
    let i = c.loop-i.i in
    let from = c.loop-i.from in
    let o = reads Before 0 [] xs in
    let named = sym c.in_name.ensures ∙ c.if-in_name.true in
    let more = on-next xs s s' from c.loop-i.end i from (i + 1) o (omega arith) c.in-On.ensures c.loop-i.invariant.0 c.loop-i.invariant.1 named c.if-end-eq0.false refl refl in
    stayed-in xs s' from (i + 1) (i + 1) o (omega arith) more.0 more.1 c.stays_to-next.result c.stays_to-next.ensures.within.0 c.stays_to-next.ensures.within.1 c.stays_to-next.ensures.all named

pub loop-i-preserved : goal.loop-i-preserved
loop-i-preserved c =
    let xs = c.args.stretch.now in
    let s = c.loop-i.reader.state in
    let s' = c.step.new.self.state in
    let i = c.loop-i.i in
    let from = c.loop-i.from in
    let end = c.loop-i.end in
    let o = reads Before 0 [] xs in
    let other = sym c.in_name.ensures ∙ c.if-in_name.false in
    let past = on-past xs s s' from end i from end o (omega arith) c.in-On.ensures c.loop-i.invariant.0 c.loop-i.invariant.1 other refl refl in
    stayed-out xs s' from end (i + 1) o (omega arith) past.0 past.1 c.stays_to-next.result c.stays_to-next.ensures.within.0 c.stays_to-next.ensures.within.1 c.stays_to-next.ensures.all other

pub returns : goal.returns
returns c =
    let xs = c.args.stretch.now in
    let s = c.loop-i.reader.state in
    let end : length xs ≡ c.loop-i.i = omega arith in
    record {
      read =
          (λ k. fault (c.at_end.ensures k) (end k))
          ∙ sym (at_drop_all (reads s c.loop-i.i (between c.loop-i.from c.loop-i.end xs)) xs c.loop-i.i c.loop-i-test.false)
          ∙ c.loop-i.invariant.0;
      within = omega arith;
    }
