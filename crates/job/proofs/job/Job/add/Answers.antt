use Rattle.std.proofs.Common.{◌+◌, ◌<◌, length, sym, ap, ◌∙◌, arith}
use Rattle.std.proofs.lemmas.List.{length-set, length-take-le, take_more_set}
use Rattle.job.specs.State.{State}
use Rattle.job.proofs.Asked.{placed-more}
use Rattle.job.proofs.job.Job.add.Goals as goal

pub invariant_of-self : goal.invariant_of-self
invariant_of-self c =
    let j = c.args.self.now in
    let b = c.requires.bytes in
    let r = c.requires.rows in
    record {
      short = j.short;
      room = length-set j.pieces j.made _ ∙ j.room;
      few = omega arith;
      placed = placed-more j.size j.used _ j.made j.pieces _ (omega arith) (omega arith) j.placed (b.0, b.1, omega arith, r.0, r.1);
    }

pub returns : goal.returns
returns c =
    let j = c.args.self.now in
    let h : j.made < length j.pieces = omega arith in
    record {
      number = sym (length-take-le j.made j.pieces (omega arith));
      job = ap (λ ps. let s : State = record { size = j.size; pieces = ps; used = j.used + c.args.kept.rows } in s) (take_more_set j.pieces j.made _ h);
    }
