use Rattle.std.proofs.Common.{sym, subst, arith}
use Rattle.tags.specs.Reads.{kind_of, name_of}
use Rattle.rows.specs.Pieces.{Inside}
use Rattle.rows.proofs.Tags.{tag-inside, tag-made}
use Rattle.rows.proofs.tagging.Source.tag_row.Goals as goal

pub row_of-requires : goal.row_of-requires
row_of-requires g c =
    let s = c.args.self.now in
    let t = c.in_ok-tag.tag in
    let h = tag-inside s.file.now c.args.mark c.args.to (kind_of t) (name_of t) c.in_ok-tag.ensures in
    omega (arith, h, s.short)

pub returns : goal.returns
returns g c =
    let s = c.args.self.now in
    let t = c.in_ok-tag.tag in
    let read = c.in_ok-tag.ensures in
    record {
      made = tag-made (g.M.Machine.model s.machine.now) s.file.now c.args.mark c.args.to (kind_of t) (name_of t) c.row_of.result c.own_plain.result read c.row_of.ensures c.own_plain.ensures;
      inside = subst (Inside s.file.now) (sym c.row_of.ensures) (tag-inside s.file.now c.args.mark c.args.to (kind_of t) (name_of t) read);
    }
