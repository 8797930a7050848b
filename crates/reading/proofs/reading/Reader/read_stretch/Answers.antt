use Rattle.std.proofs.Common.{refl, ap, ◌∙◌}
use Rattle.tags.specs.Reads.{kind_of, name_of}
use Rattle.rows.specs.Pieces.{put}
use Rattle.rows.specs.Stretches.{row_of, action_of}
use Rattle.rows.specs.Places.{stored}
use Rattle.reading.specs.Reading.{so_far}
use Rattle.rows.proofs.Tags.{tag-inside, tag-made}
use Rattle.reading.proofs.reading.Reader.read_stretch.Goals as goal

pub put_tag-requires-clause-own : goal.put_tag-requires-clause-own
put_tag-requires-clause-own g c = let t = c.in_ok-tag.tag in tag-inside c.args.source.now.file.now c.args.mark c.args.to (kind_of t) (name_of t) c.in_ok-tag.ensures

pub returns-clause-put : goal.returns-clause-put
returns-clause-put g c =
    let a = c.args in
    let s = a.source.now in
    let model = g.M.Machine.model s.machine.now in
    let t = c.in_ok-tag.tag in
    c.put_tag.ensures.put
    ∙ ap (put s.file.now (stored model) (so_far a.lists.now a.self.now))
    (tag-made model s.file.now a.mark a.to (kind_of t) (name_of t) (row_of a.mark (kind_of t) (name_of t)) (model.plain (action_of model (kind_of t) (name_of t))) c.in_ok-tag.ensures refl refl)
